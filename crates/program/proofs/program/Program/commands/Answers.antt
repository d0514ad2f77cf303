use Rattle.program.proofs.Cursors.{spells}
use Rattle.program.proofs.program.Program.commands.Goals as goal

pub returns-clause-text : goal.returns-clause-text
returns-clause-text c = spells c.args.self.now
