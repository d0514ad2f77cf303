use Rattle.program.proofs.Cursors.{spells}
use Rattle.program.proofs.positions.programs_spell_their_trees.Goals as goal

pub returns : goal.returns
returns c = spells
