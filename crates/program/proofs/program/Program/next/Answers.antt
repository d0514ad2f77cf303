use Rattle.std.proofs.Common.{◌∙◌}
use Rattle.program.specs.Places.{program_commands, begun, taken}
use Rattle.program.proofs.Cursors.{at_end, none_first, some_first, comes_here}
use Rattle.program.proofs.program.Program.next.Goals as goal

pub returns-in_err-command : goal.returns-in_err-command
returns-in_err-command c = c.from_residual.ensures ∙ at_end (program_commands c.args.self.now) c.args.cursor.at (begun c.args.cursor.choices) (taken c.args.cursor.choices) (none_first _ c.in_err-command.ensures.first)

pub returns : goal.returns
returns c =
    c.step_for.ensures ∙ comes_here c.in_ok-command.command _ (begun c.args.cursor.choices) (program_commands c.args.self.now) c.args.cursor.at (taken c.args.cursor.choices) (some_first _ c.in_ok-command.command c.in_ok-command.ensures.first)
