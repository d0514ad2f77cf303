use Rattle.std.proofs.Common.{◌≡◌, take}
use Rattle.program.specs.Refusals.{step_count}
use Rattle.program.proofs.program.Program.ordinal.Given as goal

abbrev pub invariant-loop-command : goal.invariant-loop-command
invariant-loop-command l = l.steps ≡ step_count (take l.command-index l.before)
