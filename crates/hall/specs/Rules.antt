-- Parts of the rules of a step, as the code takes them apart.
use Rattle.std.specs.Prelude.{Bool, true, false}
use Rattle.program.specs.declared.command.Kind.{Kind}
use Rattle.program.specs.declared.command.Kind.TheVariants.{Compensatable, Pivot, Retriable}
use Rattle.protocol.specs.declared.standing.Aim.TheVariants.{Restart, End}
use Rattle.protocol.specs.declared.standing.Standing.{Standing}
use Rattle.protocol.specs.declared.standing.Standing.TheVariants.{Running, Withdrawing, PastPivot}
use Rattle.activity.specs.declared.Activity.{Activity}
use Rattle.station.specs.Meaning.{Meaning}
use Rattle.program.specs.Positions.{Position}
use Rattle.protocol.specs.Hall.{Process, Hall, Outcome}
use Rattle.protocol.specs.StepFunction.{restarted, gone, next_alternative, unless_blocked, blocks_pivot, pivot_marks, performed}
use Rattle.hall.specs.declared.claim.Claim.{Claim}
use Rattle.hall.specs.Claims.{blocker, marks_it}

-- whether a step of the kind is a pivot
abbrev pub is_pivot : Kind → Bool
is_pivot Compensatable = false
is_pivot Pivot = true
is_pivot Retriable = false

-- what a process with nothing to take back comes to
abbrev pub with_nothing_left : {S : Type 0} → Hall S → Process → Standing → Outcome S
with_nothing_left h p Running = next_alternative h p
with_nothing_left h p (Withdrawing Restart) = restarted h p
with_nothing_left h p (Withdrawing End) = gone h p
with_nothing_left h p (PastPivot way) = next_alternative h p

-- a pivot, once no other process is past its pivot
abbrev pub pivot_unless_met : {S : Type 0} → Meaning S → Hall S → Process → Activity → Position → Outcome S
pivot_unless_met M h p s to = unless_blocked h (blocks_pivot M.conflict h.log p s) (pivot_marks p) (performed h p true s to (M.performed h.station s))

-- what a claim comes to, where the step would go on to an outcome if nobody blocks it
abbrev pub claimed : {S : Type 0} → Meaning S → Hall S → Claim → Outcome S → Outcome S
claimed M h c on = unless_blocked h (blocker M.conflict h.log c) (marks_it c) on
