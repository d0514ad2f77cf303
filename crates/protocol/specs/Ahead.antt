-- What a process has next in its program, as the rules of a step tell it apart: nothing, a step that is no pivot, or a pivot.
use Rattle.activity.specs.declared.Activity.{Activity}
use Rattle.program.specs.declared.command.Kind.{Kind}
use Rattle.program.specs.declared.command.Kind.TheVariants.{Compensatable, Pivot, Retriable}
use Rattle.program.specs.Positions.{Position}
use Rattle.program.specs.Positions as positions

-- nothing is next, or a step that leads to a position
pub data Next : Type 0 where
  nothing : Next
  plain : Activity → Position → Next
  crossing : Activity → Position → Next

abbrev pub by_kind : Kind → Activity → Position → Next
by_kind Compensatable a to = plain a to
by_kind Pivot a to = crossing a to
by_kind Retriable a to = plain a to

abbrev pub ahead : positions.Next → Next
ahead positions.nothing = nothing
ahead (positions.comes s to) = by_kind s.kind s.activity to

abbrev pub next : Position → Next
next x = ahead (positions.next x)
