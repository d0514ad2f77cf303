-- A kind and a step in words.
use Rattle.std.specs.Prelude.{ℕ, List, ◌++◌, codes}
use Rattle.activity.specs.Activity.{activity_shown}
use Rattle.program.specs.declared.command.Kind.{Kind}
use Rattle.program.specs.declared.command.Kind.TheVariants.{Compensatable, Pivot, Retriable}
use Rattle.program.specs.declared.command.Step.{Step}

abbrev pub kind_shown : Kind → List ℕ
kind_shown Compensatable = codes "compensatable"
kind_shown Pivot = codes "pivot"
kind_shown Retriable = codes "retriable"

-- as in `pivot, activity 3, parameter 256`
abbrev pub step_shown : Step → List ℕ
step_shown s = kind_shown s.kind ++ (codes ", " ++ activity_shown s.activity)
