-- Where a process is in its program's tree, and what stands next there.
use Rattle.std.specs.Prelude.{ℕ, zero, suc, List, [], ◌∷◌, Some, None, Option}
use Rattle.activity.specs.declared.Activity.{Activity}
use Rattle.program.specs.declared.command.Kind.TheVariants.{Compensatable, Pivot, Retriable}
use Rattle.program.specs.declared.command.Step.{Step}
use Rattle.program.specs.Grammar.{Body, finish, compensatable, pivot, Choices, row, or_else, step}

-- what is left of an alternative
pub data Rest : Type 0 where
  in_body : Body → Rest
  in_row : List Activity → Rest

-- Before any pivot, with what is left of the program; or in alternative k, from 0, of the last pivot's choices, with what is left of that alternative.
pub data Position : Type 0 where
  outer : Body → Position
  inner : Choices → ℕ → Rest → Position

-- alternative k of some choices; past the last one the last
abbrev pub alternative : Choices → ℕ → Rest
alternative (row acts) k = in_row acts
alternative (or_else b c) zero = in_body b
alternative (or_else b c) (suc k) = alternative c k

-- its ordinal; past the last one that of the last
abbrev pub reached : Choices → ℕ → ℕ
reached (row acts) k = 0
reached (or_else b c) zero = 0
reached (or_else b c) (suc k) = suc (reached c k)

-- into alternative k of the last pivot
abbrev pub into : ℕ → Position → Position
into k (outer b) = outer b
into k (inner c j r) = inner c (reached c k) (alternative c k)

-- just past a pivot: into the first alternative
abbrev pub entered : Choices → Position
entered c = inner c 0 (alternative c 0)

-- the ordinal of the alternative taken, 0 before any pivot
abbrev pub alternative_of : Position → ℕ
alternative_of (outer b) = 0
alternative_of (inner c k r) = k

-- what comes next: nothing, or a step and the position that it leads to
pub data Next : Type 0 where
  nothing : Next
  comes : Step → Position → Next

abbrev pub next_in : (Body → Position) → Body → Next
next_in at finish = nothing
next_in at (compensatable a b) = comes (step Compensatable a) (at b)
next_in at (pivot a c) = comes (step Pivot a) (entered c)

abbrev pub next_of_row : Choices → ℕ → List Activity → Next
next_of_row c k [] = nothing
next_of_row c k (a ∷ acts) = comes (step Retriable a) (inner c k (in_row acts))

abbrev pub next : Position → Next
next (outer b) = next_in outer b
next (inner c k (in_body b)) = next_in (λ x. inner c k (in_body x)) b
next (inner c k (in_row acts)) = next_of_row c k acts

-- the step that comes
abbrev pub coming : Next → Option Step
coming nothing = None
coming (comes s to) = Some s

-- the position that it leads to; with nothing next, one stays
abbrev pub led : Position → Next → Position
led x nothing = x
led x (comes s to) = to

abbrev pub onward : Position → Position
onward x = led x (next x)
