-- A cursor of a process as a position in its program's tree: what the commands from some index on are to a process that stands there.
use Rattle.std.specs.Prelude.{◌≡◌, ℕ, zero, suc, ◌+◌, ◌-◌, ◌≤◌, Bool, true, false, List, [], ◌∷◌, length, take, drop, Some, None, Option, slice_get}
use Rattle.std.specs.List.{filter_map}
use Rattle.activity.specs.declared.Activity.{Activity}
use Rattle.program.specs.declared.command.Command.{Command}
use Rattle.program.specs.declared.command.Command.TheVariants.{C, P, R, Open, Bar, Close, Stop}
use Rattle.program.specs.declared.command.Kind.{Kind}
use Rattle.program.specs.declared.command.Kind.TheVariants.{Compensatable, Pivot, Retriable}
use Rattle.program.specs.declared.command.Step.{Step}
use Rattle.program.specs.declared.cursor.Choices.{Choices as Taken}
use Rattle.program.specs.declared.cursor.Cursor.{Cursor}
use Rattle.program.specs.declared.program.Program.{Program}
use Rattle.program.specs.Grammar.{Body, finish, compensatable, pivot, Choices, row, or_else, text_commands, step}
use Rattle.program.specs.Positions.{Rest, Position, outer, inner, alternative, reached}

abbrev pub program_commands : Program → List Command
program_commands p = take p.len p.commands

-- what stands at a place, from 0, of a list
abbrev pub nth : {X : Type 0} → List X → ℕ → Option X
nth xs k = slice_get xs k

-- the row of retriable steps that begins here
abbrev pub row_at : List Command → List Activity
row_at [] = []
row_at (C s ∷ xs) = []
row_at (P s ∷ xs) = []
row_at (R s ∷ xs) = s ∷ row_at xs
row_at (Open ∷ xs) = []
row_at (Bar ∷ xs) = []
row_at (Close ∷ xs) = []
row_at (Stop ∷ xs) = []

abbrev mutual
  -- the body that begins here
  pub body_at : List Command → Body
  body_at [] = finish
  body_at (C s ∷ xs) = compensatable s (body_at xs)
  body_at (P s ∷ xs) = pivot s (opened_at xs)
  body_at (R s ∷ xs) = finish
  body_at (Open ∷ xs) = finish
  body_at (Bar ∷ xs) = finish
  body_at (Close ∷ xs) = finish
  body_at (Stop ∷ xs) = finish

  -- the choices whose bracket stands here
  pub opened_at : List Command → Choices
  opened_at [] = row []
  opened_at (x ∷ xs) = choices_at xs

  -- the choices that begin here
  pub choices_at : List Command → Choices
  choices_at [] = row []
  choices_at (C s ∷ xs) = or_else (compensatable s (body_at xs)) (further_at 0 xs)
  choices_at (P s ∷ xs) = or_else (pivot s (opened_at xs)) (further_at 0 xs)
  choices_at (R s ∷ xs) = row (s ∷ row_at xs)
  choices_at (Open ∷ xs) = or_else finish (further_at 1 xs)
  choices_at (Bar ∷ xs) = or_else finish (choices_at xs)
  choices_at (Close ∷ xs) = row []
  choices_at (Stop ∷ xs) = or_else finish (further_at 0 xs)

  -- the choices that begin after the first bar outside of n brackets
  pub further_at : ℕ → List Command → Choices
  further_at n [] = row []
  further_at n (C s ∷ xs) = further_at n xs
  further_at n (P s ∷ xs) = further_at n xs
  further_at n (R s ∷ xs) = further_at n xs
  further_at n (Open ∷ xs) = further_at (suc n) xs
  further_at zero (Bar ∷ xs) = choices_at xs
  further_at (suc n) (Bar ∷ xs) = further_at (suc n) xs
  further_at n (Close ∷ xs) = further_at (n - 1) xs
  further_at n (Stop ∷ xs) = further_at n xs

-- what is left of the alternative here
abbrev pub rest_at : List Command → Rest
rest_at xs = alternative (choices_at xs) 0

-- the place at an index of the commands cs, in the choices from an index on if any
abbrev pub placed : List Command → ℕ → Option ℕ → ℕ → Position
placed cs at None k = outer (body_at (drop at cs))
placed cs at (Some from) k = inner (choices_at (drop from cs)) k (rest_at (drop at cs))

-- the index at which a cursor's choices begin, if it stands in any, and the alternative taken among them; before any pivot, 0
abbrev pub begun : Option Taken → Option ℕ
begun None = None
begun (Some c) = Some c.from

abbrev pub taken : Option Taken → ℕ
taken None = 0
taken (Some c) = c.alternative

-- the tree of a program, and the position of a cursor in it
abbrev pub tree : Program → Body
tree p = body_at (program_commands p)

abbrev pub position : Program → Cursor → Position
position p c = placed (program_commands p) c.at (begun c.choices) (taken c.choices)

-- a program spells its tree
abbrev pub Spells : Type 0
Spells = (p : Program) → program_commands p ≡ text_commands (tree p)

-- the first of some commands
abbrev pub first : List Command → Option Command
first [] = None
first (x ∷ xs) = Some x

-- ---- steps
-- the step that a command is, if it is one
abbrev pub step_of : Command → Option Step
step_of (C a) = Some (step Compensatable a)
step_of (P a) = Some (step Pivot a)
step_of (R a) = Some (step Retriable a)
step_of Open = None
step_of Bar = None
step_of Close = None
step_of Stop = None

-- the steps among some commands
abbrev pub steps_among : List Command → List Step
steps_among cs = filter_map step_of cs

-- how many steps of the text stand before a cursor
abbrev pub steps_before : Program → Cursor → ℕ
steps_before p c = length (steps_among (take c.at (program_commands p)))

-- the step that a command is to a process, inside choices or not
abbrev pub inside : Option ℕ → Activity → Option Step
inside None a = None
inside (Some from) a = Some (step Retriable a)

abbrev pub item_for : Command → Option ℕ → Option Step
item_for (C a) choices = Some (step Compensatable a)
item_for (P a) choices = Some (step Pivot a)
item_for (R a) choices = inside choices a
item_for Open choices = None
item_for Bar choices = None
item_for Close choices = None
item_for Stop choices = None

-- ---- alternatives
-- a row may begin with the command
abbrev pub row_mark : Command → Bool
row_mark (C s) = false
row_mark (P s) = false
row_mark (R s) = true
row_mark Open = false
row_mark Bar = false
row_mark Close = true
row_mark Stop = false

-- a row begins here; with no command left, an empty one does
abbrev pub begins_row : Option Command → Bool
begins_row None = true
begins_row (Some x) = row_mark x

abbrev pub starts_row : List Command → Bool
starts_row xs = begins_row (first xs)

abbrev past_bar : ℕ → List Command → List Command → List Command
past_bar zero here later = here
past_bar (suc n) here later = later

-- what follows the first bar outside of n brackets
abbrev pub skip : ℕ → List Command → List Command
skip n [] = []
skip n (C s ∷ xs) = skip n xs
skip n (P s ∷ xs) = skip n xs
skip n (R s ∷ xs) = skip n xs
skip n (Open ∷ xs) = skip (suc n) xs
skip n (Bar ∷ xs) = past_bar n xs (skip n xs)
skip n (Close ∷ xs) = skip (n - 1) xs
skip n (Stop ∷ xs) = skip n xs

-- the command c is passed on the way to that bar, or is it
abbrev pub Deeper : Command → ℕ → Option ℕ → Type 0
Deeper c n None = (c ≡ Bar) × (n ≡ 0)
Deeper c n (Some m) = (m ≤ n + 1) × ((xs : List Command) → skip n (c ∷ xs) ≡ skip m xs)

-- ---- what is left of the text
-- the text from a place on, and from the beginning of the last pivot's choices on, if there was a pivot
pub record Left : Type 0 where
  pub here : List Command
  pub choices : Option (List Command)

abbrev pub text_from : List Command → Option ℕ → Option (List Command)
text_from cs None = None
text_from cs (Some from) = Some (drop from cs)

-- what is left of the commands cs from an index on, in the choices from an index on if any
abbrev pub left_in : List Command → ℕ → Option ℕ → Left
left_in cs at choices = record { here = drop at cs; choices = text_from cs choices }

-- what is left at a cursor
abbrev pub left_at : Program → Cursor → Left
left_at p c = left_in (program_commands p) c.at (begun c.choices)

-- at the beginning all of the text is left
abbrev pub all_left : Program → Left
all_left p = record { here = program_commands p; choices = None }

-- what is left after a step: past a pivot and its opening bracket the choices begin; any other step is one command
abbrev pub left_past : Kind → Left → Left
left_past Compensatable l = record { here = drop 1 l.here; choices = l.choices }
left_past Pivot l = record { here = drop 2 l.here; choices = Some (drop 2 l.here) }
left_past Retriable l = record { here = drop 1 l.here; choices = l.choices }

-- what is left after the step that comes; where none does, the same
abbrev pub left_after : Option Step → Left → Left
left_after None l = l
left_after (Some s) l = left_past s.kind l

abbrev pub unless_row : Bool → List Command → List Command → List Command
unless_row true here later = here
unless_row false here later = later

-- the text of some choices from their alternative k on: each that is no row ends with a bar, and past a row one does not go
abbrev pub skipped : ℕ → List Command → List Command
skipped zero xs = xs
skipped (suc k) xs = unless_row (starts_row xs) xs (skipped k (skip 0 xs))

abbrev pub left_among : ℕ → Left → Option (List Command) → Left
left_among k l None = l
left_among k l (Some xs) = record { here = skipped k xs; choices = Some xs }

-- what is left at the beginning of alternative k of the last pivot; before any pivot, the same
abbrev pub left_into : ℕ → Left → Left
left_into k l = left_among k l l.choices

-- alternative k of the choices from an index on begins at the index `at`, and its ordinal is n
pub record Found (p : Program) (from k at n : ℕ) : Type 0 where
  pub there : rest_at (drop at (program_commands p)) ≡ alternative (choices_at (drop from (program_commands p))) k
  pub count : n ≡ reached (choices_at (drop from (program_commands p))) k
  pub low : n ≤ 254
  pub text : drop at (program_commands p) ≡ skipped k (drop from (program_commands p))
