-- The grammar of program texts: trees of bodies and choices, the commands that spell a tree, and the bytes of the commands.
use Rattle.std.specs.Prelude.{◌≡◌, ℕ, suc, ◌/◌, ◌%◌, ◌≤◌, max, List, [], ◌∷◌, ◌++◌, length}
use Rattle.activity.specs.declared.Activity.{Activity}
use Rattle.program.specs.declared.command.Kind.{Kind}
use Rattle.program.specs.declared.command.Kind.TheVariants.{Compensatable, Pivot, Retriable}
use Rattle.program.specs.declared.command.Step.{Step}
use Rattle.program.specs.declared.command.Command.{Command}
use Rattle.program.specs.declared.command.Command.TheVariants.{C, P, R, Open, Bar, Close, Stop}

-- A body is any number of compensatable steps, then nothing, or a pivot and choices.
-- Choices are a row of retriable steps, perhaps none, or else a body and further choices.
mutual
  pub data Body : Type 0 where
    finish : Body
    compensatable : Activity → Body → Body
    pivot : Activity → Choices → Body

  pub data Choices : Type 0 where
    row : List Activity → Choices
    or_else : Body → Choices → Choices

-- ---- the commands that spell a tree
abbrev pub row_commands : List Activity → List Command
row_commands [] = []
row_commands (a ∷ acts) = R a ∷ row_commands acts

abbrev mutual
  pub body_commands : Body → List Command
  body_commands finish = []
  body_commands (compensatable a b) = C a ∷ body_commands b
  body_commands (pivot a c) = P a ∷ Open ∷ (choices_commands c ++ Close ∷ [])

  pub choices_commands : Choices → List Command
  choices_commands (row acts) = row_commands acts
  choices_commands (or_else b c) = body_commands b ++ Bar ∷ choices_commands c

-- a text is a body and a full stop
abbrev pub text_commands : Body → List Command
text_commands b = body_commands b ++ Stop ∷ []

-- ---- the bytes of commands
-- the letter or mark of a command
abbrev pub mark : Command → ℕ
mark (C a) = 67
mark (P a) = 80
mark (R a) = 82
mark Open = 91
mark Bar = 124
mark Close = 93
mark Stop = 46

-- the letter of a step of the kind k, and its command
abbrev pub letter_of : Kind → ℕ
letter_of Compensatable = 67
letter_of Pivot = 80
letter_of Retriable = 82

abbrev pub command_of : Kind → Activity → Command
command_of Compensatable = C
command_of Pivot = P
command_of Retriable = R

-- one byte of activity and two of parameter, high byte first
abbrev pub operands : Activity → List ℕ
operands a = a.number ∷ a.parameter / 256 ∷ a.parameter % 256 ∷ []

abbrev pub written : Command → List ℕ
written (C a) = 67 ∷ operands a
written (P a) = 80 ∷ operands a
written (R a) = 82 ∷ operands a
written Open = 91 ∷ []
written Bar = 124 ∷ []
written Close = 93 ∷ []
written Stop = 46 ∷ []

abbrev pub bytes : List Command → List ℕ
bytes [] = []
bytes (c ∷ cs) = written c ++ bytes cs

-- the text of a tree
abbrev pub text : Body → List ℕ
text b = bytes (text_commands b)

-- ---- the steps of a tree, in the order of its text
abbrev pub step : Kind → Activity → Step
step k a = record { kind = k; activity = a }

abbrev pub row_steps : List Activity → List Step
row_steps [] = []
row_steps (a ∷ acts) = step Retriable a ∷ row_steps acts

abbrev mutual
  pub body_steps : Body → List Step
  body_steps finish = []
  body_steps (compensatable a b) = step Compensatable a ∷ body_steps b
  body_steps (pivot a c) = step Pivot a ∷ choices_steps c

  pub choices_steps : Choices → List Step
  choices_steps (row acts) = row_steps acts
  choices_steps (or_else b c) = body_steps b ++ choices_steps c

-- ---- how many brackets of a tree's text are open at once
abbrev mutual
  pub body_depth : Body → ℕ
  body_depth finish = 0
  body_depth (compensatable a b) = body_depth b
  body_depth (pivot a c) = suc (choices_depth c)

  pub choices_depth : Choices → ℕ
  choices_depth (row acts) = 0
  choices_depth (or_else b c) = max (body_depth b) (choices_depth c)

-- The grammar yields the text t by the tree b, within the limits: 255 bytes, 32 steps, 4 brackets open at once.
pub record Yields (t : List ℕ) (b : Body) : Type 0 where
  pub spelled : t ≡ text b
  pub short : length t ≤ 255
  pub few : length (body_steps b) ≤ 32
  pub shallow : body_depth b ≤ 4

-- the commands are those of a text that the grammar yields within the limits
abbrev pub Yielded : List Command → Type 0
Yielded cs = (b : Body) × (cs ≡ text_commands b) × Yields (bytes cs) b
