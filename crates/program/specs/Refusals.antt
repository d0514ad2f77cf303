-- When a text is refused, with which number and at which place.
use Rattle.std.specs.Prelude.{◌≡◌, ℕ, ◌+◌, ◌-◌, ◌<◌, ◌≤◌, max, List, [], ◌∷◌, ◌++◌, length}
use Rattle.program.specs.Grammar.{text_commands, Body, mark, bytes}
use Rattle.program.specs.declared.command.Command.{Command}
use Rattle.program.specs.declared.command.Command.TheVariants.{C, P, R, Open, Bar, Close, Stop}
use Rattle.program.specs.declared.refusal.Fault.{Fault}
use Rattle.program.specs.declared.refusal.Fault.TheVariants.{TooLong, Misplaced, CutOff, TooManySteps, TooDeep, Trailing}

-- the numbers of the refusals
abbrev pub number_of : Fault → ℕ
number_of TooLong = 1
number_of Misplaced = 2
number_of CutOff = 3
number_of TooManySteps = 4
number_of TooDeep = 5
number_of Trailing = 6

-- ---- what a row of commands, the beginning of a text, holds
-- how many steps a command is: 1 or 0
abbrev pub weight : Command → ℕ
weight (C a) = 1
weight (P a) = 1
weight (R a) = 1
weight Open = 0
weight Bar = 0
weight Close = 0
weight Stop = 0

abbrev pub step_count : List Command → ℕ
step_count [] = 0
step_count (c ∷ cs) = weight c + step_count cs

-- how many brackets are open after a command, of n before it
abbrev pub open_after : ℕ → Command → ℕ
open_after n (C a) = n
open_after n (P a) = n
open_after n (R a) = n
open_after n Open = n + 1
open_after n Bar = n
open_after n Close = n - 1
open_after n Stop = n

-- how many brackets are open after the commands, of n before them
abbrev pub opened : ℕ → List Command → ℕ
opened n [] = n
opened n (c ∷ cs) = opened (open_after n c) cs

-- the most brackets that are open at once, of n before the commands
abbrev pub peak : ℕ → List Command → ℕ
peak n [] = n
peak n (c ∷ cs) = max n (peak (open_after n c) cs)

-- at most 32 steps, and 4 brackets open at once
pub record Within (cs : List Command) : Type 0 where
  pub few : step_count cs ≤ 32
  pub shallow : peak 0 cs ≤ 4

-- ---- what can stand where, by the grammar alone
-- the commands are those of a whole text
abbrev pub Whole : List Command → Type 0
Whole cs = (b : Body) × (cs ≡ text_commands b)

-- some text begins with the commands
abbrev pub Begins : List Command → Type 0
Begins cs = (b : Body) × (more : List Command) × (text_commands b ≡ cs ++ more)

-- the command c has the letter or mark x and can stand after cs
pub record Stands (cs : List Command) (x : ℕ) (c : Command) : Type 0 where
  pub marked : mark c ≡ x
  pub begins : Begins (cs ++ c ∷ [])

-- ---- the refusals
-- What is wrong after the commands cs, with the bytes `rest` to come:
-- Misplaced: a byte that is no command's, or a command that cannot stand there; CutOff: no byte is left, or a step's operands are not all there;
-- TooManySteps: the 33rd step; TooDeep: a fifth open bracket; Trailing: bytes after the full stop.
abbrev pub Reason : Fault → List Command → List ℕ → Type 0
Reason TooLong cs rest = ⊥
Reason Misplaced cs [] = ⊥
Reason Misplaced cs (x ∷ rest) = (Whole cs → ⊥) × ((c : Command) → Stands cs x c → ⊥)
Reason CutOff cs [] = Whole cs → ⊥
Reason CutOff cs (x ∷ rest) = (c : Command) × Stands cs x c × (weight c ≡ 1) × (step_count cs < 32) × (length rest < 3)
Reason TooManySteps cs [] = ⊥
Reason TooManySteps cs (x ∷ rest) = (c : Command) × Stands cs x c × (weight c ≡ 1) × (step_count cs ≡ 32)
Reason TooDeep cs [] = ⊥
Reason TooDeep cs (x ∷ rest) = Stands cs x Open × (opened 0 cs ≡ 4)
Reason Trailing cs [] = ⊥
Reason Trailing cs (x ∷ rest) = Whole cs

-- The text begins with the commands cs, which some text of the grammar begins with and which keep the limits; what is wrong comes right after them.
pub record Stuck (t : List ℕ) (f : Fault) (place : ℕ) (cs : List Command) (rest : List ℕ) : Type 0 where
  pub short : length t ≤ 255
  pub split : t ≡ bytes cs ++ rest
  pub placed : place ≡ length (bytes cs)
  pub begins : Begins cs
  pub within : Within cs
  pub reason : Reason f cs rest

abbrev pub StuckSomewhere : List ℕ → Fault → ℕ → Type 0
StuckSomewhere t f place = (cs : List Command) × (rest : List ℕ) × Stuck t f place cs rest

-- the text t is refused for f at the place
abbrev pub Refused : List ℕ → Fault → ℕ → Type 0
Refused t TooLong place = (255 < length t) × (place ≡ 255)
Refused t Misplaced place = StuckSomewhere t Misplaced place
Refused t CutOff place = StuckSomewhere t CutOff place
Refused t TooManySteps place = StuckSomewhere t TooManySteps place
Refused t TooDeep place = StuckSomewhere t TooDeep place
Refused t Trailing place = StuckSomewhere t Trailing place
