-- What a reader has read between two commands, and what its parts do.
use Rattle.std.specs.Prelude.{◌≡◌, ℕ, ◌+◌, ◌<◌, ◌≤◌, List, [], ◌∷◌, ◌++◌, length, take, drop, Some, None, Ok, Err, Option, Result, ◌≢◌, slice_index}
use Rattle.activity.specs.declared.Activity.{Activity}
use Rattle.program.specs.declared.command.Command.{Command}
use Rattle.program.specs.declared.command.Command.TheVariants.{C, P, R, Close}
use Rattle.program.specs.declared.command.Kind.{Kind}
use Rattle.program.specs.declared.command.Kind.TheVariants.{Compensatable, Pivot, Retriable}
use Rattle.program.specs.declared.refusal.Refusal.{Refusal}
use Rattle.program.specs.declared.reader.Reader.{Reader}
use Rattle.program.specs.Grammar.{mark, written, command_of, operands}
use Rattle.program.specs.Refusals.{weight, opened, open_after, Refused}
use Rattle.program.specs.Contexts.{Context, in_body_at, at_pivot, in_row_at, closed, nowhere, end_mark, after_end, go, goes}

abbrev pub text_of : Reader → List ℕ
text_of r = r.text.now

-- the commands read so far
abbrev pub commands_of : Reader → List Command
commands_of r = take r.len r.commands

abbrev pub context : Reader → Context
context r = goes (in_body_at 0) (commands_of r)

-- the next byte, where there is one
abbrev pub byte_at : Reader → ℕ
byte_at r = slice_index (text_of r) r.at

abbrev pub Peeked : Reader → Option ℕ → Type 0
Peeked r None = length (text_of r) ≤ r.at
Peeked r (Some b) = (r.at < length (text_of r)) × (b ≡ byte_at r)

-- the bytes of the command c stand at the place
pub record Spelled (r : Reader) (c : Command) : Type 0 where
  pub fits : r.at + length (written c) ≤ length (text_of r)
  pub spelled : take (length (written c)) (drop r.at (text_of r)) ≡ written c

-- the command c was taken: it comes after those read before, and the place is past its bytes
pub record Pushed (r r' : Reader) (c : Command) : Type 0 where
  pub grown : commands_of r' ≡ commands_of r ++ c ∷ []
  pub same : text_of r' ≡ text_of r
  pub place : r'.at ≡ r.at + length (written c)

-- a step command can stand at the place, and its letter does
pub record StepNext (r : Reader) (c : Command) : Type 0 where
  pub here : r.at < length (text_of r)
  pub letter : mark c ≡ byte_at r
  pub step : weight c ≡ 1
  pub leads : go (context r) c ≡ nowhere → ⊥

-- a step of the kind k can stand at the place, and its letter does
abbrev pub KindNext : Reader → Kind → Type 0
KindNext r k = (s : Activity) → StepNext r (command_of k s)

-- the operands s of the step at the place, which keeps the limit on steps, or the refusal
abbrev pub Operands : Reader → Result Activity Refusal → Type 0
Operands r (Ok s) = (r.steps < 32) × (r.at + 4 ≤ length (text_of r)) × (take 4 (drop r.at (text_of r)) ≡ byte_at r ∷ operands s)
Operands r (Err e) = Refused (text_of r) e.fault e.place

-- the next byte can stand at the place only if it is the mark of m
abbrev pub Only : Reader → Command → Type 0
Only r m = (c : Command) → mark c ≡ byte_at r → (byte_at r ≢ mark m) → go (context r) c ≡ nowhere

-- the mark m can stand at the place, and nothing else that has the next byte
pub record MarkNext (r : Reader) (m : Command) : Type 0 where
  pub plain : weight m ≡ 0
  pub leads : go (context r) m ≡ nowhere → ⊥
  pub low : r.at < length (text_of r) → byte_at r ≡ mark m → open_after (opened 0 (commands_of r)) m ≤ 4
  pub only : r.at < length (text_of r) → Only r m

-- the mark m was read
pub record Passed (r r' : Reader) (m : Command) : Type 0 where
  pub stands : context r' ≡ go (context r) m
  pub further : r.at < r'.at

-- a step of the kind k was read
abbrev pub Stepped : Reader → Reader → Kind → Type 0
Stepped r r' k = (s : Activity) × Passed r r' (command_of k s)

-- nothing but the mark m can stand at the place, and it leads to st
pub record Ready (r : Reader) (m : Command) (st : Context) : Type 0 where
  pub leads : go (context r) m ≡ st
  pub only : r.at < length (text_of r) → Only r m

-- a body may begin or go on, under n open brackets
pub record BodyNext (r : Reader) (n : ℕ) : Type 0 where
  pub on_c : (s : Activity) → go (context r) (C s) ≡ in_body_at n
  pub on_p : (s : Activity) → go (context r) (P s) ≡ at_pivot n
  pub ends : go (context r) (end_mark n) ≡ after_end n
  pub others : r.at < length (text_of r) → (byte_at r ≢ 67) → (byte_at r ≢ 80) → Only r (end_mark n)

-- a row of retriable steps may begin or go on
pub record RowNext (r : Reader) (n : ℕ) : Type 0 where
  pub on_r : (s : Activity) → go (context r) (R s) ≡ in_row_at n
  pub ends : go (context r) Close ≡ closed n
  pub others : r.at < length (text_of r) → (byte_at r ≢ 82) → Only r Close

-- steps of the kind k may begin or go on: those of a body, or a row of retriable ones
abbrev pub StepsNext : Kind → Reader → ℕ → Type 0
StepsNext Compensatable = BodyNext
StepsNext Pivot = λ r n. ⊥
StepsNext Retriable = RowNext

-- the same text, at the same place or further on
pub record Moved (r r' : Reader) : Type 0 where
  pub same : text_of r' ≡ text_of r
  pub forward : r.at ≤ r'.at

-- no further command of the letter x stands at the place
pub record RowRead (r : Reader) (x : ℕ) (Next : Type 0) : Type 0 where
  pub on : Next
  pub ended : r.at < length (text_of r) → byte_at r ≢ x

-- a part read what Next says, or the text is refused
abbrev pub Reads : Reader → Reader → Type 0 → Result (Unit {0}) Refusal → Type 0
Reads r r' Next (Ok u) = Moved r r' × Next
Reads r r' Next (Err e) = Refused (text_of r) e.fault e.place
