-- What reading a text comes to.
use Rattle.std.specs.Prelude.{◌≡◌, ℕ, ◌+◌, ◌*◌, ◌⊎◌, List, Some, None, Ok, Err, Option, Result}
use Rattle.program.specs.declared.program.Program.{Program}
use Rattle.program.specs.declared.reading.Reading.{Reading}
use Rattle.program.specs.declared.refusal.Fault.{Fault}
use Rattle.program.specs.declared.refusal.Refusal.{Refusal}
use Rattle.program.specs.Grammar.{Body, finish, Yields}
use Rattle.program.specs.Places.{tree}
use Rattle.program.specs.Refusals.{Refused, number_of}

-- The program read is that of the tree that yields the text. A text refused is refused for the fault and at the place named.
abbrev pub Parsed : List ℕ → Result Program Refusal → Type 0
Parsed t (Ok p) = Yields t (tree p)
Parsed t (Err e) = Refused t e.fault e.place

-- The same, with the program of `.` where the text is refused.
abbrev pub OutcomeBy : List ℕ → Body → Option Refusal → Type 0
OutcomeBy t b None = Yields t b
OutcomeBy t b (Some e) = Refused t e.fault e.place × (b ≡ finish)

abbrev pub Outcome : List ℕ → Reading → Type 0
Outcome t r = OutcomeBy t (tree r.program) r.refusal

-- two readings say the same: the same refusal, or none, and programs of the same tree
pub record Same (r q : Reading) : Type 0 where
  pub refusal : r.refusal ≡ q.refusal
  pub program : tree r.program ≡ tree q.program

-- what a caller is told: 0 and 0 where the text is read
abbrev pub number_told : Option Refusal → ℕ
number_told None = 0
number_told (Some e) = number_of e.fault

abbrev pub place_told : Option Refusal → ℕ
place_told None = 0
place_told (Some e) = e.place

-- the same as one number: 0, or the refusal's number × 65,536 and its place
abbrev pub Checked : List ℕ → ℕ → Type 0
Checked t r = ((b : Body) × Yields t b × (r ≡ 0)) ⊎ ((f : Fault) × (place : ℕ) × Refused t f place × (r ≡ number_of f * 65536 + place))
