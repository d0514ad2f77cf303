-- The written notation of program texts: what a line of characters stands for, and how bytes are written.
use Rattle.std.specs.Prelude.{◌≡◌, ℕ, ◌+◌, ◌-◌, ◌*◌, ◌/◌, ◌%◌, ◌^◌, ◌<◌, Bool, cond, ◌&&◌, ◌||◌, List, [], ◌∷◌, ◌++◌, length, Some, None, Ok, Err, Option, Result, ◌==◌, nat_le, nat_lt, min, codes, decimal}
use Rattle.notation.specs.declared.sign.Sign.{Sign}
use Rattle.notation.specs.declared.sign.Sign.TheVariants.{Blank, Command, Digit}
use Rattle.notation.specs.declared.decoding.Taken.{Taken}
use Rattle.notation.specs.declared.decoding.Taken.TheVariants.{Passed, Waits, Gives}
use Rattle.notation.specs.declared.decoding.Unreadable.{Unreadable}
use Rattle.notation.specs.declared.decoding.Unreadable.TheVariants.{At, NoMemory}

-- ---- characters
-- C P R [ | ] and the full stop
abbrev pub is_command : ℕ → Bool
is_command c = c == 67 || (c == 80 || (c == 82 || (c == 91 || (c == 124 || (c == 93 || c == 46)))))

-- what a character is: a blank or a tab, a command's letter or mark, 0 to 9, a to f, or none of these
abbrev pub sign_of : ℕ → Option Sign
sign_of c =
    cond (c == 32 || c == 9) (Some Blank) (
    cond (is_command c) (Some Command) (
    cond (nat_le 48 c && nat_lt c 58) (Some (Digit (c - 48))) (
    cond (nat_le 97 c && nat_lt c 103) (Some (Digit (c - 87))) None)))

-- the character of a digit below 16
abbrev pub hex : ℕ → ℕ
hex d = cond (nat_lt d 10) (48 + d) (87 + d)

-- a digit is below 16
abbrev pub LowSign : Option Sign → Type 0
LowSign None = Unit {0}
LowSign (Some Blank) = Unit {0}
LowSign (Some Command) = Unit {0}
LowSign (Some (Digit d)) = d < 16

abbrev pub Low : Option ℕ → Type 0
Low None = Unit {0}
Low (Some d) = d < 16

abbrev pub LowTaken : Option Taken → Type 0
LowTaken (Some Passed) = Unit {0}
LowTaken (Some (Waits d)) = d < 16
LowTaken (Some (Gives b)) = Unit {0}
LowTaken None = Unit {0}

-- ---- what a line stands for
-- One more character, where a high digit may be waiting for its low one, or none where it cannot stand.
-- A command's letter or mark is its own byte.
abbrev pub taken_by : Option ℕ → ℕ → Option Sign → Option Taken
taken_by waiting c None = None
taken_by waiting c (Some Blank) = Some Passed
taken_by None c (Some Command) = Some (Gives c)
taken_by (Some h) c (Some Command) = None
taken_by None c (Some (Digit d)) = Some (Waits d)
taken_by (Some h) c (Some (Digit d)) = Some (Gives (h * 16 + d))

abbrev pub taken : Option ℕ → ℕ → Option Taken
taken waiting c = taken_by waiting c (sign_of c)

-- bytes in front of those that follow; a column at which the line cannot be read stays
abbrev pub with_front : List ℕ → Result (List ℕ) ℕ → Result (List ℕ) ℕ
with_front front (Ok bs) = Ok (front ++ bs)
with_front front (Err k) = Err k

-- what a character taken at the column k does to the reading of what follows it
abbrev pub read_on : ℕ → Option ℕ → Option Taken → (Option ℕ → Result (List ℕ) ℕ) → Result (List ℕ) ℕ
read_on k waiting (Some Passed) rest = rest waiting
read_on k waiting (Some (Waits d)) rest = rest (Some d)
read_on k waiting (Some (Gives b)) rest = with_front (b ∷ []) (rest None)
read_on k waiting None rest = Err k

-- at the end of a line no digit may wait
abbrev pub ended : ℕ → Option ℕ → Result (List ℕ) ℕ
ended k None = Ok []
ended k (Some h) = Err k

-- the bytes of a line from the column k on, or the column at which it cannot be read
abbrev pub bytes_from : ℕ → Option ℕ → List ℕ → Result (List ℕ) ℕ
bytes_from k waiting [] = ended k waiting
bytes_from k waiting (c ∷ cs) = read_on k waiting (taken waiting c) (λ w. bytes_from (k + 1) w cs)

abbrev pub bytes_of : List ℕ → Result (List ℕ) ℕ
bytes_of line = bytes_from 0 None line

-- what decoding a line answers; only want of memory leaves it open
abbrev pub Decoded : {V : Type 0} → (V → List ℕ) → List ℕ → Result V Unreadable → Type 0
Decoded items line (Ok v) = bytes_of line ≡ Ok (items v)
Decoded items line (Err (At k)) = bytes_of line ≡ Err k
Decoded items line (Err NoMemory) = Unit {0}

-- why a line gives no bytes, in words: columns are shown from 1
abbrev pub unreadable_shown : Unreadable → List ℕ
unreadable_shown (At k) = codes "the line cannot be read from column " ++ (decimal (min (k + 1) (2 ^ 64 - 1)) ++ codes " on")
unreadable_shown NoMemory = codes "out of memory"

-- ---- how bytes are written
-- how many operand bytes are to come after a byte, where `due` were to come before it: three follow C, P and R
abbrev pub due_after : ℕ → ℕ → ℕ
due_after due b = cond (nat_lt 0 due) (due - 1) (cond (b == 67 || (b == 80 || b == 82)) 3 0)

-- a command's letter or mark where a command may stand, and else two digits
abbrev pub unit : ℕ → ℕ → List ℕ
unit due b = cond (due == 0 && is_command b) (b ∷ []) (hex (b / 16) ∷ hex (b % 16) ∷ [])

-- the blank before a byte: none at the beginning, and none between the two bytes of a parameter
abbrev pub gap : List ℕ → ℕ → List ℕ
gap out due = cond (due == 1 || length out == 0) [] (32 ∷ [])

-- the bytes written behind what is there, where `due` operand bytes are to come
abbrev pub written_on : List ℕ → ℕ → List ℕ → List ℕ
written_on out due [] = out
written_on out due (b ∷ bs) = written_on ((out ++ gap out due) ++ unit due b) (due_after due b) bs

abbrev pub written : List ℕ → List ℕ
written bs = written_on [] 0 bs
