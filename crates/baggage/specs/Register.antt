-- What the activities of the register mean.
use Rattle.std.specs.Prelude.{ℕ, ◌/◌, ◌%◌, ◌<◌, Bool, true, false, List, [], ◌∷◌, Some, None, Option, slice_index_or}
use Rattle.std.proofs.Math.Decide.{dec_lt}
use Rattle.station.specs.Meaning.{Meaning}
use Rattle.baggage.specs.Tabled.{Listing}
use Rattle.baggage.specs.declared.row.Row.{Row}
use Rattle.baggage.specs.Cell.{CellMeaning}
use Rattle.baggage.specs.Row.{first_row, in_row}
use Rattle.baggage.specs.declared.register.Stand.{Stand}
use Rattle.baggage.specs.declared.register.Bag.{Bag}
use Rattle.baggage.specs.declared.register.BagActivity.{BagActivity}
use Rattle.baggage.specs.declared.register.BagActivity.TheVariants.{Enter, Strike, Look, Seal, Report}

-- ---- one bag

-- the stand of a number: those from 1 to 15 are stands
abbrev pub between : (n : ℕ) → Dec (0 < n) → Dec (n < 16) → Option Stand
between n (yes l) (yes h) = Some (record { value = n; range = (l, h) })
between n (yes l) (no h) = None
between n (no l) d = None

abbrev pub standing : ℕ → Option Stand
standing n = between n (dec_lt 0 n) (dec_lt n 16)

-- the number of a stand, if there is one, and 0 for an absent bag
abbrev pub value_of : Option Stand → Option ℕ
value_of None = None
value_of (Some t) = Some t.value

abbrev pub number_of : Option Stand → ℕ
number_of None = 0
number_of (Some t) = t.value

abbrev pub with_stand : Bag → Option Stand → Bag
with_stand b o = record { stand = o; sealed = b.sealed; reported = b.reported }

abbrev pub with_seal : Bag → Bag
with_seal b = record { stand = b.stand; sealed = true; reported = b.reported }

abbrev pub with_report : Bag → Bag
with_report b = record { stand = b.stand; sealed = b.sealed; reported = true }

-- an absent bag is entered at a stand, which must be one
abbrev pub entered : Bag → Option Stand → Option Stand → Option (ℕ × Bag)
entered b None None = None
entered b None (Some t) = Some (0, with_stand b (Some t))
entered b (Some u) o = None

-- a bag that is present and not sealed answers its stand, and becomes c
abbrev pub if_open : Option Stand → Bool → Bag → Option (ℕ × Bag)
if_open None z c = None
if_open (Some t) true c = None
if_open (Some t) false c = Some (t.value, c)

-- what an activity with a parameter does to its bag
abbrev pub on_bag : BagActivity → ℕ → Bag → Option (ℕ × Bag)
on_bag Enter p b = entered b b.stand (standing (p % 16))
on_bag Strike p b = if_open b.stand b.sealed (with_stand b None)
on_bag Look p b = Some (number_of b.stand, b)
on_bag Seal p b = if_open b.stand b.sealed (with_seal b)
on_bag Report p b = Some (0, with_report b)

-- what taking it back does, with the answer that it gave
abbrev pub off_bag : BagActivity → ℕ → Bag → Bag
off_bag Enter x b = with_stand b None
off_bag Strike x b = with_stand b (standing (x % 16))
off_bag Look x b = b
off_bag Seal x b = b
off_bag Report x b = b

-- looking and reporting are possible where there is no such bag too
abbrev pub anywhere : BagActivity → Bool
anywhere Enter = false
anywhere Strike = false
anywhere Look = true
anywhere Seal = false
anywhere Report = true

-- the activities, by number
abbrev pub names : List BagActivity
names = Enter ∷ Strike ∷ Look ∷ Seal ∷ Report ∷ []

abbrev pub register_listing : Listing
register_listing = record {
  compensatables = 0 ∷ 1 ∷ 2 ∷ [];
  retriables = 2 ∷ 4 ∷ [];
  conflicts = (0, 1) ∷ (0, 2) ∷ (0, 3) ∷ (1, 2) ∷ [];
}

abbrev pub absent_bag : Bag
absent_bag = record { stand = None; sealed = false; reported = false }

-- the parameter is the bag times 16 and the stand
abbrev pub bag_meaning : CellMeaning Bag BagActivity
bag_meaning = record {
  first = absent_bag;
  names = names;
  listing = register_listing;
  place = λ p. p / 16;
  performed = on_bag;
  taken_back = off_bag;
  anywhere = anywhere;
}

-- ---- the 256 bags

abbrev pub Register : Type 0
Register = Row Bag 256

abbrev pub register_meaning : Meaning Register
register_meaning = in_row bag_meaning 256

-- the bags at first
abbrev pub first_register : Register
first_register = first_row bag_meaning 256

unfoldable pub bag_of : Register → ℕ → Bag
bag_of s i = slice_index_or s.cells i absent_bag
