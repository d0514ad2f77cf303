-- What the activities of a station do to one of its cells.
use Rattle.std.specs.Prelude.{◌≡◌, ℕ, Bool, true, false, List, length, is_some, Some, Option, MatchOption, slice_get}
use Rattle.std.specs.List.{AllByRecursion}
use Rattle.station.specs.Part.{Swap}
use Rattle.baggage.specs.Tabled.{Listing, matched, proper}

-- the meaning of a cell C with activities K
pub record CellMeaning (C K : Type 0) : Type 0 where
  -- the cell at first
  pub first : C
  -- the activities in the order of their numbers, and their catalogue
  pub names : List K
  pub listing : Listing
  -- which cell a parameter names
  pub place : ℕ → ℕ
  -- the answer and the cell that follow an activity with a parameter, or None where it is not possible
  pub performed : K → ℕ → C → Option (ℕ × C)
  -- the cell to which taking back an activity leads, given its answer
  pub taken_back : K → ℕ → C → C
  -- whether an activity is possible where there is no such cell: it then answers 0 and does nothing
  pub anywhere : K → Bool

module _ {C K : Type 0} (m : CellMeaning C K) where
  -- taking the activity back restores the cell
  abbrev pub Undone : K → Type 0
  Undone k = (p x : ℕ) (c d : C) → m.performed k p c ≡ Some (x, d) → m.taken_back k x d ≡ c

  -- the activity is possible on every cell, and where there is none
  abbrev pub Ready : K → Type 0
  Ready k = ((p : ℕ) (c : C) → is_some (m.performed k p c) ≡ true) × (m.anywhere k ≡ true)

  -- what holds of the activity of a number, which there is
  abbrev pub Named : (K → Type 0) → ℕ → Type 0
  Named P n = MatchOption (slice_get m.names n) ⊥ P

  -- two activities that do not conflict change places on one cell
  abbrev pub Free : Type 0
  Free = (n l : ℕ) (h k : K) → slice_get m.names n ≡ Some h → slice_get m.names l ≡ Some k → matched m.listing.conflicts n l ≡ false → (p q : ℕ) (c : C) → Swap (m.performed h p) (m.performed k q) c

-- the laws that a cell keeps, from which a row of them keeps those of a station
pub record CellLaws {C K : Type 0} (m : CellMeaning C K) : Type 0 where
  pub undone : AllByRecursion (Named m (Undone m)) m.listing.compensatables
  pub free : Free m
  pub ready : AllByRecursion (Named m (Ready m)) m.listing.retriables
  pub passes : proper m.listing ≡ true
  pub five : length m.names ≡ 5
