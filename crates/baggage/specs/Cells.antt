-- A state of cells, and a station whose activities each work on the one cell that their parameter names.
use Rattle.std.specs.Prelude.{◌≡◌, ℕ, ◌<◌, cond, ◌≢◌, length, Some, None, Option, nat_lt, slice_get}
use Rattle.station.specs.Meaning.{Meaning, lifted}
use Rattle.baggage.specs.Tabled.{listed, matched}
use Rattle.baggage.specs.Cell.{CellMeaning}

-- how many cells C there are in a state W, and how one is read and replaced
pub record Cells (W C : Type 0) : Type 0 where
  pub count : ℕ
  pub get : W → ℕ → C
  pub put : W → ℕ → C → W

-- each cell can be read and replaced by itself
pub record Separate {W C : Type 0} (cells : Cells W C) : Type 0 where
  pub get_put : (i : ℕ) → i < cells.count → (w : W) (c : C) → cells.get (cells.put w i c) i ≡ c
  pub put_get : (i : ℕ) (w : W) → cells.put w i (cells.get w i) ≡ w
  pub put_put : (i : ℕ) (w : W) (c d : C) → cells.put (cells.put w i c) i d ≡ cells.put w i d
  pub other : (i j : ℕ) → j ≢ i → (w : W) (c : C) → cells.get (cells.put w i c) j ≡ cells.get w j
  pub either_order : (i j : ℕ) → i ≢ j → (w : W) (c d : C) → cells.put (cells.put w i c) j d ≡ cells.put (cells.put w j d) i c

-- the cell of a number, if there is one
abbrev pub cell_at : {W C : Type 0} → Cells W C → W → ℕ → Option C
cell_at cells w i = cond (nat_lt i cells.count) (Some (cells.get w i)) None

module _ {W C K : Type 0} (m : CellMeaning C K) (put : W → ℕ → C → W) where
  -- by the activity that a number names, if any, and the cell, if there is one
  abbrev pub performed_at : Option K → Option C → W → ℕ → Option (ℕ × W)
  performed_at None o s p = None
  performed_at (Some k) (Some c) s p = lifted (put s (m.place p)) (m.performed k p c)
  performed_at (Some k) None s p = cond (m.anywhere k) (Some (0, s)) None

  abbrev pub taken_back_at : Option K → Option C → W → ℕ → ℕ → W
  taken_back_at None o s p x = s
  taken_back_at (Some k) (Some c) s p x = put s (m.place p) (m.taken_back k x c)
  taken_back_at (Some k) None s p x = s

-- the activities and the catalogue, where `find` has the cell of a number, if there is one, and `put` replaces it
abbrev pub on_found : {W C K : Type 0} → CellMeaning C K → (W → ℕ → Option C) → (W → ℕ → C → W) → Meaning W
on_found m find put = record {
  activities = length m.names;
  performed = λ s a. performed_at m put (slice_get m.names a.number) (find s (m.place a.parameter)) s a.parameter;
  taken_back = λ s a x. taken_back_at m put (slice_get m.names a.number) (find s (m.place a.parameter)) s a.parameter x;
  compensatable = listed m.listing.compensatables;
  retriable = listed m.listing.retriables;
  conflict = matched m.listing.conflicts;
}

abbrev pub on_cells : {W C K : Type 0} → CellMeaning C K → Cells W C → Meaning W
on_cells m cells = on_found m (cell_at cells) cells.put
