-- A row of cells keeps the laws that its cells keep.
use Rattle.std.specs.Prelude.{◌≡◌, ◌||◌, ℕ, ◌<◌, ◌≤◌, Bool, true, cond, List, length, Some, None, Option, slice_get, slice_index_or}
use Rattle.std.proofs.Common.{sym, ap, ◌∙◌, subst, ⊎_elim, arith, get_or-set_same, get_or-set_other, set-set}
use Rattle.std.specs.List.{AllByRecursion}
use Rattle.std.proofs.Math.Nat.{ℕ_set}
use Rattle.std.proofs.Math.Path.{fun_ext}
use Rattle.std.proofs.lemmas.Bool.{lt-ltb, le-ltb, cases_lt}
use Rattle.std.proofs.lemmas.List.{set-get_or, set_comm}
use Rattle.std.proofs.lemmas.Option.{slice_get_past, slice_get-get_or}
use Rattle.station.specs.Meaning.{Meaning, Restores, Commutes, Symmetric, AlwaysPossible, Bounded}
use Rattle.station.specs.Part.{Swap}
use Rattle.baggage.specs.declared.row.Row.{Row}
use Rattle.baggage.specs.Tabled.{matched, proper}
use Rattle.baggage.specs.Tables.{every, at}
use Rattle.baggage.specs.Cell.{CellMeaning, Undone, Ready, Named, Free}
use Rattle.baggage.specs.Cells.{Cells, Separate, cell_at, on_found}
use Rattle.baggage.specs.CellsLaws as general
use Rattle.baggage.specs.Row.{with_cell, in_row}

module _ {C : Type 0} {N : ℕ} where
  abbrev row_with : (xs : List C) → length xs ≡ N → Row C N
  row_with xs h = record { cells = xs; full = h }

  -- rows are equal where their cells are
  pub row_path : (s t : Row C N) → s.cells ≡ t.cells → s ≡ t
  row_path s t e =
      subst (λ (ys : List C). (q : length ys ≡ N) → s ≡ row_with ys q) e
      (λ q. ap (row_with s.cells) (ℕ_set _ _ s.full q)) t.full

  -- the N cells of a row, where d is any cell
  abbrev of_row : C → Cells (Row C N) C
  of_row d = record { count = N; get = λ w i. slice_index_or w.cells i d; put = with_cell }

  separate : (d : C) → Separate (of_row d)
  unfolding with_cell
  separate d = record {
    get_put = λ i h w c. let k : i < length w.cells = omega (arith, w.full) in get_or-set_same w.cells i c d k;
    put_get = λ i w. row_path _ _ (set-get_or w.cells i d);
    put_put = λ i w c e. row_path _ _ (set-set w.cells i c e);
    other = λ i j ne w c. get_or-set_other w.cells i j c d ne;
    either_order = λ i j ne w c e. row_path _ _ (set_comm w.cells i j c e ne);
  }

  -- a row has the cells of the numbers below N
  found : (d : C) (w : Row C N) (i : ℕ) → cell_at (of_row d) w i ≡ slice_get w.cells i
  found d w i =
      ⊎_elim
      (λ h. let k : i < length w.cells = omega (arith, w.full) in ap (λ b. cond b (Some (slice_index_or w.cells i d)) None) (lt-ltb i N h) ∙ sym (slice_get-get_or w.cells i d k))
      (λ h. let k : length w.cells ≤ i = omega (arith, w.full) in ap (λ b. cond b (Some (slice_index_or w.cells i d)) None) (le-ltb i N h) ∙ sym (slice_get_past w.cells i k))
      (cases_lt i N)

module _ {C K : Type 0} (m : CellMeaning C K) (free : K → K → Bool) where
  -- the test over all pairs: every two activities conflict or are free
  abbrev pub AllFree : Type 0
  AllFree = every (λ n h. every (λ l k. matched m.listing.conflicts n l || free h k) 0 m.names) 0 m.names ≡ true

  -- and where those that are free change places on a cell, those that do not conflict do
  pub changed_places : AllFree → ((h k : K) → free h k ≡ true → (p q : ℕ) (c : C) → Swap (m.performed h p) (m.performed k q) c) → Free m
  changed_places passes law n l h k ih ik c p q s =
      let outer = at (λ n h. every (λ l k. matched m.listing.conflicts n l || free h k) 0 m.names) m.names passes n h ih in
      let inner = at (λ l k. matched m.listing.conflicts n l || free h k) m.names outer l k ik in
      law h k (rw c at inner) p q s

module _ {C K : Type 0} (m : CellMeaning C K) (N : ℕ) where
  abbrev cells : Cells (Row C N) C
  cells = of_row m.first

  -- the meaning of a row is that of its cells: what holds of this holds of that
  carried : (P : (Row C N → ℕ → Option C) → Type 0) → P (cell_at cells) → P (λ w i. slice_get w.cells i)
  carried P = subst P (fun_ext (λ w. fun_ext (λ i. found m.first w i)))

  abbrev found_by : (Row C N → ℕ → Option C) → Meaning (Row C N)
  found_by find = on_found m find with_cell

  pub restores : AllByRecursion (Named m (Undone m)) m.listing.compensatables → Restores (in_row m N)
  restores law = carried (λ find. Restores (found_by find)) (general.restores m cells (separate m.first) law)

  pub commutes : Free m → Commutes (in_row m N)
  commutes law = carried (λ find. Commutes (found_by find)) (general.commutes m cells (separate m.first) law)

  pub retries : AllByRecursion (Named m (Ready m)) m.listing.retriables → AlwaysPossible (in_row m N)
  retries law = carried (λ find. AlwaysPossible (found_by find)) (general.retries m cells law)

  -- the listing's test gives the rest
  pub symmetric : proper m.listing ≡ true → Symmetric (in_row m N)
  symmetric passes = general.symmetric m cells passes

  pub bounded : proper m.listing ≡ true → length m.names ≡ 5 → Bounded (in_row m N)
  bounded passes five = carried (λ find. Bounded (found_by find)) (general.bounded m cells passes five)
