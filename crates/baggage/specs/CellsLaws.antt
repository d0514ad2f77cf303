-- A station whose activities each work on one cell keeps the laws that the cells keep.
use Rattle.std.specs.Prelude.{◌≡◌, ℕ, ◌<◌, ◌≤◌, Bool, true, false, cond, length, is_some, Some, None, Option, MatchOption, nat_lt, slice_get, refl}
use Rattle.std.proofs.Common.{sym, ap, ◌∙◌, subst, ⊎_elim, arith}
use Rattle.std.specs.List.{AllByRecursion}
use Rattle.std.proofs.lemmas.Bool.{ltb-true, cases_eq}
use Rattle.std.proofs.lemmas.Option.{slice_get_past}
use Rattle.station.specs.Meaning.{Restores, Commutes, Symmetric, AlwaysPossible, Bounded}
use Rattle.station.specs.Part.{parts, outcome, Part, Swap, over, inside, back, swap_over, swap_apart, lifted_possible}
use Rattle.baggage.specs.Tabled.{matched, proper}
use Rattle.baggage.specs.Tables.{of_listed}
use Rattle.baggage.specs.Tables as tables
use Rattle.baggage.specs.Cell.{CellMeaning, Undone, Ready, Named, Free}
use Rattle.baggage.specs.Cells.{Cells, Separate, cell_at, performed_at, taken_back_at, on_cells}

-- possible or not, with no effect
abbrev still : {W : Type 0} → Bool → W → Option (ℕ × W)
still b w = cond b (Some (0, w)) None

still_is : {W : Type 0} (b : Bool) (s t : W) (x : ℕ) → still b s ≡ Some (x, t) → (still b t ≡ Some (x, t)) × ((w : W) → still b w ≡ Some (x, w)) × (t ≡ s)
still_is true s t x e = let q = parts e in (outcome q.0 refl, (λ w. outcome q.0 refl), sym q.1)
still_is false s t x e = (cc, (λ w. cc), cc)

swap_still : {W : Type 0} (b : Bool) (f : W → Option (ℕ × W)) (s : W) → Swap f (still b) s
swap_still b f s t u x y e h = let i = still_is b t u y h in (s, i.1 s, e ∙ outcome refl (sym i.2))

still_swap : {W : Type 0} (b : Bool) (f : W → Option (ℕ × W)) (s : W) → Swap (still b) f s
still_swap b f s t u x y e h = let i = still_is b s t x e in (u, ap f (sym i.2) ∙ h, i.1 u)

still_possible : {W : Type 0} (b : Bool) (w : W) → b ≡ true → is_some (still b w) ≡ true
still_possible b w e = ap (λ c. is_some (still c w)) e

module _ {W C : Type 0} (cells : Cells W C) (separate : Separate cells) where
  abbrev part : (i : ℕ) → i < cells.count → Part W C
  part i h = record {
    get = λ w. cells.get w i;
    put = λ w c. cells.put w i c;
    get_put = separate.get_put i h;
    put_get = separate.put_get i;
    put_put = separate.put_put i;
  }

  swap_cells : (i j : ℕ) (h : i < cells.count) (k : j < cells.count) (f g : C → Option (ℕ × C)) (w : W) → Swap f g (cells.get w i) → Swap (over (part i h) f) (over (part j k) g) w
  swap_cells i j h k f g w law =
      ⊎_elim
      (λ e. subst (λ (n : ℕ). (l : n < cells.count) → Swap (over (part i h) f) (over (part n l) g) w) e (λ l. swap_over (part i h) f g w law) k)
      (λ ne. swap_apart (part i h) (part j k) (record {
        first_kept = λ w c. separate.other j i ne w c;
        second_kept = λ w c. separate.other i j (λ e. ne (sym e)) w c;
        either_order = λ w c d. separate.either_order i j ne w c d;
      }) f g w)
      (cases_eq i j)

module _ {W C K : Type 0} (m : CellMeaning C K) (cells : Cells W C) where
  -- what the activity that a number names, if any, does at the cell that the parameter p names, where b says whether there is one
  abbrev act : Option K → Bool → ℕ → W → Option (ℕ × W)
  act o b p w = performed_at m cells.put o (cond b (Some (cells.get w (m.place p))) None) w p

  restores_at : Separate cells → (o : Option K) → MatchOption o ⊥ (Undone m) → (p x : ℕ) (s t : W) (b : Bool) → nat_lt (m.place p) cells.count ≡ b → act o b p s ≡ Some (x, t) → taken_back_at m cells.put o (cond b (Some (cells.get t (m.place p))) None) t p x ≡ s
  restores_at separate None law p x s t b lt e = absurd law
  restores_at separate (Some k) law p x s t true lt e =
      let cell = part cells separate (m.place p) (ltb-true (m.place p) cells.count lt) in
      let i = inside cell (m.performed k p) s t x e in
      ap (cells.put t (m.place p)) (law p x (cell.get s) (cell.get t) i.0) ∙ back cell s t i.1
  restores_at separate (Some k) law p x s t false lt e = (still_is (m.anywhere k) s t x e).2

  pub restores : Separate cells → AllByRecursion (Named m (Undone m)) m.listing.compensatables → Restores (on_cells m cells)
  restores separate law s t a x c e =
      restores_at separate (slice_get m.names a.number) (of_listed (Named m (Undone m)) m.listing.compensatables law a.number c) a.parameter x s t (nat_lt (m.place a.parameter) cells.count) refl e

  commutes_at : Separate cells → Free m → (n l p q : ℕ) → matched m.listing.conflicts n l ≡ false → (h k : Option K) → slice_get m.names n ≡ h → slice_get m.names l ≡ k → (b d : Bool) → nat_lt (m.place p) cells.count ≡ b → nat_lt (m.place q) cells.count ≡ d → (s : W) → Swap (act h b p) (act k d q) s
  commutes_at separate law n l p q c None k ih ik b d lb ld s = λ t u x y e f. (s, cc, cc)
  commutes_at separate law n l p q c (Some h) None ih ik b d lb ld s = λ t u x y e f. (s, cc, cc)
  commutes_at separate law n l p q c (Some h) (Some k) ih ik true true lb ld s =
      swap_cells cells separate (m.place p) (m.place q) (ltb-true _ _ lb) (ltb-true _ _ ld) (m.performed h p) (m.performed k q) s (law n l h k ih ik c p q (cells.get s (m.place p)))
  commutes_at separate law n l p q c (Some h) (Some k) ih ik true false lb ld s = swap_still (m.anywhere k) (act (Some h) true p) s
  commutes_at separate law n l p q c (Some h) (Some k) ih ik false d lb ld s = still_swap (m.anywhere h) (act (Some k) d q) s

  pub commutes : Separate cells → Free m → Commutes (on_cells m cells)
  commutes separate law s t u a b x y c e f =
      commutes_at separate law a.number b.number a.parameter b.parameter c (slice_get m.names a.number) (slice_get m.names b.number) refl refl (nat_lt (m.place a.parameter) cells.count) (nat_lt (m.place b.parameter) cells.count) refl refl s t u x y e f

  retries_at : (o : Option K) → MatchOption o ⊥ (Ready m) → (p : ℕ) (s : W) (c : Option C) → is_some (performed_at m cells.put o c s p) ≡ true
  retries_at None law p s c = absurd law
  retries_at (Some k) law p s (Some c) = lifted_possible (cells.put s (m.place p)) _ (law.0 p c)
  retries_at (Some k) law p s None = still_possible (m.anywhere k) s law.1

  pub retries : AllByRecursion (Named m (Ready m)) m.listing.retriables → AlwaysPossible (on_cells m cells)
  retries law s a c =
      retries_at (slice_get m.names a.number) (of_listed (Named m (Ready m)) m.listing.retriables law a.number c) a.parameter s (cell_at cells s (m.place a.parameter))

  -- the listing's test gives the rest
  module _ (passes : proper m.listing ≡ true) where
    pub symmetric : Symmetric (on_cells m cells)
    symmetric = tables.symmetric m.listing passes

    pub bounded : length m.names ≡ 5 → Bounded (on_cells m cells)
    bounded five n above =
        let past : slice_get m.names n ≡ None = slice_get_past m.names n above in
        let over-five : 5 ≤ n = omega (arith, five) in record {
          impossible = λ s a e. ap (λ o. performed_at m cells.put o (cell_at cells s (m.place a.parameter)) s a.parameter) (ap (slice_get m.names) e ∙ past);
          nothing = λ s a x e. ap (λ o. taken_back_at m cells.put o (cell_at cells s (m.place a.parameter)) s a.parameter x) (ap (slice_get m.names) e ∙ past);
          not_compensatable = tables.not_compensatable m.listing passes n over-five;
          not_retriable = tables.not_retriable m.listing passes n over-five;
          without_conflict = λ k. tables.without_conflict m.listing passes n k over-five;
        }
