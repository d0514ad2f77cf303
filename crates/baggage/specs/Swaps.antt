-- When two activities on one cell may change places.
use Rattle.std.specs.Prelude.{◌≡◌, ℕ, Some, None, Option, ◌≢◌, refl}
use Rattle.std.proofs.Common.{sym, ap, ◌∙◌}
use Rattle.station.specs.Meaning.{lifted}
use Rattle.station.specs.Part.{Swap, parts, outcome}

module _ {C : Type 0} where
  -- the second is never possible after the first
  pub never : (f g : C → Option (ℕ × C)) (s : C) → ((t u : C) (x y : ℕ) → f s ≡ Some (x, t) → g t ≢ Some (y, u)) → Swap f g s
  never f g s no_way t u x y e h = absurd (no_way t u x y e h)

  -- an activity twice, where both give one answer
  pub twice : (f : C → Option (ℕ × C)) (s : C) → ((t u : C) (x y : ℕ) → f s ≡ Some (x, t) → f t ≡ Some (y, u) → x ≡ y) → Swap f f s
  twice f s steady t u x y e h = let same = steady t u x y e h in (t, e ∙ outcome same refl, h ∙ outcome (sym same) refl)

  -- an activity that only reads, and one that keeps what it reads
  module _ (g : C → ℕ) (f : C → Option (ℕ × C)) (s : C) (keeps : (t u : C) (x : ℕ) → f t ≡ Some (x, u) → g u ≡ g t) where
    pub read_first : Swap (λ c. Some (g c, c)) f s
    read_first t u x y e h =
        let q = parts e in
        let i = ap f q.1 ∙ h in
        (u, i, outcome (keeps s u y i ∙ q.0) refl)

    pub read_second : Swap f (λ c. Some (g c, c)) s
    read_second t u x y e h = let q = parts h in (s, outcome (sym (keeps s t x e) ∙ q.0) refl, e ∙ outcome refl q.1)

  module _ (mark : C → C) where
    lifted_is : (o : Option (ℕ × C)) (y : ℕ) (u : C) → lifted mark o ≡ Some (y, u) → (v : C) × (o ≡ Some (y, v)) × (mark v ≡ u)
    lifted_is None y u e = (u, cc, cc)
    lifted_is (Some (z, v)) y u e = let q = parts e in (v, outcome q.0 refl, q.1)

    -- a mark, and an activity that neither reads nor moves it
    module _ (f : C → Option (ℕ × C)) (blind : (c : C) → f (mark c) ≡ lifted mark (f c)) where
      pub mark_first : (s : C) → Swap (λ c. Some (0, mark c)) f s
      mark_first s t u x y e h =
          let q = parts e in
          let i = lifted_is (f s) y u (sym (blind s) ∙ ap f q.1 ∙ h) in
          (i.0, i.1, outcome q.0 i.2)

      pub mark_second : (s : C) → Swap f (λ c. Some (0, mark c)) s
      mark_second s t u x y e h =
          let q = parts h in (mark s, outcome q.0 refl, blind s ∙ ap (lifted mark) e ∙ outcome refl q.1)
