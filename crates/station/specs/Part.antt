-- A part of a state: what works on the part alone keeps the laws over the whole state.
use Rattle.std.specs.Prelude.{◌≡◌, ℕ, true, is_some, Some, None, Option, refl}
use Rattle.std.proofs.Common.{sym, ap, ◌∙◌}
use Rattle.station.specs.Meaning.{lifted}

-- a possible outcome, taken apart and put together
pub parts : {S : Type 0} {a x : ℕ} {s t : S} → ◌≡◌ {A = Option (ℕ × S)} (Some (a, s)) (Some (x, t)) → (a ≡ x) × (s ≡ t)
parts {S} {a} {x} {s} {t} e = let q : ◌≡◌ {A = ℕ × S} (a, s) (x, t) = cc in (ap (λ r. r.0) q, ap (λ r. r.1) q)

pub outcome : {S : Type 0} {a x : ℕ} {s t : S} → a ≡ x → s ≡ t → ◌≡◌ {A = Option (ℕ × S)} (Some (a, s)) (Some (x, t))
outcome p q = cc

-- what is possible on a part is possible on the whole
pub lifted_possible : {S W : Type 0} (put : S → W) (o : Option (ℕ × S)) → is_some o ≡ true → is_some (lifted put o) ≡ true
lifted_possible put None e = e
lifted_possible put (Some (x, t)) e = refl

-- a part of W that can be read and replaced
pub record Part (W S : Type 0) : Type 0 where
  pub get : W → S
  pub put : W → S → W
  pub get_put : (w : W) (s : S) → get (put w s) ≡ s
  pub put_get : (w : W) → put w (get w) ≡ w
  pub put_put : (w : W) (s t : S) → put (put w s) t ≡ put w t

-- from the state s, f and then g is possible in the other order too, with the same answers and the same end
abbrev pub Swap : {S : Type 0} → (S → Option (ℕ × S)) → (S → Option (ℕ × S)) → S → Type 0
Swap {S} f g s =
    (t u : S) (x y : ℕ) → f s ≡ Some (x, t) → g t ≡ Some (y, u) → (v : S) × (g s ≡ Some (y, v)) × (f v ≡ Some (x, u))

module _ {W S : Type 0} (p : Part W S) where
  -- what f does to the part, done to the whole
  abbrev pub over : (S → Option (ℕ × S)) → W → Option (ℕ × W)
  over f w = lifted (p.put w) (f (p.get w))

  got : (w u : W) (x : ℕ) (o : Option (ℕ × S)) → lifted (p.put w) o ≡ Some (x, u) → (o ≡ Some (x, p.get u)) × (u ≡ p.put w (p.get u))
  got w u x None e = (cc, cc)
  got w u x (Some (y, t)) e =
      let q = parts e in
      let same : t ≡ p.get u = sym (p.get_put w t) ∙ ap p.get q.1 in
      (outcome q.0 same, sym q.1 ∙ ap (p.put w) same)

  -- what was done to the whole was done to the part, and the rest stayed
  pub inside : (f : S → Option (ℕ × S)) (w u : W) (x : ℕ) → over f w ≡ Some (x, u) → (f (p.get w) ≡ Some (x, p.get u)) × (u ≡ p.put w (p.get u))
  inside f w u x e = got w u x (f (p.get w)) e

  -- a put that takes the part back to what it was takes the whole back
  pub back : (w u : W) → u ≡ p.put w (p.get u) → p.put u (p.get w) ≡ w
  back w u e = ap (λ z. p.put z (p.get w)) e ∙ p.put_put w (p.get u) (p.get w) ∙ p.put_get w

  -- what changes places on the part changes places on the whole
  pub swap_over : (f g : S → Option (ℕ × S)) (w : W) → Swap f g (p.get w) → Swap (over f) (over g) w
  swap_over f g w law t u x y first second =
      let h = inside f w t x first in
      let k = inside g t u y second in
      let s = law (p.get t) (p.get u) x y h.0 k.0 in
      let v = p.put w s.0 in
      let at : p.get v ≡ s.0 = p.get_put w s.0 in
      let end : p.put v (p.get u) ≡ u =
      p.put_put w s.0 (p.get u) ∙ sym (k.1 ∙ ap (λ z. p.put z (p.get u)) h.1 ∙ p.put_put w (p.get t) (p.get u)) in
      (v, ap (lifted (p.put w)) s.1, ap (lifted (p.put v)) (ap f at ∙ s.2) ∙ outcome refl end)

-- two parts that do not touch
pub record Apart {W S R : Type 0} (p : Part W S) (q : Part W R) : Type 0 where
  pub first_kept : (w : W) (r : R) → p.get (q.put w r) ≡ p.get w
  pub second_kept : (w : W) (s : S) → q.get (p.put w s) ≡ q.get w
  pub either_order : (w : W) (s : S) (r : R) → q.put (p.put w s) r ≡ p.put (q.put w r) s

module _ {W S R : Type 0} (p : Part W S) (q : Part W R) (apart : Apart p q) where
  -- on parts that do not touch, anything changes places
  pub swap_apart : (f : S → Option (ℕ × S)) (g : R → Option (ℕ × R)) (w : W) → Swap (over p f) (over q g) w
  swap_apart f g w t u x y first second =
      let h = inside p f w t x first in
      let k = inside q g t u y second in
      let v = q.put w (q.get u) in
      let same : q.get w ≡ q.get t = sym (ap q.get h.1 ∙ apart.second_kept w (p.get t)) in
      let end : p.put v (p.get t) ≡ u =
      sym (apart.either_order w (p.get t) (q.get u)) ∙ sym (k.1 ∙ ap (λ z. q.put z (q.get u)) h.1) in (
        v,
        ap (lifted (q.put w)) (ap g same ∙ k.0),
        ap (lifted (p.put v)) (ap f (apart.first_kept w (q.get u)) ∙ h.0) ∙ outcome refl end,
      )
