-- A renumbered station keeps the laws of the station below it.
use Rattle.std.specs.Prelude.{◌≡◌, ℕ, Some, Option, refl}
use Rattle.std.proofs.Common.{sym, ◌∙◌}
use Rattle.std.proofs.Math.Path.{ap}
use Rattle.activity.specs.declared.Activity.{Activity}
use Rattle.station.specs.Meaning.{Meaning, Restores, Commutes, Symmetric, AlwaysPossible, Bounded, lifted}
use Rattle.station.specs.Renumbering.{Renumbered, shifted_by, with_inner, renumbered}
use Rattle.station.specs.Part.{Part, over, inside, back, swap_over, lifted_possible}

abbrev under : {S : Type 0} → Part (Renumbered S) S
under = record {
  get = λ w. w.inner;
  put = with_inner;
  get_put = λ w s. refl;
  put_get = λ w. refl;
  put_put = λ w s t. refl;
}

module _ {S : Type 0} (m : Meaning S) where
  -- what an activity does below, where n is added
  act : ℕ → Activity → S → Option (ℕ × S)
  act n c z = m.performed z (shifted_by n c)

  offset_kept : (s t : Renumbered S) (a : Activity) (x : ℕ) → over under (act s.offset a) s ≡ Some (x, t) → t.offset ≡ s.offset
  offset_kept s t a x e = ap (λ r. r.offset) (inside under (act s.offset a) s t x e).1

  pub restores : Restores m → Restores (renumbered m)
  unfolding act
  restores law s t a x c e =
      let i = inside under (act s.offset a) s t x e in
      ap (λ n. with_inner t (m.taken_back t.inner (shifted_by n a) x)) (offset_kept s t a x e)
      ∙ ap (with_inner t) (law s.inner t.inner (shifted_by s.offset a) x c i.0) ∙ back under s t i.1

  pub commutes : Commutes m → Commutes (renumbered m)
  unfolding act
  commutes law s t u a b x y apart first second =
      let n = s.offset in
      let same = offset_kept s t a x first in
      let swap = swap_over under (act n a) (act n b) s (λ q r i j. law s.inner q r (shifted_by n a) (shifted_by n b) i j apart) t u x y first (ap (λ k. over under (act k b) t) (sym same) ∙ second) in
      (swap.0, swap.1, ap (λ k. over under (act k a) swap.0) (offset_kept s swap.0 b y swap.1) ∙ swap.2)

  pub symmetric : Symmetric m → Symmetric (renumbered m)
  symmetric law = law

  pub retries : AlwaysPossible m → AlwaysPossible (renumbered m)
  retries law s a r = lifted_possible (with_inner s) _ (law s.inner (shifted_by s.offset a) r)

  pub bounded : Bounded m → Bounded (renumbered m)
  bounded law n above = let u = law n above in record {
    impossible = λ s a e. ap (lifted (with_inner s)) (u.impossible s.inner (shifted_by s.offset a) e);
    nothing = λ s a x e. ap (with_inner s) (u.nothing s.inner (shifted_by s.offset a) x e);
    not_compensatable = u.not_compensatable;
    not_retriable = u.not_retriable;
    without_conflict = u.without_conflict;
  }
