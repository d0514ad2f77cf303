-- An activity performed and taken back at once: what is left, and by the first law that it is what was before.
use Rattle.std.proofs.Common.{◌≡◌, ℕ, true, Some, None, Option, sym, refl, ◌∙◌}
use Rattle.activity.specs.declared.Activity.{Activity}
use Rattle.station.specs.Meaning.{Meaning, Restores, answer_of, state_after}
use Rattle.station.specs.Part.{outcome}
use Rattle.station_tests.specs.Rehearsal.{rehearsed_state}

module _ {S : Type 0} (m : Meaning S) where
  left_by_outcome : (s t u : S) (a : Activity) (x : ℕ) (o : Option (ℕ × S)) → Some x ≡ answer_of o → t ≡ state_after s o → u ≡ m.taken_back t a x → u ≡ rehearsed_state m s a o
  left_by_outcome s t u a x None e f back = cc
  left_by_outcome s t u a x (Some (y, v)) e f back = cc

  pub left : (s t u : S) (a : Activity) (x : ℕ) → Some x ≡ answer_of (m.performed s a) → t ≡ state_after s (m.performed s a) → u ≡ m.taken_back t a x → u ≡ rehearsed_state m s a (m.performed s a)
  left s t u a x = left_by_outcome s t u a x (m.performed s a)

module _ {S : Type 0} (m : Meaning S) (law : Restores m) where
  by_outcome : (s t u : S) (a : Activity) (x : ℕ) (o : Option (ℕ × S)) → m.performed s a ≡ o → m.compensatable a.number ≡ true → Some x ≡ answer_of o → t ≡ state_after s o → u ≡ m.taken_back t a x → u ≡ s
  by_outcome s t u a x None is c e f back = cc
  by_outcome s t u a x (Some (y, v)) is c e f back =
      let same : y ≡ x = cc in back ∙ law s t a x c (is ∙ outcome same (sym f))

  pub rehearsed : (s t u : S) (a : Activity) (x : ℕ) → m.compensatable a.number ≡ true → Some x ≡ answer_of (m.performed s a) → t ≡ state_after s (m.performed s a) → u ≡ m.taken_back t a x → u ≡ s
  rehearsed s t u a x = by_outcome s t u a x (m.performed s a) refl
