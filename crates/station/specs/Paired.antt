-- A pair keeps the laws of its two stations.
use Rattle.std.specs.Prelude.{◌≡◌, ℕ, ◌-◌, ◌≤◌, true, false, cond, is_some, Some, None, Option, nat_lt, refl}
use Rattle.std.proofs.Common.{ap, ◌∙◌, arith}
use Rattle.std.proofs.lemmas.Bool.{le-ltb}
use Rattle.activity.specs.declared.Activity.{Activity}
use Rattle.station.specs.declared.pair.Half.{Half}
use Rattle.station.specs.declared.pair.Half.TheVariants.{First, Second}
use Rattle.station.specs.Meaning.{Meaning, Restores, Commutes, Symmetric, AlwaysPossible, Bounded}
use Rattle.station.specs.Pair.{Both, half, numbered, with_first, with_second, performed_in, taken_back_in, compensatable_in, retriable_in, conflict_in, paired}
use Rattle.station.specs.Part.{Part, Apart, inside, back, swap_over, swap_apart, lifted_possible}

module _ {A B : Type 0} where
  abbrev left : Part (Both A B) A
  left = record { get = λ w. w.first; put = with_first; get_put = λ w s. refl; put_get = λ w. refl; put_put = λ w s t. refl }

  abbrev right : Part (Both A B) B
  right = record { get = λ w. w.second; put = with_second; get_put = λ w s. refl; put_get = λ w. refl; put_put = λ w s t. refl }

  abbrev left_right : Apart left right
  left_right = record { first_kept = λ w r. refl; second_kept = λ w s. refl; either_order = λ w s r. refl }

  abbrev right_left : Apart right left
  right_left = record { first_kept = λ w r. refl; second_kept = λ w s. refl; either_order = λ w s r. refl }

-- numbers from 64 on belong to neither half
half_above : (n : ℕ) → 64 ≤ n → half n ≡ None
half_above n h =
    ap (λ b. cond b (Some (First n)) (cond (nat_lt n 64) (Some (Second (n - 32))) None)) (le-ltb n 32 (omega arith))
    ∙ ap (λ b. cond b (Some (Second (n - 32))) None) (le-ltb n 64 h)

module _ {A B : Type 0} (m : Meaning A) (n : Meaning B) where
  restores_in : Restores m → Restores n → (h : Option Half) (s t : Both A B) (a : Activity) (x : ℕ) → compensatable_in m n h ≡ true → performed_in m n h s a ≡ Some (x, t) → taken_back_in m n h t a x ≡ s
  restores_in l r (Some (First k)) s t a x c e =
      let i = inside left (λ z. m.performed z (numbered k a)) s t x e in
      ap (with_first t) (l s.first t.first (numbered k a) x c i.0) ∙ back left s t i.1
  restores_in l r (Some (Second k)) s t a x c e =
      let i = inside right (λ z. n.performed z (numbered k a)) s t x e in
      ap (with_second t) (r s.second t.second (numbered k a) x c i.0) ∙ back right s t i.1
  restores_in l r None s t a x c e = cc

  pub restores : Restores m → Restores n → Restores (paired m n)
  restores l r s t a x c e = restores_in l r (half a.number) s t a x c e

  commutes_in : Commutes m → Commutes n → (h k : Option Half) (s t u : Both A B) (a b : Activity) (x y : ℕ) → conflict_in m n h k ≡ false → performed_in m n h s a ≡ Some (x, t) → performed_in m n k t b ≡ Some (y, u) → (v : Both A B) × (performed_in m n k s b ≡ Some (y, v)) × (performed_in m n h v a ≡ Some (x, u))
  commutes_in l r (Some (First h)) (Some (First k)) s t u a b x y c e f =
      swap_over left (λ z. m.performed z (numbered h a)) (λ z. m.performed z (numbered k b)) s (λ t u x y. l s.first t u (numbered h a) (numbered k b) x y c) t u x y e f
  commutes_in l r (Some (First h)) (Some (Second k)) s t u a b x y c e f =
      swap_apart left right left_right (λ z. m.performed z (numbered h a)) (λ z. n.performed z (numbered k b)) s t u x y e f
  commutes_in l r (Some (First h)) None s t u a b x y c e f = (s, cc, cc)
  commutes_in l r (Some (Second h)) (Some (First k)) s t u a b x y c e f =
      swap_apart right left right_left (λ z. n.performed z (numbered h a)) (λ z. m.performed z (numbered k b)) s t u x y e f
  commutes_in l r (Some (Second h)) (Some (Second k)) s t u a b x y c e f =
      swap_over right (λ z. n.performed z (numbered h a)) (λ z. n.performed z (numbered k b)) s (λ t u x y. r s.second t u (numbered h a) (numbered k b) x y c) t u x y e f
  commutes_in l r (Some (Second h)) None s t u a b x y c e f = (s, cc, cc)
  commutes_in l r None k s t u a b x y c e f = (s, cc, cc)

  pub commutes : Commutes m → Commutes n → Commutes (paired m n)
  commutes l r s t u a b x y c e f = commutes_in l r (half a.number) (half b.number) s t u a b x y c e f

  symmetric_in : Symmetric m → Symmetric n → (h k : Option Half) → conflict_in m n h k ≡ conflict_in m n k h
  symmetric_in l r (Some (First h)) (Some (First k)) = l h k
  symmetric_in l r (Some (First h)) (Some (Second k)) = refl
  symmetric_in l r (Some (First h)) None = refl
  symmetric_in l r (Some (Second h)) (Some (First k)) = refl
  symmetric_in l r (Some (Second h)) (Some (Second k)) = r h k
  symmetric_in l r (Some (Second h)) None = refl
  symmetric_in l r None (Some (First k)) = refl
  symmetric_in l r None (Some (Second k)) = refl
  symmetric_in l r None None = refl

  pub symmetric : Symmetric m → Symmetric n → Symmetric (paired m n)
  symmetric l r h k = symmetric_in l r (half h) (half k)

  retries_in : AlwaysPossible m → AlwaysPossible n → (h : Option Half) (s : Both A B) (a : Activity) → retriable_in m n h ≡ true → is_some (performed_in m n h s a) ≡ true
  retries_in l r (Some (First k)) s a c = lifted_possible (with_first s) _ (l s.first (numbered k a) c)
  retries_in l r (Some (Second k)) s a c = lifted_possible (with_second s) _ (r s.second (numbered k a) c)
  retries_in l r None s a c = c

  pub retries : AlwaysPossible m → AlwaysPossible n → AlwaysPossible (paired m n)
  retries l r s a c = retries_in l r (half a.number) s a c

  pub bounded : Bounded (paired m n)
  bounded k above = let away = half_above k above in record {
    impossible = λ s a e. ap (λ h. performed_in m n h s a) (ap half e ∙ away);
    nothing = λ s a x e. ap (λ h. taken_back_in m n h s a x) (ap half e ∙ away);
    not_compensatable = ap (compensatable_in m n) away;
    not_retriable = ap (retriable_in m n) away;
    without_conflict = λ l. ap (λ h. conflict_in m n h (half l)) away;
  }
