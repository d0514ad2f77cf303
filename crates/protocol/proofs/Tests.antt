-- Small facts on tests, and on what a filter keeps and a search finds.
use Rattle.std.proofs.Common.{◌≡◌, ◌+◌, ◌≤◌, Bool, true, false, cond, ◌||◌, List, [], ◌∷◌, map, length, Some, sym, refl, ap, ◌∙◌, filter, arith, ℕ, ◌<◌, not, ◌&&◌, eqb, ltb, leb, ◌⊎◌, inl, inr, ⊎_elim}
use Rattle.std.specs.Option.{option_map}
use Rattle.std.specs.List.{find}
use Rattle.std.proofs.Math.Bool.{or-false}
use Rattle.std.proofs.lemmas.Bool.{cond_both, cond-false, false_from_ne_true, both_ways, and_parts, and_from, or_cases, or_left, or_right, not-true, not_from_false, eqb-true, eq-eqb, ltb-true, lt-ltb, leb-true, le-leb}
use Rattle.std.proofs.lemmas.List.Sums.{length-filter, count_by-le-length}

pub or_off : (b c : Bool) → c ≡ false → (b || c) ≡ b
or_off b c e = ap (λ x. b || x) e ∙ or-false b

-- what is the same of both is the same of the one that is taken
pub cond_same : {X Y : Type 0} (f : X → Y) (b : Bool) (x y : X) → f x ≡ f y → f (cond b x y) ≡ f y
cond_same f b x y e = cond_both b x y (λ z. f z ≡ f y) (λ _. e) (λ _. refl)

-- the test is true just where A holds
pub record Tells (b : Bool) (A : Type 0) : Type 0 where
  pub holds : b ≡ true → A
  pub passes : A → b ≡ true

pub both : {b c : Bool} {A B : Type 0} → Tells b A → Tells c B → Tells (b && c) (A × B)
both {b} {c} x y = record { holds = λ e. let (p, q) = and_parts b c e in (x.holds p, y.holds q); passes = λ h. and_from b c (x.passes h.0) (y.passes h.1) }

pub either : {b c : Bool} {A B : Type 0} → Tells b A → Tells c B → Tells (b || c) (A ⊎ B)
either {b} {c} x y = record { holds = λ e. ⊎_elim (λ p. inl (x.holds p)) (λ q. inr (y.holds q)) (or_cases b c e); passes = λ h. ⊎_elim (λ p. or_left b c (x.passes p)) (λ q. or_right b c (y.passes q)) h }

pub itself : (b : Bool) → Tells b (b ≡ true)
itself b = record { holds = λ e. e; passes = λ e. e }

pub opposite : {b : Bool} {A : Type 0} → Tells b A → Tells (not b) (A → ⊥)
opposite {b} x = record { holds = λ e a. both_ways b (not-true b e) (x.passes a); passes = λ n. not_from_false b (false_from_ne_true b (λ e. n (x.holds e))) }

pub equal : (a b : ℕ) → Tells (eqb a b) (a ≡ b)
equal a b = record { holds = eqb-true a b; passes = eq-eqb a b }

pub at_most : (a b : ℕ) → Tells (leb a b) (a ≤ b)
at_most a b = record { holds = leb-true a b; passes = le-leb a b }

pub less : (a b : ℕ) → Tells (ltb a b) (a < b)
less a b = record { holds = ltb-true a b; passes = lt-ltb a b }

-- the same with other words for it
pub same_as : {b : Bool} {A B : Type 0} → Tells b A → (A → B) → (B → A) → Tells b B
same_as x f g = record { holds = λ e. f (x.holds e); passes = λ y. x.passes (g y) }

module _ {X : Type 0} (t : X → Bool) where
  pub length-kept_cons : (x : X) (xs : List X) → length (filter t (x ∷ xs)) ≡ cond (t x) 1 0 + length (filter t xs)
  length-kept_cons x xs = go (t x)
    where
      go : (b : Bool) → length (cond b (x ∷ filter t xs) (filter t xs)) ≡ cond b 1 0 + length (filter t xs)
      go true = omega arith
      go false = omega arith

  pub length-kept_le : (xs : List X) → length (filter t xs) ≤ length xs
  length-kept_le xs = omega (arith, length-filter t xs, count_by-le-length t xs)

  module _ {Y : Type 0} (u : Y → Bool) (f : X → Y) (same : (x : X) → u (f x) ≡ t x) where
    pub kept_map : (xs : List X) → filter u (map f xs) ≡ map f (filter t xs)
    kept_map [] = refl
    kept_map (x ∷ xs) = ap (λ b. cond b (f x ∷ filter u (map f xs)) (filter u (map f xs))) (same x) ∙ go (t x) (kept_map xs)
      where
        go : (b : Bool) → filter u (map f xs) ≡ map f (filter t xs) → cond b (f x ∷ filter u (map f xs)) (filter u (map f xs)) ≡ map f (cond b (x ∷ filter t xs) (filter t xs))
        go true e = ap (λ l. f x ∷ l) e
        go false e = e

    pub find_mapped : (xs : List X) → find u (map f xs) ≡ option_map f (find t xs)
    find_mapped [] = refl
    find_mapped (x ∷ xs) = ap (λ b. cond b (Some (f x)) (find u (map f xs))) (same x) ∙ go (t x) (find_mapped xs)
      where
        go : (b : Bool) → find u (map f xs) ≡ option_map f (find t xs) → cond b (Some (f x)) (find u (map f xs)) ≡ option_map f (cond b (Some x) (find t xs))
        go true e = refl
        go false e = e

  -- a search among those that are kept
  pub find_kept : (u : X → Bool) → ((x : X) → t x ≡ true → u x ≡ true) → (xs : List X) → find t (filter u xs) ≡ find t xs
  find_kept u keeps [] = refl
  find_kept u keeps (x ∷ xs) = cond_both (u x) (x ∷ filter u xs) (filter u xs) (λ l. find t l ≡ find t (x ∷ xs))
      (λ _. ap (cond (t x) (Some x)) (find_kept u keeps xs))
      (λ off. find_kept u keeps xs ∙ sym (cond-false (t x) (Some x) (find t xs) (false_from_ne_true (t x) (λ e. both_ways (u x) off (keeps x e)))))
