-- A catalogue's table against its listing: one test over the whole table, and the rule that it gives at each number.
use Rattle.std.specs.Prelude.{◌≡◌, ℕ, zero, suc, ◌+◌, ◌<◌, ◌≤◌, Bool, true, false, cond, ◌&&◌, List, [], ◌∷◌, Some, ◌==◌, nat_lt, slice_index_or, refl}
use Rattle.std.proofs.Common.{ap, sym, subst, ◌∙◌, ⊎_elim, add-zero, zero-add, add-suc, suc-add, arith}
use Rattle.std.proofs.lemmas.Bool.{and_parts, and_left, and_right, or_cases, eqb-true, le-ltb, false≢true, cases_eq, cases_lt}
use Rattle.std.specs.List.{AllByRecursion}
use Rattle.std.proofs.lemmas.Bool.Decides.{nat_tests}
use Rattle.baggage.specs.declared.catalogue.Catalogue.{Catalogue}
use Rattle.baggage.specs.Tabled.{Listing, listed, matched, neither, kind_at, conflict_at, each_below, alike, all_below, pairs_below, proper, agrees, Agreed}
use Rattle.std.specs.Prelude.{slice_get}

-- ---- what a test says at each number

below : (n : ℕ) (f : ℕ → Bool) → each_below n f ≡ true → (k : ℕ) → k < n → f k ≡ true
below zero f t k h = absurd (omega arith)
below (suc n) f t k h = grind (arith, nat_tests, below n f, cases_eq k n)

below_both : (f : ℕ → ℕ → Bool) → each_below 5 (λ a. each_below 5 (f a)) ≡ true → (a b : ℕ) → a < 5 → b < 5 → f a b ≡ true
below_both f t a b h k = below 5 (f a) (below 5 (λ a. each_below 5 (f a)) t a h) b k

alike_same : (a b : Bool) → alike a b ≡ true → a ≡ b
alike_same true b e = sym e
alike_same false true e = e
alike_same false false e = refl

past_listed : (ks : List ℕ) (n : ℕ) → all_below 5 ks ≡ true → 5 ≤ n → listed ks n ≡ false
past_listed [] n t h = refl
past_listed (k ∷ ks) n t h = grind (arith, nat_tests, past_listed ks n)

past_first : (ps : List (ℕ × ℕ)) (a b : ℕ) → pairs_below 5 ps ≡ true → 5 ≤ a → matched ps a b ≡ false
past_first [] a b t h = refl
past_first ((k, l) ∷ ps) a b t h = grind (arith, nat_tests, past_first ps a b)

past_second : (ps : List (ℕ × ℕ)) (a b : ℕ) → pairs_below 5 ps ≡ true → 5 ≤ b → matched ps a b ≡ false
past_second [] a b t h = refl
past_second ((k, l) ∷ ps) a b t h = grind (arith, nat_tests, past_second ps a b)

-- ---- a proper listing

module _ (l : Listing) (passes : proper l ≡ true) where
  limits : (all_below 5 l.compensatables && (all_below 5 l.retriables && pairs_below 5 l.conflicts) ≡ true) × (each_below 5 (λ a. each_below 5 (λ b. alike (matched l.conflicts a b) (matched l.conflicts b a))) ≡ true)
  limits = and_parts _ _ passes

  limited : (all_below 5 l.compensatables ≡ true) × (all_below 5 l.retriables && pairs_below 5 l.conflicts ≡ true)
  limited = and_parts _ _ limits.0

  limited_rest : (all_below 5 l.retriables ≡ true) × (pairs_below 5 l.conflicts ≡ true)
  limited_rest = and_parts _ _ limited.1

  pub not_compensatable : (n : ℕ) → 5 ≤ n → listed l.compensatables n ≡ false
  not_compensatable n h = past_listed l.compensatables n limited.0 h

  pub not_retriable : (n : ℕ) → 5 ≤ n → listed l.retriables n ≡ false
  not_retriable n h = past_listed l.retriables n limited_rest.0 h

  pub without_conflict : (n k : ℕ) → 5 ≤ n → matched l.conflicts n k ≡ false
  without_conflict n k h = past_first l.conflicts n k limited_rest.1 h

  pub without_conflict_either : (n k : ℕ) → 5 ≤ k → matched l.conflicts n k ≡ false
  without_conflict_either n k h = past_second l.conflicts n k limited_rest.1 h

  pub symmetric : (a b : ℕ) → matched l.conflicts a b ≡ matched l.conflicts b a
  symmetric a b =
      grind (arith, cases_lt a 5, cases_lt b 5, alike_same, below_both (λ a b. alike (matched l.conflicts a b) (matched l.conflicts b a)) limits.1 a b, without_conflict, without_conflict_either)

-- ---- a table that agrees with a listing has at every number what is listed

module _ (t : Catalogue) (l : Listing) (passes : agrees t l ≡ true) where
  is_proper : proper l ≡ true
  is_proper = (and_parts _ _ passes).0

  entries : (each_below 5 (λ a. alike (kind_at t a).compensatable (listed l.compensatables a) && alike (kind_at t a).retriable (listed l.retriables a)) ≡ true) × (each_below 5 (λ a. each_below 5 (λ b. alike (conflict_at t a b) (matched l.conflicts a b))) ≡ true)
  entries = and_parts _ _ (and_parts _ _ passes).1

  kinds_at : (a : ℕ) → a < 5 → (alike (kind_at t a).compensatable (listed l.compensatables a) ≡ true) × (alike (kind_at t a).retriable (listed l.retriables a) ≡ true)
  kinds_at a h =
      and_parts _ _ (below 5 (λ a. alike (kind_at t a).compensatable (listed l.compensatables a) && alike (kind_at t a).retriable (listed l.retriables a)) entries.0 a h)

  beyond : (n : ℕ) → 5 ≤ n → kind_at t n ≡ neither
  beyond n h = ap (λ b. cond b (slice_index_or t.kinds n neither) neither) (le-ltb n 5 h)

  beyond_first : (a b : ℕ) → 5 ≤ a → conflict_at t a b ≡ false
  beyond_first a b h =
      ap (λ c. cond c (slice_index_or (slice_index_or t.conflicts a []) b false) false) (and_left (nat_lt a 5) (nat_lt b 5) (le-ltb a 5 h))

  beyond_second : (a b : ℕ) → 5 ≤ b → conflict_at t a b ≡ false
  beyond_second a b h =
      ap (λ c. cond c (slice_index_or (slice_index_or t.conflicts a []) b false) false) (and_right (nat_lt a 5) (nat_lt b 5) (le-ltb b 5 h))

  pub agreed : Agreed t l
  agreed = record {
    compensatable = λ n. grind (arith, cases_lt n 5, alike_same, kinds_at n, beyond n, not_compensatable l is_proper n);
    retriable = λ n. grind (arith, cases_lt n 5, alike_same, kinds_at n, beyond n, not_retriable l is_proper n);
    conflict = λ a b.
        ⊎_elim
        (λ h.
        ⊎_elim (λ k. alike_same _ _ (below_both (λ a b. alike (conflict_at t a b) (matched l.conflicts a b)) entries.1 a b h k))
        (λ k. beyond_second a b k ∙ sym (without_conflict_either l is_proper a b k))
        (cases_lt b 5))
        (λ h. beyond_first a b h ∙ sym (without_conflict l is_proper a b h))
        (cases_lt a 5);
  }

-- ---- a test over a list of activities, with their numbers

-- the test f passes at each entry and its place, counted from i
abbrev pub every : {X : Type 0} → (ℕ → X → Bool) → ℕ → List X → Bool
every f i [] = true
every f i (x ∷ xs) = f i x && every f (suc i) xs

from : {X : Type 0} (f : ℕ → X → Bool) (xs : List X) (i n : ℕ) (x : X) → every f i xs ≡ true → slice_get xs n ≡ Some x → f (i + n) x ≡ true
from f [] i n x t e = cc
from f (y ∷ xs) i zero x t e = let same : y ≡ x = cc in rw (add-zero, ← same) (and_parts (f i y) (every f (suc i) xs) t).0
from f (y ∷ xs) i (suc n) x t e = rw (add-suc, ← suc-add) (from f xs (suc i) n x (and_parts (f i y) (every f (suc i) xs) t).1 e)

pub at : {X : Type 0} (f : ℕ → X → Bool) (xs : List X) → every f 0 xs ≡ true → (n : ℕ) (x : X) → slice_get xs n ≡ Some x → f n x ≡ true
at f xs t n x e = subst (λ (k : ℕ). f k x ≡ true) (zero-add n) (from f xs 0 n x t e)

-- what holds of each number of a list holds of one that is listed
pub of_listed : (P : ℕ → Type 0) (ks : List ℕ) → AllByRecursion P ks → (n : ℕ) → listed ks n ≡ true → P n
of_listed P [] a n e = absurd (false≢true e)
of_listed P (k ∷ ks) a n e =
    ⊎_elim (λ h. subst P (sym (eqb-true n k h)) a.0) (of_listed P ks a.1 n) (or_cases (n == k) (listed ks n) e)
