-- Sorting is a stable sort: the same records, sorted, and records that pass a test stay in their order.
use Rattle.std.proofs.Common.{◌≡◌, ℕ, ◌≤◌, Bool, true, false, cond, not, ◌||◌, eqb, List, [], ◌∷◌, ◌++◌, filter, refl, ap, ◌∙◌, arith}
use Rattle.std.specs.List.Sorted.{IsPermutation}
use Rattle.std.specs.List.{AllByRecursion}
use Rattle.std.proofs.lemmas.List.Sorted.{IsPermutation-refl, IsPermutation-cons, IsPermutation-trans, IsPermutation-swap}
use Rattle.std.proofs.lemmas.Bool.{both_ways, leb-true, leb-false, le-leb, eqb-true}
use Rattle.serial.specs.Sorts.{Pairwise, Total, Transitive, Sorted, insert, sort, by_rank, low_first, StableSort, StableSortByRank}
use Rattle.serial.proofs.Lists.{all_weaker, all_permuted, all_pass, pairs_weaker, pairs_of}

module _ {R : Type 0} where
  -- ---- the same records
  pub insert_permutes : (first : R → R → Bool) (r : R) (xs : List R) → IsPermutation (r ∷ xs) (insert first r xs)
  insert_permutes first r [] = IsPermutation-refl (r ∷ [])
  insert_permutes first r (x ∷ xs) = go (first r x) (insert_permutes first r xs)
    where
      go : (b : Bool) → IsPermutation (r ∷ xs) (insert first r xs) → IsPermutation (r ∷ x ∷ xs) (cond b (r ∷ x ∷ xs) (x ∷ insert first r xs))
      go true rest = IsPermutation-refl (r ∷ x ∷ xs)
      go false rest =
          IsPermutation-trans (r ∷ x ∷ xs) (x ∷ r ∷ xs) (x ∷ insert first r xs)
          (IsPermutation-swap (r ∷ x ∷ xs) (x ∷ r ∷ xs) 0 1 (omega arith) (omega arith) refl)
          (IsPermutation-cons x (r ∷ xs) (insert first r xs) rest)

  pub sort_permutes : (first : R → R → Bool) (log : List R) → IsPermutation log (sort first log)
  sort_permutes first [] = IsPermutation-refl []
  sort_permutes first (r ∷ rs) =
      IsPermutation-trans (r ∷ rs) (r ∷ sort first rs) (insert first r (sort first rs)) (IsPermutation-cons r rs (sort first rs) (sort_permutes first rs)) (insert_permutes first r (sort first rs))

  pub all_insert : (P : R → Type 0) (first : R → R → Bool) (r : R) (xs : List R) → P r → AllByRecursion P xs → AllByRecursion P (insert first r xs)
  all_insert P first r xs p all = all_permuted P (r ∷ xs) (insert first r xs) (insert_permutes first r xs) (p, all)

  pub all_sort : (P : R → Type 0) (first : R → R → Bool) (log : List R) → AllByRecursion P log → AllByRecursion P (sort first log)
  all_sort P first log all = all_permuted P log (sort first log) (sort_permutes first log) all

  -- ---- sorted
  module _ (first : R → R → Bool) (total : Total first) (transitive : Transitive first) where
    pub insert_sorted : (r : R) (xs : List R) → Sorted first xs → Sorted first (insert first r xs)
    insert_sorted r [] sorted = (tt, tt)
    insert_sorted r (x ∷ xs) sorted = go (first r x) refl (insert_sorted r xs sorted.1)
      where
        go : (b : Bool) → first r x ≡ b → Sorted first (insert first r xs) → Sorted first (cond b (r ∷ x ∷ xs) (x ∷ insert first r xs))
        go true e rest = ((e, all_weaker (λ y. first x y ≡ true) (λ y. first r y ≡ true) (λ y. transitive r x y e) xs sorted.0), sorted)
        go false e rest = (all_insert (λ y. first x y ≡ true) first r xs (total r x e) sorted.0, rest)

    pub sort_sorted : (log : List R) → Sorted first (sort first log)
    sort_sorted [] = tt
    sort_sorted (r ∷ rs) = insert_sorted r (sort first rs) (sort_sorted rs)

  -- ---- stable
  -- r goes only past records that do not pass the test with it
  pub insert_stable : (first : R → R → Bool) (p : R → Bool) (r : R) (xs : List R) → AllByRecursion (λ x. p r ≡ true → p x ≡ true → first r x ≡ true) xs → filter p (insert first r xs) ≡ filter p (r ∷ xs)
  insert_stable first p r [] stay = refl
  insert_stable first p r (x ∷ xs) stay = go (first r x) refl (insert_stable first p r xs stay.1)
    where
      kept : List R
      kept = filter p xs

      exchange : (b c : Bool) → (b ≡ true → c ≡ true → ⊥) → cond c (x ∷ cond b (r ∷ kept) kept) (cond b (r ∷ kept) kept) ≡ cond b (r ∷ cond c (x ∷ kept) kept) (cond c (x ∷ kept) kept)
      exchange true true apart = absurd (apart refl refl)
      exchange true false apart = refl
      exchange false true apart = refl
      exchange false false apart = refl

      go : (b : Bool) → first r x ≡ b → filter p (insert first r xs) ≡ filter p (r ∷ xs) → filter p (cond b (r ∷ x ∷ xs) (x ∷ insert first r xs)) ≡ filter p (r ∷ x ∷ xs)
      go true e rest = refl
      go false e rest =
          ap (λ l. cond (p x) (x ∷ l) l) rest ∙ exchange (p r) (p x) (λ mine other. both_ways (first r x) e (stay.0 mine other))

  pub sort_stable : (first : R → R → Bool) (p : R → Bool) (log : List R) → Pairwise (λ a b. p a ≡ true → p b ≡ true → first a b ≡ true) log → filter p (sort first log) ≡ filter p log
  sort_stable first p [] stay = refl
  sort_stable first p (r ∷ rs) stay =
      insert_stable first p r (sort first rs) (all_sort (λ x. p r ≡ true → p x ≡ true → first r x ≡ true) first rs stay.0)
      ∙ ap (λ l. cond (p r) (r ∷ l) l) (sort_stable first p rs stay.1)

  pub sort_sorts : (first : R → R → Bool) (log : List R) → StableSort first log (sort first log)
  sort_sorts first log = record {
    permuted = sort_permutes first log;
    sorted = λ total transitive. sort_sorted first total transitive log;
    stable = λ p. sort_stable first p log;
  }

  -- ---- by rank
  module _ (rank : R → ℕ) where
    pub rank_total : Total (by_rank rank)
    rank_total a b e = le-leb (rank b) (rank a) (omega (arith, leb-false (rank a) (rank b) e))

    pub rank_transitive : Transitive (by_rank rank)
    rank_transitive a b c e f = le-leb (rank a) (rank c) (omega (arith, leb-true (rank a) (rank b) e, leb-true (rank b) (rank c) f))

    pub sort_by_rank_sorts : (log : List R) → StableSortByRank rank log (sort (by_rank rank) log)
    sort_by_rank_sorts log = record {
      permuted = sort_permutes (by_rank rank) log;
      sorted = pairs_weaker (λ a b. by_rank rank a b ≡ true) (λ a b. rank a ≤ rank b) (λ a b e. leb-true (rank a) (rank b) e) (sort (by_rank rank) log) (sort_sorted (by_rank rank) rank_total rank_transitive log);
      stable = λ n. sort_stable (by_rank rank) (λ r. eqb (rank r) n) log (pairs_of
          (λ a b. eqb (rank a) n ≡ true → eqb (rank b) n ≡ true → by_rank rank a b ≡ true)
          (λ a b e f. le-leb (rank a) (rank b) (omega (arith, eqb-true (rank a) n e, eqb-true (rank b) n f))) log);
    }

  -- ---- two ranks
  module _ (low : R → Bool) where
    insert_low : (r : R) (xs : List R) → low r ≡ true → insert (low_first low) r xs ≡ r ∷ xs
    insert_low r [] e = refl
    insert_low r (x ∷ xs) e = ap (λ b. cond (b || not (low x)) (r ∷ x ∷ xs) (x ∷ insert (low_first low) r xs)) e

    insert_high : (r : R) (xs ys : List R) → low r ≡ false → AllByRecursion (λ x. low x ≡ true) xs → AllByRecursion (λ y. not (low y) ≡ true) ys → insert (low_first low) r (xs ++ ys) ≡ xs ++ r ∷ ys
    insert_high r [] [] e lows highs = refl
    insert_high r [] (y ∷ ys) e lows highs =
        ap (λ b. cond (b || not (low y)) (r ∷ y ∷ ys) (y ∷ insert (low_first low) r ys)) e
        ∙ ap (λ b. cond b (r ∷ y ∷ ys) (y ∷ insert (low_first low) r ys)) highs.0
    insert_high r (x ∷ xs) ys e lows highs =
        ap (λ b. cond (b || not (low x)) (r ∷ x ∷ (xs ++ ys)) (x ∷ insert (low_first low) r (xs ++ ys))) e
        ∙ ap (λ b. cond (not b) (r ∷ x ∷ (xs ++ ys)) (x ∷ insert (low_first low) r (xs ++ ys))) lows.0
        ∙ ap (λ l. x ∷ l) (insert_high r xs ys e lows.1 highs)

    -- the low ones, and then the others
    pub sort_low_first : (log : List R) → sort (low_first low) log ≡ filter low log ++ filter (λ r. not (low r)) log
    sort_low_first [] = refl
    sort_low_first (r ∷ rs) = ap (insert (low_first low) r) (sort_low_first rs) ∙ go (low r) refl
      where
        lows : List R
        lows = filter low rs

        highs : List R
        highs = filter (λ x. not (low x)) rs

        go : (b : Bool) → low r ≡ b → insert (low_first low) r (lows ++ highs) ≡ cond b (r ∷ lows) lows ++ cond (not b) (r ∷ highs) highs
        go true e = insert_low r (lows ++ highs) e
        go false e = insert_high r lows highs e (all_pass low rs) (all_pass (λ x. not (low x)) rs)
