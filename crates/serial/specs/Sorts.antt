-- Lists of records, and sorting them by any comparison.
use Rattle.std.specs.Prelude.{◌≡◌, ℕ, ◌≤◌, Bool, true, false, cond, not, ◌||◌, List, [], ◌∷◌, filter, nat_eq, nat_le}
use Rattle.std.specs.List.Sorted.{IsPermutation}
use Rattle.std.specs.List.{AllByRecursion}

-- P holds of each two of which the first stands before the second, next to it or not
abbrev pub Pairwise : {R : Type 0} → (R → R → Type 0) → List R → Type 0
Pairwise P [] = Unit {0}
Pairwise P (x ∷ xs) = AllByRecursion (P x) xs × Pairwise P xs

-- ---- comparisons
-- A comparison is any test `first a b`, read: a may stand before b. Two records that may each stand before the other tie.

-- of any two, one may stand before the other
abbrev pub Total : {R : Type 0} → (R → R → Bool) → Type 0
Total {R} first = (a b : R) → first a b ≡ false → first b a ≡ true

abbrev pub Transitive : {R : Type 0} → (R → R → Bool) → Type 0
Transitive {R} first = (a b c : R) → first a b ≡ true → first b c ≡ true → first a c ≡ true

-- each record may stand before all that stand after it
abbrev pub Sorted : {R : Type 0} → (R → R → Bool) → List R → Type 0
Sorted first log = Pairwise (λ a b. first a b ≡ true) log

-- ---- sorting
-- r goes before the first record that it may stand before
abbrev pub insert : {R : Type 0} → (R → R → Bool) → R → List R → List R
insert first r [] = r ∷ []
insert first r (x ∷ xs) = cond (first r x) (r ∷ x ∷ xs) (x ∷ insert first r xs)

-- insertion sort: from the last record back, each is inserted among those after it, and so does not go past one that it ties with
abbrev pub sort : {R : Type 0} → (R → R → Bool) → List R → List R
sort first [] = []
sort first (r ∷ rs) = insert first r (sort first rs)

-- the lower rank first
abbrev pub by_rank : {R : Type 0} → (R → ℕ) → R → R → Bool
by_rank rank a b = nat_le (rank a) (rank b)

-- two ranks: the low ones first
abbrev pub low_first : {R : Type 0} → (R → Bool) → R → R → Bool
low_first low a b = low a || not (low b)

-- ---- what a sort is
-- the records of an owner, or of a rank, in the order of the log
abbrev pub records_of : {R : Type 0} → (R → ℕ) → ℕ → List R → List R
records_of owner n log = filter (λ r. nat_eq (owner r) n) log

-- `serial` is `log`, stably sorted by a comparison
pub record StableSort {R : Type 0} (first : R → R → Bool) (log serial : List R) : Type 0 where
  -- the same records: exchanges of two places lead from the one list to the other
  pub permuted : IsPermutation log serial
  pub sorted : Total first → Transitive first → Sorted first serial
  -- Records that pass a test, as being one owner's, stay in their order where each of them may stand before those after it.
  pub stable : (p : R → Bool) → Pairwise (λ a b. p a ≡ true → p b ≡ true → first a b ≡ true) log → filter p serial ≡ filter p log

-- the same, by rank
pub record StableSortByRank {R : Type 0} (rank : R → ℕ) (log serial : List R) : Type 0 where
  pub permuted : IsPermutation log serial
  pub sorted : Pairwise (λ a b. rank a ≤ rank b) serial
  pub stable : (n : ℕ) → records_of rank n serial ≡ records_of rank n log
