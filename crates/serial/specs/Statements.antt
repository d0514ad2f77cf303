-- The theorems, over any records R, and any actions A on states S. Each record has an action and an answer.
use Rattle.std.specs.Prelude.{◌≡◌, ℕ, ◌<◌, Bool, true, false, not, List, ◌∷◌, ◌++◌, filter}
use Rattle.std.specs.List.{AllByRecursion}
use Rattle.serial.specs.Sorts.{Pairwise, Sorted, records_of, sort, by_rank, StableSort, StableSortByRank}
use Rattle.serial.specs.Replay.{Replays}
use Rattle.serial.specs.Actions.{Meaning, Performs}

-- Sorting gives the same records, in an order that the comparison allows, and is stable.
abbrev pub SortingSorts : Type 0 → Type 0
SortingSorts R = (first : R → R → Bool) (log : List R) → StableSort first log (sort first log)

abbrev pub SortingByRankSorts : Type 0 → Type 0
SortingByRankSorts R = (rank : R → ℕ) (log : List R) → StableSortByRank rank log (sort (by_rank rank) log)

-- There is one serial order: where only records of one owner tie, two sorted logs that have each owner's records in the same
-- order are the same.
abbrev pub OneSerialOrder : Type 0 → Type 0
OneSerialOrder R =
    (first : R → R → Bool) (owner : R → ℕ) (xs ys : List R)
    → Sorted first xs
    → Sorted first ys
    → ((n : ℕ) → records_of owner n xs ≡ records_of owner n ys)
    → AllByRecursion (λ a. AllByRecursion (λ b. first a b ≡ true → first b a ≡ true → owner a ≡ owner b) ys) xs
    → xs ≡ ys

-- The state in which a log begins is good in the following. So are all that it passes through, in either order.
module _ {A S : Type 0} (M : Meaning A S) (good : S → Type 0) (R : Type 0) where
  -- A log in which two records in the wrong order never conflict replays the same when it is sorted: from the same state to the same
  -- last state, each record possible and with its answer.
  abbrev pub SortingReplays : Type 0
  SortingReplays =
      (action : R → A) (answer : R → ℕ) (first : R → R → Bool) (log : List R) (s t : S)
      → good s
      → Pairwise (λ a b. first a b ≡ false → M.conflict (action a) (action b) ≡ false) log
      → Replays (Performs M action answer) log s t
      → Replays (Performs M action answer) (sort first log) s t

  abbrev pub SortingByRankReplays : Type 0
  SortingByRankReplays =
      (action : R → A) (answer : R → ℕ) (rank : R → ℕ) (log : List R) (s t : S)
      → good s
      → Pairwise (λ a b. rank b < rank a → M.conflict (action a) (action b) ≡ false) log
      → Replays (Performs M action answer) log s t
      → Replays (Performs M action answer) (sort (by_rank rank) log) s t

  -- Where no low record conflicts with one before it that is not low, the low ones can be taken to the front.
  abbrev pub LowOnesFirstReplays : Type 0
  LowOnesFirstReplays =
      (action : R → A) (answer : R → ℕ) (low : R → Bool) (log : List R) (s t : S)
      → good s
      → Pairwise (λ a b. low a ≡ false → low b ≡ true → M.conflict (action a) (action b) ≡ false) log
      → Replays (Performs M action answer) log s t
      → Replays (Performs M action answer) (filter low log ++ filter (λ r. not (low r)) log) s t

  -- A record whose action is compensatable and conflicts with none after it can be taken back from the last state of the log: this
  -- gives the last state of the log without the record, which replays.
  abbrev pub TakingBackReplays : Type 0
  TakingBackReplays =
      (action : R → A) (answer : R → ℕ) (xs : List R) (r : R) (ys : List R) (s t : S)
      → good s
      → M.compensatable (action r) ≡ true
      → AllByRecursion (λ y. M.conflict (action r) (action y) ≡ false) ys
      → Replays (Performs M action answer) (xs ++ r ∷ ys) s t
      → Replays (Performs M action answer) (xs ++ ys) s (M.undone (action r) (answer r) t)
