-- The theorems of `specs/Statements.antt`.
use Rattle.std.proofs.Common.{◌≡◌, ℕ, false, not, ◌++◌, sym, subst}
use Rattle.std.proofs.lemmas.Bool.{leb-false, or_parts, not-false}
use Rattle.serial.specs.Sorts.{low_first, by_rank}
use Rattle.serial.specs.Replay.{Replays, Closed, Swap}
use Rattle.serial.specs.Actions.{Meaning, KeepsGood, Commutes, Restores, Performs}
use Rattle.serial.specs.Statements.{SortingReplays, SortingByRankReplays, LowOnesFirstReplays, TakingBackReplays}
use Rattle.serial.proofs.Lists.{pairs_weaker}
use Rattle.serial.proofs.Sorting.{sort_low_first}
use Rattle.serial.proofs.Replaying.{sort_replays, take_back}

module _ {A S : Type 0} (M : Meaning A S) (good : S → Type 0) (closed : KeepsGood M good) (commutes : Commutes M good) {R : Type 0} where
  module _ (action : R → A) (answer : R → ℕ) where
    -- the laws of actions, at records
    pub closed_records : Closed (Performs M action answer) good
    closed_records r s t = closed (action r) (answer r) s t

    pub swap_records : Swap (Performs M action answer) (λ a b. M.conflict (action a) (action b)) good
    swap_records a b s m t = commutes (action a) (action b) (answer a) (answer b) s m t

  pub sorting_replays : SortingReplays M good R
  sorting_replays action answer =
      sort_replays (Performs M action answer) good (closed_records action answer) (λ a b. M.conflict (action a) (action b)) (swap_records action answer)

  pub sorting_by_rank_replays : SortingByRankReplays M good R
  sorting_by_rank_replays action answer rank log s t start free =
      sorting_replays action answer (by_rank rank) log s t start
      (pairs_weaker _ (λ a b. by_rank rank a b ≡ false → M.conflict (action a) (action b) ≡ false) (λ a b f e. f (leb-false (rank a) (rank b) e)) log free)

  pub low_ones_first_replays : LowOnesFirstReplays M good R
  low_ones_first_replays action answer low log s t start free replay =
      subst (λ l. Replays (Performs M action answer) l s t) (sort_low_first low log)
      (sorting_replays action answer (low_first low) log s t start
      (pairs_weaker _ (λ a b. low_first low a b ≡ false → M.conflict (action a) (action b) ≡ false) (λ a b f e. let (x, y) = or_parts (low a) (not (low b)) e in f x (not-false (low b) y)) log free)
      replay)

  pub taking_back_replays : Restores M good → TakingBackReplays M good R
  taking_back_replays restores action answer xs r ys s t start compensatable free replay =
      let (u, back, rest) =
      take_back (Performs M action answer) good (closed_records action answer) (λ a b. M.conflict (action a) (action b)) (swap_records action answer)
      r (λ t u. M.undone (action r) (answer r) t ≡ u) (λ u t fine did. restores (action r) (answer r) u t fine compensatable did)
      xs ys s t start free replay in
      subst (λ v. Replays (Performs M action answer) (xs ++ ys) s v) (sym back) rest
