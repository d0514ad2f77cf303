-- Records that do not conflict change places in a log, and the log replays as before.
use Rattle.std.proofs.Common.{◌≡◌, Bool, true, false, cond, List, [], ◌∷◌, ◌++◌, refl, subst}
use Rattle.std.specs.List.{AllByRecursion}
use Rattle.serial.specs.Sorts.{Pairwise, insert, sort}
use Rattle.serial.specs.Replay.{Replays, Closed, Swap}
use Rattle.serial.proofs.Sorting.{all_sort}

module _ {R S : Type 0} (Step : R → S → S → Type 0) where
  -- a log in two parts
  pub replay_append : (xs ys : List R) (s m t : S) → Replays Step xs s m → Replays Step ys m t → Replays Step (xs ++ ys) s t
  replay_append [] ys s m t front back = rw front back
  replay_append (x ∷ xs) ys s m t front back = (front.0, front.1, replay_append xs ys front.0 m t front.2 back)

  pub replay_apart : (xs ys : List R) (s t : S) → Replays Step (xs ++ ys) s t → (m : S) × Replays Step xs s m × Replays Step ys m t
  replay_apart [] ys s t replay = (s, refl, replay)
  replay_apart (x ∷ xs) ys s t replay =
      let (m, front, back) = replay_apart xs ys replay.0 t replay.2 in
      (m, (replay.0, replay.1, front), back)

  pub replay_push : (xs : List R) (r : R) (s m t : S) → Replays Step xs s m → Step r m t → Replays Step (xs ++ r ∷ []) s t
  replay_push xs r s m t front did = replay_append xs (r ∷ []) s m t front (t, did, refl)

  module _ (Good : S → Type 0) (closed : Closed Step Good) where
    pub good_after : (log : List R) (s t : S) → Good s → Replays Step log s t → Good t
    good_after [] s t good replay = subst Good replay good
    good_after (r ∷ rs) s t good replay = good_after rs replay.0 t (closed r s replay.0 good replay.1) replay.2

    module _ (conflict : R → R → Bool) (swap : Swap Step conflict Good) where
      -- a record goes towards the end, past those that it may not stand before, and does not conflict with
      insert_replays : (first : R → R → Bool) (r : R) (xs : List R) (s t : S) → Good s → AllByRecursion (λ x. first r x ≡ false → conflict r x ≡ false) xs → Replays Step (r ∷ xs) s t → Replays Step (insert first r xs) s t
      insert_replays first r [] s t good free replay = replay
      insert_replays first r (x ∷ xs) s t good free replay = go (first r x) refl (λ k good'. insert_replays first r xs k t good' free.1)
        where
          go : (b : Bool) → first r x ≡ b → ((k : S) → Good k → Replays Step (r ∷ xs) k t → Replays Step (insert first r xs) k t) → Replays Step (cond b (r ∷ x ∷ xs) (x ∷ insert first r xs)) s t
          go true e rest = replay
          go false e rest =
              let (m, did, after) = replay in
              let (n, did', others) = after in
              let (k, sooner, later) = swap r x s m n good (free.0 e) did did' in
              (k, sooner, rest k (closed x s k good sooner) (n, later, others))

      pub sort_replays : (first : R → R → Bool) (log : List R) (s t : S) → Good s → Pairwise (λ a b. first a b ≡ false → conflict a b ≡ false) log → Replays Step log s t → Replays Step (sort first log) s t
      sort_replays first [] s t good free replay = replay
      sort_replays first (r ∷ rs) s t good free replay =
          let (m, did, rest) = replay in
          insert_replays first r (sort first rs) s t good
          (all_sort (λ x. first r x ≡ false → conflict r x ≡ false) first rs free.0)
          (m, did, sort_replays first rs m t (closed r s m good did) free.1 rest)

      -- a record goes to the end, past those that it does not conflict with
      pub to_end : (r : R) (ys : List R) (s t : S) → Good s → AllByRecursion (λ y. conflict r y ≡ false) ys → Replays Step (r ∷ ys) s t → (u : S) × Replays Step ys s u × Step r u t
      to_end r [] s t good free replay = (s, refl, subst (Step r s) replay.2 replay.1)
      to_end r (y ∷ ys) s t good free replay =
          let (m, did, after) = replay in
          let (n, did', others) = after in
          let (k, sooner, later) = swap r y s m n good free.0 did did' in
          let (u, rest, last) = to_end r ys k t (closed y s k good sooner) free.1 (n, later, others) in
          (u, (k, sooner, rest), last)

      -- there, it can be taken back: `Back t u` says that taking r back in t gives u
      pub take_back : (r : R) (Back : S → S → Type 0) → ((u t : S) → Good u → Step r u t → Back t u)
          → (xs ys : List R) (s t : S) → Good s → AllByRecursion (λ y. conflict r y ≡ false) ys → Replays Step (xs ++ r ∷ ys) s t
          → (u : S) × Back t u × Replays Step (xs ++ ys) s u
      take_back r Back restores xs ys s t good free replay =
          let (m, front, after) = replay_apart xs (r ∷ ys) s t replay in
          let good' = good_after xs s m good front in
          let (u, rest, last) = to_end r ys m t good' free after in
          (u, restores u t (good_after ys m u good' rest) last, replay_append xs ys s m u front rest)
