-- The promise, over the run that the functions compute.
use Rattle.std.proofs.Common.{◌≡◌, ℕ, ◌<◌, ◌≤◌, ◌⊎◌, Bool, true, false, cond, eqb, ltb, List, [], ◌∷◌, ◌++◌, map, length, Some, None, Option, sym, refl, ap, ◌∙◌, subst, inl, inr, ⊎_elim, arith}
use Rattle.std.proofs.lemmas.Bool.{eqb-true, cases_eq}
use Rattle.std.proofs.lemmas.List.Sums.{fold-append}
use Rattle.std.proofs.lemmas.List.Concat.{flat_map-append}
use Rattle.serial.specs.Sorts.{Pairwise}
use Rattle.serial.specs.Replay.{Replays}
use Rattle.serial.proofs.Sorting.{sort_sorted, sort_stable}
use Rattle.serial.proofs.Unique.{one_serial_order}
use Rattle.serial.proofs.Theorems.{sorting_replays}
use Rattle.protocol.specs.declared.record.Record.{Record}
use Rattle.station.specs.Meaning.{Meaning}
use Rattle.protocol.specs.declared.answer.Refusal.TheVariants.{LongList}
use Rattle.protocol.specs.Means.{actions, Laws, Does, conflicting}
use Rattle.protocol.specs.Log.{owned, own, to_pivot, orderly, prior, pivoted, group, number}
use Rattle.protocol.specs.Hall.{Hall, fresh}
use Rattle.protocol.specs.Call.{Call, Event, call, scan}
use Rattle.protocol.specs.CallFunction.{singles, all_singles, ends, outcome, one, scanned, calls_of, after, after_all}
use Rattle.protocol.specs.Letters.{call_of}
use Rattle.protocol.specs.declared.scan.Request.{Request}
use Rattle.protocol.proofs.Ranks.{later}
use Rattle.program.specs.Places.{nth}
use Rattle.protocol.specs.Statements.{Agree, Orderly, without_commit_number, Begins, Fixed}
use Rattle.protocol.proofs.Computed.{hall_after, book_after, history}
use Rattle.protocol.proofs.Members.{pairs_from, all_from, before_first, before_second}
use Rattle.std.specs.List.{AllByRecursion, cons_option}
use Rattle.protocol.proofs.Sound.{Sound}
use Rattle.protocol.proofs.StandingChanges.{sound_fresh}
use Rattle.protocol.proofs.History.{history_is, sound_events}
use Rattle.protocol.proofs.PivotsStay.{grows_ends, pivot_begins, begins_map, begins_more}
use Rattle.protocol.proofs.LogChanges.{any_state, commuting}
use Rattle.protocol.proofs.Ties.{prior_tells, tied, in_own}

-- records of one process stand together
prior_kin : (piv : ℕ → Bool) (a b : Record) → a.start ≡ b.start → a.commit ≡ b.commit → prior piv a b ≡ true
prior_kin piv a b s c = (prior_tells piv a b).passes (inr (same, omega (arith, alike)))
  where
    same : group piv a ≡ group piv b
    same = λ i. cond (eqb (c i) 0) (cond (piv (s i)) 1 2) 0

    alike : number a ≡ number b
    alike = λ i. cond (eqb (c i) 0) (s i) (c i)

-- the comparison is an order, so sorting sorts
total : (piv : ℕ → Bool) (a b : Record) → prior piv a b ≡ false → prior piv b a ≡ true
total piv a b e =
    let l = later piv a b e in
    let low = l.low in
    (prior_tells piv b a).passes (⊎_elim
    (λ (same : group piv b ≡ group piv a). let less = l.within (sym same) in inr (same, omega arith))
    (λ (apart : group piv b ≡ group piv a → ⊥). inl (omega arith))
    (cases_eq (group piv b) (group piv a)))

transitive : (piv : ℕ → Bool) (a b c : Record) → prior piv a b ≡ true → prior piv b c ≡ true → prior piv a c ≡ true
transitive piv a b c e f = (prior_tells piv a c).passes (go ((prior_tells piv a b).holds e) ((prior_tells piv b c).holds f))
  where
    go : (group piv a < group piv b) ⊎ ((group piv a ≡ group piv b) × (number a ≤ number b)) → (group piv b < group piv c) ⊎ ((group piv b ≡ group piv c) × (number b ≤ number c)) → (group piv a < group piv c) ⊎ ((group piv a ≡ group piv c) × (number a ≤ number c))
    go (inl x) (inl y) = inl (omega arith)
    go (inl x) (inr y) = inl (omega (arith, y.0))
    go (inr x) (inl y) = inl (omega (arith, x.0))
    go (inr x) (inr y) = inr (x.0 ∙ y.0, omega (arith, x.1, y.1))

sorted_orderly : (log : List Record) → Pairwise (λ a b. prior (pivoted log) a b ≡ true) (orderly log)
sorted_orderly log = sort_sorted (prior (pivoted log)) (total (pivoted log)) (transitive (pivoted log)) log

singles_append : (es more : List Event) → all_singles (es ++ more) ≡ all_singles es ++ all_singles more
singles_append es more = flat_map-append singles es more

module _ {S : Type 0} (M : Meaning S) where
  ends_append : (h : Hall S) (cs ds : List Call) → ends M h (cs ++ ds) ≡ ends M (ends M h cs) ds
  ends_append h cs ds = fold-append (λ g c. (outcome M g c).hall) h cs ds

  scan_is : (h : Hall S) (rs : List Request) → (scanned M h rs).hall ≡ ends M h (calls_of rs)
  scan_is h [] = refl
  scan_is h (r ∷ rs) = go (call_of r) (λ g. scan_is g rs)
    where
      go : (o : Option Call) → ((g : Hall S) → (scanned M g rs).hall ≡ ends M g (calls_of rs)) → (scanned M (one M h o).hall rs).hall ≡ ends M h (cons_option o (calls_of rs))
      go None again = again h
      go (Some c) again = again (outcome M h c).hall

  after_is : (h : Hall S) (e : Event) → after M h e ≡ ends M h (singles e)
  after_is h (call c) = refl
  after_is h (scan rs) = go (ltb 64 (length rs))
    where
      go : (b : Bool) → (cond b record { hall = h; records = rs; refusal = Some LongList } (scanned M h rs)).hall ≡ ends M h (cond b [] (calls_of rs))
      go true = refl
      go false = scan_is h rs

  pub all_is : (h : Hall S) (es : List Event) → after_all M h es ≡ ends M h (all_singles es)
  all_is h [] = refl
  all_is h (e ∷ es) = all_is (after M h e) es ∙ ap (λ g. ends M g (all_singles es)) (after_is h e) ∙ sym (ends_append h (singles e) (all_singles es))

module _ {S : Type 0} (M : Meaning S) (laws : Laws M) where
  sound_after : (s : S) (es : List Event) → Sound M s (hall_after M s es)
  sound_after s es = sound_events M laws s (fresh s) (sound_fresh M s) es

  kept_is : (s : S) (es : List Event) → (book_after M s es).kept ≡ (hall_after M s es).log
  kept_is s es = ap (λ b. b.kept) (history_is M laws s (fresh s) (sound_fresh M s) es)

  sorted_runs : (s : S) (h : Hall S) → Sound M s h → Replays (Does M) (orderly h.log) s h.station
  sorted_runs s h sound =
      sorting_replays (actions M) (λ _. Unit {0}) (any_state M laws s) (commuting M laws s) (λ r. r.activity) (λ r. r.answer) (prior (pivoted h.log)) h.log s h.station tt
      (pairs_from (λ a b. prior (pivoted h.log) a b ≡ false → conflicting M a b ≡ false) h.log sound.order)
      sound.replay

  own_orderly : (n : ℕ) (s : S) (h : Hall S) → Sound M s h → own n (orderly h.log) ≡ own n h.log
  own_orderly n s h sound = sort_stable (prior (pivoted h.log)) (owned n) h.log
      (pairs_from (λ a b. owned n a ≡ true → owned n b ≡ true → prior (pivoted h.log) a b ≡ true) h.log
      (λ a b i p q. let e = eqb-true a.start n p ∙ sym (eqb-true b.start n q) in prior_kin (pivoted h.log) a b e (sound.kin a b (before_first a b h.log i) (before_second a b h.log i) e)))

  -- and no other run is orderly
  one_orderly : (s : S) (h : Hall S) → Sound M s h → (run : List Record) → Orderly h.log run → run ≡ orderly h.log
  one_orderly s h sound run o =
      one_serial_order (prior (pivoted h.log)) (λ r. r.start) run (orderly h.log) o.sorted (sorted_orderly h.log) (λ n. o.each n ∙ sym (own_orderly n s h sound))
      (all_from (λ a. AllByRecursion (λ b. prior (pivoted h.log) a b ≡ true → prior (pivoted h.log) b a ≡ true → a.start ≡ b.start) (orderly h.log)) run λ a i. all_from (λ b. prior (pivoted h.log) a b ≡ true → prior (pivoted h.log) b a ≡ true → a.start ≡ b.start) (orderly h.log) λ b j. tied (pivoted h.log) a b (sound.numbers a b (in_own run h.log o.each a i) (in_own (orderly h.log) h.log (λ n. own_orderly n s h sound) b j)))

  pub agrees : (s : S) (es : List Event) → Agree M s (history M (fresh s) es) (hall_after M s es)
  agrees s es = record {
    same = sym (kept_is s es);
    only = subst (λ l. (run : List Record) → Orderly l run → run ≡ orderly l) (sym (kept_is s es)) (one_orderly s (hall_after M s es) (sound_after s es));
    ordered = subst (λ l. Orderly l (orderly l)) (sym (kept_is s es)) record { each = λ n. own_orderly n s (hall_after M s es) (sound_after s es); sorted = sorted_orderly (hall_after M s es).log };
    runs = subst (λ l. Replays (Does M) (orderly l) s (hall_after M s es).station) (sym (kept_is s es)) (sorted_runs s (hall_after M s es) (sound_after s es));
    asked = λ i. ap (λ l. nth (orderly l) i) (sym (kept_is s es));
  }

  own_kept : (n : ℕ) (s : S) (es : List Event) → own n (orderly (book_after M s es).kept) ≡ own n (hall_after M s es).log
  own_kept n s es = ap (λ l. own n (orderly l)) (kept_is s es) ∙ own_orderly n s (hall_after M s es) (sound_after s es)

  pub stays : (s : S) (es more : List Event) (n : ℕ) → Fixed (history M (fresh s) es) (history M (fresh s) (es ++ more)) n
  stays s es more n =
      let later : hall_after M s (es ++ more) ≡ ends M (hall_after M s es) (all_singles more) = all_is M (fresh s) (es ++ more) ∙ ap (ends M (fresh s)) (singles_append es more) ∙ ends_append M (fresh s) (all_singles es) (all_singles more) ∙ ap (λ g. ends M g (all_singles more)) (sym (all_is M (fresh s) es)) in
      let log = (hall_after M s es).log in
      let log' = (ends M (hall_after M s es) (all_singles more)).log in
      let goes = begins_more (map without_commit_number (to_pivot (own n log))) (map without_commit_number (to_pivot (own n log'))) (map without_commit_number (own n log')) (grows_ends M (hall_after M s es) (all_singles more) n) (begins_map without_commit_number (to_pivot (own n log')) (own n log') (pivot_begins (own n log'))) in
      subst (λ l. Begins (map without_commit_number (to_pivot l)) (map without_commit_number (own n (orderly (book_after M s (es ++ more)).kept)))) (sym (own_kept n s es))
      (subst (λ l. Begins (map without_commit_number (to_pivot (own n log))) (map without_commit_number l)) (sym (own_kept n s (es ++ more) ∙ ap (λ h. own n h.log) later)) goes)

-- one call more, for code that keeps track of the calls on it
pub one_more : {S : Type 0} (M : Meaning S) (s : S) (es : List Event) (e : Event) → hall_after M s (es ++ e ∷ []) ≡ after M (hall_after M s es) e
one_more M s es e = fold-append (after M) (fresh s) es (e ∷ [])
