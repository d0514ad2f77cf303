-- A step comes to just one thing: what the rules allow.
use Rattle.std.proofs.Common.{◌≡◌, ℕ, suc, Bool, true, false, cond, not, ◌&&◌, ◌⊎◌, List, [], ◌∷◌, ◌++◌, map, Some, None, Option, sym, refl, ap, ◌∙◌, subst, inl, inr, ⊎_elim, Ok}
use Rattle.std.proofs.lemmas.Bool.{true≢false, false≢true, eq-eqb, ne_eqb, both_ways, cases_Bool}
use Rattle.activity.specs.declared.Activity.{Activity}
use Rattle.protocol.specs.declared.record.Record.{Record}
use Rattle.protocol.specs.declared.standing.Standing.{Standing}
use Rattle.protocol.specs.declared.standing.Aim.TheVariants.{Restart, End}
use Rattle.protocol.specs.declared.standing.Direction.TheVariants.{Forward, Back}
use Rattle.protocol.specs.declared.standing.Standing.TheVariants.{Running, Withdrawing, PastPivot}
use Rattle.protocol.specs.declared.answer.Turn.{Turn}
use Rattle.protocol.specs.declared.answer.Turn.TheVariants as turns
use Rattle.protocol.specs.declared.answer.Served.TheVariants.{Stepped}
use Rattle.station.specs.Meaning.{Meaning}
use Rattle.program.specs.Positions.{Position, alternative_of}
use Rattle.protocol.specs.Ahead.{Next, nothing, plain, crossing, next}
use Rattle.protocol.specs.Log.{Split, or_here, last_of, unless_pivot, returnable}
use Rattle.protocol.specs.Hall.{Process, Hall, least, past_pivot, with_processes, going_back, Outcome, answered, standing_after, failed}
use Rattle.protocol.specs.StepFunction.{blocks_back, blocks_plain, blocks_pivot, blocks_alone, blocks_commit, everybody, nobody, pivot_marks, marked, waits, unless_blocked, performed, restarted, gone, next_alternative, undone, committing, backward, forward, by_standing}
use Rattle.protocol.specs.Relation.{Retreats, Advances, Past, ToTakeBack, NoneToTakeBack, BlocksBack, BlocksPlain, BlocksPivot, BlocksCommit, Nobody, Free, free_plain, free_pivot, Steps, waits_back, takes_back, restarts, leaves, takes_next_alternative, waits_plain, waits_alone, waits_pivot, performs, fails, waits_commit, commits}
use Rattle.protocol.specs.Exact.{Exact}
use Rattle.protocol.proofs.LastRecords.{NotOf, Loose, LooseIs, loose_is}
use Rattle.protocol.proofs.CallCases.{by_blockers}
use Rattle.protocol.proofs.Blocking.{back_tells, plain_tells, pivot_tells, pivot_marks_tell, everybody_tells, alone_tells, commit_tells, nobody_from, smallest_from, nobody_to, smallest_to, marked_from, marked_to, unmarked}

-- the record to take back is the one that is found

none_last : (n : ℕ) (log : List Record) → NotOf n log → last_of n log ≡ None
none_last n [] free = refl
none_last n (r ∷ rs) free = ap (or_here n r rs) (none_last n rs (λ x i. free x (inr i))) ∙ ap (λ b. cond b (Some record { before = []; at = r; after = rs }) None) (ne_eqb r.start n (free r (inl refl)))

pub last_here : (n : ℕ) (before : List Record) (at : Record) (after : List Record) → at.start ≡ n → NotOf n after → last_of n (before ++ at ∷ after) ≡ Some record { before = before; at = at; after = after }
last_here n [] at after e free = ap (or_here n at after) (none_last n after free) ∙ ap (λ b. cond b (Some record { before = []; at = at; after = after }) None) (eq-eqb at.start n e)
last_here n (x ∷ xs) at after e free = ap (or_here n x (xs ++ at ∷ after)) (last_here n xs at after e free)

loose_to : (n : ℕ) (log : List Record) (z : Split) → ToTakeBack n log z → returnable n log ≡ Some z
loose_to n log z t = ap (returnable n) t.whole ∙ ap unless_pivot (last_here n z.before z.at z.after t.owner t.last) ∙ ap (λ b. cond b None (Some z)) t.plain

loose_from : (n : ℕ) (log : List Record) (z : Split) → Loose n log z → ToTakeBack n log z
loose_from n log z l = record { whole = l.last.whole; owner = l.last.owner; last = l.last.after; plain = l.plain }

loose_some : (n : ℕ) (log : List Record) (z : Split) → returnable n log ≡ Some z → ToTakeBack n log z
loose_some n log z e = loose_from n log z (subst (LooseIs n log) e (loose_is n log))

loose_none : (n : ℕ) (log : List Record) → returnable n log ≡ None → NoneToTakeBack n log
loose_none n log e z t = Rattle.std.proofs.lemmas.Option.none-some _ (sym e ∙ loose_to n log z t)

none_loose : (n : ℕ) (log : List Record) → NoneToTakeBack n log → returnable n log ≡ None
none_loose n log free = go (returnable n log) refl
  where
    go : (o : Option Split) → returnable n log ≡ o → returnable n log ≡ None
    go None e = e
    go (Some z) e = absurd (free z (loose_some n log z e))

module _ {S : Type 0} (M : Meaning S) (h : Hall S) (p : Process) where
  -- allowed
  abbrev Came : Outcome S → Type 0
  Came o = (t : Turn) × (o.answer ≡ Ok (Stepped t)) × Steps M h p o.hall t

  unmarked_hall : (t : Process → Bool) → with_processes h (map (marked (λ q. t q && nobody q)) h.processes) ≡ h
  unmarked_hall t = ap (with_processes h) (unmarked t h.processes)

  came_performed : Advances p.standing → (pivot : Bool) (a : Activity) (to : Position) → Free M h p pivot a to → (o : Option (ℕ × S)) → M.performed h.station a ≡ o → Came (performed h p pivot a to o)
  came_performed adv pivot a to free None e = (turns.Failed, refl, fails adv free e)
  came_performed adv pivot a to free (Some d) e = (turns.Done d.0, refl, performs adv free e)

  came_plain : Advances p.standing → (a : Activity) (to : Position) → next p.at ≡ plain a to → Came (forward M h p (plain a to))
  came_plain adv a to e = by_blockers M h Came (blocks_plain M.conflict h.log p a) everybody (performed h p false a to (M.performed h.station a))
      (λ l. came_performed adv false a to (free_plain e (nobody_from M p (blocks_plain M.conflict h.log p a) (BlocksPlain M h p a) (plain_tells M p h a) h l)) (M.performed h.station a) refl)
      (λ n l. (turns.Wait n, refl, waits_plain adv e (smallest_from M p (blocks_plain M.conflict h.log p a) (BlocksPlain M h p a) (plain_tells M p h a) h n l) (marked_from M p (λ q. blocks_plain M.conflict h.log p a q && everybody q) (BlocksPlain M h p a) (everybody_tells M p (blocks_plain M.conflict h.log p a) (BlocksPlain M h p a) (plain_tells M p h a)) h.processes)))

  came_pivot : Advances p.standing → (a : Activity) (to : Position) → next p.at ≡ crossing a to → ((Past p → ⊥) → Nobody h p Past) → Came (unless_blocked h (blocks_pivot M.conflict h.log p a) (pivot_marks p) (performed h p true a to (M.performed h.station a)))
  came_pivot adv a to e alone = by_blockers M h Came (blocks_pivot M.conflict h.log p a) (pivot_marks p) (performed h p true a to (M.performed h.station a))
      (λ l. came_performed adv true a to (free_pivot e alone (nobody_from M p (blocks_pivot M.conflict h.log p a) (BlocksPivot M h p a) (pivot_tells M p h a) h l)) (M.performed h.station a) refl)
      (λ n l. (turns.Wait n, refl, waits_pivot adv e alone (smallest_from M p (blocks_pivot M.conflict h.log p a) (BlocksPivot M h p a) (pivot_tells M p h a) h n l) (marked_from M p (λ q. blocks_pivot M.conflict h.log p a q && pivot_marks p q) (λ q. BlocksPivot M h p a q × (Past p ⊎ (Prim.Native.Nat.◌<◌ p.start q.start))) (pivot_marks_tell M p h a) h.processes)))

  -- nobody waits for another past its pivot who is past one himself
  alone_past : past_pivot p.standing ≡ true → least (blocks_alone p) h.processes ≡ None
  alone_past past = go h.processes
    where
      go : (ps : List Process) → least (blocks_alone p) ps ≡ None
      go [] = refl
      go (q ∷ qs) = ap (λ b. Rattle.protocol.specs.Hall.lower b q.start (least (blocks_alone p) qs)) (Rattle.std.proofs.lemmas.Bool.and_right (Rattle.protocol.specs.StepFunction.other p q) (not (past_pivot p.standing) && past_pivot q.standing) (ap (λ b. not b && past_pivot q.standing) past)) ∙ go qs

  runs_when : (st : Standing) → Advances st → past_pivot st ≡ false → st ≡ Running
  runs_when Running a e = refl
  runs_when (Withdrawing aim) a e = absurd a
  runs_when (PastPivot way) a e = absurd (true≢false e)

  came_crossing : Advances p.standing → (a : Activity) (to : Position) → next p.at ≡ crossing a to → Came (forward M h p (crossing a to))
  came_crossing adv a to e = ⊎_elim past run (cases_Bool (past_pivot p.standing))
    where
      on : Outcome S
      on = unless_blocked h (blocks_pivot M.conflict h.log p a) (pivot_marks p) (performed h p true a to (M.performed h.station a))

      past : past_pivot p.standing ≡ true → Came (forward M h p (crossing a to))
      past is = subst (λ o. Came (waits h (blocks_alone p) nobody on o)) (sym (alone_past is)) (came_pivot adv a to e (λ off. absurd (off is)))

      run : past_pivot p.standing ≡ false → Came (forward M h p (crossing a to))
      run is = by_blockers M h Came (blocks_alone p) nobody on
          (λ l. came_pivot adv a to e (λ off. nobody_from M p (blocks_alone p) Past (alone_tells M p is) h l))
          (λ n l. (turns.Wait n, refl, subst (λ g. Steps M h p g (turns.Wait n)) (sym (unmarked_hall (blocks_alone p))) (waits_alone (runs_when p.standing adv is) e (smallest_from M p (blocks_alone p) Past (alone_tells M p is) h n l))))

  came_commit : Advances p.standing → next p.at ≡ nothing → Came (forward M h p nothing)
  came_commit adv e = by_blockers M h Came (blocks_commit M.conflict h.log p) nobody (committing h p)
      (λ l. (turns.Committed (suc h.committed), refl, commits adv e (nobody_from M p (blocks_commit M.conflict h.log p) (BlocksCommit M h p) (commit_tells M p h) h l)))
      (λ n l. (turns.Wait n, refl, subst (λ g. Steps M h p g (turns.Wait n)) (sym (unmarked_hall (blocks_commit M.conflict h.log p))) (waits_commit adv e (smallest_from M p (blocks_commit M.conflict h.log p) (BlocksCommit M h p) (commit_tells M p h) h n l))))

  came_forward : Advances p.standing → (x : Next) → next p.at ≡ x → Came (forward M h p x)
  came_forward adv nothing e = came_commit adv e
  came_forward adv (plain a to) e = came_plain adv a to e
  came_forward adv (crossing a to) e = came_crossing adv a to e

  came_backward : Retreats p.standing → (on : Outcome S) → (NoneToTakeBack p.start h.log → Came on) → (o : Option Split) → returnable p.start h.log ≡ o → Came (backward M h p on o)
  came_backward ret on none None e = none (loose_none p.start h.log e)
  came_backward ret on none (Some z) e = by_blockers M h Came (blocks_back M.conflict p z) everybody (undone M h z)
      (λ l. (turns.Undone z.at.activity.number, refl, takes_back ret (loose_some p.start h.log z e) (nobody_from M p (blocks_back M.conflict p z) (BlocksBack M z) (back_tells M p z) h l)))
      (λ n l. (turns.Wait n, refl, waits_back ret (loose_some p.start h.log z e) (smallest_from M p (blocks_back M.conflict p z) (BlocksBack M z) (back_tells M p z) h n l) (marked_from M p (λ q. blocks_back M.conflict p z q && everybody q) (BlocksBack M z) (everybody_tells M p (blocks_back M.conflict p z) (BlocksBack M z) (back_tells M p z)) h.processes)))

  came : (st : Standing) → p.standing ≡ st → Came (by_standing M h p st)
  came Running e = came_forward (subst Advances (sym e) tt) (next p.at) refl
  came (PastPivot Forward) e = came_forward (subst Advances (sym e) refl) (next p.at) refl
  came (PastPivot Back) e = came_backward (subst Retreats (sym e) refl) (next_alternative h p) (λ none. (turns.Next (suc (alternative_of p.at)), refl, takes_next_alternative e none)) (returnable p.start h.log) refl
  came (Withdrawing Restart) e = came_backward (subst Retreats (sym e) tt) (restarted h p) (λ none. (turns.Restarted, refl, restarts e none)) (returnable p.start h.log) refl
  came (Withdrawing End) e = came_backward (subst Retreats (sym e) tt) (gone h p) (λ none. (turns.Gone, refl, leaves e none)) (returnable p.start h.log) refl

  -- and nothing else is

  advancing : (st : Standing) → Advances st → by_standing M h p st ≡ forward M h p (next p.at)
  advancing Running a = refl
  advancing (Withdrawing aim) a = absurd a
  advancing (PastPivot Forward) a = refl
  advancing (PastPivot Back) a = absurd (true≢false (ap going_back a))

  retreating_to : (z : Split) → returnable p.start h.log ≡ Some z → (st : Standing) → Retreats st → by_standing M h p st ≡ unless_blocked h (blocks_back M.conflict p z) everybody (undone M h z)
  retreating_to z e Running r = absurd r
  retreating_to z e (Withdrawing Restart) r = ap (backward M h p (restarted h p)) e
  retreating_to z e (Withdrawing End) r = ap (backward M h p (gone h p)) e
  retreating_to z e (PastPivot Back) r = ap (backward M h p (next_alternative h p)) e
  retreating_to z e (PastPivot Forward) r = absurd (false≢true (ap going_back r))

  Is : Outcome S → Type 0
  Is o = o ≡ by_standing M h p p.standing

  forwards : Advances p.standing → (x : Next) → next p.at ≡ x → (o : Outcome S) → o ≡ forward M h p x → Is o
  unfolding Is
  forwards adv x e o is = is ∙ ap (forward M h p) (sym e) ∙ sym (advancing p.standing adv)

  alone_none : ((Past p → ⊥) → Nobody h p Past) → least (blocks_alone p) h.processes ≡ None
  alone_none alone = ⊎_elim alone_past (λ run. nobody_to M p (blocks_alone p) Past (alone_tells M p run) h (alone (λ past. both_ways (past_pivot p.standing) run past))) (cases_Bool (past_pivot p.standing))

  freed : Advances p.standing → (pivot : Bool) (a : Activity) (to : Position) → Free M h p pivot a to → (o : Option (ℕ × S)) → M.performed h.station a ≡ o → Is (performed h p pivot a to o)
  unfolding Is
  freed adv false a to (free_plain e none) o d =
      forwards adv (plain a to) e (performed h p false a to o)
      (ap (performed h p false a to) (sym d) ∙ sym (ap (waits h (blocks_plain M.conflict h.log p a) everybody (performed h p false a to (M.performed h.station a))) (nobody_to M p (blocks_plain M.conflict h.log p a) (BlocksPlain M h p a) (plain_tells M p h a) h none)))
  freed adv true a to (free_pivot e alone none) o d =
      forwards adv (crossing a to) e (performed h p true a to o)
      (ap (performed h p true a to) (sym d)
      ∙ sym (ap (waits h (blocks_pivot M.conflict h.log p a) (pivot_marks p) (performed h p true a to (M.performed h.station a))) (nobody_to M p (blocks_pivot M.conflict h.log p a) (BlocksPivot M h p a) (pivot_tells M p h a) h none))
      ∙ sym (ap (waits h (blocks_alone p) nobody (unless_blocked h (blocks_pivot M.conflict h.log p a) (pivot_marks p) (performed h p true a to (M.performed h.station a)))) (alone_none alone)))

  only : (g : Hall S) (t : Turn) → Steps M h p g t → Is (answered g (Ok (Stepped t)))
  unfolding Is
  only g t (waits_back {z} {n} {ps} ret take small marks) =
      ap (λ l. answered (with_processes h l) (Ok (Stepped (turns.Wait n)))) (marked_to M p (λ q. blocks_back M.conflict p z q && everybody q) (BlocksBack M z) (everybody_tells M p (blocks_back M.conflict p z) (BlocksBack M z) (back_tells M p z)) h.processes ps marks)
      ∙ sym (ap (waits h (blocks_back M.conflict p z) everybody (undone M h z)) (smallest_to M p (blocks_back M.conflict p z) (BlocksBack M z) (back_tells M p z) h n small))
      ∙ sym (retreating_to z (loose_to p.start h.log z take) p.standing ret)
  only g t (takes_back {z} ret take none) =
      sym (ap (waits h (blocks_back M.conflict p z) everybody (undone M h z)) (nobody_to M p (blocks_back M.conflict p z) (BlocksBack M z) (back_tells M p z) h none))
      ∙ sym (retreating_to z (loose_to p.start h.log z take) p.standing ret)
  only g t (restarts e none) = sym (ap (by_standing M h p) e ∙ ap (backward M h p (restarted h p)) (none_loose p.start h.log none))
  only g t (leaves e none) = sym (ap (by_standing M h p) e ∙ ap (backward M h p (gone h p)) (none_loose p.start h.log none))
  only g t (takes_next_alternative e none) = sym (ap (by_standing M h p) e ∙ ap (backward M h p (next_alternative h p)) (none_loose p.start h.log none))
  only g t (waits_plain {a} {to} {n} {ps} adv e small marks) =
      forwards adv (plain a to) e (answered (with_processes h ps) (Ok (Stepped (turns.Wait n))))
      (ap (λ l. answered (with_processes h l) (Ok (Stepped (turns.Wait n)))) (marked_to M p (λ q. blocks_plain M.conflict h.log p a q && everybody q) (BlocksPlain M h p a) (everybody_tells M p (blocks_plain M.conflict h.log p a) (BlocksPlain M h p a) (plain_tells M p h a)) h.processes ps marks)
      ∙ sym (ap (waits h (blocks_plain M.conflict h.log p a) everybody (performed h p false a to (M.performed h.station a))) (smallest_to M p (blocks_plain M.conflict h.log p a) (BlocksPlain M h p a) (plain_tells M p h a) h n small)))
  only g t (waits_alone {a} {to} {n} run e small) =
      forwards (subst Advances (sym run) tt) (crossing a to) e (answered h (Ok (Stepped (turns.Wait n))))
      (ap (λ x. answered x (Ok (Stepped (turns.Wait n)))) (sym (unmarked_hall (blocks_alone p)))
      ∙ sym (ap (waits h (blocks_alone p) nobody (unless_blocked h (blocks_pivot M.conflict h.log p a) (pivot_marks p) (performed h p true a to (M.performed h.station a)))) (smallest_to M p (blocks_alone p) Past (alone_tells M p (ap past_pivot run)) h n small)))
  only g t (waits_pivot {a} {to} {n} {ps} adv e alone small marks) =
      forwards adv (crossing a to) e (answered (with_processes h ps) (Ok (Stepped (turns.Wait n))))
      (ap (λ l. answered (with_processes h l) (Ok (Stepped (turns.Wait n)))) (marked_to M p (λ q. blocks_pivot M.conflict h.log p a q && pivot_marks p q) (λ q. BlocksPivot M h p a q × (Past p ⊎ (Prim.Native.Nat.◌<◌ p.start q.start))) (pivot_marks_tell M p h a) h.processes ps marks)
      ∙ sym (ap (waits h (blocks_pivot M.conflict h.log p a) (pivot_marks p) (performed h p true a to (M.performed h.station a))) (smallest_to M p (blocks_pivot M.conflict h.log p a) (BlocksPivot M h p a) (pivot_tells M p h a) h n small))
      ∙ sym (ap (waits h (blocks_alone p) nobody (unless_blocked h (blocks_pivot M.conflict h.log p a) (pivot_marks p) (performed h p true a to (M.performed h.station a)))) (alone_none alone)))
  only g t (performs {pivot} {a} {to} {x} {t = u} adv free e) = freed adv pivot a to free (Some (x, u)) e
  only g t (fails {pivot} {a} {to} adv free e) = freed adv pivot a to free None e
  only g t (waits_commit {n} adv e small) =
      forwards adv nothing e (answered h (Ok (Stepped (turns.Wait n))))
      (ap (λ x. answered x (Ok (Stepped (turns.Wait n)))) (sym (unmarked_hall (blocks_commit M.conflict h.log p)))
      ∙ sym (ap (waits h (blocks_commit M.conflict h.log p) nobody (committing h p)) (smallest_to M p (blocks_commit M.conflict h.log p) (BlocksCommit M h p) (commit_tells M p h) h n small)))
  only g t (commits adv e none) =
      forwards adv nothing e (committing h p)
      (sym (ap (waits h (blocks_commit M.conflict h.log p) nobody (committing h p)) (nobody_to M p (blocks_commit M.conflict h.log p) (BlocksCommit M h p) (commit_tells M p h) h none)))

  pub exact : Exact M h p
  unfolding Is
  exact =
      let (t, a, s) = came p.standing refl in
      record { turn = t; answers = a; allowed = s; only = only }
