-- Every call keeps a hall sound.
use Rattle.std.proofs.Common.{◌≡◌, ℕ, suc, ◌≤◌, Bool, true, false, not, ◌&&◌, ◌||◌, is_some, Some, None, Option, sym, refl, ap, ◌∙◌, subst, inl, inr, ⊎_elim}
use Rattle.std.proofs.lemmas.Bool.{true≢false, false≢true, ne_eqb, and_cases, or_parts, ltb-false, cases_Bool}
use Rattle.activity.specs.declared.Activity.{Activity}
use Rattle.protocol.specs.declared.standing.Aim.{Aim}
use Rattle.protocol.specs.declared.standing.Standing.{Standing}
use Rattle.protocol.specs.declared.standing.Aim.TheVariants.{Restart, End}
use Rattle.protocol.specs.declared.standing.Direction.TheVariants.{Forward}
use Rattle.protocol.specs.declared.standing.Standing.TheVariants.{Running, Withdrawing, PastPivot}
use Rattle.station.specs.Meaning.{Meaning}
use Rattle.protocol.specs.Means.{Laws}
use Rattle.program.specs.Positions.{Position, outer, inner, into, alternative_of}
use Rattle.protocol.specs.Ahead.{Next, plain, crossing, next}
use Rattle.protocol.specs.Log.{returnable, own, from_pivot}
use Rattle.protocol.specs.Hall.{Process, Hall, find, past_pivot, retreating, stand, move, beginning, failed}
use Rattle.protocol.specs.StepFunction.{holds_conflict, holds_any_conflict, stands_before_conflict, other, younger, blocks_plain, blocks_pivot, blocks_alone, performed}
use Rattle.protocol.specs.Call.{Call}
use Rattle.protocol.specs.CallFunction.{outcome}
use Rattle.protocol.proofs.Processes.{found_start, failed_pivot}
use Rattle.protocol.proofs.LastRecords.{none_own, loose_is, LooseIs, NotOf}
use Rattle.protocol.proofs.CallCases.{Going, Backing, Passes, cases}
use Rattle.protocol.proofs.Sound.{rowless, Placed, Sound}
use Rattle.protocol.proofs.StandingChanges.{sound_changed, sound_marked, sound_gone, sound_opened, sound_loaded, begins}
use Rattle.protocol.proofs.LogChanges.{Clear, First, How, same, first, sound_done, sound_undone, sound_committed}
use Rattle.protocol.proofs.ProgramFits.{Plain, Crossing, NextFits, running_fits, past_fits, failed_placed, into_placed, back_rowless, withdrawing_rowless, load_fits}

-- another process that does not block
clears : (p q : Process) (b : Bool) → (q.start ≡ p.start → ⊥) → (other p q && b) ≡ false → b ≡ false
clears p q b apart e = ap (λ t. not t && b) (sym (ne_eqb q.start p.start apart)) ∙ e

never_none : {X : Type 0} {o : Option X} → is_some o ≡ true → o ≡ None → ⊥
never_none p e = false≢true (sym (ap is_some e) ∙ p)

module _ {S : Type 0} (M : Meaning S) (laws : Laws M) (s : S) where
  module _ (h : Hall S) (sound : Sound M s h) (p : Process) (is : find p.start h.processes ≡ Some p) where
    placed : Placed M p.standing p.at
    placed = (sound.actives p.start p is).placed

    sound_failed : rowless p.at ≡ true → (pivot : Bool) (a : Activity) (to : Position) → Sound M s (performed h p pivot a to None).hall
    sound_failed free pivot a to = sound_changed M s h sound p.start p is (stand (failed p.standing)) (λ q. refl) record {
      pivot = failed_pivot p.standing;
      row = λ e. e;
      placed = failed_placed M p.standing p.at placed free;
    }

    apart : (n : ℕ) (q : Process) → find n h.processes ≡ Some q → (n ≡ p.start → ⊥) → q.start ≡ p.start → ⊥
    apart n q at off e = off (sym (found_start n h.processes q at) ∙ e)

    plain_clear : (a : Activity) → Passes M h (blocks_plain M.conflict h.log p a) → Clear M laws s h p a
    plain_clear a free n q at off =
        let none = clears p q _ (apart n q at off) (free n q at) in
        ⊎_elim
        (λ e.
        let (run, rest) = or_parts (past_pivot p.standing) (younger p q || retreating q.standing) e in
        let (old, on) = or_parts (younger p q) (retreating q.standing) rest in
        inr (subst (λ k. k ≤ p.start) (found_start n h.processes q at) (ltb-false p.start q.start old), run))
        (λ e. inl (subst (λ k. holds_conflict M.conflict k a.number h.log ≡ false) (found_start n h.processes q at) e))
        (and_cases (past_pivot p.standing || (younger p q || retreating q.standing)) (holds_conflict M.conflict q.start a.number h.log) none)

    pivot_free : (a : Activity) → Passes M h (blocks_pivot M.conflict h.log p a) → (n : ℕ) (q : Process) → find n h.processes ≡ Some q → (n ≡ p.start → ⊥)
        → (holds_conflict M.conflict n a.number h.log ≡ false) × (holds_any_conflict M.conflict n h.log (from_pivot (own p.start h.log)) ≡ false)
    pivot_free a free n q at off =
        let none = clears p q _ (apart n q at off) (free n q at) in
        let (x, y) = or_parts (holds_conflict M.conflict q.start a.number h.log) (holds_any_conflict M.conflict q.start h.log (from_pivot (own p.start h.log))) none in (
          subst (λ k. holds_conflict M.conflict k a.number h.log ≡ false) (found_start n h.processes q at) x,
          subst (λ k. holds_any_conflict M.conflict k h.log (from_pivot (own p.start h.log)) ≡ false) (found_start n h.processes q at) y,
        )

    pivot_how : (a : Activity) → Passes M h (blocks_alone p) → Passes M h (blocks_pivot M.conflict h.log p a) → How M laws s h sound p is true a
    pivot_how a alone free = ⊎_elim (λ past. same (inr past)) (λ run. first refl run (lead run) (λ n q at off. (pivot_free a free n q at off).0)) (cases_Bool (past_pivot p.standing))
      where
        lead : past_pivot p.standing ≡ false → First M laws s h p
        lead run = record {
          alone = λ n q at off. ap (λ b. not b && past_pivot q.standing) (sym run) ∙ clears p q _ (apart n q at off) (alone n q at);
          apart = λ n q at off. (pivot_free a free n q at off).1;
        }

    -- where it stands
    at_standing : {st : Standing} → p.standing ≡ st → Placed M st p.at
    at_standing e = subst (λ st. Placed M st p.at) e placed

    fits : (x : Next) → Going M h p → next p.at ≡ x → NextFits M p.standing p.at x
    fits x (inl e) n = subst (NextFits M p.standing p.at) n (subst (λ st. NextFits M st p.at (next p.at)) (sym e) (running_fits M p.at (at_standing e)))
    fits x (inr e) n = subst (NextFits M p.standing p.at) n (subst (λ st. NextFits M st p.at (next p.at)) (sym e) (past_fits M p.at (at_standing e)))

    back_free : Backing M h p → rowless p.at ≡ true
    back_free (inl (aim, e)) = withdrawing_rowless M aim p.at (at_standing e)
    back_free (inr e) = back_rowless M p.at (at_standing e)

    pub none_left : {aim : Aim} → p.standing ≡ Withdrawing aim → returnable p.start h.log ≡ None → NotOf p.start h.log
    none_left e none = none_own p.start h.log ((sound.actives p.start p is).pivot ∙ ap past_pivot e) none

    sound_plain : (a : Activity) (to : Position) → Plain M p.standing p.at a to → Passes M h (blocks_plain M.conflict h.log p a) → (o : Option (ℕ × S)) → M.performed h.station a ≡ o → Sound M s (performed h p false a to o).hall
    sound_plain a to fit free (Some d) e = sound_done M laws s h sound p is false a to d e (plain_clear a free) (same (inl refl)) fit.placed fit.row (λ f. fit.comp)
    sound_plain a to fit free None e = ⊎_elim (λ r. sound_failed r false a to) (λ r. absurd (never_none (laws.retries h.station a (fit.sure r)) e)) (cases_Bool (rowless p.at))

    sound_pivot : (a : Activity) (to : Position) → Crossing M p.at to → Passes M h (blocks_alone p) → Passes M h (blocks_pivot M.conflict h.log p a) → (o : Option (ℕ × S)) → M.performed h.station a ≡ o → Sound M s (performed h p true a to o).hall
    sound_pivot a to fit alone free (Some d) e = sound_done M laws s h sound p is true a to d e (λ n q at off. inl (pivot_free a free n q at off).0) (pivot_how a alone free) fit.placed (λ r. fit.row) (λ f. absurd (true≢false f))
    sound_pivot a to fit alone free None e = sound_failed fit.row true a to

    running_rowless : (at : Position) → Placed M Running at → rowless at ≡ true
    running_rowless (outer b) f = refl
    running_rowless (inner c k r) f = elim f [ ]

  pub sound_outcome : (h : Hall S) → Sound M s h → (c : Call) → Sound M s (outcome M h c).hall
  sound_outcome h sound = cases M h (λ c o. Sound M s o.hall) record {
    refused = λ c r. sound;
    waited = λ p is told n. sound_marked M s h sound told;
    installs = λ k t b w e. sound_loaded M s h sound k b (load_fits M h k b e);
    loads = λ k b w e. sound_loaded M s h sound k b (load_fits M h k b e);
    opens = λ k e. sound_opened M s h sound k;
    cancels = λ p is e. sound_changed M s h sound p.start p is (stand (Withdrawing End)) (λ q. refl) record { pivot = sym (ap past_pivot e); row = λ r. r; placed = failed_placed M Running p.at (at_standing h sound p is e) (running_rowless h sound p is p.at (at_standing h sound p is e)) };
    steps = λ p is g a to n free o e. sound_plain h sound p is a to (fits h sound p is (plain a to) g n) free o e;
    crosses = λ p is g a to n alone free o e. sound_pivot h sound p is a to (fits h sound p is (crossing a to) g n) alone free o e;
    commits = λ p is g n free. sound_committed M laws s h sound p is (λ m q at off. subst (λ k. stands_before_conflict M.conflict k p.start h.log ≡ false) (found_start m h.processes q at) (clears p q _ (apart h sound p is m q at off) (free m q at)));
    takes_back = λ p is b z l free. sound_undone M laws s h sound p is z (subst (LooseIs p.start h.log) l (loose_is p.start h.log))
        (λ m q at off. subst (λ k. holds_conflict M.conflict k z.at.activity.number z.after ≡ false) (found_start m h.processes q at) (clears p q _ (apart h sound p is m q at off) (free m q at)))
        (back_free h sound p is b);
    restarts = λ p is e none. sound_changed M s h sound p.start p is (move Running (beginning h.programs p.place)) (λ q. refl) record { pivot = sym (ap past_pivot e); row = λ r. withdrawing_rowless M Restart p.at (at_standing h sound p is e); placed = begins M s h sound p.place };
    leaves = λ p is e none. sound_gone M s h sound p.start (none_left h sound p is e none);
    turns = λ p is e none. sound_changed M s h sound p.start p is (move (PastPivot Forward) (into (suc (alternative_of p.at)) p.at)) (λ q. refl) record { pivot = sym (ap past_pivot e); row = λ r. back_rowless M p.at (at_standing h sound p is e); placed = into_placed M p.at (suc (alternative_of p.at)) (at_standing h sound p is e) };
  }
