-- What a call can come to, once for all proofs about calls.
use Rattle.std.proofs.Common.{◌≡◌, ℕ, Bool, true, false, ◌&&◌, ◌⊎◌, List, map, Some, None, Option, refl, ap, ◌∙◌, subst, inl, inr, Ok, Err}
use Rattle.activity.specs.declared.Activity.{Activity}
use Rattle.protocol.specs.declared.answer.Refusal.{Refusal}
use Rattle.protocol.specs.declared.answer.Refusal.TheVariants.{BadText, NoProcess, IsPastPivot, IsWithdrawing}
use Rattle.protocol.specs.declared.standing.Aim.{Aim}
use Rattle.protocol.specs.declared.standing.Standing.{Standing}
use Rattle.protocol.specs.declared.standing.Aim.TheVariants.{Restart, End}
use Rattle.protocol.specs.declared.standing.Direction.TheVariants.{Forward, Back}
use Rattle.protocol.specs.declared.standing.Standing.TheVariants.{Running, Withdrawing, PastPivot}
use Rattle.protocol.specs.declared.answer.Turn.TheVariants.{Wait}
use Rattle.protocol.specs.declared.answer.Served.TheVariants.{Stepped, Cancelled}
use Rattle.station.specs.Meaning.{Meaning}
use Rattle.program.specs.Grammar.{Body, Yields}
use Rattle.program.specs.Positions.{Position}
use Rattle.protocol.specs.Ahead.{Next, nothing, plain, crossing, next}
use Rattle.protocol.specs.Log.{Split, returnable}
use Rattle.protocol.specs.Hall.{Process, Hall, find, least, with_processes, changed, stand, Outcome, answered}
use Rattle.protocol.specs.StepFunction.{blocks_back, blocks_plain, blocks_pivot, blocks_alone, blocks_commit, everybody, nobody, pivot_marks, marked, waits, unless_blocked, performed, restarted, gone, next_alternative, undone, committing, backward, forward, by_standing, step_of}
use Rattle.protocol.specs.Call.{Call, IsProgram, loading, installing, opening, stepping, cancelling}
use Rattle.protocol.specs.CallFunction.{refused_or, against_load, against_open, loaded, opened, cancel_by, cancel_of, outcome}
use Rattle.protocol.proofs.Processes.{found_start, nobody_passes}

module _ {S : Type 0} (M : Meaning S) (h : Hall S) where
  -- an active process, found under its number
  abbrev pub Here : Process → Type 0
  Here p = find p.start h.processes ≡ Some p

  abbrev pub Going : Process → Type 0
  Going p = (p.standing ≡ Running) ⊎ (p.standing ≡ PastPivot Forward)

  abbrev pub Backing : Process → Type 0
  Backing p = ((aim : Aim) × (p.standing ≡ Withdrawing aim)) ⊎ (p.standing ≡ PastPivot Back)

  -- nobody blocks
  abbrev pub Passes : (Process → Bool) → Type 0
  Passes blocks = (n : ℕ) (q : Process) → find n h.processes ≡ Some q → blocks q ≡ false

  -- by whether somebody blocks
  pub by_blockers : (Q : Outcome S → Type 0) (blocks marks : Process → Bool) (on : Outcome S) → (least blocks h.processes ≡ None → Q on)
      → ((n : ℕ) → least blocks h.processes ≡ Some n → Q (answered (with_processes h (map (marked (λ q. blocks q && marks q)) h.processes)) (Ok (Stepped (Wait n))))) → Q (unless_blocked h blocks marks on)
  by_blockers Q blocks marks on free wait = go (least blocks h.processes) refl
    where
      go : (o : Option ℕ) → least blocks h.processes ≡ o → Q (waits h blocks marks on o)
      go None e = free e
      go (Some n) e = wait n e

  pub record Leaves (P : Call → Outcome S → Type 0) : Type 0 where
    pub refused : (c : Call) (r : Refusal) → P c (answered h (Err r))
    pub waited : (p : Process) → Here p → (told : Process → Bool) (n : ℕ) → P (stepping p.start) (answered (with_processes h (map (marked told) h.processes)) (Ok (Stepped (Wait n))))
    pub loads : (k : ℕ) (b : Body) (w : IsProgram b) → against_load M h k b ≡ None → P (loading k b w) (loaded h k b)
    pub installs : (k : ℕ) (t : List ℕ) (b : Body) (read : Yields t b) → against_load M h k b ≡ None → P (installing k t b None read) (loaded h k b)
    pub opens : (k : ℕ) → against_open h k ≡ None → P (opening k) (opened h k)
    pub cancels : (p : Process) → Here p → p.standing ≡ Running → P (cancelling p.start) (answered (with_processes h (changed p.start (stand (Withdrawing End)) h.processes)) (Ok Cancelled))
    pub steps : (p : Process) → Here p → Going p → (a : Activity) (to : Position) → next p.at ≡ plain a to → Passes (blocks_plain M.conflict h.log p a) → (o : Option (ℕ × S)) → M.performed h.station a ≡ o → P (stepping p.start) (performed h p false a to o)
    pub crosses : (p : Process) → Here p → Going p → (a : Activity) (to : Position) → next p.at ≡ crossing a to → Passes (blocks_alone p) → Passes (blocks_pivot M.conflict h.log p a) → (o : Option (ℕ × S)) → M.performed h.station a ≡ o → P (stepping p.start) (performed h p true a to o)
    pub commits : (p : Process) → Here p → Going p → next p.at ≡ nothing → Passes (blocks_commit M.conflict h.log p) → P (stepping p.start) (committing h p)
    pub takes_back : (p : Process) → Here p → Backing p → (z : Split) → returnable p.start h.log ≡ Some z → Passes (blocks_back M.conflict p z) → P (stepping p.start) (undone M h z)
    pub restarts : (p : Process) → Here p → p.standing ≡ Withdrawing Restart → returnable p.start h.log ≡ None → P (stepping p.start) (restarted h p)
    pub leaves : (p : Process) → Here p → p.standing ≡ Withdrawing End → returnable p.start h.log ≡ None → P (stepping p.start) (gone h p)
    pub turns : (p : Process) → Here p → p.standing ≡ PastPivot Back → returnable p.start h.log ≡ None → P (stepping p.start) (next_alternative h p)

  module _ (P : Call → Outcome S → Type 0) (all : Leaves P) where
    module _ (p : Process) (is : Here p) where
      abbrev Q : Outcome S → Type 0
      Q o = P (stepping p.start) o

      unless : (blocks marks : Process → Bool) (on : Outcome S) → (Passes blocks → Q on) → Q (unless_blocked h blocks marks on)
      unless blocks marks on free = by_blockers Q blocks marks on (λ e. free (nobody_passes blocks h.processes e)) (λ n e. all.waited p is (λ q. blocks q && marks q) n)

      ahead : Going p → (x : Next) → next p.at ≡ x → Q (forward M h p x)
      ahead g nothing e = unless (blocks_commit M.conflict h.log p) nobody (committing h p) (all.commits p is g e)
      ahead g (plain a to) e = unless (blocks_plain M.conflict h.log p a) everybody (performed h p false a to (M.performed h.station a)) (λ free. all.steps p is g a to e free (M.performed h.station a) refl)
      ahead g (crossing a to) e =
          unless (blocks_alone p) nobody (unless_blocked h (blocks_pivot M.conflict h.log p a) (pivot_marks p) (performed h p true a to (M.performed h.station a)))
          (λ alone. unless (blocks_pivot M.conflict h.log p a) (pivot_marks p) (performed h p true a to (M.performed h.station a)) (λ free. all.crosses p is g a to e alone free (M.performed h.station a) refl))

      behind : Backing p → (on : Outcome S) → (returnable p.start h.log ≡ None → Q on) → (o : Option Split) → returnable p.start h.log ≡ o → Q (backward M h p on o)
      behind b on none None e = none e
      behind b on none (Some z) e = unless (blocks_back M.conflict p z) everybody (undone M h z) (all.takes_back p is b z e)

      by : (st : Standing) → p.standing ≡ st → Q (by_standing M h p st)
      by Running e = ahead (inl e) (next p.at) refl
      by (PastPivot Forward) e = ahead (inr e) (next p.at) refl
      by (PastPivot Back) e = behind (inr e) (next_alternative h p) (all.turns p is e) (returnable p.start h.log) refl
      by (Withdrawing Restart) e = behind (inl (Restart, e)) (restarted h p) (all.restarts p is e) (returnable p.start h.log) refl
      by (Withdrawing End) e = behind (inl (End, e)) (gone h p) (all.leaves p is e) (returnable p.start h.log) refl

      cancelled_by : (st : Standing) → p.standing ≡ st → P (cancelling p.start) (cancel_by h p st)
      cancelled_by Running e = all.cancels p is e
      cancelled_by (Withdrawing aim) e = all.refused (cancelling p.start) IsWithdrawing
      cancelled_by (PastPivot way) e = all.refused (cancelling p.start) IsPastPivot

    -- by whether something speaks against it
    unrefused : (c : Call) (o : Option Refusal) (on : Outcome S) → (o ≡ None → P c on) → P c (refused_or h o on)
    unrefused c None on free = free refl
    unrefused c (Some r) on free = all.refused c r

    -- by the process of a number
    by_process : (c : ℕ → Call) (comes : Option Process → Outcome S) (n : ℕ) → P (c n) (comes None) → ((p : Process) → Here p → P (c p.start) (comes (Some p))) → P (c n) (comes (find n h.processes))
    by_process c comes n nobody found = go (find n h.processes) refl
      where
        go : (o : Option Process) → find n h.processes ≡ o → P (c n) (comes o)
        go None e = nobody
        go (Some p) e = let same = found_start n h.processes p e in subst (λ k. P (c k) (comes (Some p))) same (found p (ap (λ k. find k h.processes) same ∙ e))

    pub cases : (c : Call) → P c (outcome M h c)
    cases (loading k b w) = unrefused (loading k b w) (against_load M h k b) (loaded h k b) (all.loads k b w)
    cases (installing k t b None w) = unrefused (installing k t b None w) (against_load M h k b) (loaded h k b) (all.installs k t b w)
    cases (installing k t b (Some e) w) = all.refused (installing k t b (Some e) w) (BadText e)
    cases (opening k) = unrefused (opening k) (against_open h k) (opened h k) (all.opens k)
    cases (stepping n) = by_process stepping (step_of M h) n (all.refused (stepping n) NoProcess) (λ p is. by p is p.standing refl)
    cases (cancelling n) = by_process cancelling (cancel_of h) n (all.refused (cancelling n) NoProcess) (λ p is. cancelled_by p is p.standing refl)
