-- What does not touch the log keeps a hall sound.
use Rattle.std.proofs.Common.{◌≡◌, ℕ, suc, ◌≤◌, Bool, true, false, cond, ◌&&◌, ◌⊎◌, [], ◌∷◌, ◌++◌, map, Some, None, sym, refl, ap, ◌∙◌, subst, inl, inr, ⊎_elim, arith}
use Rattle.std.proofs.lemmas.Bool.{true≢false, false≢true}
use Rattle.std.proofs.lemmas.Option.{none-some, same_Some}
use Rattle.serial.proofs.Lists.{all_set}
use Rattle.protocol.specs.declared.record.Record.{Record}
use Rattle.protocol.specs.declared.standing.Standing.{Standing}
use Rattle.protocol.specs.declared.standing.Aim.TheVariants.{Restart}
use Rattle.protocol.specs.declared.standing.Standing.TheVariants.{Running, Withdrawing, PastPivot}
use Rattle.station.specs.Meaning.{Meaning}
use Rattle.program.specs.Grammar.{Body}
use Rattle.program.specs.Positions.{Position, outer, inner}
use Rattle.protocol.specs.Log.{pivoted, owned}
use Rattle.protocol.specs.Hall.{Process, Hall, fresh, find, without, change, changed, stand, with_processes, past_pivot, running, body_of, beginning}
use Rattle.protocol.specs.StepFunction.{marked}
use Rattle.protocol.specs.CallFunction.{loaded, opened}
use Rattle.protocol.proofs.Members.{all_at, none_any}
use Rattle.protocol.proofs.Processes.{from_map, to_map, change_keeps, marked_keeps, from_changed, find_without, from_without, from_push, to_push}
use Rattle.protocol.proofs.LastRecords.{NotOf}
use Rattle.protocol.proofs.Sound.{FitsBody, rowless, Placed, Active, Sound}

-- a process that changed counts as before
pub record Alike {S : Type 0} (M : Meaning S) (q r : Process) : Type 0 where
  pub pivot : past_pivot r.standing ≡ past_pivot q.standing
  pub row : rowless r.at ≡ true → rowless q.at ≡ true
  pub placed : Placed M r.standing r.at

module _ {S : Type 0} (M : Meaning S) (s : S) where
  pub sound_fresh : Sound M s (fresh s)
  sound_fresh = record {
    replay = refl;
    order = λ a b i. elim i [ ];
    owners = λ r i. elim i [ ];
    kin = λ a b i. elim i [ ];
    numbers = λ a b i. elim i [ ];
    actives = λ n q e. absurd (none-some _ e);
    lone = λ n m q r e. absurd (none-some _ e);
    programs = (tt, (tt, (tt, (tt, (tt, (tt, (tt, (tt, tt))))))));
  }

  pub sound_map : (h : Hall S) → Sound M s h → (f : Process → Process) → ((q : Process) → (f q).start ≡ q.start) → ((n : ℕ) (q : Process) → find n h.processes ≡ Some q → Alike M q (f q)) → Sound M s (with_processes h (map f h.processes))
  sound_map h sound f keeps alike = record {
    replay = sound.replay;
    order = sound.order;
    kin = sound.kin;
    numbers = sound.numbers;
    owners = λ r i.
        let o = sound.owners r i in
        record {
          low = o.low;
          bound = o.bound;
          active = λ e. let (q, at) = o.active e in (f q, to_map f keeps r.start h.processes q at);
          left = λ q e. let (p, at, is) = from_map f keeps r.start h.processes q e in o.left p at;
          back = λ q e plain free.
              let (p, at, is) = from_map f keeps r.start h.processes q e in
              o.back p at plain ((alike r.start p at).row (subst (λ x. rowless x.at ≡ true) is free));
        };
    actives = λ n q e.
        let (p, at, is) = from_map f keeps n h.processes q e in
        let a = sound.actives n p at in
        let same : q.start ≡ p.start = ap (λ x. x.start) is ∙ keeps p in
        record {
          low = subst (λ k. k ≤ h.given) (sym same) a.low;
          pivot = ap (pivoted h.log) same ∙ a.pivot ∙ sym (ap (λ x. past_pivot x.standing) is ∙ (alike n p at).pivot);
          placed = subst (λ x. Placed M x.standing x.at) (sym is) (alike n p at).placed;
        };
    lone = λ n m q r e e' x x'.
        let (p, at, is) = from_map f keeps n h.processes q e in
        let (p', at', is') = from_map f keeps m h.processes r e' in
        sound.lone n m p p' at at'
        (sym (ap (λ x. past_pivot x.standing) is ∙ (alike n p at).pivot) ∙ x)
        (sym (ap (λ x. past_pivot x.standing) is' ∙ (alike m p' at').pivot) ∙ x');
    programs = sound.programs;
  }

  -- one process is changed
  pub sound_changed : (h : Hall S) → Sound M s h → (n : ℕ) (p : Process) → find n h.processes ≡ Some p → (f : Process → Process) → ((q : Process) → (f q).start ≡ q.start) → Alike M p (f p) → Sound M s (with_processes h (changed n f h.processes))
  sound_changed h sound n p is f keeps alike = sound_map h sound (change n f) (change_keeps n f keeps) each
    where
      each : (m : ℕ) (q : Process) → find m h.processes ≡ Some q → Alike M q (change n f q)
      each m q at = go (from_changed n p f keeps h.processes is m (change n f q) (to_map (change n f) (change_keeps n f keeps) m h.processes q at))
        where
          go : ((m ≡ n) × (change n f q ≡ f p)) ⊎ ((m ≡ n → ⊥) × (find m h.processes ≡ Some (change n f q))) → Alike M q (change n f q)
          go (inl (same, now)) =
              let that : q ≡ p = same_Some _ _ (sym at ∙ ap (λ k. find k h.processes) same ∙ is) in
              subst (λ x. Alike M x (change n f q)) (sym that) (subst (λ x. Alike M p x) (sym now) alike)
          go (inr (other, now)) =
              let that : change n f q ≡ q = same_Some _ _ (sym now ∙ at) in
              subst (λ x. Alike M q x) (sym that) record { pivot = refl; row = λ x. x; placed = (sound.actives m q at).placed }

  -- marking
  mark_alike : (q : Process) (b : Bool) → Placed M q.standing q.at → Alike M q (cond (b && running q.standing) (stand (Withdrawing Restart) q) q)
  mark_alike q false placed = record { pivot = refl; row = λ x. x; placed = placed }
  mark_alike q true placed = go q.standing refl q.at refl placed
    where
      go : (st : Standing) → q.standing ≡ st → (at : Position) → q.at ≡ at → Placed M q.standing q.at → Alike M q (cond (running st) (stand (Withdrawing Restart) q) q)
      go Running e (outer b) f at = record { pivot = sym (ap past_pivot e); row = λ x. x; placed = subst (Placed M (Withdrawing Restart)) (sym f) tt }
      go Running e (inner c k r) f at = absurd (subst (λ st. Placed M st (inner c k r)) e (subst (Placed M q.standing) f at))
      go (Withdrawing aim) e a f at = record { pivot = refl; row = λ x. x; placed = at }
      go (PastPivot way) e a f at = record { pivot = refl; row = λ x. x; placed = at }

  pub sound_marked : (h : Hall S) → Sound M s h → (told : Process → Bool) → Sound M s (with_processes h (map (marked told) h.processes))
  sound_marked h sound told = sound_map h sound (marked told) (marked_keeps told) (λ n q e. mark_alike q (told q) (sound.actives n q e).placed)

  -- a process without records leaves
  pub sound_gone : (h : Hall S) → Sound M s h → (n : ℕ) → NotOf n h.log → Sound M s (with_processes h (without n h.processes))
  sound_gone h sound n free = record {
    replay = sound.replay;
    order = sound.order;
    kin = sound.kin;
    numbers = sound.numbers;
    owners = λ r i.
        let o = sound.owners r i in
        record {
          low = o.low;
          bound = o.bound;
          active = λ e. let (q, at) = o.active e in (q, find_without n r.start h.processes (free r i) ∙ at);
          left = λ q e. o.left q (from_without n r.start h.processes q e).1;
          back = λ q e. o.back q (from_without n r.start h.processes q e).1;
        };
    actives = λ m q e.
        let a = sound.actives m q (from_without n m h.processes q e).1 in
        record { low = a.low; pivot = a.pivot; placed = a.placed };
    lone = λ m k q r e f. sound.lone m k q r (from_without n m h.processes q e).1 (from_without n k h.processes r f).1;
    programs = sound.programs;
  }

  pub begins : (h : Hall S) → Sound M s h → (k : ℕ) → Placed M Running (beginning h.programs k)
  begins h sound k = all_at (λ o. FitsBody M (body_of o)) None tt k h.programs sound.programs

  pub sound_opened : (h : Hall S) → Sound M s h → (k : ℕ) → Sound M s (opened h k).hall
  sound_opened h sound k = record {
    replay = sound.replay;
    order = sound.order;
    kin = sound.kin;
    numbers = sound.numbers;
    owners = λ r i.
        let o = sound.owners r i in
        record {
          low = omega (arith, o.low);
          bound = o.bound;
          active = λ e. let (q, at) = o.active e in (q, to_push r.start h.processes new q at);
          left = λ q e. o.left q (old r o.low q e);
          back = λ q e. o.back q (old r o.low q e);
        };
    actives = λ n q e. ⊎_elim
        (λ at. let a = sound.actives n q at in record { low = omega (arith, a.low); pivot = a.pivot; placed = a.placed })
        (λ at. subst (Active M (opened h k).hall) (sym at.1) fresh_active)
        (from_push n h.processes new q e);
    lone = λ n m q r e f x y. ⊎_elim
        (λ at. ⊎_elim (λ at'. sound.lone n m q r at at' x y) (λ at'. absurd (false≢true (sym (ap (λ z. past_pivot z.standing) at'.1) ∙ y))) (from_push m h.processes new r f))
        (λ at. absurd (false≢true (sym (ap (λ z. past_pivot z.standing) at.1) ∙ x)))
        (from_push n h.processes new q e);
    programs = sound.programs;
  }
    where
      new : Process
      new = record { start = suc h.given; place = k; standing = Running; at = beginning h.programs k }

      old : (r : Record) → r.start ≤ h.given → (q : Process) → find r.start (h.processes ++ new ∷ []) ≡ Some q → find r.start h.processes ≡ Some q
      old r low q e = ⊎_elim (λ at. at) (λ at. absurd (omega (arith, at.0))) (from_push r.start h.processes new q e)

      -- a new number has no record
      none : pivoted h.log (suc h.given) ≡ false
      none = none_any (λ r. owned (suc h.given) r && r.pivot) h.log (λ r i. fresh_number r (sound.owners r i).low)
        where
          fresh_number : (r : Record) → r.start ≤ h.given → (owned (suc h.given) r && r.pivot) ≡ false
          fresh_number r low = ap (λ b. b && r.pivot) (Rattle.std.proofs.lemmas.Bool.ne_eqb r.start (suc h.given) (λ (e : r.start ≡ suc h.given). omega arith))

      fresh_active : Active M (opened h k).hall new
      fresh_active = record { low = omega arith; pivot = none; placed = begins h sound k }

  pub sound_loaded : (h : Hall S) → Sound M s h → (k : ℕ) (b : Body) → FitsBody M b → Sound M s (loaded h k b).hall
  sound_loaded h sound k b fits = record {
    replay = sound.replay;
    order = sound.order;
    kin = sound.kin;
    numbers = sound.numbers;
    owners = λ r i. let o = sound.owners r i in record { low = o.low; bound = o.bound; active = o.active; left = o.left; back = o.back };
    actives = λ n q e. let a = sound.actives n q e in record { low = a.low; pivot = a.pivot; placed = a.placed };
    lone = sound.lone;
    programs = all_set (λ o. FitsBody M (body_of o)) h.programs k (Some b) fits sound.programs;
  }
