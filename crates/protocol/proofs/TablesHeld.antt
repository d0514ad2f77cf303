-- Every call keeps a hall's tables in order, whatever the station means.
use Rattle.std.proofs.Common.{◌≡◌, ℕ, suc, ◌<◌, ◌≤◌, Bool, true, false, cond, ◌&&◌, eqb, List, [], ◌∷◌, ◌++◌, map, length, Some, None, Option, sym, refl, ap, ◌∙◌, subst, ⊎_elim, arith}
use mathlib.Core.Logic.{∥∥₁_elim}
use mathlib.Core.HLevel.{Unit-prop, ×_prop}
use native.Mathlib.Bridge.{le_prop}
use Rattle.serial.specs.Sorts.{Pairwise}
use Rattle.std.specs.List.{AllByRecursion}
use Rattle.std.proofs.lemmas.Bool.{cond_both, eqb-true, eqb-false, true≢false, and_left, and_right, cases_Bool}
use Rattle.std.proofs.lemmas.Option.{none-some}
use Rattle.std.proofs.lemmas.List.{length_push}
use Rattle.activity.specs.declared.Activity.{Activity}
use Rattle.protocol.specs.declared.record.Record.{Record}
use Rattle.protocol.specs.declared.standing.Standing.{Standing}
use Rattle.protocol.specs.declared.standing.Aim.TheVariants.{Restart, End}
use Rattle.protocol.specs.declared.standing.Direction.TheVariants.{Forward}
use Rattle.protocol.specs.declared.standing.Standing.TheVariants.{Running, Withdrawing, PastPivot}
use Rattle.station.specs.Meaning.{Meaning}
use Rattle.program.specs.Positions.{Position, alternative_of, into}
use Rattle.protocol.specs.Ahead.{next, plain, crossing}
use Rattle.protocol.specs.Log.{Split, owned, own, removed, returnable, committed_under}
use Rattle.protocol.specs.Hall.{Process, Hall, fresh, find, without, changed, stand, move, with_processes, past_pivot, running, beginning, failed, standing_after, record_of}
use Rattle.protocol.specs.StepFunction.{marked, performed}
use Rattle.protocol.specs.Call.{Call, Event}
use Rattle.protocol.specs.CallFunction.{outcome, ends, all_singles}
use Rattle.protocol.specs.Room.{Bounded}
use Rattle.protocol.specs.Held.{Held, Roomy}
use Rattle.protocol.proofs.CallCases.{cases}
use Rattle.protocol.proofs.Members.{In, in_push, in_more, in_map, none_any}
use Rattle.protocol.proofs.Processes.{failed_pivot, marked_keeps, from_map, to_map, from_changed, to_changed, find_without, from_without, from_push, to_push}
use Rattle.protocol.proofs.Sealed.{sealed}
use Rattle.protocol.proofs.LastRecords.{none_own, NotOf, Last, LooseIs, loose_is}
use Rattle.protocol.proofs.Rooms.{rooms_by, rooms_done, rooms_fresh, few}
use Rattle.protocol.proofs.Counts.{NextRoom, next_room}
use Rattle.protocol.proofs.Bounds.{bounded_fresh, bounded_outcome}
use Rattle.protocol.proofs.Computed.{hall_after}
use Rattle.protocol.proofs.Promise.{all_is}

pub record Owned {S : Type 0} (h : Hall S) : Type 0 where
  pub low : (r : Record) → In r h.log → r.start ≤ h.given
  pub active : (r : Record) → In r h.log → r.commit ≡ 0 → (q : Process) × (find r.start h.processes ≡ Some q)
  pub unpivoted : (n : ℕ) (q : Process) → find n h.processes ≡ Some q → past_pivot q.standing ≡ false → (r : Record) → In r h.log → r.start ≡ n → r.pivot ≡ false

found_low : (g n : ℕ) (ps : List Process) (q : Process) → AllByRecursion (λ x. x.start ≤ g) ps → find n ps ≡ Some q → n ≤ g
found_low g n [] q all e = absurd (none-some _ e)
found_low g n (p ∷ ps) q all e = cond_both (eqb p.start n) (Some p) (find n ps) (λ o. o ≡ Some q → n ≤ g)
    (λ t f. omega (arith, eqb-true p.start n t, all.0))
    (λ _ f. found_low g n ps q all.1 f)
    e

led_past : (b : Bool) (st : Standing) → past_pivot (standing_after b st) ≡ false → past_pivot st ≡ false
led_past true st e = absurd (true≢false e)
led_past false st e = e

led_plain : (b : Bool) (st : Standing) → past_pivot (standing_after b st) ≡ false → b ≡ false
led_plain true st e = absurd (true≢false e)
led_plain false st e = refl

sealed_open : (n c : ℕ) (r : Record) → (committed_under n (suc c) r).commit ≡ 0 → (r.commit ≡ 0) × (r.start ≡ n → ⊥)
sealed_open n c r e = cond_both (owned n r) record { start = r.start; activity = r.activity; answer = r.answer; commit = suc c; pivot = r.pivot } r (λ x. x.commit ≡ 0 → (r.commit ≡ 0) × (r.start ≡ n → ⊥))
    (λ t f. absurd (omega arith))
    (λ t f. (f, eqb-false r.start n t))
    e

all_prop : (p : Process) (ps : List Process) → (x y : AllByRecursion (λ b. p.start < b.start) ps) → x ≡ y
all_prop p [] = Unit-prop
all_prop p (q ∷ qs) = ×_prop le_prop (all_prop p qs)

rising_prop : (ps : List Process) → (x y : Pairwise (λ a b. a.start < b.start) ps) → x ≡ y
rising_prop [] = Unit-prop
rising_prop (p ∷ ps) = ×_prop (all_prop p ps) (rising_prop ps)

module _ {S : Type 0} where
  owned_map : (h : Hall S) → Owned h → (f : Process → Process) → ((q : Process) → (f q).start ≡ q.start) → ((q : Process) → past_pivot (f q).standing ≡ false → past_pivot q.standing ≡ false) → Owned (with_processes h (map f h.processes))
  owned_map h o f keeps same = record {
    low = o.low;
    active = λ r i z. let (q, e) = o.active r i z in (f q, to_map f keeps r.start h.processes q e);
    unpivoted = λ n q e past. let (p, at, is) = from_map f keeps n h.processes q e in o.unpivoted n p at (same p (ap (λ x. past_pivot x.standing) (sym is) ∙ past));
  }

  owned_changed : (h : Hall S) → Owned h → (p : Process) → find p.start h.processes ≡ Some p → (f : Process → Process) → ((q : Process) → (f q).start ≡ q.start) → (past_pivot (f p).standing ≡ false → past_pivot p.standing ≡ false) → Owned (with_processes h (changed p.start f h.processes))
  owned_changed h o p is f keeps same = record {
    low = o.low;
    active = λ r i z. let (q, e) = o.active r i z in to_changed p.start f keeps r.start h.processes q e;
    unpivoted = λ n q e past. ⊎_elim
        (λ mine. o.unpivoted n p (ap (λ k. find k h.processes) mine.0 ∙ is) (same (ap (λ x. past_pivot x.standing) (sym mine.1) ∙ past)))
        (λ other. o.unpivoted n q other.1 past)
        (from_changed p.start p f keeps h.processes is n q e);
  }

  owned_marked : (h : Hall S) → Owned h → (told : Process → Bool) → Owned (with_processes h (map (marked told) h.processes))
  owned_marked h o told = owned_map h o (marked told) (marked_keeps told) (λ q. same q (told q) q.standing refl)
    where
      same : (q : Process) (b : Bool) (st : Standing) → q.standing ≡ st → past_pivot (cond (b && running st) (stand (Withdrawing Restart) q) q).standing ≡ false → past_pivot q.standing ≡ false
      same q true Running e x = ap past_pivot e
      same q true (Withdrawing r) e x = x
      same q true (PastPivot r) e x = x
      same q false st e x = x

  owned_gone : (h : Hall S) → Owned h → (n : ℕ) → NotOf n h.log → Owned (with_processes h (without n h.processes))
  owned_gone h o n none = record {
    low = o.low;
    active = λ r i z. let (q, e) = o.active r i z in (q, find_without n r.start h.processes (none r i) ∙ e);
    unpivoted = λ m q e. o.unpivoted m q (from_without n m h.processes q e).1;
  }

  owned_opened : (h : Hall S) → Owned h → (k : ℕ) → Owned (Rattle.protocol.specs.CallFunction.opened h k).hall
  owned_opened h o k = record {
    low = λ r i. omega (arith, o.low r i);
    active = λ r i z. let (q, e) = o.active r i z in (q, to_push r.start h.processes record { start = suc h.given; place = k; standing = Running; at = beginning h.programs k } q e);
    unpivoted = λ n q e past r i mine. ⊎_elim
        (λ old. o.unpivoted n q old past r i mine)
        (λ new. let f : n ≡ suc h.given = new.0 in absurd (omega (arith, o.low r i, mine, f)))
        (from_push n h.processes record { start = suc h.given; place = k; standing = Running; at = beginning h.programs k } q e);
  }

  owned_done : (h : Hall S) → Owned h → AllByRecursion (λ x. x.start ≤ h.given) h.processes → (p : Process) → find p.start h.processes ≡ Some p → (pivot : Bool) (a : Activity) (to : Position) (d : Option (ℕ × S)) → Owned (performed h p pivot a to d).hall
  owned_done h o starts p is pivot a to None = owned_changed h o p is (stand (failed p.standing)) (λ q. refl) (λ e. sym (failed_pivot p.standing) ∙ e)
  owned_done h o starts p is pivot a to (Some d) =
      let new = record_of p pivot a d.0 in
      let f = move (standing_after pivot p.standing) to in
      record {
        low = λ r i. ⊎_elim (o.low r) (λ e. subst (λ x. x.start ≤ h.given) (sym e) (found_low h.given p.start h.processes p starts is)) (in_push r h.log new i);
        active = λ r i z. ⊎_elim
            (λ old. let (q, e) = o.active r old z in to_changed p.start f (λ q. refl) r.start h.processes q e)
            (λ e. subst (λ (x : Record). (q : Process) × (find x.start (changed p.start f h.processes) ≡ Some q)) (sym e) (to_changed p.start f (λ q. refl) p.start h.processes p is))
            (in_push r h.log new i);
        unpivoted = λ n q e past r i mine. ⊎_elim
            (λ me. ⊎_elim
            (λ old. o.unpivoted n p (ap (λ k. find k h.processes) me.0 ∙ is) (led_past pivot p.standing (ap (λ x. past_pivot x.standing) (sym me.1) ∙ past)) r old mine)
            (λ it. ap (λ x. x.pivot) it ∙ led_plain pivot p.standing (ap (λ x. past_pivot x.standing) (sym me.1) ∙ past))
            (in_push r h.log new i))
            (λ other. ⊎_elim
            (λ old. o.unpivoted n q other.1 past r old mine)
            (λ it. absurd (other.0 (sym mine ∙ ap (λ x. x.start) it)))
            (in_push r h.log new i))
            (from_changed p.start p f (λ q. refl) h.processes is n q e);
      }

  owned_committed : (h : Hall S) → Owned h → (p : Process) → Owned (Rattle.protocol.specs.StepFunction.committing h p).hall
  owned_committed h o p =
      let c = suc h.committed in
      record {
        low = λ r i. let (x, at, is) = in_map (committed_under p.start c) r h.log i in subst (λ n. n ≤ h.given) (sym (ap (λ y. y.start) is ∙ sealed (λ y. y.start) p.start c x refl)) (o.low x at);
        active = λ r i z.
            let (x, at, is) = in_map (committed_under p.start c) r h.log i in
            let (zero_of, off) = sealed_open p.start h.committed x (ap (λ y. y.commit) (sym is) ∙ z) in
            let (q, e) = o.active x at zero_of in
            (q, ap (λ k. find k (without p.start h.processes)) (ap (λ y. y.start) is ∙ sealed (λ y. y.start) p.start c x refl) ∙ find_without p.start x.start h.processes off ∙ e);
        unpivoted = λ n q e past r i mine.
            let (x, at, is) = in_map (committed_under p.start c) r h.log i in
            ap (λ y. y.pivot) is ∙ sealed (λ y. y.pivot) p.start c x refl ∙ o.unpivoted n q (from_without p.start n h.processes q e).1 past x at (sym (ap (λ y. y.start) is ∙ sealed (λ y. y.start) p.start c x refl) ∙ mine);
      }

  owned_undone : (M : Meaning S) (h : Hall S) → Owned h → (n : ℕ) (z : Split) → Last n h.log z → Owned (Rattle.protocol.specs.StepFunction.undone M h z).hall
  owned_undone M h o n z l =
      let back : (r : Record) → In r (removed z) → In r h.log = λ r i. subst (In r) (sym l.whole) (in_more r z.before z.at z.after i) in
      record {
        low = λ r i. o.low r (back r i);
        active = λ r i. o.active r (back r i);
        unpivoted = λ m q e past r i. o.unpivoted m q e past r (back r i);
      }

  -- a process that withdraws and has nothing to take back has no record
  none_left : (h : Hall S) → Owned h → (p : Process) → find p.start h.processes ≡ Some p → past_pivot p.standing ≡ false → returnable p.start h.log ≡ None → NotOf p.start h.log
  none_left h o p is e none = none_own p.start h.log (none_any (λ r. owned p.start r && r.pivot) h.log clear) none
    where
      clear : (r : Record) → In r h.log → (owned p.start r && r.pivot) ≡ false
      clear r i = ⊎_elim (λ t. and_right _ _ (o.unpivoted p.start p is e r i (eqb-true r.start p.start t))) (λ f. and_left _ _ f) (cases_Bool (owned p.start r))

  owned_outcome : (M : Meaning S) (h : Hall S) → Bounded h → Owned h → (c : Call) → Owned (outcome M h c).hall
  owned_outcome M h b o = cases M h (λ c x. Owned x.hall) record {
    refused = λ c r. o;
    waited = λ p is told n. owned_marked h o told;
    installs = λ k t p w e. record { low = o.low; active = o.active; unpivoted = o.unpivoted };
    loads = λ k p w e. record { low = o.low; active = o.active; unpivoted = o.unpivoted };
    opens = λ k e. owned_opened h o k;
    cancels = λ p is e. owned_changed h o p is (stand (Withdrawing End)) (λ q. refl) (λ _. ap past_pivot e);
    steps = λ p is g a to n free d e. owned_done h o b.starts p is false a to d;
    crosses = λ p is g a to n alone free d e. owned_done h o b.starts p is true a to d;
    commits = λ p is g n free. owned_committed h o p;
    takes_back = λ p is x z l free. owned_undone M h o p.start z (subst (LooseIs p.start h.log) l (loose_is p.start h.log)).last;
    restarts = λ p is e none. owned_changed h o p is (move Running (beginning h.programs p.place)) (λ q. refl) (λ _. ap past_pivot e);
    leaves = λ p is e none. owned_gone h o p.start (none_left h o p is (ap past_pivot e) none);
    turns = λ p is e none. owned_changed h o p is (move (PastPivot Forward) (into (suc (alternative_of p.at)) p.at)) (λ q. refl) (λ x. absurd (true≢false x));
  }

  owned_of : (h : Hall S) → Held h → Owned h
  owned_of h d = record { low = d.low; active = d.active; unpivoted = d.unpivoted }

  pub held_outcome : (M : Meaning S) (h : Hall S) → Held h → (c : Call) → Held (outcome M h c).hall
  held_outcome M h d c =
      let o = owned_of h d in
      let p = owned_outcome M h d.bounded o c in
      record {
        bounded = bounded_outcome M h d.bounded c;
        rooms = rooms_by M h (λ r i (f : r.start ≡ suc h.given). omega (arith, d.low r i)) (λ p is e none. none_left h o p is (ap past_pivot e) none) d.rooms c;
        low = p.low;
        active = p.active;
        unpivoted = p.unpivoted;
      }

  pub held_few : (h : Hall S) → Held h → length h.log ≤ 1024
  held_few h d = few h d.active d.rooms

  -- room for one step more
  room_for : (h : Hall S) → Held h → (p : Process) → find p.start h.processes ≡ Some p → (pivot : Bool) (a : Activity) (to : Position) → ((r : Record) → r.pivot ≡ pivot → Roomy (own p.start h.log ++ r ∷ []) to) → length h.log < 1024
  room_for h d p is pivot a to room =
      let on = Some (0, h.station) in
      let o = owned_done h (owned_of h d) d.bounded.starts p is pivot a to on in
      omega (arith, few (performed h p pivot a to on).hall o.active (rooms_done h d.rooms p is pivot a to on room), length_push h.log (record_of p pivot a 0))

  pub room_plain : (h : Hall S) → Held h → (p : Process) → find p.start h.processes ≡ Some p → (a : Activity) (to : Position) → next p.at ≡ plain a to → length h.log < 1024
  room_plain h d p is a to n = room_for h d p is false a to (subst (NextRoom (own p.start h.log)) n (next_room (own p.start h.log) p.at (d.rooms.actives p.start p is)))

  pub room_pivot : (h : Hall S) → Held h → (p : Process) → find p.start h.processes ≡ Some p → (a : Activity) (to : Position) → next p.at ≡ crossing a to → length h.log < 1024
  room_pivot h d p is a to n = room_for h d p is true a to (subst (NextRoom (own p.start h.log)) n (next_room (own p.start h.log) p.at (d.rooms.actives p.start p is)))

  pub held_fresh : (s : S) → Held (fresh s)
  held_fresh s = record {
    bounded = bounded_fresh s;
    rooms = rooms_fresh s;
    low = λ r i. elim i [ ];
    active = λ r i. elim i [ ];
    unpivoted = λ n q e. absurd (none-some _ e);
  }

  held_ends : (M : Meaning S) (h : Hall S) → Held h → (cs : List Call) → Held (ends M h cs)
  held_ends M h d [] = d
  held_ends M h d (c ∷ cs) = held_ends M (outcome M h c).hall (held_outcome M h d c) cs

  -- so it is in every hall that the functions compute
  pub always_held : (M : Meaning S) (s : S) (es : List Event) → Held (hall_after M s es)
  always_held M s es = subst Held (sym (all_is M (fresh s) es)) (held_ends M (fresh s) (held_fresh s) (all_singles es))

  pub rising : (h : Hall S) → ∥ Held h ∥₁ → Pairwise (λ a b. a.start < b.start) h.processes
  rising h s = ∥∥₁_elim s (rising_prop h.processes) (λ d. d.bounded.rising)
