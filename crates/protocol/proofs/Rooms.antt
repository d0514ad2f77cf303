-- Every call leaves room in the log.
use Rattle.std.proofs.Common.{◌≡◌, ℕ, zero, suc, ◌+◌, ◌*◌, ◌≤◌, Bool, true, false, cond, not, ◌&&◌, eqb, List, [], ◌∷◌, ◌++◌, map, length, get_or, Some, None, filter, Option, sym, refl, ap, ◌∙◌, subst, ⊎_elim, append-nil, arith}
use Rattle.std.specs.List.{AllByRecursion}
use Rattle.std.proofs.lemmas.Bool.{eqb-true, eq-eqb, ne_eqb, cases_eq, cond_both}
use Rattle.std.proofs.lemmas.Option.{none-some}
use Rattle.std.proofs.lemmas.List.Filters.{length-filter_both}
use Rattle.std.proofs.lemmas.List.{length-map, length_push}
use Rattle.serial.proofs.Lists.{all_set}
use Rattle.activity.specs.declared.Activity.{Activity}
use Rattle.protocol.specs.declared.record.Record.{Record}
use Rattle.protocol.specs.declared.standing.Aim.TheVariants.{Restart, End}
use Rattle.protocol.specs.declared.standing.Direction.TheVariants.{Forward}
use Rattle.protocol.specs.declared.standing.Standing.TheVariants.{Running, Withdrawing, PastPivot}
use Rattle.station.specs.Meaning.{Meaning}
use Rattle.program.specs.Grammar.{Body, Choices, row, or_else}
use Rattle.program.specs.Positions.{Position, outer, inner, alternative, reached, into, alternative_of}
use Rattle.protocol.specs.Log.{Split, own, removed, returnable, to_pivot, from_pivot, committed_under, committed_records}
use Rattle.protocol.specs.Hall.{Process, Hall, fresh, find, without, change, changed, stand, move, with_processes, running, body_of, beginning, failed, standing_after, record_of}
use Rattle.protocol.specs.StepFunction.{marked, performed, undone, committing}
use Rattle.protocol.specs.Call.{Call}
use Rattle.protocol.specs.CallFunction.{loaded, opened, outcome}
use Rattle.protocol.proofs.CallCases.{cases}
use Rattle.protocol.specs.Statements.{without_commit_number}
use Rattle.protocol.proofs.Members.{In, kept_in, all_at}
use Rattle.protocol.proofs.Processes.{marked_keeps, from_map, from_changed, from_without, from_push}
use Rattle.protocol.proofs.Objections.{openable}
use Rattle.protocol.proofs.LastRecords.{NotOf, Loose, LooseIs, loose_is}
use Rattle.protocol.proofs.PivotsStay.{own_none, own_sealed, pivot_sealed, pivot_plain}
use Rattle.protocol.proofs.Counts.{parts, size, Roomy, roomy_few, roomy_alike, NextRoom, next_room, own_pushed, own_taken, own_left, own_others, none_loose, closed_push, closed_less, closed_sealed, without_less, fewer_own, spread}
use Rattle.protocol.specs.Held.{rest_size}
pub use Rattle.protocol.specs.Held.{Rooms}

fits_at : (k : ℕ) (xs : List (Option Body)) → AllByRecursion (λ o. size (body_of o) ≤ 32) xs → size (body_of (get_or xs k None)) ≤ 32
fits_at k xs all = all_at (λ o. size (body_of o) ≤ 32) None (omega arith) k xs all

module _ {S : Type 0} where
  rooms_map : (h : Hall S) → Rooms h → (f : Process → Process) → ((q : Process) → (f q).start ≡ q.start) → ((n : ℕ) (q : Process) → find n h.processes ≡ Some q → Roomy (own n h.log) (f q).at) → Rooms (with_processes h (map f h.processes))
  rooms_map h rooms f keeps each = record {
    programs = rooms.programs;
    actives = λ n q e. let (p, at, is) = from_map f keeps n h.processes q e in subst (λ x. Roomy (own n h.log) x.at) (sym is) (each n p at);
    budget = omega (arith, length-map h.processes f, rooms.budget);
  }

  rooms_changed : (h : Hall S) → Rooms h → (n : ℕ) (p : Process) → find n h.processes ≡ Some p → (f : Process → Process) → ((q : Process) → (f q).start ≡ q.start) → Roomy (own n h.log) (f p).at → Rooms (with_processes h (changed n f h.processes))
  rooms_changed h rooms n p is f keeps now = record {
    programs = rooms.programs;
    actives = λ m q e. ⊎_elim
        (λ mine. subst (λ k. Roomy (own k h.log) q.at) (sym mine.0) (subst (λ x. Roomy (own n h.log) x.at) (sym mine.1) now))
        (λ other. rooms.actives m q other.1)
        (from_changed n p f keeps h.processes is m q e);
    budget = omega (arith, length-map h.processes (change n f), rooms.budget);
  }

  rooms_marked : (h : Hall S) → Rooms h → (told : Process → Bool) → Rooms (with_processes h (map (marked told) h.processes))
  rooms_marked h rooms told = rooms_map h rooms (marked told) (marked_keeps told)
      (λ n q e. cond_both (told q && running q.standing) (stand (Withdrawing Restart) q) q (λ x. Roomy (own n h.log) x.at) (λ _. rooms.actives n q e) (λ _. rooms.actives n q e))

  rooms_gone : (h : Hall S) → Rooms h → (n : ℕ) (p : Process) → find n h.processes ≡ Some p → Rooms (with_processes h (without n h.processes))
  rooms_gone h rooms n p is = record {
    programs = rooms.programs;
    actives = λ m q e. rooms.actives m q (from_without n m h.processes q e).1;
    budget = omega (arith, without_less n h.processes p is, rooms.budget);
  }

  rooms_loaded : (h : Hall S) → Rooms h → (k : ℕ) (b : Body) → size b ≤ 32 → Rooms (loaded h k b).hall
  rooms_loaded h rooms k b small = record {
    programs = all_set (λ o. size (body_of o) ≤ 32) h.programs k (Some b) small rooms.programs;
    actives = rooms.actives;
    budget = rooms.budget;
  }

  rooms_opened : (h : Hall S) → Rooms h → NotOf (suc h.given) h.log → (k : ℕ) → length (committed_records h.log) + 32 * (length h.processes + 1) ≤ 1024 → Rooms (opened h k).hall
  rooms_opened h rooms free k fits = record {
    programs = rooms.programs;
    actives = λ n q e. ⊎_elim
        (rooms.actives n q)
        (λ new. subst (λ x. Roomy (own n h.log) x.at) (sym new.1) (subst (λ m. length (own m h.log) + size (body_of (get_or h.programs k None)) ≤ 32) (sym new.0) (omega (arith, ap length (own_none (suc h.given) h.log free), fits_at k h.programs rooms.programs))))
        (from_push n h.processes record { start = suc h.given; place = k; standing = Running; at = beginning h.programs k } q e);
    budget = omega (arith, length_push h.processes record { start = suc h.given; place = k; standing = Running; at = beginning h.programs k }, fits);
  }

  module _ (h : Hall S) (rooms : Rooms h) (p : Process) (is : find p.start h.processes ≡ Some p) where
    mine : List Record
    mine = own p.start h.log

    pub rooms_done : (pivot : Bool) (a : Activity) (to : Position) (o : Option (ℕ × S)) → ((r : Record) → r.pivot ≡ pivot → Roomy (own p.start h.log ++ r ∷ []) to) → Rooms (performed h p pivot a to o).hall
    rooms_done pivot a to None room = rooms_changed h rooms p.start p is (stand (failed p.standing)) (λ q. refl) (rooms.actives p.start p is)
    rooms_done pivot a to (Some d) room = record {
      programs = rooms.programs;
      actives = λ n q e. ⊎_elim
          (λ mine. subst (λ k. Roomy (own k (h.log ++ new ∷ [])) q.at) (sym mine.0) (subst (λ x. Roomy (own p.start (h.log ++ new ∷ [])) x.at) (sym mine.1) here))
          (λ other. subst (λ l. Roomy l q.at) (sym (there n other.0)) (rooms.actives n q other.1))
          (from_changed p.start p (move (standing_after pivot p.standing) to) (λ q. refl) h.processes is n q e);
      budget = omega (arith, length-map h.processes (change p.start (move (standing_after pivot p.standing) to)), closed_push h.log new refl, rooms.budget);
    }
      where
        new : Record
        new = record_of p pivot a d.0

        here : Roomy (own p.start (h.log ++ new ∷ [])) to
        here = subst (λ l. Roomy l to) (sym (own_pushed p.start h.log new ∙ ap (λ b. own p.start h.log ++ cond b (new ∷ []) []) (eq-eqb p.start p.start refl))) (room new refl)

        there : (n : ℕ) → (n ≡ p.start → ⊥) → own n (h.log ++ new ∷ []) ≡ own n h.log
        there n off = own_pushed n h.log new ∙ ap (λ b. own n h.log ++ cond b (new ∷ []) []) (ne_eqb p.start n (λ e. off (sym e))) ∙ append-nil (own n h.log)

    rooms_undone : (M : Meaning S) (z : Split) → Loose p.start h.log z → Rooms (undone M h z).hall
    rooms_undone M z l = record {
      programs = rooms.programs;
      actives = λ n q e. ⊎_elim (λ same. subst (λ k. Roomy (own k (removed z)) q.at) (sym same) (less q (rooms.actives p.start q (ap (λ k. find k h.processes) (sym same) ∙ e)))) (λ off. subst (λ x. Roomy x q.at) (sym (own_others p.start n h.log z l.last off)) (rooms.actives n q e)) (cases_eq n p.start);
      budget = omega (arith, closed_less z.before z.at z.after, ap (λ x. length (committed_records x)) l.last.whole, rooms.budget);
    }
      where
        old : List Record
        old = own p.start z.before

        was : own p.start h.log ≡ own p.start z.before ++ z.at ∷ []
        was = own_taken p.start h.log z l.last

        less : (q : Process) → Roomy (own p.start h.log) q.at → Roomy (own p.start (removed z)) q.at
        less q room = subst (λ x. Roomy x q.at) (sym (own_left p.start h.log z l.last))
            (roomy_alike (own p.start z.before ++ z.at ∷ []) (own p.start z.before) q.at
            (sym (ap length (pivot_plain (own p.start z.before) z.at l.plain)))
            (omega (arith, parts (own p.start z.before), parts (own p.start z.before ++ z.at ∷ []), length_push (own p.start z.before) z.at, ap length (pivot_plain (own p.start z.before) z.at l.plain)))
            (subst (λ x. Roomy x q.at) was room))

    rooms_committed : Rooms (committing h p).hall
    rooms_committed = record {
      programs = rooms.programs;
      actives = λ n q e. subst (λ x. Roomy x q.at) (sym (own_sealed p.start (suc h.committed) n h.log)) (like (own n h.log) q.at (rooms.actives n q (from_without p.start n h.processes q e).1));
      budget = omega (arith, closed_sealed p.start (suc h.committed) h.log, roomy_few (own p.start h.log) p.at (rooms.actives p.start p is), without_less p.start h.processes p is, rooms.budget);
    }
      where
        seal : Record → Record
        seal = committed_under p.start (suc h.committed)

        like : (xs : List Record) (at : Position) → Roomy xs at → Roomy (map (committed_under p.start (suc h.committed)) xs) at
        like xs at room =
            let to : length (to_pivot (map (committed_under p.start (suc h.committed)) xs)) ≡ length (to_pivot xs) =
            sym (length-map (to_pivot (map (committed_under p.start (suc h.committed)) xs)) without_commit_number) ∙ ap length (pivot_sealed p.start (suc h.committed) xs) ∙ length-map (to_pivot xs) without_commit_number in
            roomy_alike xs (map (committed_under p.start (suc h.committed)) xs) at to
            (omega (arith, parts xs, parts (map (committed_under p.start (suc h.committed)) xs), length-map xs (committed_under p.start (suc h.committed)), to)) room

-- the alternative at an ordinal that is reached is the one that was asked for
reached_alternative : (c : Choices) (k : ℕ) → alternative c (reached c k) ≡ alternative c k
reached_alternative (row ss) k = refl
reached_alternative (or_else b c) zero = refl
reached_alternative (or_else b c) (suc k) = reached_alternative c k

into_room : (xs : List Record) (at : Position) (k : ℕ) → length (from_pivot xs) ≡ 0 → Roomy xs at → Roomy xs (into k at)
into_room xs (outer b) k e room = room
into_room xs (inner c j r) k e room = (room.0, omega (arith, e, ap rest_size (reached_alternative c k)))

module _ {S : Type 0} (M : Meaning S) where
  pub rooms_by : (h : Hall S) → NotOf (suc h.given) h.log → ((p : Process) → find p.start h.processes ≡ Some p → p.standing ≡ Withdrawing Restart → returnable p.start h.log ≡ None → NotOf p.start h.log) → Rooms h → (c : Call) → Rooms (outcome M h c).hall
  rooms_by h free none_of rooms = cases M h (λ c o. Rooms o.hall) record {
    refused = λ c r. rooms;
    waited = λ p is told n. rooms_marked h rooms told;
    loads = λ k b w e. rooms_loaded h rooms k b w.1.few;
    installs = λ k t b read e. rooms_loaded h rooms k b read.few;
    opens = λ k e. rooms_opened h rooms free k (openable h k e).room;
    cancels = λ p is e. rooms_changed h rooms p.start p is (stand (Withdrawing End)) (λ q. refl) (rooms.actives p.start p is);
    steps = λ p is g a to n free o e. rooms_done h rooms p is false a to o (subst (NextRoom (own p.start h.log)) n (next_room (own p.start h.log) p.at (rooms.actives p.start p is)));
    crosses = λ p is g a to n alone free o e. rooms_done h rooms p is true a to o (subst (NextRoom (own p.start h.log)) n (next_room (own p.start h.log) p.at (rooms.actives p.start p is)));
    commits = λ p is g n free. rooms_committed h rooms p is;
    takes_back = λ p is b z l free. rooms_undone h rooms p is M z (subst (LooseIs p.start h.log) l (loose_is p.start h.log));
    restarts = λ p is e none. rooms_changed h rooms p.start p is (move Running (beginning h.programs p.place)) (λ q. refl) (omega (arith, ap length (own_none p.start h.log (none_of p is e none)), fits_at p.place h.programs rooms.programs));
    leaves = λ p is e none. rooms_gone h rooms p.start p is;
    turns = λ p is e none. rooms_changed h rooms p.start p is (move (PastPivot Forward) (into (suc (alternative_of p.at)) p.at)) (λ q. refl) (into_room (own p.start h.log) p.at (suc (alternative_of p.at)) (none_loose p.start h.log none) (rooms.actives p.start p is));
  }

module _ {S : Type 0} where
  pub rooms_fresh : (s : S) → Rooms (fresh s)
  rooms_fresh s = record {
    programs = (omega arith, (omega arith, (omega arith, (omega arith, (omega arith, (omega arith, (omega arith, (omega arith, tt))))))));
    actives = λ n q e. absurd (none-some _ e);
    budget = omega arith;
  }

  pub few : (h : Hall S) → ((r : Record) → In r h.log → r.commit ≡ 0 → (q : Process) × (find r.start h.processes ≡ Some q)) → Rooms h → length h.log ≤ 1024
  few h active rooms =
      let open-few = spread h.processes (filter (λ r. eqb r.commit 0) h.log)
      (λ r i. let (j, e) = kept_in (λ r. eqb r.commit 0) h.log r i in active r j (eqb-true r.commit 0 e))
      (λ n. each n (find n h.processes) refl) in
      omega (arith, length-filter_both (λ r. eqb r.commit 0) (λ r. not (eqb r.commit 0)) (λ r. refl) h.log, open-few, rooms.budget)
    where
      each : (n : ℕ) (o : Option Process) → find n h.processes ≡ o → length (own n (filter (λ r. eqb r.commit 0) h.log)) ≤ 32
      each n (Some q) e = omega (arith, fewer_own n (λ r. eqb r.commit 0) h.log, roomy_few (own n h.log) q.at (rooms.actives n q e))
      each n None e = omega (arith, ap length (own_none n (filter (λ r. eqb r.commit 0) h.log) (λ r i f. let (j, c) = kept_in (λ r. eqb r.commit 0) h.log r i in let (q, at) = active r j (eqb-true r.commit 0 c) in none-some _ (sym e ∙ ap (λ k. find k h.processes) (sym f) ∙ at))))
