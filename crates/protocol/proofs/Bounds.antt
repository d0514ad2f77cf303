-- Every call keeps numbers and tables within their bounds.
use Rattle.std.proofs.Common.{◌≡◌, ℕ, suc, ◌<◌, ◌≤◌, Bool, true, false, not, eqb, List, map, Some, None, Option, refl, arith}
use Rattle.std.proofs.lemmas.List.{length-map, length_push}
use Rattle.serial.specs.Sorts.{Pairwise}
use Rattle.serial.proofs.Lists.{all_weaker, all_map, all_kept, all_push, pairs_map, pairs_kept, pairs_push}
use Rattle.activity.specs.declared.Activity.{Activity}
use Rattle.protocol.specs.declared.standing.Aim.TheVariants.{End}
use Rattle.protocol.specs.declared.standing.Direction.TheVariants.{Forward}
use Rattle.protocol.specs.declared.standing.Standing.TheVariants.{Running, Withdrawing, PastPivot}
use Rattle.station.specs.Meaning.{Meaning}
use Rattle.program.specs.Positions.{Position, into, alternative_of}
use Rattle.protocol.specs.Hall.{find, without, Process, Hall, fresh, change, changed, stand, move, with_processes, beginning, failed, standing_after}
use Rattle.protocol.specs.StepFunction.{marked, performed}
use Rattle.protocol.specs.Call.{Call}
use Rattle.protocol.specs.CallFunction.{against_open, outcome, ends, all_singles}
use Rattle.protocol.specs.Room.{Bounded}
use Rattle.protocol.proofs.Processes.{change_keeps, marked_keeps}
use Rattle.protocol.proofs.Objections.{openable}
use Rattle.protocol.proofs.CallCases.{cases}
use Rattle.protocol.proofs.Counts.{without_less}

-- lists that were changed

rising_map : (f : Process → Process) → ((q : Process) → (f q).start ≡ q.start) → (ps : List Process) → Pairwise (λ a b. a.start < b.start) ps → Pairwise (λ a b. a.start < b.start) (map f ps)
rising_map f keeps = pairs_map (λ a b. a.start < b.start) f (λ a b h. omega (arith, keeps a, keeps b, h))

module _ {S : Type 0} where
  bounded_map : (h : Hall S) → Bounded h → (f : Process → Process) → ((q : Process) → (f q).start ≡ q.start) → Bounded (with_processes h (map f h.processes))
  bounded_map h b f keeps = record {
    given = b.given;
    active = omega (arith, length-map h.processes f, b.active);
    committed = omega (arith, length-map h.processes f, b.committed);
    rising = rising_map f keeps h.processes b.rising;
    starts = all_map (λ q. q.start ≤ h.given) f h.processes (all_weaker (λ q. q.start ≤ h.given) (λ q. (f q).start ≤ h.given) (λ q x. omega (arith, keeps q, x)) h.processes b.starts);
  }

  bounded_changed : (h : Hall S) → Bounded h → (n : ℕ) (f : Process → Process) → ((q : Process) → (f q).start ≡ q.start) → Bounded (with_processes h (changed n f h.processes))
  bounded_changed h b n f keeps = bounded_map h b (change n f) (change_keeps n f keeps)

  bounded_gone : (h : Hall S) → Bounded h → (p : Process) → find p.start h.processes ≡ Some p → Bounded (with_processes h (without p.start h.processes))
  bounded_gone h b p is =
      let less = without_less p.start h.processes p is in
      record {
        given = b.given;
        active = omega (arith, less, b.active);
        committed = omega (arith, less, b.committed);
        rising = pairs_kept (λ a b. a.start < b.start) (λ q. not (eqb q.start p.start)) h.processes b.rising;
        starts = all_kept (λ q. q.start ≤ h.given) (λ q. not (eqb q.start p.start)) h.processes b.starts;
      }

  pub bounded_fresh : (s : S) → Bounded (fresh s)
  bounded_fresh s = record { given = omega arith; active = omega arith; committed = omega arith; rising = tt; starts = tt }

  -- what stands in the log and at the station does not count
  bounded_done : (h : Hall S) → Bounded h → (p : Process) (pivot : Bool) (a : Activity) (to : Position) (o : Option (ℕ × S)) → Bounded (performed h p pivot a to o).hall
  bounded_done h b p pivot a to None = bounded_changed h b p.start (stand (failed p.standing)) (λ q. refl)
  bounded_done h b p pivot a to (Some d) =
      let c = bounded_changed h b p.start (move (standing_after pivot p.standing) to) (λ q. refl) in
      record { given = c.given; active = c.active; committed = c.committed; rising = c.rising; starts = c.starts }

  pub bounded_outcome : (M : Meaning S) (h : Hall S) → Bounded h → (c : Call) → Bounded (outcome M h c).hall
  bounded_outcome M h b = cases M h (λ c o. Bounded o.hall) record {
    refused = λ c r. b;
    waited = λ p is told n. bounded_map h b (marked told) (marked_keeps told);
    installs = λ k t p w e. record { given = b.given; active = b.active; committed = b.committed; rising = b.rising; starts = b.starts };
    loads = λ k p w e. record { given = b.given; active = b.active; committed = b.committed; rising = b.rising; starts = b.starts };
    opens = opens;
    cancels = λ p is e. bounded_changed h b p.start (stand (Withdrawing End)) (λ q. refl);
    steps = λ p is g a to n free o e. bounded_done h b p false a to o;
    crosses = λ p is g a to n alone free o e. bounded_done h b p true a to o;
    commits = λ p is g n free. let c = bounded_gone h b p is in record { given = c.given; active = c.active; committed = omega (arith, without_less p.start h.processes p is, b.committed); rising = c.rising; starts = c.starts };
    takes_back = λ p is x z l free. record { given = b.given; active = b.active; committed = b.committed; rising = b.rising; starts = b.starts };
    restarts = λ p is e none. bounded_changed h b p.start (move Running (beginning h.programs p.place)) (λ q. refl);
    leaves = λ p is e none. bounded_gone h b p is;
    turns = λ p is e none. bounded_changed h b p.start (move (PastPivot Forward) (into (suc (alternative_of p.at)) p.at)) (λ q. refl);
  }
    where
      opens : (k : ℕ) → against_open h k ≡ None → Bounded (Rattle.protocol.specs.CallFunction.opened h k).hall
      opens k e =
          let free = openable h k e in
          let new = length_push h.processes record { start = suc h.given; place = k; standing = Running; at = beginning h.programs k } in
          record {
            given = free.low;
            active = omega (arith, new, free.few);
            committed = omega (arith, new, b.committed);
            rising = pairs_push (λ a b. a.start < b.start) h.processes record { start = suc h.given; place = k; standing = Running; at = beginning h.programs k } b.rising (all_weaker (λ q. q.start ≤ h.given) (λ q. q.start < suc h.given) (λ q x. omega arith) h.processes b.starts);
            starts = all_push (λ q. q.start ≤ suc h.given) h.processes record { start = suc h.given; place = k; standing = Running; at = beginning h.programs k } (all_weaker (λ q. q.start ≤ h.given) (λ q. q.start ≤ suc h.given) (λ q x. omega arith) h.processes b.starts) (omega arith);
          }
