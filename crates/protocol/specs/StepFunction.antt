-- What a step comes to, as a function. What the rules say is the relation in Relation.antt; that the two agree is proved.
use Rattle.std.specs.Prelude.{ℕ, suc, Bool, true, false, cond, not, ◌&&◌, ◌||◌, List, [], ◌∷◌, ◌++◌, map, Some, None, Option, ◌==◌, nat_lt, Ok, Err}
use Rattle.std.specs.List.{list_any}
use Rattle.activity.specs.declared.Activity.{Activity}
use Rattle.protocol.specs.declared.record.Record.{Record}
use Rattle.protocol.specs.declared.standing.Standing.{Standing}
use Rattle.protocol.specs.declared.standing.Aim.TheVariants.{Restart, End}
use Rattle.protocol.specs.declared.standing.Direction.TheVariants.{Forward, Back}
use Rattle.protocol.specs.declared.standing.Standing.TheVariants.{Running, Withdrawing, PastPivot}
use Rattle.protocol.specs.declared.answer.Served.TheVariants.{Stepped}
use Rattle.protocol.specs.declared.answer.Turn.TheVariants as turns
use Rattle.protocol.specs.declared.answer.Refusal.TheVariants.{NoProcess}
use Rattle.station.specs.Meaning.{Meaning}
use Rattle.program.specs.Positions.{Position, alternative_of, into}
use Rattle.protocol.specs.Ahead.{Next, nothing, plain, crossing, next}
use Rattle.protocol.specs.Log.{owned, own, Split, removed, returnable, from_pivot, committed_under}
use Rattle.protocol.specs.Hall.{Process, Hall, without, changed, stand, move, with_processes, beginning, running, past_pivot, retreating, least, failed, standing_after, record_of, Outcome, answered}

-- the process n has a record that conflicts with the activity
abbrev pub holds_conflict : (ℕ → ℕ → Bool) → ℕ → ℕ → List Record → Bool
holds_conflict conflict n a log = list_any (λ r. owned n r && conflict r.activity.number a) log

-- the process n has a record in conflict with one of these
abbrev pub holds_any_conflict : (ℕ → ℕ → Bool) → ℕ → List Record → List Record → Bool
holds_any_conflict conflict n log mine = list_any (λ r. holds_conflict conflict n r.activity.number log) mine

-- the process n has a record before a conflicting one of the process m
abbrev pub stands_before_conflict : (ℕ → ℕ → Bool) → ℕ → ℕ → List Record → Bool
stands_before_conflict conflict n m [] = false
stands_before_conflict conflict n m (r ∷ rs) = (owned n r && list_any (λ x. owned m x && conflict r.activity.number x.activity.number) rs) || stands_before_conflict conflict n m rs

-- another process than p, and younger than p
abbrev pub other : Process → Process → Bool
other p q = not (q.start == p.start)

abbrev pub younger : Process → Process → Bool
younger p q = nat_lt p.start q.start

-- who blocks the taking back of a record: others with a later record in conflict with it
abbrev pub blocks_back : (ℕ → ℕ → Bool) → Process → Split → Process → Bool
blocks_back conflict p s q = other p q && holds_conflict conflict q.start s.at.activity.number s.after

-- who blocks a step that is no pivot: others with a record in conflict with it, of a running process's only those that are younger or retreat
abbrev pub blocks_plain : (ℕ → ℕ → Bool) → List Record → Process → Activity → Process → Bool
blocks_plain conflict log p s q = other p q && ((past_pivot p.standing || (younger p q || retreating q.standing)) && holds_conflict conflict q.start s.number log)

-- who blocks a pivot: others with a record in conflict with it, or with an own record after the last pivot
abbrev pub blocks_pivot : (ℕ → ℕ → Bool) → List Record → Process → Activity → Process → Bool
blocks_pivot conflict log p s q = other p q && (holds_conflict conflict q.start s.number log || holds_any_conflict conflict q.start log (from_pivot (own p.start log)))

-- a running process's pivot waits for another past its pivot
abbrev pub blocks_alone : Process → Process → Bool
blocks_alone p q = other p q && (not (past_pivot p.standing) && past_pivot q.standing)

-- who blocks a commit: others with a record before a conflicting one of this process
abbrev pub blocks_commit : (ℕ → ℕ → Bool) → List Record → Process → Process → Bool
blocks_commit conflict log p q = other p q && stands_before_conflict conflict q.start p.start log

abbrev pub everybody : Process → Bool
everybody q = true

abbrev pub nobody : Process → Bool
nobody q = false

-- whom a pivot marks
abbrev pub pivot_marks : Process → Process → Bool
pivot_marks p q = past_pivot p.standing || younger p q

-- a running process that is told to is set to withdraw, to restart
abbrev pub marked : (Process → Bool) → Process → Process
marked told q = cond (told q && running q.standing) (stand (Withdrawing Restart) q) q

module _ {S : Type 0} where
  -- W where a smallest start number is found, with the marking; else it goes on
  abbrev pub waits : Hall S → (Process → Bool) → (Process → Bool) → Outcome S → Option ℕ → Outcome S
  waits h blocks marks on None = on
  waits h blocks marks on (Some n) = answered (with_processes h (map (marked (λ q. blocks q && marks q)) h.processes)) (Ok (Stepped (turns.Wait n)))

  -- with blockers: W and the smallest start number, and the running ones of those that are to be marked are marked
  abbrev pub unless_blocked : Hall S → (Process → Bool) → (Process → Bool) → Outcome S → Outcome S
  unless_blocked h blocks marks on = waits h blocks marks on (least blocks h.processes)

  -- a step without blockers: recorded where the station can do it; else its process withdraws, or goes back
  abbrev pub performed : Hall S → Process → Bool → Activity → Position → Option (ℕ × S) → Outcome S
  performed h p pivot s to None = answered (with_processes h (changed p.start (stand (failed p.standing)) h.processes)) (Ok (Stepped turns.Failed))
  performed h p pivot s to (Some d) =
      answered
      record { station = d.1; log = h.log ++ record_of p pivot s d.0 ∷ []; processes = changed p.start (move (standing_after pivot p.standing) to) h.processes; programs = h.programs; given = h.given; committed = h.committed }
      (Ok (Stepped (turns.Done d.0)))

  -- with nothing left to take back: from the start again, away, or into the next alternative
  abbrev pub restarted : Hall S → Process → Outcome S
  restarted h p = answered (with_processes h (changed p.start (move Running (beginning h.programs p.place)) h.processes)) (Ok (Stepped turns.Restarted))

  abbrev pub gone : Hall S → Process → Outcome S
  gone h p = answered (with_processes h (without p.start h.processes)) (Ok (Stepped turns.Gone))

  abbrev pub next_alternative : Hall S → Process → Outcome S
  next_alternative h p = answered (with_processes h (changed p.start (move (PastPivot Forward) (into (suc (alternative_of p.at)) p.at)) h.processes)) (Ok (Stepped (turns.Next (suc (alternative_of p.at)))))

  -- a record is taken back at the station, and removed
  abbrev pub undone : Meaning S → Hall S → Split → Outcome S
  undone M h s =
      answered
      record { station = M.taken_back h.station s.at.activity s.at.answer; log = removed s; processes = h.processes; programs = h.programs; given = h.given; committed = h.committed }
      (Ok (Stepped (turns.Undone s.at.activity.number)))

  -- the records get the next commit number, and the process leaves
  abbrev pub committing : Hall S → Process → Outcome S
  committing h p =
      answered
      record { station = h.station; log = map (committed_under p.start (suc h.committed)) h.log; processes = without p.start h.processes; programs = h.programs; given = h.given; committed = suc h.committed }
      (Ok (Stepped (turns.Committed (suc h.committed))))

  -- the last record that may go is taken back; with none left it goes another way
  abbrev pub backward : Meaning S → Hall S → Process → Outcome S → Option Split → Outcome S
  backward M h p otherwise None = otherwise
  backward M h p otherwise (Some s) = unless_blocked h (blocks_back M.conflict p s) everybody (undone M h s)

  -- by what is next: nothing, a step that is no pivot, a pivot
  abbrev pub forward : Meaning S → Hall S → Process → Next → Outcome S
  forward M h p nothing = unless_blocked h (blocks_commit M.conflict h.log p) nobody (committing h p)
  forward M h p (plain s to) = unless_blocked h (blocks_plain M.conflict h.log p s) everybody (performed h p false s to (M.performed h.station s))
  forward M h p (crossing s to) =
      unless_blocked h (blocks_alone p) nobody
      (unless_blocked h (blocks_pivot M.conflict h.log p s) (pivot_marks p) (performed h p true s to (M.performed h.station s)))

  -- by the standing
  abbrev pub by_standing : Meaning S → Hall S → Process → Standing → Outcome S
  by_standing M h p Running = forward M h p (next p.at)
  by_standing M h p (Withdrawing Restart) = backward M h p (restarted h p) (returnable p.start h.log)
  by_standing M h p (Withdrawing End) = backward M h p (gone h p) (returnable p.start h.log)
  by_standing M h p (PastPivot Back) = backward M h p (next_alternative h p) (returnable p.start h.log)
  by_standing M h p (PastPivot Forward) = forward M h p (next p.at)

  -- by the process of the start number, if there is one
  abbrev pub step_of : Meaning S → Hall S → Option Process → Outcome S
  step_of M h None = answered h (Err NoProcess)
  step_of M h (Some p) = by_standing M h p p.standing
