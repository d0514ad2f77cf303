-- What a hall holds: the station, the log, the active processes, the programs by place, the last start number given and the last commit number.
use Rattle.std.specs.Prelude.{ℕ, suc, min, Bool, true, false, cond, not, List, [], ◌∷◌, ◌++◌, map, replicate, Some, None, filter, Option, ◌==◌, slice_index_or, slice_set, unwrap_or}
use Rattle.std.specs.List as list
use Rattle.activity.specs.declared.Activity.{Activity}
use Rattle.protocol.specs.declared.record.Record.{Record}
use Rattle.protocol.specs.Answer.{Answer}
use Rattle.protocol.specs.declared.standing.Aim.TheVariants.{End}
use Rattle.protocol.specs.declared.standing.Direction.{Direction}
use Rattle.protocol.specs.declared.standing.Direction.TheVariants.{Forward, Back}
use Rattle.protocol.specs.declared.standing.Standing.{Standing}
use Rattle.protocol.specs.declared.standing.Standing.TheVariants.{Running, Withdrawing, PastPivot}
use Rattle.program.specs.Grammar.{Body, finish}
use Rattle.program.specs.Positions.{Position, outer}

-- an active process: its start number, its program place, its standing, and where it is in its program
pub record Process : Type 0 where
  pub start : ℕ
  pub place : ℕ
  pub standing : Standing
  pub at : Position

pub record Hall (S : Type 0) : Type 0 where
  pub station : S
  pub log : List Record
  pub processes : List Process
  pub programs : List (Option Body)
  pub given : ℕ
  pub committed : ℕ

abbrev pub fresh : {S : Type 0} → S → Hall S
fresh s = record { station = s; log = []; processes = []; programs = replicate 8 None; given = 0; committed = 0 }

-- the process of a start number
abbrev pub find : ℕ → List Process → Option Process
find n ps = list.find (λ q. q.start == n) ps

abbrev pub without : ℕ → List Process → List Process
without n ps = filter (λ q. not (q.start == n)) ps

-- the process of a start number changed
abbrev pub change : ℕ → (Process → Process) → Process → Process
change n f q = cond (q.start == n) (f q) q

abbrev pub changed : ℕ → (Process → Process) → List Process → List Process
changed n f ps = map (change n f) ps

abbrev pub stand : Standing → Process → Process
stand s q = record { start = q.start; place = q.place; standing = s; at = q.at }

abbrev pub move : Standing → Position → Process → Process
move s at q = record { start = q.start; place = q.place; standing = s; at = at }

abbrev pub with_processes : {S : Type 0} → Hall S → List Process → Hall S
with_processes h ps = record { station = h.station; log = h.log; processes = ps; programs = h.programs; given = h.given; committed = h.committed }

abbrev pub body_of : Option Body → Body
body_of o = unwrap_or o finish

-- where a process of the place begins
abbrev pub beginning : List (Option Body) → ℕ → Position
beginning programs k = outer (body_of (slice_index_or programs k None))

abbrev pub running : Standing → Bool
running Running = true
running (Withdrawing aim) = false
running (PastPivot way) = false

abbrev pub past_pivot : Standing → Bool
past_pivot Running = false
past_pivot (Withdrawing aim) = false
past_pivot (PastPivot way) = true

abbrev pub going_back : Direction → Bool
going_back Forward = false
going_back Back = true

-- withdrawing or going back
abbrev pub retreating : Standing → Bool
retreating Running = false
retreating (Withdrawing aim) = true
retreating (PastPivot d) = going_back d

abbrev pub lower : Bool → ℕ → Option ℕ → Option ℕ
lower false n best = best
lower true n None = Some n
lower true n (Some m) = Some (min n m)

-- the smallest start number of those that pass
abbrev pub least : (Process → Bool) → List Process → Option ℕ
least p [] = None
least p (q ∷ qs) = lower (p q) q.start (least p qs)

-- the standing after a step that was not possible
abbrev pub failed : Standing → Standing
failed Running = Withdrawing End
failed (Withdrawing aim) = Withdrawing End
failed (PastPivot way) = PastPivot Back

-- where a step leads: past the pivot by a pivot
abbrev pub standing_after : Bool → Standing → Standing
standing_after true s = PastPivot Forward
standing_after false s = s

-- the record of a step that the process has performed
abbrev pub record_of : Process → Bool → Activity → ℕ → Record
record_of p pivot s x = record { start = p.start; activity = s; answer = x; commit = 0; pivot = pivot }

-- what a call comes to: a hall and an answer
pub record Outcome (S : Type 0) : Type 0 where
  pub hall : Hall S
  pub answer : Answer

module _ {S : Type 0} where
  abbrev pub answered : Hall S → Answer → Outcome S
  answered h a = record { hall = h; answer = a }

  -- the hall with a program at the place
  abbrev pub with_program : Hall S → ℕ → Body → Hall S
  with_program h k b = record { station = h.station; log = h.log; processes = h.processes; programs = slice_set h.programs k (Some b); given = h.given; committed = h.committed }

  -- the hall with one process more, which runs from the beginning of the program at the place, under the next start number
  abbrev pub with_process : Hall S → ℕ → Hall S
  with_process h k = record { station = h.station; log = h.log; processes = h.processes ++ record { start = suc h.given; place = k; standing = Running; at = beginning h.programs k } ∷ []; programs = h.programs; given = suc h.given; committed = h.committed }
