-- The log: whose records, the last of one process, and the orderly run.
use Rattle.std.specs.Prelude.{ℕ, Bool, cond, not, ◌&&◌, ◌||◌, List, [], ◌∷◌, ◌++◌, Some, None, filter, Option, ◌==◌, nat_le, nat_lt}
use Rattle.std.specs.List.{list_any}
use Rattle.serial.specs.Sorts.{sort}
use Rattle.protocol.specs.declared.record.Record.{Record}

abbrev pub owned : ℕ → Record → Bool
owned n r = r.start == n

-- the process's records
abbrev pub own : ℕ → List Record → List Record
own n log = filter (owned n) log

-- a record with what stands before and after it
pub record Split : Type 0 where
  pub before : List Record
  pub at : Record
  pub after : List Record

abbrev pub rejoined : Split → List Record
rejoined s = s.before ++ s.at ∷ s.after

abbrev pub removed : Split → List Record
removed s = s.before ++ s.after

abbrev pub or_here : ℕ → Record → List Record → Option Split → Option Split
or_here n r rs None = cond (owned n r) (Some record { before = []; at = r; after = rs }) None
or_here n r rs (Some s) = Some record { before = r ∷ s.before; at = s.at; after = s.after }

-- the process's last record
abbrev pub last_of : ℕ → List Record → Option Split
last_of n [] = None
last_of n (r ∷ rs) = or_here n r rs (last_of n rs)

abbrev pub unless_pivot : Option Split → Option Split
unless_pivot None = None
unless_pivot (Some s) = cond s.at.pivot None (Some s)

-- the process's last record, unless that is a pivot: what a process that goes back takes back
abbrev pub returnable : ℕ → List Record → Option Split
returnable n log = unless_pivot (last_of n log)

abbrev pub dropped : List Record → Option Split → List Record
dropped log None = log
dropped log (Some s) = removed s

-- the process has a kept pivot
abbrev pub pivoted : List Record → ℕ → Bool
pivoted log n = list_any (λ r. owned n r && r.pivot) log

-- those up to the last pivot
abbrev pub to_pivot : List Record → List Record
to_pivot [] = []
to_pivot (r ∷ rs) = cond (r.pivot || list_any (λ x. x.pivot) rs) (r ∷ to_pivot rs) []

-- those after the last pivot, all if there is none
abbrev pub from_pivot : List Record → List Record
from_pivot [] = []
from_pivot (r ∷ rs) = cond (list_any (λ x. x.pivot) rs) (from_pivot rs) (cond r.pivot rs (r ∷ rs))

abbrev pub committed_under : ℕ → ℕ → Record → Record
committed_under n c r = cond (owned n r) record { start = r.start; activity = r.activity; answer = r.answer; commit = c; pivot = r.pivot } r

-- the group of a record: committed, of a process with a kept pivot, of another process
abbrev pub group : (ℕ → Bool) → Record → ℕ
group piv r = cond (r.commit == 0) (cond (piv r.start) 1 2) 0

-- its number within the group
abbrev pub number : Record → ℕ
number r = cond (r.commit == 0) r.start r.commit

-- by the group, then by the number
abbrev pub prior : (ℕ → Bool) → Record → Record → Bool
prior piv a b = nat_lt (group piv a) (group piv b) || (group piv a == group piv b && nat_le (number a) (number b))

-- the kept steps, committed processes' by commit number, then those of processes with a kept pivot, then the rest, both by start number; each process's in the order kept
abbrev pub orderly : List Record → List Record
orderly kept = sort (prior (pivoted kept)) kept

-- the records of committed processes
abbrev pub committed_records : List Record → List Record
committed_records log = filter (λ r. not (r.commit == 0)) log
