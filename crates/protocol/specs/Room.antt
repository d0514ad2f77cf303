-- That the log has room, and that numbers and tables stay within their bounds.
use Rattle.std.specs.Prelude.{◌+◌, ◌<◌, ◌≤◌, List, length}
use Rattle.std.specs.List.{AllByRecursion}
use Rattle.serial.specs.Sorts.{Pairwise}
use Rattle.station.specs.Meaning.{Meaning}
use Rattle.protocol.specs.Questions.{made_over}
use Rattle.protocol.specs.Hall.{Hall}
use Rattle.protocol.specs.Call.{Event}
use Rattle.protocol.specs.Book.{Told}
use Rattle.protocol.specs.Statements.{Runs}

-- there are never more than 1,024 records
abbrev pub HasRoom : {S : Type 0} → Meaning S → Type 0
HasRoom {S} M = (s : S) (es : List Event) (ts : List Told) (h : Hall S) → Runs M (made_over s) es ts h → length h.log ≤ 1024

-- numbers and tables stay within their bounds, and start numbers rise along the table
pub record Bounded {S : Type 0} (h : Hall S) : Type 0 where
  pub given : h.given ≤ 65535
  pub active : length h.processes ≤ 16
  pub committed : h.committed + length h.processes ≤ h.given
  pub rising : Pairwise (λ a b. a.start < b.start) h.processes
  pub starts : AllByRecursion (λ q. q.start ≤ h.given) h.processes

abbrev pub StaysBounded : {S : Type 0} → Meaning S → Type 0
StaysBounded {S} M = (s : S) (es : List Event) (ts : List Told) (h : Hall S) → Runs M (made_over s) es ts h → Bounded h
