-- What always holds of a hall's tables, whatever the station means.
use Rattle.std.specs.Prelude.{◌≡◌, ℕ, ◌+◌, ◌*◌, ◌≤◌, false, List, length, Some}
use Rattle.std.specs.List.{AllByRecursion}
use Rattle.protocol.specs.declared.record.Record.{Record}
use Rattle.program.specs.Grammar.{Body, Choices, body_steps, choices_steps}
use Rattle.program.specs.Positions.{Rest, in_body, in_row, Position, outer, inner, alternative}
use Rattle.protocol.specs.Log.{own, to_pivot, from_pivot, committed_records}
use Rattle.protocol.specs.Hall.{Process, Hall, find, past_pivot, body_of}
use Rattle.protocol.specs.Relation.{In}
use Rattle.protocol.specs.Room.{Bounded}

-- how many records a position leaves room for

abbrev pub size : Body → ℕ
size b = length (body_steps b)

abbrev pub choice_size : Choices → ℕ
choice_size c = length (choices_steps c)

abbrev pub rest_size : Rest → ℕ
rest_size (in_body b) = size b
rest_size (in_row ss) = length ss

abbrev pub Roomy : List Record → Position → Type 0
Roomy mine (outer b) = length mine + size b ≤ 32
Roomy mine (inner c k r) = (length (to_pivot mine) + choice_size c ≤ 32) × (length (from_pivot mine) + rest_size r ≤ rest_size (alternative c k))

pub record Rooms {S : Type 0} (h : Hall S) : Type 0 where
  pub programs : AllByRecursion (λ o. size (body_of o) ≤ 32) h.programs
  pub actives : (n : ℕ) (q : Process) → find n h.processes ≡ Some q → Roomy (own n h.log) q.at
  pub budget : length (committed_records h.log) + 32 * length h.processes ≤ 1024

pub record Held {S : Type 0} (h : Hall S) : Type 0 where
  pub bounded : Bounded h
  pub rooms : Rooms h
  pub low : (r : Record) → In r h.log → r.start ≤ h.given
  pub active : (r : Record) → In r h.log → r.commit ≡ 0 → (q : Process) × (find r.start h.processes ≡ Some q)
  pub unpivoted : (n : ℕ) (q : Process) → find n h.processes ≡ Some q → past_pivot q.standing ≡ false → (r : Record) → In r h.log → r.start ≡ n → r.pivot ≡ false
