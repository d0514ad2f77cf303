-- What the hall's tables stand for.
use Rattle.std.specs.Prelude.{◌≡◌, ℕ, ◌+◌, List, map, take, drop, Some, None, vec_items, Option, slice_index_or}
use Rattle.std.specs.List.{All}
use Rattle.program.specs.declared.program.Program.{Program}
use Rattle.program.specs.declared.cursor.Cursor.{Cursor}
use Rattle.program.specs.Grammar.{Body, finish}
use Rattle.program.specs.declared.command.Step.{Step}
use Rattle.program.specs.Positions.{Position, outer}
use Rattle.program.specs.Places.{tree, position}
use Rattle.protocol.specs.declared.record.Record.{Record}
use Rattle.protocol.specs.Log.{Split}
use Rattle.protocol.specs.Hall as protocol
use Rattle.protocol.specs.Ahead.{Next, nothing, by_kind}
use Rattle.hall.specs.declared.process.Process.{Process}
use Rattle.hall.specs.declared.tables.Tables.{Tables}

-- a cursor in the program at a place
abbrev pub position_in : Option Program → Cursor → Position
position_in None c = outer finish
position_in (Some p) c = position p c

abbrev pub body_in : Option Program → Option Body
body_in None = None
body_in (Some p) = Some (tree p)

-- a process of the table, as the rules see it
abbrev pub seen : List (Option Program) → Process → protocol.Process
seen programs q = record { start = q.start; place = q.place; standing = q.standing; at = position_in (slice_index_or programs q.place None) q.cursor }

abbrev pub all_seen : List (Option Program) → List Process → List protocol.Process
all_seen programs qs = map (seen programs) qs

-- the tables, as the rules see them; the station by its state
abbrev pub model : {S T : Type 0} → (S → T) → Tables S → protocol.Hall T
model view h = record { station = view h.station; log = vec_items h.log; processes = all_seen h.programs (vec_items h.processes); programs = map body_in h.programs; given = h.given; committed = h.committed }

-- no other process of the table has the number
abbrev pub IsOnly : Process → List Process → Type 0
IsOnly p qs = All (λ q. q.start ≡ p.start → q ≡ p) qs

-- the record at a place, with what stands before and after it
abbrev pub split_of : List Record → Option (ℕ × Record) → Option Split
split_of log None = None
split_of log (Some s) = Some record { before = take s.0 log; at = s.1; after = drop (s.0 + 1) log }

-- where a process of the table is when its cursor is there
abbrev pub position_at : List (Option Program) → Process → Cursor → Position
position_at programs q c = position_in (slice_index_or programs q.place None) c

-- what the step that comes, if one does, is to a process that it leads to a position
abbrev pub step_to : Option Step → Position → Next
step_to None to = nothing
step_to (Some s) to = by_kind s.kind s.activity to

-- where a process of the table is
abbrev pub here : List (Option Program) → Process → Position
here programs q = position_at programs q q.cursor
