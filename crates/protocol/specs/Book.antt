-- The book: what a hall has kept, as far as callers can tell. It is fed with calls and their answers, and with nothing else.
use Rattle.std.specs.Prelude.{ℕ, Bool, true, false, cond, not, List, [], ◌∷◌, ◌++◌, map, replicate, Some, None, filter, Option, ◌==◌, slice_set, Ok, Err, find, fold}
use Rattle.activity.specs.declared.Activity.{Activity}
use Rattle.protocol.specs.declared.record.Record.{Record}
use Rattle.protocol.specs.declared.answer.Turn.{Turn}
use Rattle.protocol.specs.declared.answer.Turn.TheVariants as turns
use Rattle.protocol.specs.Answer.{Answer}
use Rattle.protocol.specs.declared.answer.Served.TheVariants.{Loaded, Opened, Cancelled, Stepped}
use Rattle.program.specs.Grammar.{Body}
use Rattle.program.specs.Positions.{Position, into}
use Rattle.protocol.specs.Ahead.{Next, nothing, plain, crossing, next}
use Rattle.protocol.specs.Log.{owned, dropped, last_of, committed_under}
use Rattle.protocol.specs.Hall.{beginning}
use Rattle.protocol.specs.declared.scan.Request.{Request}
use Rattle.std.specs.Bool.{then_some}
use Rattle.std.specs.Option.{option_or}
use Rattle.protocol.specs.Call.{Call, loading, installing, opening, stepping, cancelling}
use Rattle.protocol.specs.Letters.{call_of}

-- a process that the book has entered, and where it is in its program
pub record Entry : Type 0 where
  pub start : ℕ
  pub place : ℕ
  pub at : Position

pub record Book : Type 0 where
  pub programs : List (Option Body)
  pub entries : List Entry
  pub kept : List Record

abbrev pub empty : Book
empty = record { programs = replicate 8 None; entries = []; kept = [] }

abbrev pub seek : ℕ → List Entry → Option Entry
seek n es = find (λ e. e.start == n) es

abbrev pub struck : ℕ → List Entry → List Entry
struck n es = filter (λ e. not (e.start == n)) es

abbrev pub at_now : ℕ → Position → Entry → Entry
at_now n to e = cond (e.start == n) record { start = e.start; place = e.place; at = to } e

abbrev pub moved : ℕ → Position → List Entry → List Entry
moved n to es = map (at_now n to) es

abbrev pub with_entries : Book → List Entry → Book
with_entries b es = record { programs = b.programs; entries = es; kept = b.kept }

abbrev pub keep : Book → ℕ → Bool → Activity → ℕ → Position → Book
keep b n pivot s x to = record { programs = b.programs; entries = moved n to b.entries; kept = b.kept ++ record { start = n; activity = s; answer = x; commit = 0; pivot = pivot } ∷ [] }

abbrev pub keep_next : Book → ℕ → ℕ → Next → Book
keep_next b n x nothing = b
keep_next b n x (plain s to) = keep b n false s x to
keep_next b n x (crossing s to) = keep b n true s x to

-- on a step of the process that is entered so
abbrev pub on_turn : Book → Entry → Turn → Book
on_turn b e (turns.Done x) = keep_next b e.start x (next e.at)
on_turn b e turns.Failed = b
on_turn b e (turns.Wait n) = b
on_turn b e (turns.Undone a) = record { programs = b.programs; entries = b.entries; kept = dropped b.kept (last_of e.start b.kept) }
on_turn b e turns.Restarted = with_entries b (moved e.start (beginning b.programs e.place) b.entries)
on_turn b e turns.Gone = record { programs = b.programs; entries = struck e.start b.entries; kept = filter (λ r. not (owned e.start r)) b.kept }
on_turn b e (turns.Next k) = with_entries b (moved e.start (into k e.at) b.entries)
on_turn b e (turns.Committed c) = record { programs = b.programs; entries = struck e.start b.entries; kept = map (committed_under e.start c) b.kept }

abbrev pub on_step : Book → Option Entry → Answer → Book
on_step b None a = b
on_step b (Some e) (Ok Loaded) = b
on_step b (Some e) (Ok (Opened n)) = b
on_step b (Some e) (Ok Cancelled) = b
on_step b (Some e) (Ok (Stepped t)) = on_turn b e t
on_step b (Some e) (Err r) = b

abbrev pub on_load : Book → ℕ → Body → Answer → Book
on_load b k p (Ok Loaded) = record { programs = slice_set b.programs k (Some p); entries = b.entries; kept = b.kept }
on_load b k p (Ok (Opened n)) = b
on_load b k p (Ok Cancelled) = b
on_load b k p (Ok (Stepped t)) = b
on_load b k p (Err r) = b

abbrev pub on_open : Book → ℕ → Answer → Book
on_open b k (Ok Loaded) = b
on_open b k (Ok (Opened n)) = with_entries b (b.entries ++ record { start = n; place = k; at = beginning b.programs k } ∷ [])
on_open b k (Ok Cancelled) = b
on_open b k (Ok (Stepped t)) = b
on_open b k (Err r) = b

abbrev pub noted : Book → Call → Answer → Book
noted b (loading k p w) a = on_load b k p a
noted b (installing k t p o w) a = on_load b k p a
noted b (opening k) a = on_open b k a
noted b (stepping n) a = on_step b (seek n b.entries) a
noted b (cancelling n) a = b

-- what the letter and the number of a scan record say; all else says nothing that the book notes
abbrev pub answer_told : ℕ → ℕ → Option Answer
answer_told l n =
    option_or (then_some (l == 68) (Ok (Stepped (turns.Done n))))
    (option_or (then_some (l == 85) (Ok (Stepped (turns.Undone n))))
    (option_or (then_some (l == 65) (Ok (Stepped turns.Restarted)))
    (option_or (then_some (l == 78) (Ok (Stepped (turns.Next n))))
    (option_or (then_some (l == 71) (Ok (Stepped turns.Gone)))
    (option_or (then_some (l == 75) (Ok (Stepped (turns.Committed n))))
    (then_some (l == 79) (Ok (Opened n))))))))

abbrev pub noted_if : Book → Option Call → Option Answer → Book
noted_if b None a = b
noted_if b (Some c) None = b
noted_if b (Some c) (Some a) = noted b c a

-- a scan record that was answered: the call that it is, with its letter and number
abbrev pub noted_record : Book → Request → Book
noted_record b r = noted_if b (call_of r) (answer_told r.letter r.number)

abbrev pub noted_records : Book → List Request → Book
noted_records b rs = fold noted_record b rs

-- what is told of a hall: a call with its answer; a scan list that was served, with its answers; one that was refused
pub data Told : Type 0 where
  called : Call → Answer → Told
  scan_served : List Request → Told
  scan_refused : Told

abbrev pub heard : Book → Told → Book
heard b (called c a) = noted b c a
heard b (scan_served rs) = noted_records b rs
heard b scan_refused = b

-- the book after what was told, from first to last
abbrev pub book_of : Book → List Told → Book
book_of b ts = fold heard b ts
