-- What each call comes to, as a function. What the rules say is the relation in Comes.antt; that the two agree is proved.
use Rattle.std.specs.Prelude.{ℕ, suc, ◌+◌, ◌*◌, Bool, cond, not, List, [], ◌∷◌, length, is_some, Some, None, Option, nat_eq, nat_le, nat_lt, slice_index_or, Ok, Err, fold, filter_map, flat_map}
use Rattle.std.specs.List.{list_any}
use Rattle.std.specs.Bool.{then_some}
use Rattle.std.specs.Option.{option_or}
use Rattle.protocol.specs.declared.scan.Request.{Request}
use Rattle.protocol.specs.declared.standing.Standing.{Standing}
use Rattle.protocol.specs.declared.standing.Aim.TheVariants.{End}
use Rattle.protocol.specs.declared.standing.Standing.TheVariants.{Running, Withdrawing, PastPivot}
use Rattle.protocol.specs.Answer.{Answer}
use Rattle.protocol.specs.declared.answer.Served.TheVariants.{Loaded, Opened, Cancelled}
use Rattle.protocol.specs.declared.answer.Refusal.{Refusal}
use Rattle.protocol.specs.declared.answer.Refusal.TheVariants.{BadText, NoPlace, Busy, NoActivity, WrongKind, NotLoaded, Full, NoNumber, NoRoom, NoProcess, IsPastPivot, IsWithdrawing, LongList, UnknownKind}
use Rattle.station.specs.Meaning.{Meaning}
use Rattle.program.specs.Grammar.{Body, body_steps}
use Rattle.program.specs.declared.command.Kind.{Kind}
use Rattle.program.specs.declared.command.Kind.TheVariants.{Compensatable, Pivot, Retriable}
use Rattle.program.specs.declared.command.Step.{Step}
use Rattle.protocol.specs.Log.{committed_records}
use Rattle.protocol.specs.Hall.{Process, Hall, find, changed, stand, with_processes, with_program, with_process, Outcome, answered}
use Rattle.protocol.specs.Call.{Call, loading, installing, opening, stepping, cancelling, Event, call, scan}
use Rattle.protocol.specs.Letters.{call_of, written}
use Rattle.protocol.specs.StepFunction.{step_of}

abbrev pub fits : {S : Type 0} → Meaning S → Kind → ℕ → Bool
fits M Compensatable a = M.compensatable a
fits M Pivot a = not (M.compensatable a)
fits M Retriable a = M.retriable a

abbrev pub fault : {S : Type 0} → Meaning S → ℕ → Step → Option Refusal
fault M i s = option_or (then_some (nat_le M.activities s.activity.number) (NoActivity i)) (then_some (not (fits M s.kind s.activity.number)) (WrongKind i))

abbrev pub faults : {S : Type 0} → Meaning S → ℕ → List Step → Option Refusal
faults M i [] = None
faults M i (s ∷ ss) = option_or (fault M i s) (faults M (suc i) ss)

module _ {S : Type 0} where
  abbrev pub refused_or : Hall S → Option Refusal → Outcome S → Outcome S
  refused_or h None on = on
  refused_or h (Some r) on = answered h (Err r)

  abbrev pub against_load : Meaning S → Hall S → ℕ → Body → Option Refusal
  against_load M h k b = option_or (then_some (nat_lt 7 k) NoPlace) (option_or (then_some (list_any (λ q. nat_eq q.place k) h.processes) Busy) (faults M 0 (body_steps b)))

  abbrev pub loaded : Hall S → ℕ → Body → Outcome S
  loaded h k b = answered (with_program h k b) (Ok Loaded)

  abbrev pub against_open : Hall S → ℕ → Option Refusal
  against_open h k =
      option_or (then_some (nat_lt 7 k) NoPlace)
      (option_or (then_some (not (is_some (slice_index_or h.programs k None))) NotLoaded)
      (option_or (then_some (nat_le 16 (length h.processes)) Full)
      (option_or (then_some (nat_le 65535 h.given) NoNumber)
      (then_some (nat_lt 1024 (length (committed_records h.log) + 32 * (length h.processes + 1))) NoRoom))))

  abbrev pub opened : Hall S → ℕ → Outcome S
  opened h k = answered (with_process h k) (Ok (Opened (suc h.given)))

  abbrev pub cancel_by : Hall S → Process → Standing → Outcome S
  cancel_by h p Running = answered (with_processes h (changed p.start (stand (Withdrawing End)) h.processes)) (Ok Cancelled)
  cancel_by h p (Withdrawing aim) = answered h (Err IsWithdrawing)
  cancel_by h p (PastPivot way) = answered h (Err IsPastPivot)

  abbrev pub cancel_of : Hall S → Option Process → Outcome S
  cancel_of h None = answered h (Err NoProcess)
  cancel_of h (Some p) = cancel_by h p p.standing

  abbrev pub outcome : Meaning S → Hall S → Call → Outcome S
  outcome M h (loading k b w) = refused_or h (against_load M h k b) (loaded h k b)
  outcome M h (installing k t b None w) = refused_or h (against_load M h k b) (loaded h k b)
  outcome M h (installing k t b (Some e) w) = answered h (Err (BadText e))
  outcome M h (opening k) = refused_or h (against_open h k) (opened h k)
  outcome M h (stepping n) = step_of M h (find n h.processes)
  outcome M h (cancelling n) = cancel_of h (find n h.processes)

  -- the hall after a list of calls, and what was answered
  abbrev pub ends : Meaning S → Hall S → List Call → Hall S
  ends M h cs = fold (λ g c. (outcome M g c).hall) h cs

  abbrev pub replies : Meaning S → Hall S → List Call → List Answer
  replies M h [] = []
  replies M h (c ∷ cs) = (outcome M h c).answer ∷ replies M (outcome M h c).hall cs

-- scan lists: each record is one call

abbrev pub calls_of : List Request → List Call
calls_of rs = filter_map call_of rs

-- a scan list: the hall, and the records with their answers
pub record Scan (S : Type 0) : Type 0 where
  pub hall : Hall S
  pub records : List Request
  pub refusal : Option Refusal

module _ {S : Type 0} where
  abbrev pub one : Meaning S → Hall S → Option Call → Outcome S
  one M h None = answered h (Err UnknownKind)
  one M h (Some c) = outcome M h c

  abbrev pub behind : Request → Scan S → Scan S
  behind r s = record { hall = s.hall; records = r ∷ s.records; refusal = s.refusal }

  -- worked from the first to the last, each record answered in its own last two fields
  abbrev pub scanned : Meaning S → Hall S → List Request → Scan S
  scanned M h [] = record { hall = h; records = []; refusal = None }
  scanned M h (r ∷ rs) = behind (written r (one M h (call_of r)).answer) (scanned M (one M h (call_of r)).hall rs)

  -- over 64 records: refused, and nothing is written
  abbrev pub scan_outcome : Meaning S → Hall S → List Request → Scan S
  scan_outcome M h rs = cond (nat_lt 64 (length rs)) record { hall = h; records = rs; refusal = Some LongList } (scanned M h rs)

-- the calls that it comes to; a scan list that is too long comes to none
abbrev pub singles : Event → List Call
singles (call c) = c ∷ []
singles (scan rs) = cond (nat_lt 64 (length rs)) [] (calls_of rs)

abbrev pub all_singles : List Event → List Call
all_singles es = flat_map singles es

module _ {S : Type 0} where
  abbrev pub after : Meaning S → Hall S → Event → Hall S
  after M h (call c) = (outcome M h c).hall
  after M h (scan rs) = (scan_outcome M h rs).hall

  abbrev pub after_all : Meaning S → Hall S → List Event → Hall S
  after_all M h es = fold (after M) h es
