-- What each call may come to, sentence by sentence; that each comes to exactly one thing is proved.
use Rattle.std.specs.Prelude.{◌≡◌, ℕ, suc, ◌+◌, ◌*◌, ◌<◌, ◌≤◌, true, false, List, [], ◌∷◌, length, Some, None, Option, ◌≢◌, slice_index_or, Ok, Err}
use Rattle.std.specs.List.{AllByRecursion}
use Rattle.station.specs.Meaning.{Meaning}
use Rattle.program.specs.declared.command.Kind.{Kind}
use Rattle.program.specs.declared.command.Kind.TheVariants.{Compensatable, Pivot, Retriable}
use Rattle.program.specs.declared.command.Step.{Step}
use Rattle.program.specs.declared.refusal.Refusal as text
use Rattle.program.specs.Grammar.{Body, body_steps, Yields}
use Rattle.program.specs.Outcome.{OutcomeBy}
use Rattle.protocol.specs.Answer.{Answer}
use Rattle.protocol.specs.declared.answer.Served.TheVariants.{Loaded, Opened, Cancelled, Stepped}
use Rattle.protocol.specs.declared.answer.Refusal.{Refusal}
use Rattle.protocol.specs.declared.answer.Refusal.TheVariants.{BadText, NoPlace, Busy, NoActivity, WrongKind, NotLoaded, Full, NoNumber, NoRoom, NoProcess, IsPastPivot, IsWithdrawing, LongList, UnknownKind}
use Rattle.protocol.specs.declared.answer.Turn.{Turn}
use Rattle.protocol.specs.declared.scan.Request.{Request}
use Rattle.protocol.specs.declared.standing.Aim.{Aim}
use Rattle.protocol.specs.declared.standing.Aim.TheVariants.{End}
use Rattle.protocol.specs.declared.standing.Direction.{Direction}
use Rattle.protocol.specs.declared.standing.Standing.TheVariants.{Running, Withdrawing, PastPivot}
use Rattle.protocol.specs.Hall.{Process, Hall, find, changed, stand, with_processes, with_program, with_process}
use Rattle.protocol.specs.Relation.{In, Steps}
use Rattle.protocol.specs.Call.{Call, IsProgram, loading, installing, opening, stepping, cancelling}
use Rattle.protocol.specs.Log.{committed_records}
use Rattle.protocol.specs.Letters.{call_of, written}

module _ {S : Type 0} (M : Meaning S) where
  -- the activity is of the kind that a step of a program has to be of
  abbrev pub OfKind : Kind → ℕ → Type 0
  OfKind Compensatable a = M.compensatable a ≡ true
  OfKind Pivot a = M.compensatable a ≡ false
  OfKind Retriable a = M.retriable a ≡ true

  -- a step of a program fits the station
  pub record Fits (s : Step) : Type 0 where
    pub exists : s.activity.number < M.activities
    pub kind : OfKind s.kind s.activity.number

  -- the first step that does not fit, with its ordinal counted from i, and why
  pub data Unfit : ℕ → List Step → Refusal → Type 0 where
    no_such_activity : {i : ℕ} {s : Step} {ss : List Step} → M.activities ≤ s.activity.number → Unfit i (s ∷ ss) (NoActivity i)
    of_another_kind : {i : ℕ} {s : Step} {ss : List Step} → s.activity.number < M.activities → (OfKind s.kind s.activity.number → ⊥) → Unfit i (s ∷ ss) (WrongKind i)
    further_on : {i : ℕ} {s : Step} {ss : List Step} {r : Refusal} → Fits s → Unfit (suc i) ss r → Unfit i (s ∷ ss) r

  -- no active process runs the program at the place
  abbrev pub Unused : Hall S → ℕ → Type 0
  Unused h k = (q : Process) → In q h.processes → q.place ≢ k

  -- a program is loaded at the place
  abbrev pub IsLoaded : Hall S → ℕ → Type 0
  IsLoaded h k = (b : Body) × (slice_index_or h.programs k None ≡ Some b)

  -- how many records there might be with one process more
  abbrev pub records_at_most : Hall S → ℕ
  records_at_most h = length (committed_records h.log) + 32 * (length h.processes + 1)

  -- from the hall h the call comes to a hall and an answer
  pub data Comes (h : Hall S) : Call → Hall S → Answer → Type 0 where
    -- loading
    load_nowhere : {k : ℕ} {b : Body} {w : IsProgram b} → 7 < k → Comes h (loading k b w) h (Err NoPlace)
    load_busy : {k : ℕ} {b : Body} {w : IsProgram b} (q : Process) → k ≤ 7 → In q h.processes → q.place ≡ k → Comes h (loading k b w) h (Err Busy)
    load_unfit : {k : ℕ} {b : Body} {w : IsProgram b} {r : Refusal} → k ≤ 7 → Unused h k → Unfit 0 (body_steps b) r → Comes h (loading k b w) h (Err r)
    loads : {k : ℕ} {b : Body} {w : IsProgram b} → k ≤ 7 → Unused h k → AllByRecursion Fits (body_steps b) → Comes h (loading k b w) (with_program h k b) (Ok Loaded)
    -- installing: reading and loading in one
    install_no_program : {k : ℕ} {t : List ℕ} {b : Body} {e : text.Refusal} {refused : OutcomeBy t b (Some e)} → Comes h (installing k t b (Some e) refused) h (Err (BadText e))
    installs : {k : ℕ} {t : List ℕ} {b : Body} {read : Yields t b} {g : Hall S} {a : Answer} → Comes h (loading k b (t, read)) g a → Comes h (installing k t b None read) g a
    -- opening
    open_nowhere : {k : ℕ} → 7 < k → Comes h (opening k) h (Err NoPlace)
    open_not_loaded : {k : ℕ} → k ≤ 7 → (IsLoaded h k → ⊥) → Comes h (opening k) h (Err NotLoaded)
    open_full : {k : ℕ} → k ≤ 7 → IsLoaded h k → 16 ≤ length h.processes → Comes h (opening k) h (Err Full)
    open_no_number : {k : ℕ} → k ≤ 7 → IsLoaded h k → length h.processes < 16 → 65535 ≤ h.given → Comes h (opening k) h (Err NoNumber)
    open_no_room : {k : ℕ} → k ≤ 7 → IsLoaded h k → length h.processes < 16 → h.given < 65535 → 1024 < records_at_most h → Comes h (opening k) h (Err NoRoom)
    opens : {k : ℕ} → k ≤ 7 → IsLoaded h k → length h.processes < 16 → h.given < 65535 → records_at_most h ≤ 1024 → Comes h (opening k) (with_process h k) (Ok (Opened (suc h.given)))
    -- stepping
    step_nobody : {n : ℕ} → find n h.processes ≡ None → Comes h (stepping n) h (Err NoProcess)
    steps : {n : ℕ} {p : Process} {g : Hall S} {t : Turn} → find n h.processes ≡ Some p → Steps M h p g t → Comes h (stepping n) g (Ok (Stepped t))
    -- cancelling
    cancel_nobody : {n : ℕ} → find n h.processes ≡ None → Comes h (cancelling n) h (Err NoProcess)
    cancel_past_pivot : {n : ℕ} {p : Process} {d : Direction} → find n h.processes ≡ Some p → p.standing ≡ PastPivot d → Comes h (cancelling n) h (Err IsPastPivot)
    cancel_withdrawing : {n : ℕ} {p : Process} {a : Aim} → find n h.processes ≡ Some p → p.standing ≡ Withdrawing a → Comes h (cancelling n) h (Err IsWithdrawing)
    cancels : {n : ℕ} {p : Process} → find n h.processes ≡ Some p → p.standing ≡ Running → Comes h (cancelling n) (with_processes h (changed p.start (stand (Withdrawing End)) h.processes)) (Ok Cancelled)

  -- ---- scan lists
  -- one record is worked: the call that it is, if its kind is known; the answer goes into its own last two fields
  pub data WorksOne (h : Hall S) (r : Request) : Hall S → Request → Type 0 where
    known : {c : Call} {g : Hall S} {a : Answer} → call_of r ≡ Some c → Comes h c g a → WorksOne h r g (written r a)
    unknown : call_of r ≡ None → WorksOne h r h (written r (Err UnknownKind))

  -- the records are worked from the first to the last
  pub data Works : Hall S → List Request → Hall S → List Request → Type 0 where
    none_left : {h : Hall S} → Works h [] h []
    one_by_one : {h m g : Hall S} {r w : Request} {rs ws : List Request} → WorksOne h r m w → Works m rs g ws → Works h (r ∷ rs) g (w ∷ ws)

  -- a list of over 64 records is refused, and nothing is written
  pub data Scans (h : Hall S) (rs : List Request) : Hall S → List Request → Option Refusal → Type 0 where
    too_long : 64 < length rs → Scans h rs h rs (Some LongList)
    worked : {g : Hall S} {ws : List Request} → length rs ≤ 64 → Works h rs g ws → Scans h rs g ws None
