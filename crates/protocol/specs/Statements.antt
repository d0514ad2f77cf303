-- The promise: the hall's run and the orderly run agree, and a performed pivot stays.
use Rattle.std.specs.Prelude.{◌≡◌, ℕ, true, List, [], ◌∷◌, ◌++◌, map, Some, None, Option}
use Rattle.serial.specs.Sorts.{Pairwise}
use Rattle.serial.specs.Replay.{Replays}
use Rattle.protocol.specs.Answer.{Answer}
use Rattle.protocol.specs.declared.answer.Refusal.{Refusal}
use Rattle.protocol.specs.declared.record.Record.{Record}
use Rattle.protocol.specs.declared.scan.Request.{Request}
use Rattle.station.specs.Meaning.{Meaning}
use Rattle.protocol.specs.Means.{Does}
use Rattle.protocol.specs.Log.{own, to_pivot, orderly, prior, pivoted}
use Rattle.protocol.specs.Hall.{Hall}
use Rattle.protocol.specs.Call.{Call, Event, call, scan}
use Rattle.protocol.specs.Comes.{Comes, Scans}
use Rattle.program.specs.Places.{nth}
use Rattle.protocol.specs.Questions.{made_over, kept_step, station_back}
use Rattle.protocol.specs.Book.{empty, Told, called, scan_served, scan_refused, book_of}

-- what is told of a scan list: the records with their answers, or that it was refused
abbrev pub scan_told : List Request → Option Refusal → Told
scan_told ws None = scan_served ws
scan_told ws (Some r) = scan_refused

module _ {S : Type 0} (M : Meaning S) where
  -- A run: one after the other, calls and scan lists come from the hall h to a hall, each to something that the rules allow; with what is told of them.
  pub data Runs : Hall S → List Event → List Told → Hall S → Type 0 where
    no_more : {h : Hall S} → Runs h [] [] h
    by_call : {h m g : Hall S} {c : Call} {a : Answer} {es : List Event} {ts : List Told} → Comes M h c m a → Runs m es ts g → Runs h (call c ∷ es) (called c a ∷ ts) g
    by_scan : {h m g : Hall S} {rs ws : List Request} {o : Option Refusal} {es : List Event} {ts : List Told} → Scans M h rs m ws o → Runs m es ts g → Runs h (scan rs ∷ es) (scan_told ws o ∷ ts) g

  -- every list of calls and scan lists has a run from the hall, and one alone
  pub record OneRun (h : Hall S) (es : List Event) : Type 0 where
    pub told : List Told
    pub end : Hall S
    pub run : Runs h es told end
    pub only : (ts : List Told) (g : Hall S) → Runs h es ts g → (ts ≡ told) × (g ≡ end)

  abbrev pub RunsExactly : Type 0
  RunsExactly = (h : Hall S) (es : List Event) → OneRun h es

-- the steps that the book keeps, fed with what was told alone
abbrev pub kept_steps : List Told → List Record
kept_steps ts = (book_of empty ts).kept

-- a rearrangement of the kept steps: each process's in the order kept, and by group and number
pub record Orderly (kept run : List Record) : Type 0 where
  pub each : (n : ℕ) → own n run ≡ own n kept
  pub sorted : Pairwise (λ a b. prior (pivoted kept) a b ≡ true) run

-- the hall's records hold exactly the kept steps; each is possible in the orderly run and has there the answer that it has; both runs end in the same state
pub record Agree {S : Type 0} (M : Meaning S) (s : S) (ts : List Told) (h : Hall S) : Type 0 where
  pub same : h.log ≡ kept_steps ts
  pub ordered : Orderly (kept_steps ts) (orderly (kept_steps ts))
  pub only : (run : List Record) → Orderly (kept_steps ts) run → run ≡ orderly (kept_steps ts)
  pub runs : Replays (Does M) (orderly (kept_steps ts)) s (station_back h)
  -- and the question for a kept step is answered by the orderly run
  pub asked : (i : ℕ) → kept_step h i ≡ nth (orderly (kept_steps ts)) i

-- the two runs agree after every run from the making of a hall on
abbrev pub Agrees : {S : Type 0} → Meaning S → Type 0
Agrees {S} M = (s : S) (es : List Event) (ts : List Told) (h : Hall S) → Runs M (made_over s) es ts h → Agree M s ts h

-- a kept step without its commit number
abbrev pub without_commit_number : Record → Record
without_commit_number r = record { start = r.start; activity = r.activity; answer = r.answer; commit = 0; pivot = r.pivot }

abbrev pub Begins : {X : Type 0} → List X → List X → Type 0
Begins {X} xs ys = (zs : List X) × (xs ++ zs ≡ ys)

-- what the process of a number has kept up to its last pivot, after a run, is there after a longer one
abbrev pub Fixed : List Told → List Told → ℕ → Type 0
Fixed ts us n = Begins (map without_commit_number (to_pivot (own n (orderly (kept_steps ts))))) (map without_commit_number (own n (orderly (kept_steps us))))

-- what a process has kept up to its last pivot stays, whatever comes
abbrev pub Stays : {S : Type 0} → Meaning S → Type 0
Stays {S} M =
    (s : S) (es : List Event) (ts : List Told) (h : Hall S) → Runs M (made_over s) es ts h
    → (more : List Event) (us : List Told) (g : Hall S) → Runs M h more us g
    → (n : ℕ) → Fixed ts (ts ++ us) n
