-- What a step may come to, sentence by sentence.
use Rattle.std.specs.Prelude.{◌≡◌, ℕ, suc, ◌<◌, ◌≤◌, Bool, true, false, ◌⊎◌, List, [], ◌∷◌, ◌++◌, map, Some, None, ◌≢◌}
use Rattle.std.specs.List.{AllZip}
use Rattle.activity.specs.declared.Activity.{Activity}
use Rattle.protocol.specs.declared.record.Record.{Record}
use Rattle.protocol.specs.declared.standing.Standing.{Standing}
use Rattle.protocol.specs.declared.standing.Aim.TheVariants.{Restart, End}
use Rattle.protocol.specs.declared.standing.Direction.TheVariants.{Forward, Back}
use Rattle.protocol.specs.declared.standing.Standing.TheVariants.{Running, Withdrawing, PastPivot}
use Rattle.protocol.specs.declared.answer.Turn.{Turn}
use Rattle.protocol.specs.declared.answer.Turn.TheVariants as turns
use Rattle.station.specs.Meaning.{Meaning}
use Rattle.program.specs.Positions.{Position, alternative_of, into}
use Rattle.protocol.specs.Ahead.{nothing, plain, crossing, next}
use Rattle.protocol.specs.Log.{Split, rejoined, removed, own, from_pivot, committed_under}
use Rattle.protocol.specs.Hall.{Process, Hall, without, changed, stand, move, with_processes, beginning, past_pivot, record_of, standing_after, failed}

-- x stands in the list
abbrev pub In : {X : Type 0} → X → List X → Type 0
In x [] = ⊥
In x (y ∷ ys) = (x ≡ y) ⊎ In x ys

-- a stands before b
abbrev pub Before : {X : Type 0} → X → X → List X → Type 0
Before a b [] = ⊥
Before a b (x ∷ xs) = ((a ≡ x) × In b xs) ⊎ Before a b xs

-- withdrawing or going back
abbrev pub Retreats : Standing → Type 0
Retreats Running = ⊥
Retreats (Withdrawing aim) = Unit {0}
Retreats (PastPivot d) = d ≡ Back

-- running, or forward past the pivot
abbrev pub Advances : Standing → Type 0
Advances Running = Unit {0}
Advances (Withdrawing aim) = ⊥
Advances (PastPivot d) = d ≡ Forward

abbrev pub Past : Process → Type 0
Past q = past_pivot q.standing ≡ true

abbrev pub IsRunning : Process → Type 0
IsRunning q = q.standing ≡ Running

-- the process's last record, if that is no pivot: the one to take back
pub record ToTakeBack (n : ℕ) (log : List Record) (z : Split) : Type 0 where
  pub whole : log ≡ rejoined z
  pub owner : z.at.start ≡ n
  pub last : (r : Record) → In r z.after → r.start ≢ n
  pub plain : z.at.pivot ≡ false

abbrev pub NoneToTakeBack : ℕ → List Record → Type 0
NoneToTakeBack n log = (z : Split) → ToTakeBack n log z → ⊥

-- the running ones of the others that block, and that are to be marked, are set to withdraw to restart
abbrev pub Marks : Process → (Process → Type 0) → Process → Process → Type 0
Marks p B q r =
    ((q.start ≢ p.start) × B q × IsRunning q × (r ≡ stand (Withdrawing Restart) q))
    ⊎ (((q.start ≢ p.start) → B q → IsRunning q → ⊥) × (r ≡ q))

module _ {S : Type 0} where
  -- q has a record among these that conflicts with the activity
  abbrev pub InConflict : Meaning S → List Record → Process → ℕ → Type 0
  InConflict M log q a = (r : Record) × In r log × (r.start ≡ q.start) × (M.conflict r.activity.number a ≡ true)

  -- who blocks, in the rules' words, among the others
  abbrev pub BlocksBack : Meaning S → Split → Process → Type 0
  BlocksBack M z q = InConflict M z.after q z.at.activity.number

  abbrev pub BlocksPlain : Meaning S → Hall S → Process → Activity → Process → Type 0
  BlocksPlain M h p a q = InConflict M h.log q a.number × (Past p ⊎ ((p.start < q.start) ⊎ Retreats q.standing))

  abbrev pub BlocksPivot : Meaning S → Hall S → Process → Activity → Process → Type 0
  BlocksPivot M h p a q = InConflict M h.log q a.number ⊎ ((r : Record) × In r (from_pivot (own p.start h.log)) × InConflict M h.log q r.activity.number)

  abbrev pub BlocksCommit : Meaning S → Hall S → Process → Process → Type 0
  BlocksCommit M h p q = (a : Record) × (b : Record) × Before a b h.log × (a.start ≡ q.start) × (b.start ≡ p.start) × (M.conflict a.activity.number b.activity.number ≡ true)

  -- nobody else blocks
  abbrev pub Nobody : Hall S → Process → (Process → Type 0) → Type 0
  Nobody h p B = (q : Process) → In q h.processes → (q.start ≢ p.start) → B q → ⊥

  -- the smallest start number of the others that block
  pub record Smallest (h : Hall S) (p : Process) (B : Process → Type 0) (n : ℕ) : Type 0 where
    pub who : Process
    pub there : In who h.processes
    pub other : who.start ≡ p.start → ⊥
    pub blocks : B who
    pub number : who.start ≡ n
    pub least : (q : Process) → In q h.processes → (q.start ≢ p.start) → B q → n ≤ q.start

  abbrev pub Marked : Hall S → Process → (Process → Type 0) → List Process → Type 0
  Marked h p B ps = AllZip (Marks p B) h.processes ps

  -- the next step may be performed: nobody blocks
  pub data Free (M : Meaning S) (h : Hall S) (p : Process) : Bool → Activity → Position → Type 0 where
    free_plain : {a : Activity} {to : Position} → next p.at ≡ plain a to → Nobody h p (BlocksPlain M h p a) → Free M h p false a to
    free_pivot : {a : Activity} {to : Position} → next p.at ≡ crossing a to → ((Past p → ⊥) → Nobody h p Past) → Nobody h p (BlocksPivot M h p a) → Free M h p true a to

  abbrev pub kept : Hall S → Process → Bool → Activity → Position → ℕ → S → Hall S
  kept h p pivot a to x t = record { station = t; log = h.log ++ record_of p pivot a x ∷ []; processes = changed p.start (move (standing_after pivot p.standing) to) h.processes; programs = h.programs; given = h.given; committed = h.committed }

  pub data Steps (M : Meaning S) (h : Hall S) (p : Process) : Hall S → Turn → Type 0 where
    -- going backward
    waits_back : {z : Split} {n : ℕ} {ps : List Process} → Retreats p.standing → ToTakeBack p.start h.log z → Smallest h p (BlocksBack M z) n → Marked h p (BlocksBack M z) ps → Steps M h p (with_processes h ps) (turns.Wait n)
    takes_back : {z : Split} → Retreats p.standing → ToTakeBack p.start h.log z → Nobody h p (BlocksBack M z)
        → Steps M h p record { station = M.taken_back h.station z.at.activity z.at.answer; log = removed z; processes = h.processes; programs = h.programs; given = h.given; committed = h.committed } (turns.Undone z.at.activity.number)
    restarts : p.standing ≡ Withdrawing Restart → NoneToTakeBack p.start h.log → Steps M h p (with_processes h (changed p.start (move Running (beginning h.programs p.place)) h.processes)) turns.Restarted
    leaves : p.standing ≡ Withdrawing End → NoneToTakeBack p.start h.log → Steps M h p (with_processes h (without p.start h.processes)) turns.Gone
    takes_next_alternative : p.standing ≡ PastPivot Back → NoneToTakeBack p.start h.log → Steps M h p (with_processes h (changed p.start (move (PastPivot Forward) (into (suc (alternative_of p.at)) p.at)) h.processes)) (turns.Next (suc (alternative_of p.at)))
    -- a step that is no pivot is next
    waits_plain : {a : Activity} {to : Position} {n : ℕ} {ps : List Process} → Advances p.standing → next p.at ≡ plain a to → Smallest h p (BlocksPlain M h p a) n → Marked h p (BlocksPlain M h p a) ps → Steps M h p (with_processes h ps) (turns.Wait n)
    -- a pivot is next
    waits_alone : {a : Activity} {to : Position} {n : ℕ} → IsRunning p → next p.at ≡ crossing a to → Smallest h p Past n → Steps M h p h (turns.Wait n)
    waits_pivot : {a : Activity} {to : Position} {n : ℕ} {ps : List Process} → Advances p.standing → next p.at ≡ crossing a to → ((Past p → ⊥) → Nobody h p Past) → Smallest h p (BlocksPivot M h p a) n → Marked h p (λ q. BlocksPivot M h p a q × (Past p ⊎ (p.start < q.start))) ps → Steps M h p (with_processes h ps) (turns.Wait n)
    -- nobody blocks
    performs : {pivot : Bool} {a : Activity} {to : Position} {x : ℕ} {t : S} → Advances p.standing → Free M h p pivot a to → M.performed h.station a ≡ Some (x, t) → Steps M h p (kept h p pivot a to x t) (turns.Done x)
    fails : {pivot : Bool} {a : Activity} {to : Position} → Advances p.standing → Free M h p pivot a to → M.performed h.station a ≡ None → Steps M h p (with_processes h (changed p.start (stand (failed p.standing)) h.processes)) turns.Failed
    -- nothing is next
    waits_commit : {n : ℕ} → Advances p.standing → next p.at ≡ nothing → Smallest h p (BlocksCommit M h p) n → Steps M h p h (turns.Wait n)
    commits : Advances p.standing → next p.at ≡ nothing → Nobody h p (BlocksCommit M h p)
        → Steps M h p record { station = h.station; log = map (committed_under p.start (suc h.committed)) h.log; processes = without p.start h.processes; programs = h.programs; given = h.given; committed = suc h.committed } (turns.Committed (suc h.committed))
