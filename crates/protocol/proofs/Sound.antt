-- What stays true of a hall from its making on.
use Rattle.std.proofs.Common.{◌≡◌, ℕ, ◌≤◌, Bool, true, false, List, Some}
use Rattle.std.specs.List.{AllByRecursion}
use Rattle.serial.specs.Replay.{Replays}
use Rattle.activity.specs.declared.Activity.{Activity}
use Rattle.protocol.specs.declared.record.Record.{Record}
use Rattle.protocol.specs.declared.standing.Standing.{Standing}
use Rattle.protocol.specs.declared.standing.Direction.TheVariants.{Forward, Back}
use Rattle.protocol.specs.declared.standing.Standing.TheVariants.{Running, Withdrawing, PastPivot}
use Rattle.station.specs.Meaning.{Meaning}
use Rattle.protocol.specs.Means.{Does, conflicting}
use Rattle.program.specs.Grammar.{Body, finish, compensatable, pivot, Choices, row, or_else}
use Rattle.program.specs.Positions.{Rest, in_body, in_row, Position, outer, inner}
use Rattle.protocol.specs.Log.{pivoted, prior}
use Rattle.protocol.specs.Hall.{Process, Hall, find, past_pivot, body_of}
use Rattle.protocol.proofs.Members.{In, Before}

-- steps fit the station's catalogue

abbrev pub FitsRow : {S : Type 0} → Meaning S → List Activity → Type 0
FitsRow M ss = AllByRecursion (λ s. M.retriable s.number ≡ true) ss

abbrev mutual
  pub FitsBody : {S : Type 0} → Meaning S → Body → Type 0
  FitsBody M finish = Unit {0}
  FitsBody M (compensatable s b) = (M.compensatable s.number ≡ true) × FitsBody M b
  FitsBody M (pivot s c) = FitsChoices M c

  pub FitsChoices : {S : Type 0} → Meaning S → Choices → Type 0
  FitsChoices M (row ss) = FitsRow M ss
  FitsChoices M (or_else b c) = FitsBody M b × FitsChoices M c

abbrev pub FitsRest : {S : Type 0} → Meaning S → Rest → Type 0
FitsRest M (in_body b) = FitsBody M b
FitsRest M (in_row ss) = FitsRow M ss

-- not in the last alternative, whose steps cannot fail
abbrev pub rowless : Position → Bool
rowless (outer b) = true
rowless (inner c k (in_body b)) = true
rowless (inner c k (in_row ss)) = false

-- where a process of a standing may be
abbrev pub Placed : {S : Type 0} → Meaning S → Standing → Position → Type 0
Placed M Running (outer b) = FitsBody M b
Placed M Running (inner c k r) = ⊥
Placed M (Withdrawing aim) (outer b) = Unit {0}
Placed M (Withdrawing aim) (inner c k r) = ⊥
Placed M (PastPivot way) (outer b) = ⊥
Placed M (PastPivot Forward) (inner c k r) = FitsChoices M c × FitsRest M r
Placed M (PastPivot Back) (inner c k (in_body b)) = FitsChoices M c
Placed M (PastPivot Back) (inner c k (in_row ss)) = ⊥

module _ {S : Type 0} where
  -- of a record: whose it is, and that it can be taken back while it may have to be
  pub record Owner (M : Meaning S) (h : Hall S) (r : Record) : Type 0 where
    pub low : r.start ≤ h.given
    pub bound : r.commit ≤ h.committed
    pub active : r.commit ≡ 0 → (q : Process) × (find r.start h.processes ≡ Some q)
    pub left : (q : Process) → find r.start h.processes ≡ Some q → r.commit ≡ 0
    pub back : (q : Process) → find r.start h.processes ≡ Some q → r.pivot ≡ false → rowless q.at ≡ true → M.compensatable r.activity.number ≡ true

  -- of an active process
  pub record Active (M : Meaning S) (h : Hall S) (q : Process) : Type 0 where
    pub low : q.start ≤ h.given
    pub pivot : pivoted h.log q.start ≡ past_pivot q.standing
    pub placed : Placed M q.standing q.at

  abbrev pub Ordered : Meaning S → List Record → Type 0
  Ordered M log = (a b : Record) → Before a b log → prior (pivoted log) a b ≡ false → conflicting M a b ≡ false

  pub record Sound (M : Meaning S) (s : S) (h : Hall S) : Type 0 where
    pub replay : Replays (Does M) h.log s h.station
    pub order : Ordered M h.log
    pub owners : (r : Record) → In r h.log → Owner M h r
    pub kin : (a b : Record) → In a h.log → In b h.log → a.start ≡ b.start → a.commit ≡ b.commit
    pub numbers : (a b : Record) → In a h.log → In b h.log → a.commit ≡ b.commit → (a.commit ≡ 0 → ⊥) → a.start ≡ b.start
    pub actives : (n : ℕ) (q : Process) → find n h.processes ≡ Some q → Active M h q
    pub lone : (n m : ℕ) (q r : Process) → find n h.processes ≡ Some q → find m h.processes ≡ Some r → past_pivot q.standing ≡ true → past_pivot r.standing ≡ true → n ≡ m
    pub programs : AllByRecursion (λ o. FitsBody M (body_of o)) h.programs
