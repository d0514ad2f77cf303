-- What a station means, and the laws that every station keeps.
use Rattle.std.specs.Prelude.{◌≡◌, ℕ, ◌≤◌, Bool, true, false, is_some, Some, None, Option}
use Rattle.activity.specs.declared.Activity.{Activity}

-- the meaning of a station whose states are S
pub record Meaning (S : Type 0) : Type 0 where
  -- how many activities there are: the numbers below it exist
  pub activities : ℕ
  -- the answer of an activity and the state that follows, or None where it is not possible
  pub performed : S → Activity → Option (ℕ × S)
  -- the state to which taking an activity back leads, given the answer that it gave
  pub taken_back : S → Activity → ℕ → S
  -- the catalogue: which activities can be taken back, which are possible in every state, and which two conflict
  pub compensatable : ℕ → Bool
  pub retriable : ℕ → Bool
  pub conflict : ℕ → ℕ → Bool

-- what the caller of `perform` is told: the answer, or that the activity is not possible
abbrev pub answer_of : {S : Type 0} → Option (ℕ × S) → Option ℕ
answer_of None = None
answer_of (Some (x, t)) = Some x

-- the state after `perform`: the one before where the activity is not possible
abbrev pub state_after : {S : Type 0} → S → Option (ℕ × S) → S
state_after s None = s
state_after s (Some (x, t)) = t

-- the same answer, over a larger state that `put` makes of the one that follows
abbrev pub lifted : {S W : Type 0} → (S → W) → Option (ℕ × S) → Option (ℕ × W)
lifted put None = None
lifted put (Some (x, t)) = Some (x, put t)

-- ---- the laws

-- taking back a compensatable activity directly after performing it, with its answer, restores the state before
abbrev pub Restores : {S : Type 0} → Meaning S → Type 0
Restores {S} m =
    (s t : S) (a : Activity) (x : ℕ) → m.compensatable a.number ≡ true →
    m.performed s a ≡ Some (x, t) → m.taken_back t a x ≡ s

-- b is possible before a, with the answers x of a and y of b, and ends at u
abbrev pub Swapped : {S : Type 0} → Meaning S → S → S → Activity → Activity → ℕ → ℕ → Type 0
Swapped {S} m s u a b x y = (v : S) × (m.performed s b ≡ Some (y, v)) × (m.performed v a ≡ Some (x, u))

-- two activities that do not conflict and are possible one after the other are possible in the other order,
-- with the same answer for each and the same final state
abbrev pub Commutes : {S : Type 0} → Meaning S → Type 0
Commutes {S} m =
    (s t u : S) (a b : Activity) (x y : ℕ) → m.conflict a.number b.number ≡ false →
    m.performed s a ≡ Some (x, t) → m.performed t b ≡ Some (y, u) → Swapped m s u a b x y

-- conflict goes both ways
abbrev pub Symmetric : {S : Type 0} → Meaning S → Type 0
Symmetric m = (n k : ℕ) → m.conflict n k ≡ m.conflict k n

-- a retriable activity is possible in every state
abbrev pub AlwaysPossible : {S : Type 0} → Meaning S → Type 0
AlwaysPossible {S} m = (s : S) (a : Activity) → m.retriable a.number ≡ true → is_some (m.performed s a) ≡ true

-- a number that nothing is done with: never possible, of neither kind, in conflict with none, and taking it back does nothing
pub record Idle {S : Type 0} (m : Meaning S) (n : ℕ) : Type 0 where
  pub impossible : (s : S) (a : Activity) → a.number ≡ n → m.performed s a ≡ None
  pub nothing : (s : S) (a : Activity) (x : ℕ) → a.number ≡ n → m.taken_back s a x ≡ s
  pub not_compensatable : m.compensatable n ≡ false
  pub not_retriable : m.retriable n ≡ false
  pub without_conflict : (k : ℕ) → m.conflict n k ≡ false

-- the numbers that do not exist are idle
abbrev pub Bounded : {S : Type 0} → Meaning S → Type 0
Bounded m = (n : ℕ) → m.activities ≤ n → Idle m n
