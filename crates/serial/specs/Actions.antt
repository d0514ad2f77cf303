-- Actions: what they do to a state, how they are taken back, which conflict, and the laws.
use Rattle.std.specs.Prelude.{◌≡◌, ℕ, Bool, true, false, Some, Option}

pub record Meaning (A S : Type 0) : Type 0 where
  -- the answer and the next state, or nothing where the action is not possible
  pub does : A → S → Option (ℕ × S)
  -- the state after an action, which gave an answer, is taken back
  pub undone : A → ℕ → S → S
  pub compensatable : A → Bool
  pub conflict : A → A → Bool

module _ {A S : Type 0} where
  -- performing leads from good states to good states
  abbrev pub KeepsGood : Meaning A S → (S → Type 0) → Type 0
  KeepsGood M good = (a : A) (x : ℕ) (s t : S) → good s → M.does a s ≡ Some (x, t) → good t

  -- Commutation: where a and then b are possible and do not conflict, b and then a are possible, each with the answer that it
  -- gave, and lead to the same state.
  abbrev pub Commutes : Meaning A S → (S → Type 0) → Type 0
  Commutes M good =
      (a b : A) (x y : ℕ) (s m t : S)
      → good s
      → M.conflict a b ≡ false
      → M.does a s ≡ Some (x, m)
      → M.does b m ≡ Some (y, t)
      → (n : S) × (M.does b s ≡ Some (y, n)) × (M.does a n ≡ Some (x, t))

  -- Compensation: a compensatable action that is taken back straight after it was performed leaves the state as it was.
  abbrev pub Restores : Meaning A S → (S → Type 0) → Type 0
  Restores M good = (a : A) (x : ℕ) (s t : S) → good s → M.compensatable a ≡ true → M.does a s ≡ Some (x, t) → M.undone a x t ≡ s

  -- A record of any type has an action and an answer. It leads from s to t where its action is possible in s, gives there the
  -- answer that the record has, and leads to t.
  abbrev pub Performs : {R : Type 0} → Meaning A S → (R → A) → (R → ℕ) → R → S → S → Type 0
  Performs M action answer r s t = M.does (action r) s ≡ Some (answer r, t)
