-- Replaying a log: its records are performed one after the other, in their order.
use Rattle.std.specs.Prelude.{◌≡◌, Bool, false, List, [], ◌∷◌}

-- What a record does is a relation of the state before it and the state after it: `Step r s t` says that the record's action is
-- possible in s, gives there the answer that the record has, and leads to t.

-- The log replays from s to t: there are states between its records such that each record leads from the one to the next.
abbrev pub Replays : {R S : Type 0} → (R → S → S → Type 0) → List R → S → S → Type 0
Replays Step [] s t = s ≡ t
Replays {S = S} Step (r ∷ rs) s t = (m : S) × Step r s m × Replays Step rs m t

-- Good states are any set of states that no record leads out of.
abbrev pub Closed : {R S : Type 0} → (R → S → S → Type 0) → (S → Type 0) → Type 0
Closed {R} {S} Step Good = (r : R) (s t : S) → Good s → Step r s t → Good t

-- Two neighbours that do not conflict can change places: each does what it did, and the state after both is the same.
abbrev pub Swap : {R S : Type 0} → (R → S → S → Type 0) → (R → R → Bool) → (S → Type 0) → Type 0
Swap {R} {S} Step conflict Good =
    (a b : R) (s m t : S) → Good s → conflict a b ≡ false → Step a s m → Step b m t → (n : S) × Step b s n × Step a n t
