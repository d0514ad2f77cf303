-- Reading a line character by character.
use Rattle.std.proofs.Common.{◌≡◌, ℕ, List, [], ◌++◌, Ok, Err, Result, refl, ap, append_assoc}
use Rattle.notation.specs.Notation.{with_front}

pub front_none : (r : Result (List ℕ) ℕ) → with_front [] r ≡ r
front_none (Ok bs) = refl
front_none (Err k) = refl

pub front_more : (xs ys : List ℕ) (r : Result (List ℕ) ℕ) → with_front (xs ++ ys) r ≡ with_front xs (with_front ys r)
front_more xs ys (Ok bs) = ap Ok (append_assoc xs ys bs)
front_more xs ys (Err k) = refl
