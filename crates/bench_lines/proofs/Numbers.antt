-- A number that keeps a limit is read as if each digit kept it.
use Rattle.std.proofs.Common.{◌≡◌, ℕ, ◌<◌, ◌≤◌, List, [], ◌∷◌, None, option_and_then, arith}
use Rattle.std.proofs.lemmas.Bool.Decides.{nat_tests}
use Rattle.bench_lines.specs.Lines.{within, digits}

-- past the limit no digit leads back
digits_above : (limit wide : ℕ) (bs : List ℕ) (n : ℕ) → limit < n → option_and_then (within limit) (digits wide bs n) ≡ None
digits_above limit wide [] n above = grind (arith, nat_tests)
digits_above limit wide (b ∷ bs) n above = grind (arith, nat_tests, digits_above limit wide bs)

pub digits_narrow : (limit wide : ℕ) (bs : List ℕ) (n : ℕ) → limit ≤ wide → n ≤ limit → option_and_then (within limit) (digits wide bs n) ≡ digits limit bs n
digits_narrow limit wide [] n narrow low = grind (arith, nat_tests)
digits_narrow limit wide (b ∷ bs) n narrow low = grind (arith, nat_tests, digits_narrow limit wide bs, digits_above limit wide bs)
