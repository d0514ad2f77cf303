-- From one alternative of some choices to the next.
use Rattle.std.proofs.Common.{◌≡◌, ℕ, zero, suc, ◌-◌, ◌<◌, ◌≤◌, ◌⊎◌, Bool, true, false, List, [], ◌∷◌, max, length, drop, sym, refl, ap, ◌∙◌, arith, length-drop}
use Rattle.std.proofs.Common.{inl, inr}
use Rattle.std.proofs.lemmas.Grind.{common_steps}
use Rattle.program.specs.declared.command.Command.{Command}
use Rattle.program.specs.declared.command.Command.TheVariants.{Open, Bar, Close}
use Rattle.program.specs.Grammar.{Choices, row, or_else}
use Rattle.program.specs.Positions.{alternative, reached}
use Rattle.program.specs.Places.{choices_at, rest_at, starts_row, skip, unless_row, skipped}
use Rattle.program.proofs.ReadBack.{choices_row, choices_body}

none_reached : (c : Choices) → reached c 0 ≡ 0
none_reached (row ss) = refl
none_reached (or_else b c) = refl

-- past the first bar outside of n brackets one is further on, if there was anything left
pub skip_there : (n : ℕ) (xs : List Command) → (i : ℕ) × (drop i xs ≡ skip n xs) × (0 < length xs → 0 < i)
skip_there n [] = (0, refl, λ h. h)
skip_there n (Open ∷ xs) = let r = skip_there (suc n) xs in (suc r.0, r.1, λ h. omega arith)
skip_there zero (Bar ∷ xs) = (1, refl, λ h. omega arith)
skip_there n (Close ∷ xs) = let r = skip_there (n - 1) xs in (suc r.0, r.1, λ h. omega arith)
skip_there n (_ ∷ xs) = let r = skip_there n xs in (suc r.0, r.1, λ h. omega arith)

-- the place of what is left of some commands, by its length
pub by_length : (cs xs : List Command) (i : ℕ) → drop i cs ≡ xs → (length xs ≤ length cs) × (drop (length cs - length xs) cs ≡ xs)
by_length cs xs i e = grind (arith, common_steps)

-- the same by its place, which is never before where one began: where the commands end before that, nothing is left, there as well
pub by_place : (cs xs : List Command) (i from at : ℕ) → drop i cs ≡ xs → length xs ≤ length cs - from → at ≡ max from (length cs - length xs) → drop at cs ≡ xs
by_place cs xs i from at e within is = grind (arith, common_steps, by_length cs xs i e)

some_left : (xs : List Command) → starts_row xs ≡ false → 0 < length xs
some_left [] e = cc
some_left (x ∷ xs) e = omega arith

-- where a row begins, and where no alternative is to be passed any more, one stays
pub stays_there : (xs : List Command) (k : ℕ) → (starts_row xs ≡ true) ⊎ (k ≡ 0) → (skipped k xs ≡ xs) × (reached (choices_at xs) k ≡ 0)
stays_there xs zero s = (refl, none_reached (choices_at xs))
stays_there xs (suc k) (inl e) = (ap (λ b. unless_row b xs (skipped k (skip 0 xs))) e, ap (λ c. reached c (suc k)) (choices_row xs e))
stays_there xs (suc k) (inr z) = absurd (omega arith)

-- elsewhere an alternative begins that is no row, and one goes past it
pub record Passes (xs ys : List Command) (k : ℕ) : Type 0 where
  pub text : skipped k ys ≡ skipped (suc k) xs
  pub count : suc (reached (choices_at ys) k) ≡ reached (choices_at xs) (suc k)
  pub shorter : length ys < length xs

pub passes : (xs : List Command) (k : ℕ) → starts_row xs ≡ false → Passes xs (skip 0 xs) k
passes xs k e =
    let r = skip_there 0 xs in
    record {
      text = sym (ap (λ b. unless_row b xs (skipped k (skip 0 xs))) e);
      count = sym (ap (λ c. reached c (suc k)) (choices_body xs e));
      shorter = omega (arith, r.2 (some_left xs e), some_left xs e, ap length r.1, length-drop r.0 xs);
    }

-- what is left of an alternative, from the text that begins there
rest_by : (k : ℕ) (xs : List Command) (b : Bool) → starts_row xs ≡ b → rest_at (skipped k (skip 0 xs)) ≡ alternative (choices_at (skip 0 xs)) k → rest_at (unless_row b xs (skipped k (skip 0 xs))) ≡ alternative (choices_at xs) (suc k)
rest_by k xs true e later = ap (λ c. alternative c 0) (choices_row xs e) ∙ sym (ap (λ c. alternative c (suc k)) (choices_row xs e))
rest_by k xs false e later = later ∙ sym (ap (λ c. alternative c (suc k)) (choices_body xs e))

pub rest_skipped : (k : ℕ) (xs : List Command) → rest_at (skipped k xs) ≡ alternative (choices_at xs) k
rest_skipped zero xs = refl
rest_skipped (suc k) xs = rest_by k xs (starts_row xs) refl (rest_skipped k (skip 0 xs))
