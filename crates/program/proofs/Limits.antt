-- The limits on a row of commands are those on the tree that it spells.
use Rattle.std.proofs.Common.{◌≡◌, ℕ, ◌+◌, ◌-◌, ◌≤◌, max, List, [], ◌∷◌, ◌++◌, length, sym, refl, ap, ◌∙◌, append_assoc, arith}
use Rattle.activity.specs.declared.Activity.{Activity}
use Rattle.program.specs.declared.command.Command.{Command}
use Rattle.program.specs.declared.command.Command.TheVariants.{C, Bar, Close, Stop}
use Rattle.program.specs.Grammar.{Body, finish, compensatable, pivot, Choices, row, or_else, row_commands, body_commands, choices_commands, text_commands, bytes, body_steps, body_depth, choices_depth, Yields}
use Rattle.program.specs.Refusals.{step_count, peak, Within}
use Rattle.program.specs.Places.{steps_among}
use Rattle.program.proofs.ReadBack.{text_steps}

pub count_steps : (cs : List Command) → length (steps_among cs) ≡ step_count cs
count_steps [] = refl
count_steps (C a ∷ cs) = omega (arith, count_steps cs)
count_steps (_ ∷ cs) = omega (arith, count_steps cs)

text_count : (b : Body) → step_count (text_commands b) ≡ length (body_steps b)
text_count b = sym (count_steps (text_commands b)) ∙ ap length (text_steps b)

peak_low : (n : ℕ) (cs : List Command) → n ≤ peak n cs
peak_low n [] = omega arith
peak_low n (c ∷ cs) = omega arith

row_peak : (acts : List Activity) (n : ℕ) (xs : List Command) → peak n (row_commands acts ++ xs) ≡ peak n xs
row_peak [] n xs = refl
row_peak (a ∷ acts) n xs = omega (arith, row_peak acts n xs, peak_low n xs)

mutual
  body_peak : (b : Body) (n : ℕ) (xs : List Command) → peak n (body_commands b ++ xs) ≡ max (n + body_depth b) (peak n xs)
  body_peak finish n xs = omega (arith, peak_low n xs)
  body_peak (compensatable a b) n xs = omega (arith, body_peak b n xs, peak_low n xs)
  body_peak (pivot a c) n xs =
      let e = ap (peak (n + 1)) (append_assoc (choices_commands c) (Close ∷ []) xs) ∙ choices_peak c (n + 1) (Close ∷ xs) in
      let same : n + 1 - 1 ≡ n = omega arith in
      omega (arith, e, ap (λ k. peak k xs) same, peak_low n xs)

  choices_peak : (c : Choices) (n : ℕ) (xs : List Command) → peak n (choices_commands c ++ xs) ≡ max (n + choices_depth c) (peak n xs)
  choices_peak (row acts) n xs = omega (arith, row_peak acts n xs, peak_low n xs)
  choices_peak (or_else b c) n xs =
      let e = ap (peak n) (append_assoc (body_commands b) (Bar ∷ choices_commands c) xs) ∙ body_peak b n (Bar ∷ (choices_commands c ++ xs)) in
      omega (arith, e, choices_peak c n xs, peak_low n xs)

text_peak : (b : Body) → peak 0 (text_commands b) ≡ body_depth b
text_peak b = omega (arith, body_peak b 0 (Stop ∷ []))

-- the grammar yields a row of commands within the limits exactly when the row keeps them
pub yields_of : (t : List ℕ) (b : Body) → t ≡ bytes (text_commands b) → length t ≤ 255 → Within (text_commands b) → Yields t b
yields_of t b e short within = record {
  spelled = e;
  short = short;
  few = omega (arith, text_count b, within.few);
  shallow = omega (arith, text_peak b, within.shallow);
}

pub within_of : (t : List ℕ) (b : Body) → Yields t b → Within (text_commands b)
within_of t b y = record { few = omega (arith, text_count b, y.few); shallow = omega (arith, text_peak b, y.shallow) }
