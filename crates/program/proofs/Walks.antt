-- Skipping what is left of an alternative.
use Rattle.std.proofs.Common.{◌≡◌, ℕ, suc, List, [], ◌∷◌, ◌++◌, refl, ap, ◌∙◌, append_assoc, arith}
use Rattle.activity.specs.declared.Activity.{Activity}
use Rattle.program.specs.declared.command.Command.{Command}
use Rattle.program.specs.declared.command.Command.TheVariants.{Bar, Close}
use Rattle.program.specs.Grammar.{Body, finish, compensatable, pivot, Choices, row, or_else, body_commands, choices_commands, row_commands}
use Rattle.program.specs.Places.{skip}

skip_row : (ss : List Activity) (n : ℕ) (xs : List Command) → skip n (row_commands ss ++ xs) ≡ skip n xs
skip_row [] n xs = refl
skip_row (s ∷ ss) n xs = skip_row ss n xs

mutual
  pub skip_body : (b : Body) (n : ℕ) (xs : List Command) → skip n (body_commands b ++ xs) ≡ skip n xs
  skip_body finish n xs = refl
  skip_body (compensatable s b) n xs = skip_body b n xs
  skip_body (pivot s c) n xs =
      ap (skip (suc n)) (append_assoc (choices_commands c) (Close ∷ []) xs) ∙ skip_choices c n (Close ∷ xs) ∙ ap (λ k. skip k xs) (omega arith)

  skip_choices : (c : Choices) (n : ℕ) (xs : List Command) → skip (suc n) (choices_commands c ++ xs) ≡ skip (suc n) xs
  skip_choices (row ss) n xs = skip_row ss (suc n) xs
  skip_choices (or_else b c) n xs =
      ap (skip (suc n)) (append_assoc (body_commands b) (Bar ∷ choices_commands c) xs) ∙ skip_body b (suc n) (Bar ∷ (choices_commands c ++ xs)) ∙ skip_choices c n xs
