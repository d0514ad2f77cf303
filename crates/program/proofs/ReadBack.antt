-- The tree that is read off a row of commands is the tree that the row spells.
use Rattle.std.proofs.Common.{◌≡◌, ℕ, zero, suc, ◌-◌, true, false, List, [], ◌∷◌, ◌++◌, sym, refl, ap, ◌∙◌, append_assoc, append-nil}
use Rattle.activity.specs.declared.Activity.{Activity}
use Rattle.program.specs.declared.command.Command.{Command}
use Rattle.program.specs.declared.command.Command.TheVariants.{C, P, R, Open, Bar, Close, Stop}
use Rattle.program.specs.declared.command.Kind.TheVariants.{Compensatable, Pivot, Retriable}
use Rattle.program.specs.Grammar.{Body, finish, compensatable, pivot, Choices, row, or_else, row_commands, body_commands, choices_commands, text_commands, step, row_steps, body_steps, choices_steps}
use Rattle.program.specs.Places.{row_at, body_at, opened_at, choices_at, further_at, starts_row, skip, steps_among}
use Rattle.program.proofs.Walks.{skip_body}

-- the further choices are those after the bar
pub further_skip : (xs : List Command) (n : ℕ) → further_at n xs ≡ choices_at (skip n xs)
further_skip [] n = refl
further_skip (Open ∷ xs) n = further_skip xs (suc n)
further_skip (Bar ∷ xs) zero = refl
further_skip (Close ∷ xs) n = further_skip xs (n - 1)
further_skip (_ ∷ xs) n = further_skip xs n

-- choices are a row or an alternative and further ones, as they start
pub choices_row : (xs : List Command) → starts_row xs ≡ true → choices_at xs ≡ row (row_at xs)
choices_row [] e = refl
choices_row (R s ∷ xs) e = refl
choices_row (Close ∷ xs) e = refl
choices_row (_ ∷ xs) e = cc

pub choices_body : (xs : List Command) → starts_row xs ≡ false → choices_at xs ≡ or_else (body_at xs) (choices_at (skip 0 xs))
choices_body (C s ∷ xs) e = ap (or_else (compensatable s (body_at xs))) (further_skip xs 0)
choices_body (P s ∷ xs) e = ap (or_else (pivot s (opened_at xs))) (further_skip xs 0)
choices_body (Open ∷ xs) e = ap (or_else finish) (further_skip xs 1)
choices_body (Bar ∷ xs) e = refl
choices_body (Stop ∷ xs) e = ap (or_else finish) (further_skip xs 0)
choices_body _ e = cc

-- the body of a tree's commands is the tree
row_back : (ss : List Activity) (xs : List Command) → row_at (row_commands ss ++ Close ∷ xs) ≡ ss
row_back [] xs = refl
row_back (s ∷ ss) xs = ap (λ r. s ∷ r) (row_back ss xs)

row_starts : (ss : List Activity) (xs : List Command) → starts_row (row_commands ss ++ Close ∷ xs) ≡ true
row_starts [] xs = refl
row_starts (s ∷ ss) xs = refl

body_starts : (b : Body) (xs : List Command) → starts_row (body_commands b ++ Bar ∷ xs) ≡ false
body_starts finish xs = refl
body_starts (compensatable s b) xs = refl
body_starts (pivot s c) xs = refl

mutual
  body_back : (b : Body) (m : Command) (xs : List Command) → body_at (m ∷ xs) ≡ finish → body_at (body_commands b ++ m ∷ xs) ≡ b
  body_back finish m xs e = e
  body_back (compensatable s b) m xs e = ap (compensatable s) (body_back b m xs e)
  body_back (pivot s c) m xs e = ap (pivot s) (ap choices_at (append_assoc (choices_commands c) (Close ∷ []) (m ∷ xs)) ∙ choices_back c (m ∷ xs))

  choices_back : (c : Choices) (xs : List Command) → choices_at (choices_commands c ++ Close ∷ xs) ≡ c
  choices_back (row ss) xs = choices_row (row_commands ss ++ Close ∷ xs) (row_starts ss xs) ∙ ap row (row_back ss xs)
  choices_back (or_else b c) xs =
      let ys = choices_commands c ++ Close ∷ xs in
      ap choices_at (append_assoc (body_commands b) (Bar ∷ choices_commands c) (Close ∷ xs))
      ∙ choices_body (body_commands b ++ Bar ∷ ys) (body_starts b ys)
      ∙ ap (λ a. or_else a (choices_at (skip 0 (body_commands b ++ Bar ∷ ys)))) (body_back b Bar ys refl)
      ∙ ap (λ zs. or_else b (choices_at zs)) (skip_body b 0 (Bar ∷ ys))
      ∙ ap (or_else b) (choices_back c xs)

pub text_back : (b : Body) → body_at (text_commands b) ≡ b
text_back b = body_back b Stop [] refl

-- the steps of a tree's commands are the tree's
steps_of_row : (ss : List Activity) (xs : List Command) → steps_among (row_commands ss ++ xs) ≡ row_steps ss ++ steps_among xs
steps_of_row [] xs = refl
steps_of_row (s ∷ ss) xs = ap (λ r. step Retriable s ∷ r) (steps_of_row ss xs)

mutual
  steps_of_body : (b : Body) (xs : List Command) → steps_among (body_commands b ++ xs) ≡ body_steps b ++ steps_among xs
  steps_of_body finish xs = refl
  steps_of_body (compensatable s b) xs = ap (λ r. step Compensatable s ∷ r) (steps_of_body b xs)
  steps_of_body (pivot s c) xs = ap (λ r. step Pivot s ∷ r) (ap steps_among (append_assoc (choices_commands c) (Close ∷ []) xs) ∙ steps_of_choices c (Close ∷ xs))

  steps_of_choices : (c : Choices) (xs : List Command) → steps_among (choices_commands c ++ xs) ≡ choices_steps c ++ steps_among xs
  steps_of_choices (row ss) xs = steps_of_row ss xs
  steps_of_choices (or_else b c) xs =
      ap steps_among (append_assoc (body_commands b) (Bar ∷ choices_commands c) xs)
      ∙ steps_of_body b (Bar ∷ (choices_commands c ++ xs))
      ∙ ap (λ r. body_steps b ++ r) (steps_of_choices c xs)
      ∙ sym (append_assoc (body_steps b) (choices_steps c) (steps_among xs))

pub text_steps : (b : Body) → steps_among (text_commands b) ≡ body_steps b
text_steps b = steps_of_body b (Stop ∷ []) ∙ append-nil (body_steps b)
