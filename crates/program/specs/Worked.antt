-- Texts worked through by hand, from the grammar and the meaning of the refusals alone.
use Rattle.std.specs.Prelude.{◌≡◌, [], ◌∷◌}
use Rattle.program.specs.declared.refusal.Fault.TheVariants.{Misplaced, CutOff}
use Rattle.program.specs.Grammar.{Yields, finish, body_steps}
use Rattle.program.specs.Refusals.{Refused}

pub record WorkedTexts : Type 0 where
  -- `.` is read, and has no steps
  pub full_stop_alone : Yields (46 ∷ []) finish × (body_steps finish ≡ [])
  -- the empty text: no byte is left, at 0
  pub empty_text : Refused [] CutOff 0
  -- `C 00 0003 P 03 0003 [ R 04 0003 .`, where the closing bracket is missing: the full stop cannot stand at 13
  pub bracket_not_closed : Refused (67 ∷ 0 ∷ 0 ∷ 3 ∷ 80 ∷ 3 ∷ 0 ∷ 3 ∷ 91 ∷ 82 ∷ 4 ∷ 0 ∷ 3 ∷ 46 ∷ []) Misplaced 13
  -- `P 03 0003 [ C 00 0003 ] .`, where `]` stands in the place of `|`: it cannot stand at 9
  pub alternative_without_bar : Refused (80 ∷ 3 ∷ 0 ∷ 3 ∷ 91 ∷ 67 ∷ 0 ∷ 0 ∷ 3 ∷ 93 ∷ 46 ∷ []) Misplaced 9
