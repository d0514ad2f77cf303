-- The worked texts, from the grammar.
use Rattle.std.proofs.Common.{◌≡◌, ℕ, ◌≤◌, List, [], ◌∷◌, ◌++◌, length, sym, refl, ap, ◌∙◌, arith, lit≤}
use Rattle.program.specs.declared.command.Command.{Command}
use Rattle.program.specs.declared.command.Command.TheVariants.{C, P, R, Open, Stop}
use Rattle.program.specs.declared.refusal.Fault.TheVariants.{Misplaced}
use Rattle.program.specs.Grammar.{mark, bytes, finish}
use Rattle.program.specs.Refusals.{Within, Refused}
use Rattle.program.specs.Worked.{WorkedTexts}
use Rattle.program.specs.Contexts.{Context, in_body_at, in_row_at, over, nowhere, go, goes}
use Rattle.program.proofs.Trees.{goes_begins, begins_goes, goes_more, whole_goes}
use Rattle.program.proofs.Parts.{only_row, only_body}

-- a byte at which no command can stand
no_place : (cs : List Command) (x : ℕ) (rest : List ℕ) (st : Context) → goes (in_body_at 0) cs ≡ st → (st ≡ nowhere → ⊥) → (st ≡ over → ⊥) → Within cs → length (bytes cs ++ x ∷ rest) ≤ 255 → ((c : Command) → mark c ≡ x → go st c ≡ nowhere) → Refused (bytes cs ++ x ∷ rest) Misplaced (length (bytes cs))
no_place cs x rest st e some more within short none = (
  cs,
  x ∷ rest,
  record {
    short = short;
    split = refl;
    placed = refl;
    begins = goes_begins cs (λ z. some (sym e ∙ z));
    within = within;
    reason = (
      λ w. more (sym e ∙ whole_goes cs w),
      λ c s. begins_goes (cs ++ c ∷ []) s.begins (goes_more (in_body_at 0) cs c ∙ ap (λ s. go s c) e ∙ none c s.marked),
    );
  },
)

pub worked : WorkedTexts
worked = record {
  full_stop_alone = (record { spelled = refl; short = lit≤ tt; few = lit≤ tt; shallow = lit≤ tt }, refl);
  empty_text = (
    [],
    [],
    record {
      short = lit≤ tt;
      split = refl;
      placed = refl;
      begins = (finish, Stop ∷ [], refl);
      within = record { few = lit≤ tt; shallow = lit≤ tt };
      reason = λ w. let e : in_body_at 0 ≡ over = whole_goes [] w in cc;
    },
  );
  bracket_not_closed = no_place (C (record { number = 0; parameter = 3 }) ∷ P (record { number = 3; parameter = 3 }) ∷ Open ∷ R (record { number = 4; parameter = 3 }) ∷ []) 46 [] (in_row_at 0) refl (λ e. cc) (λ e. cc) (record { few = lit≤ tt; shallow = lit≤ tt }) (lit≤ tt) (λ c m. only_row 0 46 c m (λ e. omega arith) (λ e. omega arith));
  alternative_without_bar = no_place (P (record { number = 3; parameter = 3 }) ∷ Open ∷ C (record { number = 0; parameter = 3 }) ∷ []) 93 (46 ∷ []) (in_body_at 1) refl (λ e. cc) (λ e. cc) (record { few = lit≤ tt; shallow = lit≤ tt }) (lit≤ tt) (λ c m. only_body 1 93 c m (λ e. omega arith) (λ e. omega arith) (λ e. omega arith));
}
