-- A cursor in a program, as a position in its tree.
use Rattle.std.proofs.Common.{◌≡◌, ℕ, suc, ◌+◌, ◌≤◌, true, List, [], ◌∷◌, ◌++◌, length, take, drop, Some, None, Option, sym, refl, ap, ◌∙◌, arith, length-append, take-append-drop, length-take-le}
use mathlib.Core.Bool.{Bool-set}
use mathlib.Core.Logic.{∥∥₁_elim}
use Rattle.std.specs.List.{cons_option}
use Rattle.std.proofs.lemmas.List.{drop-drop, drop_all}
use Rattle.std.proofs.lemmas.List.Elements.{filter_map-append}
use Rattle.activity.specs.declared.Activity.{Activity}
use Rattle.program.specs.declared.command.Command.{Command}
use Rattle.program.specs.declared.command.Command.TheVariants.{C, P, R, Close}
use Rattle.program.specs.declared.program.Program.{Program}
use Rattle.program.specs.declared.command.Step.{Step}
use Rattle.program.specs.declared.command.Kind.{Kind}
use Rattle.program.specs.declared.command.Kind.TheVariants.{Pivot}
use Rattle.program.specs.Grammar.{Choices, text_commands, body_steps}
use Rattle.program.specs.Positions.{in_body, in_row, Position, outer, inner, entered, Next, nothing, comes, next, coming, led, onward}
use Rattle.program.specs.Places.{program_commands, row_at, body_at, opened_at, choices_at, rest_at, placed, tree, step_of, steps_among, nth, first, Spells, item_for, Left, left_in, left_past, left_after}
use Rattle.program.specs.Contexts.{Context, in_body_at, at_choice, in_row_at, over, nowhere, goes, is_over}
use Rattle.program.proofs.Trees.{goes_append, goes_nowhere, goes_whole, whole_goes}
use Rattle.program.proofs.ReadBack.{text_back, text_steps}

over_is : (st : Context) → is_over st ≡ true → st ≡ over
over_is over e = refl
over_is _ e = cc

-- the commands of a program lead to the end of a text
whole : (p : Program) → is_over (goes (in_body_at 0) (program_commands p)) ≡ true
whole p = ∥∥₁_elim p.yielded (Bool-set _ _) (λ y. ap is_over (whole_goes (program_commands p) (y.0, y.1)))

pub spells : Spells
spells p =
    let w = goes_whole (program_commands p) (over_is (goes (in_body_at 0) (program_commands p)) (whole p)) in
    w.1 ∙ sym (ap text_commands (ap body_at w.1 ∙ text_back w.0))

pub program_steps : (p : Program) → steps_among (program_commands p) ≡ body_steps (tree p)
program_steps p = ap steps_among (spells p) ∙ text_steps (tree p)

-- no body goes on with a row, nor a row with a body
nowhere_over : (cs : List Command) → is_over (goes nowhere cs) ≡ true → ⊥
nowhere_over cs e = let h = goes_nowhere cs in cc

body_on : (n : ℕ) (xs : List Command) → is_over (goes (in_body_at n) xs) ≡ true → rest_at xs ≡ in_body (body_at xs)
body_on n [] e = cc
body_on n (R s ∷ xs) e = absurd (nowhere_over xs e)
body_on n (Close ∷ xs) e = absurd (nowhere_over xs e)
body_on n (x ∷ xs) e = refl

row_on : (n : ℕ) (xs : List Command) → is_over (goes (in_row_at n) xs) ≡ true → rest_at xs ≡ in_row (row_at xs)
row_on n [] e = refl
row_on n (R s ∷ xs) e = refl
row_on n (Close ∷ xs) e = refl
row_on n (x ∷ xs) e = absurd (nowhere_over xs e)

after_C : (st : Context) (s : Activity) (xs : List Command) → is_over (goes st (C s ∷ xs)) ≡ true → rest_at xs ≡ in_body (body_at xs)
after_C (in_body_at n) s xs e = body_on n xs e
after_C (at_choice n) s xs e = body_on (suc n) xs e
after_C st s xs e = absurd (nowhere_over xs e)

after_R : (st : Context) (s : Activity) (xs : List Command) → is_over (goes st (R s ∷ xs)) ≡ true → rest_at xs ≡ in_row (row_at xs)
after_R (at_choice n) s xs e = row_on n xs e
after_R (in_row_at n) s xs e = row_on n xs e
after_R st s xs e = absurd (nowhere_over xs e)

-- from any index on, a program leads to its end
pub over_from : (p : Program) (at : ℕ) → is_over (goes (goes (in_body_at 0) (take at (program_commands p))) (drop at (program_commands p))) ≡ true
over_from p at =
    ap is_over (sym (goes_append (in_body_at 0) (take at (program_commands p)) (drop at (program_commands p))) ∙ ap (goes (in_body_at 0)) (take-append-drop at (program_commands p))) ∙ whole p

opened_past : (xs : List Command) → opened_at xs ≡ choices_at (drop 1 xs)
opened_past [] = refl
opened_past (x ∷ xs) = refl

-- with no command left one stays, and nothing is next
pub at_end : (cs : List Command) (at : ℕ) (choices : Option ℕ) (k : ℕ) → drop at cs ≡ [] → None ≡ coming (next (placed cs at choices k))
at_end cs at None k e = ap (λ zs. coming (next (outer (body_at zs)))) (sym e)
at_end cs at (Some from) k e = ap (λ zs. coming (next (inner (choices_at (drop from cs)) k (rest_at zs)))) (sym e)

stays_by : (x : Position) (n : Next) → None ≡ coming n → x ≡ led x n
stays_by x nothing e = refl
stays_by x (comes s to) e = cc

pub stays : (x : Position) → None ≡ coming (next x) → x ≡ onward x
stays x e = stays_by x (next x) e

-- a step that comes is the one that the command there is
pub comes_here : (x : Command) (xs : List Command) (choices : Option ℕ) (cs : List Command) (at k : ℕ) → drop at cs ≡ x ∷ xs → item_for x choices ≡ coming (next (placed cs at choices k))
comes_here x xs None cs at k e = outside x xs ∙ ap (λ zs. coming (next (outer (body_at zs)))) (sym e)
  where
    outside : (x : Command) (xs : List Command) → item_for x None ≡ coming (next (outer (body_at (x ∷ xs))))
    outside (C a) xs = refl
    outside x xs = refl
comes_here x xs (Some from) cs at k e = within x xs ∙ ap (λ zs. coming (next (inner (choices_at (drop from cs)) k (rest_at zs)))) (sym e)
  where
    within : (x : Command) (xs : List Command) → item_for x (Some from) ≡ coming (next (inner (choices_at (drop from cs)) k (rest_at (x ∷ xs))))
    within (C a) xs = refl
    within x xs = refl

-- going on past a step that is no pivot
plain_outer : (ys : List Command) (s : Step) → Some s ≡ coming (next (outer (body_at ys))) → (s.kind ≡ Pivot → ⊥) → outer (body_at (drop 1 ys)) ≡ onward (outer (body_at ys))
plain_outer (C t ∷ ys) s e n = refl
plain_outer (P t ∷ ys) s e n = absurd (n (cc))
plain_outer ys s e n = cc

plain_inner : (ys : List Command) (s : Step) (c : Choices) (k : ℕ) (st : Context) → is_over (goes st ys) ≡ true → Some s ≡ coming (next (inner c k (rest_at ys))) → (s.kind ≡ Pivot → ⊥) → inner c k (rest_at (drop 1 ys)) ≡ onward (inner c k (rest_at ys))
plain_inner (C t ∷ ys) s c k st w e n = ap (inner c k) (after_C st t ys w)
plain_inner (P t ∷ ys) s c k st w e n = absurd (n (cc))
plain_inner (R t ∷ ys) s c k st w e n = ap (inner c k) (after_R st t ys w)
plain_inner ys s c k st w e n = cc

pub plain_on : (p : Program) (at : ℕ) (choices : Option ℕ) (k : ℕ) (s : Step) → Some s ≡ coming (next (placed (program_commands p) at choices k)) → (s.kind ≡ Pivot → ⊥) → placed (program_commands p) (at + 1) choices k ≡ onward (placed (program_commands p) at choices k)
plain_on p at None k s e n =
    let cs = program_commands p in
    ap (λ zs. outer (body_at zs)) (sym (drop-drop 1 at cs)) ∙ plain_outer (drop at cs) s e n
plain_on p at (Some from) k s e n =
    let cs = program_commands p in
    ap (λ zs. inner (choices_at (drop from cs)) k (rest_at zs)) (sym (drop-drop 1 at cs)) ∙ plain_inner (drop at cs) s (choices_at (drop from cs)) k (goes (in_body_at 0) (take at cs)) (over_from p at) e n

-- going on past a pivot
crossing_outer : (ys : List Command) (s : Step) → Some s ≡ coming (next (outer (body_at ys))) → s.kind ≡ Pivot → entered (choices_at (drop 2 ys)) ≡ onward (outer (body_at ys))
crossing_outer (P t ∷ ys) s e n = ap entered (sym (opened_past ys))
crossing_outer ys s e n = cc

crossing_inner : (ys : List Command) (s : Step) (c : Choices) (k : ℕ) → Some s ≡ coming (next (inner c k (rest_at ys))) → s.kind ≡ Pivot → entered (choices_at (drop 2 ys)) ≡ onward (inner c k (rest_at ys))
crossing_inner (P t ∷ ys) s c k e n = ap entered (sym (opened_past ys))
crossing_inner ys s c k e n = cc

pub crossing_on : (cs : List Command) (at : ℕ) (choices : Option ℕ) (k : ℕ) (s : Step) → Some s ≡ coming (next (placed cs at choices k)) → s.kind ≡ Pivot → placed cs (at + 2) (Some (at + 2)) 0 ≡ onward (placed cs at choices k)
crossing_on cs at None k s e n = ap (λ zs. entered (choices_at zs)) (sym (drop-drop 2 at cs)) ∙ crossing_outer (drop at cs) s e n
crossing_on cs at (Some from) k s e n = ap (λ zs. entered (choices_at zs)) (sym (drop-drop 2 at cs)) ∙ crossing_inner (drop at cs) s (choices_at (drop from cs)) k e n

pub none_there : (p : Program) (at : ℕ) → p.len ≤ at → drop at (program_commands p) ≡ []
none_there p at h =
    let long : length (program_commands p) ≡ p.len = length-take-le p.len p.commands (omega (arith, p.room, p.long)) in
    drop_all at (program_commands p) (omega arith)

pub none_first : (cs : List Command) → None ≡ first cs → cs ≡ []
none_first [] e = refl
none_first (c ∷ cs) e = cc

pub some_first : (cs : List Command) (x : Command) → Some x ≡ first cs → cs ≡ x ∷ drop 1 cs
some_first [] x e = cc
some_first (c ∷ cs) x e = let h : c ≡ x = cc in ap (λ y. y ∷ cs) h

-- the first of some commands, as a step
pub step_here : (x : Command) (xs : List Command) (s : Step) (k : ℕ) → Some s ≡ step_of x → k ≡ 0 → Some s ≡ nth (steps_among (x ∷ xs)) k
step_here x xs s k e z = ap (λ o. nth (cons_option o (steps_among xs)) 0) e ∙ ap (nth (steps_among (x ∷ xs))) (sym z)

pub step_passed : (x : Command) (xs : List Command) (s : Step) (k : ℕ) → Some s ≡ step_of x → nth (steps_among xs) k ≡ nth (steps_among (x ∷ xs)) (suc k)
step_passed x xs s k e = ap (λ o. nth (cons_option o (steps_among xs)) (suc k)) e

pub no_step : (x : Command) (xs : List Command) (k : ℕ) → None ≡ step_of x → nth (steps_among xs) k ≡ nth (steps_among (x ∷ xs)) k
no_step x xs k e = ap (λ o. nth (cons_option o (steps_among xs)) k) e

-- ---- how many steps stand before a place
nth_there : (us vs : List Step) (s : Step) → nth (us ++ s ∷ vs) (length us) ≡ Some s
nth_there [] vs s = refl
nth_there (u ∷ us) vs s = nth_there us vs s

item_step : (x : Command) (choices : Option ℕ) (s : Step) → item_for x choices ≡ Some s → step_of x ≡ Some s
item_step (R a) None s e = cc
item_step x choices s e = e

module _ (p : Program) (at : ℕ) (choices : Option ℕ) (k : ℕ) (s : Step) where
  named_by : (rest : List Command) → drop at (program_commands p) ≡ rest → coming (next (placed (program_commands p) at choices k)) ≡ Some s → nth (steps_among (program_commands p)) (length (steps_among (take at (program_commands p)))) ≡ Some s
  named_by [] e c = let z : None ≡ Some s = at_end (program_commands p) at choices k e ∙ c in cc
  named_by (x ∷ xs) e c =
      let cs = program_commands p in
      let is : step_of x ≡ Some s = item_step x choices s (comes_here x xs choices cs at k e ∙ c) in
      let split : steps_among cs ≡ steps_among (take at cs) ++ s ∷ steps_among xs =
      ap steps_among (sym (take-append-drop at cs) ∙ ap (λ r. take at cs ++ r) e) ∙ filter_map-append step_of (take at cs) (x ∷ xs) ∙ ap (λ o. steps_among (take at cs) ++ cons_option o (steps_among xs)) is in
      ap (λ l. nth l (length (steps_among (take at cs)))) split ∙ nth_there (steps_among (take at cs)) (steps_among xs) s

  -- the step that is next has as its ordinal how many stand before it
  pub ordinal_names : coming (next (placed (program_commands p) at choices k)) ≡ Some s → nth (body_steps (tree p)) (length (steps_among (take at (program_commands p)))) ≡ Some s
  ordinal_names c = ap (λ l. nth l (length (steps_among (take at (program_commands p))))) (sym (program_steps p)) ∙ named_by _ refl c

-- ---- what is left of the text
-- the steps before a place and those that are left there are all of them
pub steps_left : (p : Program) (at : ℕ) → length (steps_among (take at (program_commands p))) + length (steps_among (drop at (program_commands p))) ≡ length (body_steps (tree p))
steps_left p at =
    let cs = program_commands p in
    sym (length-append (steps_among (take at cs)) (steps_among (drop at cs)))
    ∙ ap length (sym (filter_map-append step_of (take at cs) (drop at cs)) ∙ ap steps_among (take-append-drop at cs) ∙ program_steps p)

plain_kind : (k : Kind) (l : Left) → (k ≡ Pivot → ⊥) → record { here = drop 1 l.here; choices = l.choices } ≡ left_past k l
plain_kind Pivot l n = absurd (n refl)
plain_kind k l n = refl

module _ (cs : List Command) (at : ℕ) (choices : Option ℕ) (s : Step) (o : Option Step) (e : Some s ≡ o) where
  pub plain_left : (s.kind ≡ Pivot → ⊥) → left_in cs (at + 1) choices ≡ left_after o (left_in cs at choices)
  plain_left n =
      let l = left_in cs at choices in
      let one : left_in cs (at + 1) choices ≡ record { here = drop 1 l.here; choices = l.choices } = (λ i. record { here = sym (drop-drop 1 at cs) i; choices = l.choices }) in
      one ∙ plain_kind s.kind l n ∙ ap (λ x. left_after x l) e

  pub crossing_left : s.kind ≡ Pivot → left_in cs (at + 2) (Some (at + 2)) ≡ left_after o (left_in cs at choices)
  crossing_left n =
      let l = left_in cs at choices in
      let two : left_in cs (at + 2) (Some (at + 2)) ≡ left_past Pivot l = (λ i. record { here = sym (drop-drop 2 at cs) i; choices = Some (sym (drop-drop 2 at cs) i) }) in
      two ∙ ap (λ k. left_past k l) (sym n) ∙ ap (λ x. left_after x l) e
