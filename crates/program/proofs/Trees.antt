-- A row of commands is a whole text exactly when it goes from the start of a body to the end of the text,
-- and some text begins with it exactly when it leads somewhere.
use Rattle.std.proofs.Common.{◌≡◌, ℕ, zero, suc, List, [], ◌∷◌, ◌++◌, length, sym, refl, ap, ◌∙◌, append_assoc, add-one, arith}
use Rattle.activity.specs.declared.Activity.{Activity}
use Rattle.program.specs.declared.command.Command.{Command}
use Rattle.program.specs.declared.command.Command.TheVariants.{C, P, R, Open, Bar, Close, Stop}
use Rattle.program.specs.Grammar.{Body, finish, compensatable, pivot, Choices, row, or_else, row_commands, body_commands, choices_commands, text_commands}
use Rattle.program.specs.Refusals.{open_after, opened, Whole, Begins}
use Rattle.program.specs.Contexts.{Context, in_body_at, at_pivot, at_choice, in_row_at, closed, over, nowhere, end_mark, after_end, after_bar, after_stop, go, goes}

pub goes_append : (st : Context) (us vs : List Command) → goes st (us ++ vs) ≡ goes (goes st us) vs
goes_append st [] vs = refl
goes_append st (c ∷ us) vs = goes_append (go st c) us vs

pub goes_nowhere : (cs : List Command) → goes nowhere cs ≡ nowhere
goes_nowhere [] = refl
goes_nowhere (c ∷ cs) = goes_nowhere cs

pub body_ends : (n : ℕ) → go (in_body_at n) (end_mark n) ≡ after_end n
body_ends zero = refl
body_ends (suc n) = refl

pub closed_ends : (n : ℕ) → go (closed n) (end_mark n) ≡ after_end n
closed_ends zero = refl
closed_ends (suc n) = refl

row_goes : (ss : List Activity) (n : ℕ) (rest : List Command) → goes (in_row_at n) (row_commands ss ++ Close ∷ rest) ≡ goes (closed n) rest
row_goes [] n rest = refl
row_goes (s ∷ ss) n rest = row_goes ss n rest

first_row : (ss : List Activity) (n : ℕ) (rest : List Command) → goes (at_choice n) (row_commands ss ++ Close ∷ rest) ≡ goes (closed n) rest
first_row [] n rest = refl
first_row (s ∷ ss) n rest = row_goes ss n rest

mutual
  body_goes : (b : Body) (n : ℕ) (rest : List Command) → goes (in_body_at n) (body_commands b ++ end_mark n ∷ rest) ≡ goes (after_end n) rest
  body_goes finish n rest = ap (λ st. goes st rest) (body_ends n)
  body_goes (compensatable s b) n rest = body_goes b n rest
  body_goes (pivot s c) n rest =
      ap (goes (at_choice n)) (append_assoc (choices_commands c) (Close ∷ []) (end_mark n ∷ rest)) ∙ choices_goes c n (end_mark n ∷ rest) ∙ ap (λ st. goes st rest) (closed_ends n)

  first_body : (b : Body) (n : ℕ) (rest : List Command) → goes (at_choice n) (body_commands b ++ Bar ∷ rest) ≡ goes (at_choice n) rest
  first_body finish n rest = refl
  first_body (compensatable s b) n rest = body_goes b (suc n) rest
  first_body (pivot s c) n rest =
      ap (goes (at_choice (suc n))) (append_assoc (choices_commands c) (Close ∷ []) (Bar ∷ rest)) ∙ choices_goes c (suc n) (Bar ∷ rest)

  choices_goes : (c : Choices) (n : ℕ) (rest : List Command) → goes (at_choice n) (choices_commands c ++ Close ∷ rest) ≡ goes (closed n) rest
  choices_goes (row ss) n rest = first_row ss n rest
  choices_goes (or_else b c) n rest =
      ap (goes (at_choice n)) (append_assoc (body_commands b) (Bar ∷ choices_commands c) (Close ∷ rest)) ∙ first_body b n (choices_commands c ++ Close ∷ rest) ∙ choices_goes c n rest

pub text_goes : (b : Body) → goes (in_body_at 0) (text_commands b) ≡ over
text_goes b = body_goes b 0 []

pub whole_goes : (cs : List Command) → Whole cs → goes (in_body_at 0) cs ≡ over
whole_goes cs w = ap (goes (in_body_at 0)) w.1 ∙ text_goes w.0

-- What is still to come where some brackets are open: for each the further choices of its pivot.
abbrev after : List Choices → List Command
after [] = Stop ∷ []
after (c ∷ cs) = Bar ∷ (choices_commands c ++ Close ∷ after cs)

abbrev Rest : Context → List Command → Type 0
Rest (in_body_at n) xs = (b : Body) × (cs : List Choices) × (length cs ≡ n) × (xs ≡ body_commands b ++ after cs)
Rest (at_pivot n) xs = (c : Choices) × (cs : List Choices) × (length cs ≡ n) × (xs ≡ Open ∷ (choices_commands c ++ Close ∷ after cs))
Rest (at_choice n) xs = (c : Choices) × (cs : List Choices) × (length cs ≡ n) × (xs ≡ choices_commands c ++ Close ∷ after cs)
Rest (in_row_at n) xs = (ss : List Activity) × (cs : List Choices) × (length cs ≡ n) × (xs ≡ row_commands ss ++ Close ∷ after cs)
Rest (closed n) xs = (cs : List Choices) × (length cs ≡ n) × (xs ≡ after cs)
Rest over xs = xs ≡ []
Rest nowhere xs = ⊥

under : (c : Command) {xs ys : List Command} → xs ≡ ys → c ∷ xs ≡ c ∷ ys
under c e = ap (λ l. c ∷ l) e

at_bar : (n : ℕ) (xs : List Command) → Rest (after_bar n) xs → (cs : List Choices) × (length cs ≡ n) × (Bar ∷ xs ≡ after cs)
at_bar zero xs h = absurd h
at_bar (suc n) xs (c, cs, l, e) = (c ∷ cs, ap suc l, under Bar e)

at_stop : (n : ℕ) (xs : List Command) → Rest (after_stop n) xs → (cs : List Choices) × (length cs ≡ n) × (Stop ∷ xs ≡ after cs)
at_stop zero xs h = ([], refl, under Stop h)
at_stop (suc n) xs h = absurd h

in_first : (n : ℕ) (x : Command) (b : Body) (c : Choices) (cs : List Choices) (xs : List Command) → length cs ≡ n → x ∷ xs ≡ body_commands b ++ after (c ∷ cs) → Rest (at_choice n) (x ∷ xs)
in_first n x b c cs xs l e = (or_else b c, cs, l, e ∙ sym (append_assoc (body_commands b) (Bar ∷ choices_commands c) (Close ∷ after cs)))

inside : (n : ℕ) (x : Command) (xs : List Command) (b : Body) (cs : List Choices) → length cs ≡ suc n → x ∷ xs ≡ body_commands b ++ after cs → Rest (at_choice n) (x ∷ xs)
inside n x xs b [] l e = absurd (omega arith)
inside n x xs b (c ∷ cs) l e = in_first n x b c cs xs (omega arith) e

with_pivot : (s : Activity) (c : Choices) (ws : List Command) (xs : List Command) → xs ≡ Open ∷ (choices_commands c ++ Close ∷ ws) → P s ∷ xs ≡ body_commands (pivot s c) ++ ws
with_pivot s c ws xs e = under (P s) (e ∙ under Open (sym (append_assoc (choices_commands c) (Close ∷ []) ws)))

-- one command more in front
back : (st : Context) (c : Command) (xs : List Command) → Rest (go st c) xs → Rest st (c ∷ xs)
back (in_body_at n) (C s) xs (b, cs, l, e) = (compensatable s b, cs, l, under (C s) e)
back (in_body_at n) (P s) xs (c, cs, l, e) = (pivot s c, cs, l, with_pivot s c (after cs) xs e)
back (in_body_at n) Bar xs h = let r = at_bar n xs h in (finish, r.0, r.1, r.2)
back (in_body_at n) Stop xs h = let r = at_stop n xs h in (finish, r.0, r.1, r.2)
back (at_pivot n) Open xs (c, cs, l, e) = (c, cs, l, under Open e)
back (at_choice n) (C s) xs (b, cs, l, e) = inside n (C s) xs (compensatable s b) cs l (under (C s) e)
back (at_choice n) (P s) xs (c, cs, l, e) = inside n (P s) xs (pivot s c) cs l (with_pivot s c (after cs) xs e)
back (at_choice n) (R s) xs (ss, cs, l, e) = (row (s ∷ ss), cs, l, under (R s) e)
back (at_choice n) Bar xs (c, cs, l, e) = in_first n Bar finish c cs xs l (under Bar e)
back (at_choice n) Close xs (cs, l, e) = (row [], cs, l, under Close e)
back (in_row_at n) (R s) xs (ss, cs, l, e) = (s ∷ ss, cs, l, under (R s) e)
back (in_row_at n) Close xs (cs, l, e) = ([], cs, l, under Close e)
back (closed n) Bar xs h = at_bar n xs h
back (closed n) Stop xs h = at_stop n xs h
back _ _ xs h = absurd h

at_end : (st : Context) → st ≡ over → Rest st []
at_end over e = refl
at_end _ e = cc

rest : (xs : List Command) (st : Context) → goes st xs ≡ over → Rest st xs
rest [] st e = at_end st e
rest (c ∷ xs) st e = back st c xs (rest xs (go st c) e)

whole_from : (cs : List Command) → Rest (in_body_at 0) cs → Whole cs
whole_from cs (b, [], l, e) = (b, e)
whole_from cs (b, c ∷ ks, l, e) = absurd (omega arith)

pub goes_whole : (cs : List Command) → goes (in_body_at 0) cs ≡ over → Whole cs
goes_whole cs e = whole_from cs (rest cs (in_body_at 0) e)

-- how to end a text soonest
abbrev closing : ℕ → List Command
closing zero = Stop ∷ []
closing (suc n) = Bar ∷ Close ∷ closing n

closing_closed : (n : ℕ) → goes (closed n) (closing n) ≡ over
closing_closed zero = refl
closing_closed (suc n) = closing_closed n

closing_body : (n : ℕ) → goes (in_body_at n) (closing n) ≡ over
closing_body zero = refl
closing_body (suc n) = closing_closed n

completed : (st : Context) → (st ≡ nowhere → ⊥) → (more : List Command) × (goes st more ≡ over)
completed (in_body_at n) h = (closing n, closing_body n)
completed (at_pivot n) h = (Open ∷ Close ∷ closing n, closing_closed n)
completed (at_choice n) h = (Close ∷ closing n, closing_closed n)
completed (in_row_at n) h = (Close ∷ closing n, closing_closed n)
completed (closed n) h = (closing n, closing_closed n)
completed over h = ([], refl)
completed nowhere h = absurd (h refl)

pub goes_begins : (cs : List Command) → (goes (in_body_at 0) cs ≡ nowhere → ⊥) → Begins cs
goes_begins cs h =
    let m = completed (goes (in_body_at 0) cs) h in
    let w = goes_whole (cs ++ m.0) (goes_append (in_body_at 0) cs m.0 ∙ m.1) in
    (w.0, m.0, sym w.1)

pub begins_goes : (cs : List Command) → Begins cs → goes (in_body_at 0) cs ≡ nowhere → ⊥
begins_goes cs (b, more, e) h =
    let a : over ≡ nowhere = sym (text_goes b) ∙ ap (goes (in_body_at 0)) e ∙ goes_append (in_body_at 0) cs more ∙ ap (λ st. goes st more) h ∙ goes_nowhere more in
    cc

-- how many brackets are open
abbrev pub level_of : Context → ℕ
level_of (in_body_at n) = n
level_of (at_pivot n) = n
level_of (at_choice n) = suc n
level_of (in_row_at n) = suc n
level_of (closed n) = n
level_of over = 0
level_of nowhere = 0

levels : (st : Context) (c : Command) → (go st c ≡ nowhere → ⊥) → open_after (level_of st) c ≡ level_of (go st c)
levels (in_body_at n) (C s) h = refl
levels (in_body_at n) (P s) h = refl
levels (in_body_at (suc n)) Bar h = refl
levels (in_body_at zero) Stop h = refl
levels (at_pivot n) Open h = add-one n
levels (at_choice n) (C s) h = refl
levels (at_choice n) (P s) h = refl
levels (at_choice n) (R s) h = refl
levels (at_choice n) Bar h = refl
levels (at_choice n) Close h = omega arith
levels (in_row_at n) (R s) h = refl
levels (in_row_at n) Close h = omega arith
levels (closed (suc n)) Bar h = refl
levels (closed zero) Stop h = refl
levels _ _ h = absurd (h refl)

pub opened_level : (cs : List Command) (st : Context) → (goes st cs ≡ nowhere → ⊥) → opened (level_of st) cs ≡ level_of (goes st cs)
opened_level [] st h = refl
opened_level (c ∷ cs) st h =
    let some : go st c ≡ nowhere → ⊥ = λ e. h (ap (λ s. goes s cs) e ∙ goes_nowhere cs) in
    ap (λ n. opened n cs) (levels st c some) ∙ opened_level cs (go st c) h

pub goes_more : (st : Context) (cs : List Command) (c : Command) → goes st (cs ++ c ∷ []) ≡ go (goes st cs) c
goes_more st cs c = goes_append st cs (c ∷ [])
