-- What the lines of stationbench say.
use Rattle.std.specs.Prelude.{ℕ, ◌+◌, ◌-◌, ◌*◌, Bool, cond, not, ◌&&◌, ◌||◌, List, [], ◌∷◌, length, drop, Some, None, Ok, Err, codes, Option, Result, ◌==◌, nat_le}
use Rattle.std.specs.List.{prefix_len, take_while}
use Rattle.std.specs.Option.{option_and_then}
use Rattle.std.specs.Str.{bytes_eq}
use Rattle.activity.specs.declared.Activity.{Activity}
use Rattle.bench_lines.specs.declared.Line.{Line}
use Rattle.bench_lines.specs.declared.Line.TheVariants.{Blank, Perform, TakeBack, Conflict, Kinds, State}
use Rattle.bench_lines.specs.declared.Fault.{Fault}
use Rattle.bench_lines.specs.declared.Fault.TheVariants.{Unknown, Missing, NoNumber, Extra}
use Rattle.bench_lines.specs.declared.Mistake.{Mistake}

-- a space, a tab or a carriage return
abbrev pub is_blank : ℕ → Bool
is_blank b = b == 32 || (b == 9 || b == 13)

-- a byte of a word: no blank, and neither a '#' nor a newline, which end the line
abbrev pub is_in_word : ℕ → Bool
is_in_word b = not (is_blank b) && (not (b == 35) && not (b == 10))

-- where the first word from `at` on begins or, where there is none, the line ends
unfoldable pub begin : List ℕ → ℕ → ℕ
begin bs at = at + prefix_len is_blank (drop at bs)

-- the first place from `at` on after that word
unfoldable pub past_word : List ℕ → ℕ → ℕ
past_word bs at = begin bs at + prefix_len is_in_word (drop (begin bs at) bs)

abbrev pub unless_empty : ℕ → List ℕ → Option (ℕ × List ℕ)
unless_empty n w = cond (length w == 0) None (Some (n, w))

-- the first word from `at` on, with where it begins, if there is one
unfoldable pub word_at : List ℕ → ℕ → Option (ℕ × List ℕ)
word_at bs at = unless_empty (begin bs at) (take_while is_in_word (drop (begin bs at) bs))

-- ---- numbers

-- the number, within the limit
abbrev pub within : ℕ → ℕ → Option ℕ
within limit n = cond (nat_le n limit) (Some n) None

-- the number with one more digit, within the limit
abbrev pub digit_onto : ℕ → ℕ → ℕ → Option ℕ
digit_onto limit n b = cond (nat_le 48 b && nat_le b 57) (within limit (n * 10 + (b - 48))) None

-- the number that the digits give after n
abbrev pub digits : ℕ → List ℕ → ℕ → Option ℕ
digits limit [] n = Some n
digits limit (b ∷ bs) n = option_and_then (digits limit bs) (digit_onto limit n b)

abbrev pub mistake : {X : Type 0} → ℕ → Fault → Result X Mistake
mistake n f = Err (record { before = n; fault = f })

abbrev pub valued : ℕ → ℕ → ℕ → Option ℕ → Result (ℕ × ℕ) Mistake
valued limit n at None = mistake n (NoNumber limit)
valued limit n at (Some x) = Ok (x, at)

abbrev pub number_in : ℕ → List ℕ → ℕ → Option (ℕ × List ℕ) → Result (ℕ × ℕ) Mistake
number_in limit bs at None = mistake (begin bs at) (Missing limit)
number_in limit bs at (Some (n, w)) = valued limit n (past_word bs at) (digits limit w 0)

-- the number from `at` on, and where it ends
unfoldable pub number_at : ℕ → List ℕ → ℕ → Result (ℕ × ℕ) Mistake
number_at limit bs at = number_in limit bs at (word_at bs at)

-- ---- lines

abbrev pub end_in : Option (ℕ × List ℕ) → Line → Result Line Mistake
end_in None l = Ok l
end_in (Some (n, w)) l = mistake n Extra

-- the line, if nothing follows
unfoldable pub end_at : List ℕ → ℕ → Line → Result Line Mistake
end_at bs at l = end_in (word_at bs at) l

-- goes on with what was read, and the place after it
abbrev pub and_then : {X Y : Type 0} → Result (X × ℕ) Mistake → (X → ℕ → Result Y Mistake) → Result Y Mistake
and_then (Ok (x, at)) f = f x at
and_then (Err m) f = Err m

-- what was read, with the place after it
abbrev pub with_place : {X : Type 0} → Result X Mistake → ℕ → Result (X × ℕ) Mistake
with_place (Ok x) at = Ok (x, at)
with_place (Err m) at = Err m

-- the activity whose number and parameter stand from `at` on, and where they end
unfoldable pub activity_at : List ℕ → ℕ → Result (Activity × ℕ) Mistake
activity_at bs at =
    and_then (number_at 255 bs at) (λ n at. and_then (number_at 65535 bs at) (λ p at. Ok (record { number = n; parameter = p }, at)))

abbrev pub performing : List ℕ → ℕ → Result (Line × ℕ) Mistake
performing bs at = and_then (activity_at bs at) (λ a at. Ok (Perform a, at))

abbrev pub taking_back : List ℕ → ℕ → Result (Line × ℕ) Mistake
taking_back bs at =
    and_then (activity_at bs at) (λ a at. and_then (number_at 4294967295 bs at) (λ x at. Ok (TakeBack a x, at)))

abbrev pub conflicting : List ℕ → ℕ → Result (Line × ℕ) Mistake
conflicting bs at =
    and_then (number_at 255 bs at) (λ a at. and_then (number_at 255 bs at) (λ b at. Ok (Conflict a b, at)))

abbrev pub of_kinds : List ℕ → ℕ → Result (Line × ℕ) Mistake
of_kinds bs at = and_then (number_at 255 bs at) (λ n at. Ok (Kinds n, at))

-- the line whose first word is w, which begins at n, with its numbers from `at` on, and where they end
unfoldable pub asked_at : ℕ → List ℕ → List ℕ → ℕ → Result (Line × ℕ) Mistake
asked_at n w bs at =
    cond (bytes_eq w (codes "perform")) (performing bs at)
    (cond (bytes_eq w (codes "take-back")) (taking_back bs at)
    (cond (bytes_eq w (codes "conflict")) (conflicting bs at)
    (cond (bytes_eq w (codes "kinds")) (of_kinds bs at)
    (cond (bytes_eq w (codes "state")) (Ok (State, at)) (mistake n Unknown)))))

abbrev pub reading_in : List ℕ → Option (ℕ × List ℕ) → Result Line Mistake
reading_in bs None = Ok Blank
reading_in bs (Some (n, w)) = and_then (asked_at n w bs (past_word bs 0)) (λ l at. end_at bs at l)

-- what a line says: a blank one nothing, any other what its first word and the numbers after it name
abbrev pub reading : List ℕ → Result Line Mistake
reading bs = reading_in bs (word_at bs 0)
