-- What one command more adds.
use Rattle.std.proofs.Common.{◌≡◌, ℕ, zero, suc, ◌+◌, ◌<◌, ◌≤◌, List, [], ◌∷◌, ◌++◌, length, get_or, take, min, sym, refl, ap, ◌∙◌, append_assoc, append-nil, arith}
use Rattle.std.proofs.lemmas.Grind.{common_steps}
use Rattle.std.proofs.lemmas.List.{take_more}
use Rattle.program.specs.declared.command.Command.{Command}
use Rattle.program.specs.declared.command.Command.TheVariants.{C, P, R}
use Rattle.program.specs.Grammar.{written, bytes}
use Rattle.program.specs.Refusals.{weight, step_count, open_after, opened, peak}

pub bytes_append : (us vs : List Command) → bytes (us ++ vs) ≡ bytes us ++ bytes vs
bytes_append [] vs = refl
bytes_append (c ∷ us) vs = ap (λ l. written c ++ l) (bytes_append us vs) ∙ sym (append_assoc (written c) (bytes us) (bytes vs))

pub bytes_more : (cs : List Command) (c : Command) → bytes (cs ++ c ∷ []) ≡ bytes cs ++ written c
bytes_more cs c = bytes_append cs (c ∷ []) ∙ ap (λ l. bytes cs ++ l) (append-nil (written c))

pub count_more : (cs : List Command) (c : Command) → step_count (cs ++ c ∷ []) ≡ step_count cs + weight c
count_more [] c = omega arith
count_more (x ∷ cs) c = omega (arith, count_more cs c)

pub opened_more : (n : ℕ) (cs : List Command) (c : Command) → opened n (cs ++ c ∷ []) ≡ open_after (opened n cs) c
opened_more n [] c = refl
opened_more n (x ∷ cs) c = opened_more (open_after n x) cs c

pub opened_peak : (n : ℕ) (cs : List Command) → opened n cs ≤ peak n cs
opened_peak n [] = omega arith
opened_peak n (c ∷ cs) = omega (arith, opened_peak (open_after n c) cs)

pub peak_more : (n : ℕ) (cs : List Command) (c : Command) → peak n cs ≤ 4 → open_after (opened n cs) c ≤ 4 → peak n (cs ++ c ∷ []) ≤ 4
peak_more n [] c h k = omega arith
peak_more n (x ∷ cs) c h k = omega (arith, peak_more (open_after n x) cs c (omega arith) k)

weight_low : (c : Command) → weight c ≤ 1
weight_low (C a) = omega arith
weight_low (P a) = omega arith
weight_low (R a) = omega arith
weight_low _ = omega arith

pub count_few : (n : ℕ) (cs : List Command) → step_count (take n cs) ≤ n
count_few zero cs = omega arith
count_few (suc n) [] = omega arith
count_few (suc n) (c ∷ cs) = omega (arith, count_few n cs, weight_low c)

-- a count of the commands before a place goes on with the one there
pub counted_on : (cs : List Command) (n : ℕ) (d : Command) (s k t : ℕ) → n < length cs → s ≡ step_count (take n cs) → k ≡ weight (get_or cs n d) → t ≡ s + k → t ≡ step_count (take (n + 1) cs)
counted_on cs n d s k t h e w f = omega (arith, ap step_count (take_more cs n d h), count_more (take n cs) (get_or cs n d))

-- the commands before a place, of those up to it
pub up_to : (cs : List Command) (at m n : ℕ) → m ≡ min at (length cs) → length (take m cs) ≤ n → take n (take m cs) ≡ take at cs
up_to cs at m n e h = grind (arith, common_steps)
