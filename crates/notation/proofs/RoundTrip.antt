-- Reading back what was written gives the same bytes.
use Rattle.std.proofs.Common.{◌≡◌, ℕ, suc, ◌+◌, ◌*◌, ◌/◌, ◌%◌, ◌<◌, Bool, true, false, cond, ◌&&◌, ◌||◌, eqb, List, [], ◌∷◌, ◌++◌, length, get_or, None, Some, Ok, sym, refl, ap, ◌∙◌, subst, append_assoc, append-nil, arith}
use Rattle.std.proofs.lemmas.Bool.Decides.{nat_tests}
use Rattle.notation.specs.declared.sign.Sign.TheVariants.{Command, Digit}
use Rattle.notation.specs.Notation.{is_command, sign_of, hex, with_front, bytes_from, bytes_of, due_after, unit, gap, written_on, written}
use Rattle.notation.proofs.Reading.{front_none, front_more}

-- the line xs, wherever it begins and whatever follows it, stands for the bytes bs
abbrev StandsFor : List ℕ → List ℕ → Type 0
StandsFor xs bs = (k : ℕ) (ys : List ℕ) → (j : ℕ) × (bytes_from k None (xs ++ ys) ≡ with_front bs (bytes_from j None ys))

nothing : StandsFor [] []
nothing k ys = (k, sym (front_none (bytes_from k None ys)))

both : (xs ys bs cs : List ℕ) → StandsFor xs bs → StandsFor ys cs → StandsFor (xs ++ ys) (bs ++ cs)
both xs ys bs cs p q k zs =
    let a = p k (ys ++ zs) in
    let b = q a.0 zs in
    (b.0, rw (append_assoc, front_more) (a.1 ∙ ap (with_front bs) b.1))

blank : StandsFor (32 ∷ []) []
blank k ys = (k + 1, sym (front_none (bytes_from (k + 1) None ys)))

hex_sign : (d : ℕ) → d < 16 → sign_of (hex d) ≡ Some (Digit d)
hex_sign d h = grind (arith, nat_tests)

command_sign : (c : ℕ) → is_command c ≡ true → sign_of c ≡ Some Command
command_sign c e = grind (arith, nat_tests)

-- a byte as a command's letter or mark, or as two digits
unit_by : (t : Bool) (b : ℕ) → (t ≡ true → is_command b ≡ true) → b < 256 → StandsFor (cond t (b ∷ []) (hex (b / 16) ∷ hex (b % 16) ∷ [])) (b ∷ [])
unit_by true b is h k ys = (k + 1, rw (command_sign b (is refl)) refl)
unit_by false b is h k ys =
    let high = hex_sign (b / 16) (omega arith) in
    let low = hex_sign (b % 16) (omega arith) in
    let whole : b / 16 * 16 + b % 16 ≡ b = omega arith in
    (k + 1 + 1, rw (high, low, whole) refl)

unit_stands : (due b : ℕ) → b < 256 → StandsFor (unit due b) (b ∷ [])
unit_stands due b h = unit_by (eqb due 0 && is_command b) b (λ e. grind (arith, nat_tests)) h

gap_by : (t : Bool) → StandsFor (cond t [] (32 ∷ [])) []
gap_by true = nothing
gap_by false = blank

written_stands : (bs out : List ℕ) (due : ℕ) (done : List ℕ) → StandsFor out done → ((i : ℕ) → get_or bs i 0 < 256) → StandsFor (written_on out due bs) (done ++ bs)
written_stands [] out due done p low = subst (StandsFor out) (sym (append-nil done)) p
written_stands (b ∷ bs) out due done p low =
    let gapped = both out (gap out due) done [] p (gap_by (eqb due 1 || eqb (length out) 0)) in
    let next = both (out ++ gap out due) (unit due b) (done ++ []) (b ∷ []) gapped (unit_stands due b (low 0)) in
    let same : ((done ++ []) ++ b ∷ []) ++ bs ≡ done ++ b ∷ bs = simp (append-nil, append_assoc) in
    subst (StandsFor (written_on out due (b ∷ bs))) same (written_stands bs _ (due_after due b) _ next (λ i. low (suc i)))

pub back : (bs : List ℕ) → ((i : ℕ) → get_or bs i 0 < 256) → bytes_of (written bs) ≡ Ok bs
back bs low = let w = written_stands bs [] 0 [] nothing low 0 [] in simp append-nil at w.1
