-- The account of `specs/Worked.antt`.
use Rattle.std.proofs.Common.{◌≡◌, ℕ, ◌+◌, Bool, true, false, cond, not, eqb, Some, None, Option, refl, ap, ◌∙◌, arith}
use Rattle.std.proofs.lemmas.Bool.{true≢false, eqb-true}
use Rattle.serial.specs.Actions.{Commutes, Restores}
use Rattle.serial.specs.Worked.{account, AnyBalance, WorkedAccount}

abbrev answered : Option (ℕ × ℕ) → ℕ
answered None = 0
answered (Some p) = p.0

abbrev reached : Option (ℕ × ℕ) → ℕ
reached None = 0
reached (Some p) = p.1

-- where two actions do not conflict, both look or both pay in, and each answers the same in either order
answers : (a b s : ℕ) (p q : Bool) → eqb a 0 ≡ p → eqb b 0 ≡ q → cond p (not q) q ≡ false → (cond q s 0 ≡ cond q (s + a) 0) × (cond p (s + b) 0 ≡ cond p s 0)
answers a b s true true e f free = (omega (arith, eqb-true a 0 e), omega (arith, eqb-true b 0 f))
answers a b s true false e f free = absurd (true≢false free)
answers a b s false true e f free = absurd (true≢false free)
answers a b s false false e f free = (refl, refl)

commutes : Commutes account AnyBalance
commutes a b x y s m t good free did did' =
    let (later, sooner) = answers a b s (eqb a 0) (eqb b 0) refl refl free in
    let middle : s + a ≡ m = ap reached did in
    let last : m + b ≡ t = ap reached did' in
    let first-answer : cond (eqb a 0) s 0 ≡ x = ap answered did in
    let second-answer : cond (eqb b 0) m 0 ≡ y = ap answered did' in
    let same : s + b + a ≡ t = omega arith in
    let yours : cond (eqb b 0) s 0 ≡ y = later ∙ ap (λ k. cond (eqb b 0) k 0) middle ∙ second-answer in
    let mine : cond (eqb a 0) (s + b) 0 ≡ x = sooner ∙ first-answer in
    (s + b, ap (λ k. Some (k, s + b)) yours, λ i. Some (mine i, same i))

restores : Restores account AnyBalance
restores a x s t good compensatable did = let last : s + a ≡ t = ap reached did in omega arith

pub worked_account : WorkedAccount
worked_account = record {
  keeps_good = λ a x s t good did. tt;
  commutes = commutes;
  restores = restores;
  log = (5, refl, (8, refl, (8, refl, refl)));
  sorted = refl;
  serial = (3, refl, (8, refl, (8, refl, refl)));
  back = (3, refl, refl);
  wrong = (5, refl, (5, refl, refl));
  stuck = λ replay. let looked : ◌≡◌ {A = ℕ} 0 5 = ap answered replay.1 in omega arith;
}
