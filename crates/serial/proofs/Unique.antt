-- There is one serial order.
use Rattle.std.proofs.Common.{◌≡◌, ℕ, true, cond, eqb, List, [], ◌∷◌, length, sym, refl, ap, ◌∙◌, subst, ⊎_elim, arith}
use Rattle.std.specs.List.{AllByRecursion}
use Rattle.std.proofs.lemmas.Bool.{eq-eqb, ne_eqb, cases_eq}
use Rattle.serial.specs.Sorts.{Sorted, records_of}
use Rattle.serial.specs.Statements.{OneSerialOrder}
use Rattle.serial.proofs.Lists.{all_weaker, all_kept}

module _ {R : Type 0} where
  heads : {x y : R} {xs ys : List R} → x ∷ xs ≡ y ∷ ys → x ≡ y
  heads e = cc

  tails : {x y : R} {xs ys : List R} → x ∷ xs ≡ y ∷ ys → xs ≡ ys
  tails e = cc

  cons≢nil : {x : R} {xs : List R} → x ∷ xs ≡ [] → ⊥
  cons≢nil e = omega (arith, ap length e)

  own_first : (owner : R → ℕ) (n : ℕ) (x : R) (xs : List R) → owner x ≡ n → records_of owner n (x ∷ xs) ≡ x ∷ records_of owner n xs
  own_first owner n x xs e = ap (λ b. cond b (x ∷ records_of owner n xs) (records_of owner n xs)) (eq-eqb (owner x) n e)

  other_first : (owner : R → ℕ) (n : ℕ) (x : R) (xs : List R) → (owner x ≡ n → ⊥) → records_of owner n (x ∷ xs) ≡ records_of owner n xs
  other_first owner n x xs apart = ap (λ b. cond b (x ∷ records_of owner n xs) (records_of owner n xs)) (ne_eqb (owner x) n apart)

  pub one_serial_order : OneSerialOrder R
  one_serial_order first owner [] [] sorted sorted' same ties = refl
  one_serial_order first owner [] (y ∷ ys) sorted sorted' same ties = absurd (cons≢nil (sym (own_first owner (owner y) y ys refl) ∙ sym (same (owner y))))
  one_serial_order first owner (x ∷ xs) [] sorted sorted' same ties = absurd (cons≢nil (sym (own_first owner (owner x) x xs refl) ∙ same (owner x)))
  one_serial_order first owner (x ∷ xs) (y ∷ ys) sorted sorted' same ties =
      let rest = one_serial_order first owner xs ys sorted.1 sorted'.1 others (all_weaker _ (λ a. AllByRecursion (λ b. first a b ≡ true → first b a ≡ true → owner a ≡ owner b) ys) (λ a all. all.1) xs ties.1) in
      λ i. alike i ∷ rest i
    where
      -- the first of its owner's records that does not stand first in the other log stands behind the first record there
      behind : (a b : R) (rest rest' : List R) → Sorted first (b ∷ rest') → records_of owner (owner a) (a ∷ rest) ≡ records_of owner (owner a) (b ∷ rest') → (owner b ≡ owner a → ⊥) → first b a ≡ true
      behind a b rest rest' order e apart =
          let found = sym (other_first owner (owner a) b rest' apart) ∙ sym e ∙ own_first owner (owner a) a rest refl in
          (subst (AllByRecursion (λ c. first b c ≡ true)) found (all_kept (λ c. first b c ≡ true) (λ r. eqb (owner r) (owner a)) rest' order.0)).0

      -- so the first records of both logs tie, or have one owner
      owners : owner x ≡ owner y
      owners = ⊎_elim
          (λ e. e)
          (λ apart. ties.0.0 (behind y x ys xs sorted (sym (same (owner y))) apart) (behind x y xs ys sorted' (same (owner x)) (λ e. apart (sym e))))
          (cases_eq (owner x) (owner y))

      firsts : x ∷ records_of owner (owner x) xs ≡ y ∷ records_of owner (owner x) ys
      firsts = sym (own_first owner (owner x) x xs refl) ∙ same (owner x) ∙ own_first owner (owner x) y ys (sym owners)

      alike : x ≡ y
      alike = heads firsts

      others : (n : ℕ) → records_of owner n xs ≡ records_of owner n ys
      others n = ⊎_elim
          (λ e. subst (λ m. records_of owner m xs ≡ records_of owner m ys) e (tails firsts))
          (λ apart. sym (other_first owner n x xs apart) ∙ same n ∙ other_first owner n y ys (λ e. apart (owners ∙ e)))
          (cases_eq (owner x) n)
