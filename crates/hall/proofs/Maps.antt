-- A loop that writes a function of each element over it.
use Rattle.std.proofs.Common.{◌≡◌, ℕ, ◌+◌, ◌<◌, ◌≤◌, List, ◌++◌, map, length, get_or, take, drop, set, cond, eqb, sym, ap, ◌∙◌}
use Rattle.std.proofs.lemmas.List.Edits.{map_over_more}
use Rattle.std.specs.declared.vec.Vec.{Vec}
use Rattle.std.specs.Vec.{with_items}
use Rattle.std.proofs.lemmas.Bool.{eq-eqb, ne_eqb}
use Rattle.std.proofs.lemmas.List.{get_or_default, take_all, drop_all, append-nil, with_items_is}

module _ {X : Type 0} (f : X → X) (xs ys : List X) (i : ℕ) (inv : ys ≡ map f (take i xs) ++ drop i xs) where
  pub mapped_more : (d y : X) → i < length xs → i < length ys → y ≡ f (get_or ys i d) → set ys i y ≡ map f (take (i + 1) xs) ++ drop (i + 1) xs
  mapped_more d y h k e =
      let x = get_or ys i d in
      ap (set ys i) e ∙ map_over_more f xs ys i x h inv (get_or_default ys i d x k)

-- a Vec, once the loop over its elements is done
pub all_mapped : {X Z : Type 0} (f : X → X) (v : Vec X Z) (xs ys : List X) (i : ℕ) → ys ≡ map f (take i xs) ++ drop i xs → length xs ≤ i → length ys ≡ length xs → xs ≡ v.items → length xs ≡ v.len → (with_items v ys).items ≡ map f v.items
all_mapped f v xs ys i inv past same is long =
    with_items_is v ys (same ∙ long)
    ∙ inv
    ∙ rw (take_all i xs past, drop_all i xs past) (append-nil (map f xs))
    ∙ ap (map f) is

-- what a turn leaves where it writes x over the y of the number n
module _ {X : Type 0} (a n : ℕ) (x y : X) where
  pub written : a ≡ n → x ≡ cond (eqb a n) x y
  written e = sym (ap (λ b. cond b x y) (eq-eqb a n e))

  pub kept : (a ≡ n → ⊥) → y ≡ cond (eqb a n) x y
  kept e = sym (ap (λ b. cond b x y) (ne_eqb a n e))
