-- What holds of each element of a list, or of each two, in lists that are made of it.
use Rattle.std.proofs.Common.{◌≡◌, ℕ, Bool, true, List, [], ◌∷◌, ◌++◌, map, set, filter}
use Rattle.std.specs.List.{AllByRecursion}
use Rattle.std.specs.List.Sorted.{IsPermutation}
use Rattle.std.proofs.lemmas.Bool.{cond_both}
use Rattle.std.proofs.lemmas.List.Elements.{All-from_recursion, recursion_from_All, All-weaker, All-map, All-filter, All-push, All-set, filter_passes}
use Rattle.std.proofs.lemmas.List.Sorted.{All-permutation}
use Rattle.serial.specs.Sorts.{Pairwise}

module _ {X : Type 0} where
  module _ (P : X → Type 0) where
    pub all_weaker : (Q : X → Type 0) → ((x : X) → P x → Q x) → (xs : List X) → AllByRecursion P xs → AllByRecursion Q xs
    all_weaker Q f xs h = recursion_from_All Q xs (All-weaker P Q f xs (All-from_recursion P xs h))

    pub all_map : (f : X → X) (xs : List X) → AllByRecursion (λ x. P (f x)) xs → AllByRecursion P (map f xs)
    all_map f xs h = recursion_from_All P (map f xs) (All-map P f xs (All-from_recursion (λ x. P (f x)) xs h))

    pub all_kept : (t : X → Bool) (xs : List X) → AllByRecursion P xs → AllByRecursion P (filter t xs)
    all_kept t xs h = recursion_from_All P (filter t xs) (All-filter t P xs (All-from_recursion P xs h))

    pub all_push : (xs : List X) (x : X) → AllByRecursion P xs → P x → AllByRecursion P (xs ++ x ∷ [])
    all_push xs x h p = recursion_from_All P (xs ++ x ∷ []) (All-push P xs x (All-from_recursion P xs h) p)

    pub all_set : (xs : List X) (i : ℕ) (x : X) → P x → AllByRecursion P xs → AllByRecursion P (set xs i x)
    all_set xs i x p h = recursion_from_All P (set xs i x) (All-set P xs i x p (All-from_recursion P xs h))

    pub all_permuted : (xs ys : List X) → IsPermutation xs ys → AllByRecursion P xs → AllByRecursion P ys
    all_permuted xs ys same h = recursion_from_All P ys (All-permutation P xs ys same (All-from_recursion P xs h))

  pub all_pass : (t : X → Bool) (xs : List X) → AllByRecursion (λ x. t x ≡ true) (filter t xs)
  all_pass t xs = recursion_from_All (λ x. t x ≡ true) (filter t xs) (filter_passes t xs)

  module _ (P : X → X → Type 0) where
    pub pairs_weaker : (Q : X → X → Type 0) → ((a b : X) → P a b → Q a b) → (xs : List X) → Pairwise P xs → Pairwise Q xs
    pairs_weaker Q f [] h = tt
    pairs_weaker Q f (x ∷ xs) h = (all_weaker (P x) (Q x) (f x) xs h.0, pairs_weaker Q f xs h.1)

    pub pairs_of : ((a b : X) → P a b) → (xs : List X) → Pairwise P xs
    pairs_of f [] = tt
    pairs_of f (x ∷ xs) = (recursion_from_All (P x) xs (λ k d lt. f x _), pairs_of f xs)

    pub pairs_map : (f : X → X) → ((a b : X) → P a b → P (f a) (f b)) → (xs : List X) → Pairwise P xs → Pairwise P (map f xs)
    pairs_map f g [] h = tt
    pairs_map f g (x ∷ xs) h = (all_map (P (f x)) f xs (all_weaker (P x) (λ y. P (f x) (f y)) (g x) xs h.0), pairs_map f g xs h.1)

    pub pairs_kept : (t : X → Bool) (xs : List X) → Pairwise P xs → Pairwise P (filter t xs)
    pairs_kept t [] h = tt
    pairs_kept t (x ∷ xs) h =
        let rest = pairs_kept t xs h.1 in
        cond_both (t x) (x ∷ filter t xs) (filter t xs) (Pairwise P) (λ e. (all_kept (P x) t xs h.0, rest)) (λ e. rest)

    pub pairs_push : (xs : List X) (y : X) → Pairwise P xs → AllByRecursion (λ x. P x y) xs → Pairwise P (xs ++ y ∷ [])
    pairs_push [] y h all = (tt, tt)
    pairs_push (x ∷ xs) y h all = (all_push (P x) xs y h.0 all.0, pairs_push xs y h.1 all.1)
