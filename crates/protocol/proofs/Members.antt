-- What stands in a list, and what stands before what.
use Rattle.std.proofs.Common.{◌≡◌, ℕ, zero, suc, get_or, Bool, true, false, cond, ◌&&◌, ◌||◌, ◌⊎◌, List, [], ◌∷◌, ◌++◌, map, filter, sym, refl, ap, ◌∙◌, inl, inr, ⊎_elim}
use Rattle.std.proofs.lemmas.List.Folds.{list_any-append}
use Rattle.std.proofs.lemmas.Bool.{false≢true, or_cases, or_parts, or_left, or_right, or_from, cond_both}
use Rattle.std.specs.List.{AllByRecursion, list_any}
use Rattle.serial.specs.Sorts.{Pairwise}
use Rattle.protocol.proofs.Tests.{or_off}
pub use Rattle.protocol.specs.Relation.{In, Before}

module _ {X : Type 0} where
  pub all_from : (P : X → Type 0) (xs : List X) → ((x : X) → In x xs → P x) → AllByRecursion P xs
  all_from P [] f = tt
  all_from P (x ∷ xs) f = (f x (inl refl), all_from P xs (λ y i. f y (inr i)))

  pub all_at : (P : X → Type 0) (d : X) → P d → (k : ℕ) (xs : List X) → AllByRecursion P xs → P (get_or xs k d)
  all_at P d p k [] all = p
  all_at P d p zero (x ∷ xs) all = all.0
  all_at P d p (suc k) (x ∷ xs) all = all_at P d p k xs all.1

  pub pairs_from : (P : X → X → Type 0) (xs : List X) → ((a b : X) → Before a b xs → P a b) → Pairwise P xs
  pairs_from P [] f = tt
  pairs_from P (x ∷ xs) f = (all_from (P x) xs (λ y i. f x y (inl (refl, i))), pairs_from P xs (λ a b i. f a b (inr i)))

  pub before_first : (a b : X) (xs : List X) → Before a b xs → In a xs
  before_first a b (x ∷ xs) (inl e) = inl e.0
  before_first a b (x ∷ xs) (inr i) = inr (before_first a b xs i)
  before_first a b [] i = elim i [ ]

  pub before_second : (a b : X) (xs : List X) → Before a b xs → In b xs
  before_second a b (x ∷ xs) (inl e) = inr e.1
  before_second a b (x ∷ xs) (inr i) = inr (before_second a b xs i)
  before_second a b [] i = elim i [ ]

  pub in_push : (x : X) (xs : List X) (r : X) → In x (xs ++ r ∷ []) → In x xs ⊎ (x ≡ r)
  in_push x [] r (inl e) = inr e
  in_push x [] r (inr i) = elim i [ ]
  in_push x (y ∷ ys) r (inl e) = inl (inl e)
  in_push x (y ∷ ys) r (inr i) = ⊎_elim (λ j. inl (inr j)) inr (in_push x ys r i)

  pub before_push : (a b : X) (xs : List X) (r : X) → Before a b (xs ++ r ∷ []) → Before a b xs ⊎ (In a xs × (b ≡ r))
  before_push a b [] r (inl e) = elim e.1 [ ]
  before_push a b [] r (inr i) = elim i [ ]
  before_push a b (y ∷ ys) r (inl e) = ⊎_elim (λ j. inl (inl (e.0, j))) (λ f. inr (inl e.0, f)) (in_push b ys r e.1)
  before_push a b (y ∷ ys) r (inr i) = ⊎_elim (λ j. inl (inr j)) (λ f. inr (inr f.0, f.1)) (before_push a b ys r i)

  -- what stands in a list without one of its elements
  pub in_more : (x : X) (xs : List X) (r : X) (ys : List X) → In x (xs ++ ys) → In x (xs ++ r ∷ ys)
  in_more x [] r ys i = inr i
  in_more x (y ∷ xs) r ys (inl e) = inl e
  in_more x (y ∷ xs) r ys (inr i) = inr (in_more x xs r ys i)

  pub before_more : (a b : X) (xs : List X) (r : X) (ys : List X) → Before a b (xs ++ ys) → Before a b (xs ++ r ∷ ys)
  before_more a b [] r ys i = inr i
  before_more a b (y ∷ xs) r ys (inl e) = inl (e.0, in_more b xs r ys e.1)
  before_more a b (y ∷ xs) r ys (inr i) = inr (before_more a b xs r ys i)

  pub before_here : (b : X) (xs : List X) (r : X) (ys : List X) → In b ys → Before r b (xs ++ r ∷ ys)
  before_here b [] r ys i = inl (refl, i)
  before_here b (y ∷ xs) r ys i = inr (before_here b xs r ys i)

  pub in_here : (xs : List X) (r : X) (ys : List X) → In r (xs ++ r ∷ ys)
  in_here [] r ys = inl refl
  in_here (y ∷ xs) r ys = inr (in_here xs r ys)

  pub in_map : (f : X → X) (y : X) (xs : List X) → In y (map f xs) → (x : X) × In x xs × (y ≡ f x)
  in_map f y (x ∷ xs) (inl e) = (x, inl refl, e)
  in_map f y (x ∷ xs) (inr i) = let (z, j, e) = in_map f y xs i in (z, inr j, e)
  in_map f y [] i = elim i [ ]

  pub before_map : (f : X → X) (a b : X) (xs : List X) → Before a b (map f xs) → (c : X) × (d : X) × Before c d xs × (a ≡ f c) × (b ≡ f d)
  before_map f a b (x ∷ xs) (inl e) = let (d, j, p) = in_map f b xs e.1 in (x, d, inl (refl, j), e.0, p)
  before_map f a b (x ∷ xs) (inr i) = let (c, d, j, p, q) = before_map f a b xs i in (c, d, inr j, p, q)
  before_map f a b [] i = elim i [ ]

  -- a test that nothing passes
  pub any_none : (p : X → Bool) (xs : List X) → list_any p xs ≡ false → (x : X) → In x xs → p x ≡ false
  any_none p [] e x i = elim i [ ]
  any_none p (y ∷ ys) e x (inl q) = ap p q ∙ (or_parts (p y) (list_any p ys) e).0
  any_none p (y ∷ ys) e x (inr i) = any_none p ys (or_parts (p y) (list_any p ys) e).1 x i

  pub none_any : (p : X → Bool) (xs : List X) → ((x : X) → In x xs → p x ≡ false) → list_any p xs ≡ false
  none_any p [] f = refl
  none_any p (y ∷ ys) f = or_from (p y) (list_any p ys) (f y (inl refl)) (none_any p ys (λ x i. f x (inr i)))

  pub in_any : (p : X → Bool) (xs : List X) → list_any p xs ≡ true → (x : X) × In x xs × (p x ≡ true)
  in_any p [] e = absurd (false≢true e)
  in_any p (x ∷ xs) e = ⊎_elim (λ t. (x, inl refl, t)) (λ more. let (y, i, t) = in_any p xs more in (y, inr i, t)) (or_cases (p x) (list_any p xs) e)

  pub some_any : (p : X → Bool) (xs : List X) (x : X) → In x xs → p x ≡ true → list_any p xs ≡ true
  some_any p (y ∷ ys) x (inl q) e = or_left (p y) (list_any p ys) (ap p (sym q) ∙ e)
  some_any p (y ∷ ys) x (inr i) e = or_right (p y) (list_any p ys) (some_any p ys x i e)
  some_any p [] x i e = elim i [ ]

  pub any_push : (p : X → Bool) (xs : List X) (r : X) → list_any p (xs ++ r ∷ []) ≡ (list_any p xs || p r)
  any_push p xs r = list_any-append p xs (r ∷ []) ∙ ap (λ b. list_any p xs || b) (or_off (p r) false refl)

  pub any_more : (p : X → Bool) (xs : List X) (r : X) (ys : List X) → p r ≡ false → list_any p (xs ++ ys) ≡ list_any p (xs ++ r ∷ ys)
  any_more p xs r ys e = list_any-append p xs ys ∙ ap (λ b. list_any p xs || (b || list_any p ys)) (sym e) ∙ sym (list_any-append p xs (r ∷ ys))

  pub any_map : (p : X → Bool) (f : X → X) → ((x : X) → p (f x) ≡ p x) → (xs : List X) → list_any p (map f xs) ≡ list_any p xs
  any_map p f same [] = refl
  any_map p f same (x ∷ xs) = λ i. same x i || any_map p f same xs i

  pub in_kept : (p : X → Bool) (xs : List X) (x : X) → In x xs → p x ≡ true → In x (filter p xs)
  in_kept p (y ∷ ys) x (inl q) e = rw (ap p (sym q) ∙ e) (inl q)
  in_kept p (y ∷ ys) x (inr i) e = cond_both (p y) (y ∷ filter p ys) (filter p ys) (In x) (λ _. inr (in_kept p ys x i e)) (λ _. in_kept p ys x i e)
  in_kept p [] x i e = elim i [ ]

  pub kept_in : (t : X → Bool) (xs : List X) (x : X) → In x (filter t xs) → In x xs × (t x ≡ true)
  kept_in t [] x i = elim i [ ]
  kept_in t (y ∷ ys) x i = cond_both (t y) (y ∷ filter t ys) (filter t ys) (λ l. In x l → In x (y ∷ ys) × (t x ≡ true))
      (λ e j. ⊎_elim (λ f. (inl f, ap t f ∙ e)) (λ k. let (a, b) = kept_in t ys x k in (inr a, b)) j)
      (λ e j. let (a, b) = kept_in t ys x j in (inr a, b))
      i

  pub any_kept : (p t : X → Bool) (xs : List X) → list_any (λ x. t x && p x) xs ≡ list_any p (filter t xs)
  any_kept p t [] = refl
  any_kept p t (x ∷ xs) = go (t x) (any_kept p t xs)
    where
      go : (b : Bool) → list_any (λ x. t x && p x) xs ≡ list_any p (filter t xs) → ((b && p x) || list_any (λ x. t x && p x) xs) ≡ list_any p (cond b (x ∷ filter t xs) (filter t xs))
      go true e = ap (λ c. p x || c) e
      go false e = e
