-- A catalogue as the rules list it, and as a table of the code has it.
use Rattle.std.specs.Prelude.{◌≡◌, ℕ, zero, suc, Bool, true, false, cond, not, ◌&&◌, ◌||◌, List, [], ◌∷◌, ◌==◌, nat_lt, slice_index_or}
use Rattle.baggage.specs.declared.catalogue.Kind.{Kind}
use Rattle.baggage.specs.declared.catalogue.Catalogue.{Catalogue}

-- the numbers of the compensatable and of the retriable activities, and the pairs that conflict
pub record Listing : Type 0 where
  pub compensatables : List ℕ
  pub retriables : List ℕ
  pub conflicts : List (ℕ × ℕ)

-- a number is one of those listed
abbrev pub listed : List ℕ → ℕ → Bool
listed [] n = false
listed (k ∷ ks) n = n == k || listed ks n

-- two numbers are one of the pairs, in either order
abbrev pub matched : List (ℕ × ℕ) → ℕ → ℕ → Bool
matched [] a b = false
matched ((k, l) ∷ ps) a b = ((a == k && b == l) || (a == l && b == k)) || matched ps a b

abbrev pub neither : Kind
neither = record { compensatable = false; retriable = false }

-- what a table of five says of a number: neither kind past its end
abbrev pub kind_at : Catalogue → ℕ → Kind
kind_at t n = cond (nat_lt n 5) (slice_index_or t.kinds n neither) neither

-- what a table of five rows of five says of two numbers: no conflict past its end
abbrev pub conflict_at : Catalogue → ℕ → ℕ → Bool
conflict_at t a b = cond (nat_lt a 5 && nat_lt b 5) (slice_index_or (slice_index_or t.conflicts a []) b false) false

-- ---- the test of a whole table against a listing

-- f holds of each number below n
abbrev pub each_below : ℕ → (ℕ → Bool) → Bool
each_below zero f = true
each_below (suc n) f = f n && each_below n f

-- two truth values are the same
abbrev pub alike : Bool → Bool → Bool
alike true b = b
alike false b = not b

-- each number that is listed is below n
abbrev pub all_below : ℕ → List ℕ → Bool
all_below n [] = true
all_below n (k ∷ ks) = nat_lt k n && all_below n ks

abbrev pub pairs_below : ℕ → List (ℕ × ℕ) → Bool
pairs_below n [] = true
pairs_below n ((k, l) ∷ ps) = (nat_lt k n && nat_lt l n) && pairs_below n ps

-- the listing speaks of five activities, and its conflicts go both ways
abbrev pub proper : Listing → Bool
proper l =
    (all_below 5 l.compensatables && (all_below 5 l.retriables && pairs_below 5 l.conflicts))
    && each_below 5 (λ a. each_below 5 (λ b. alike (matched l.conflicts a b) (matched l.conflicts b a)))

-- the table has at each number the kinds that are listed, and at each two numbers the conflict that is listed
abbrev pub agrees : Catalogue → Listing → Bool
agrees t l =
    proper l
    && (each_below 5 (λ a. alike (kind_at t a).compensatable (listed l.compensatables a) && alike (kind_at t a).retriable (listed l.retriables a))
    && each_below 5 (λ a. each_below 5 (λ b. alike (conflict_at t a b) (matched l.conflicts a b))))

-- what a table that agrees with a listing says of every number
pub record Agreed (t : Catalogue) (l : Listing) : Type 0 where
  pub compensatable : (n : ℕ) → (kind_at t n).compensatable ≡ listed l.compensatables n
  pub retriable : (n : ℕ) → (kind_at t n).retriable ≡ listed l.retriables n
  pub conflict : (a b : ℕ) → conflict_at t a b ≡ matched l.conflicts a b
