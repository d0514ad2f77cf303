-- The last record of a process, and those up to its last pivot.
use Rattle.std.proofs.Common.{◌≡◌, ℕ, true, false, cond, ◌&&◌, ◌⊎◌, List, [], ◌∷◌, Some, None, Option, sym, refl, ap, ◌∙◌, subst, inl, inr, ⊎_elim}
use Rattle.std.specs.List.{list_any}
use Rattle.std.proofs.lemmas.Bool.{eqb-true, eqb-false, eq-eqb, or_parts, and_from, both_ways, cond_both}
use Rattle.protocol.specs.declared.record.Record.{Record}
use Rattle.protocol.specs.Log.{owned, Split, rejoined, or_here, last_of, unless_pivot, returnable, pivoted, from_pivot}
use Rattle.protocol.proofs.Members.{In, some_any, in_here}

abbrev pub NotOf : ℕ → List Record → Type 0
NotOf n log = (r : Record) → In r log → r.start ≡ n → ⊥

pub record Last (n : ℕ) (log : List Record) (s : Split) : Type 0 where
  pub whole : log ≡ rejoined s
  pub owner : s.at.start ≡ n
  pub after : NotOf n s.after

-- what the search for the last record tells
abbrev pub LastIs : ℕ → List Record → Option Split → Type 0
LastIs n log None = NotOf n log
LastIs n log (Some s) = Last n log s

pub last_is : (n : ℕ) (log : List Record) → LastIs n log (last_of n log)
last_is n [] = λ r i. elim i [ ]
last_is n (r ∷ rs) = go (last_of n rs) (last_is n rs)
  where
    go : (o : Option Split) → LastIs n rs o → LastIs n (r ∷ rs) (or_here n r rs o)
    go (Some s) was = record { whole = ap (λ l. r ∷ l) was.whole; owner = was.owner; after = was.after }
    go None was = cond_both (owned n r) (Some record { before = []; at = r; after = rs }) None (LastIs n (r ∷ rs))
        (λ e. record { whole = refl; owner = eqb-true r.start n e; after = was })
        (λ e x i same. elim i [ inl q ↦ eqb-false r.start n e (ap (λ y. y.start) (sym q) ∙ same) | inr j ↦ was x j same ])

pub pivot_in : (n : ℕ) (log : List Record) (r : Record) → In r log → r.start ≡ n → r.pivot ≡ true → pivoted log n ≡ true
pivot_in n log r i e p = some_any (λ x. owned n x && x.pivot) log r i (and_from (owned n r) r.pivot (eq-eqb r.start n e) p)

-- what may be taken back: the last record, and no pivot
pub record Loose (n : ℕ) (log : List Record) (s : Split) : Type 0 where
  pub last : Last n log s
  pub plain : s.at.pivot ≡ false

abbrev pub LooseIs : ℕ → List Record → Option Split → Type 0
LooseIs n log None = NotOf n log ⊎ (pivoted log n ≡ true)
LooseIs n log (Some s) = Loose n log s

pub loose_is : (n : ℕ) (log : List Record) → LooseIs n log (returnable n log)
loose_is n log = go (last_of n log) (last_is n log)
  where
    go : (o : Option Split) → LastIs n log o → LooseIs n log (unless_pivot o)
    go None was = inl was
    go (Some s) was = cond_both s.at.pivot None (Some s) (LooseIs n log)
        (λ e. inr (subst (λ l. pivoted l n ≡ true) (sym was.whole) (pivot_in n (rejoined s) s.at (in_here s.before s.at s.after) was.owner e)))
        (λ e. record { last = was; plain = e })

-- with nothing to take back, and no kept pivot, there is no record
pub none_own : (n : ℕ) (log : List Record) → pivoted log n ≡ false → returnable n log ≡ None → NotOf n log
none_own n log off none = ⊎_elim (λ x. x) (λ piv. absurd (both_ways (pivoted log n) off piv)) (subst (LooseIs n log) none (loose_is n log))

-- without a pivot all come after it
pub from_none : (xs : List Record) → list_any (λ x. x.pivot) xs ≡ false → from_pivot xs ≡ xs
from_none [] e = refl
from_none (r ∷ rs) e =
    let (here, rest) = or_parts r.pivot (list_any (λ x. x.pivot) rs) e in
    ap (λ b. cond b (from_pivot rs) (cond r.pivot rs (r ∷ rs))) rest ∙ ap (λ b. cond b rs (r ∷ rs)) here
