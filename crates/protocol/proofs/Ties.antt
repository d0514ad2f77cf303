-- There is one orderly run.
use Rattle.std.proofs.Common.{◌≡◌, ℕ, ◌<◌, ◌≤◌, Bool, true, ◌⊎◌, List, sym, refl, ◌∙◌, subst, inl, inr, arith}
use Rattle.std.proofs.lemmas.Bool.{eq-eqb}
use Rattle.protocol.specs.declared.record.Record.{Record}
use Rattle.protocol.specs.Log.{owned, own, group, number, prior}
use Rattle.protocol.proofs.Tests.{Tells, both, either, equal, less, at_most}
use Rattle.protocol.proofs.Members.{In, in_kept}
use Rattle.protocol.proofs.Members.{kept_in}
use Rattle.protocol.proofs.Ranks.{Rank, committed, pivoting, waiting, rank}

-- what may go before b: what is of a lower group, or of its group with no higher number
pub prior_tells : (piv : ℕ → Bool) (a b : Record) → Tells (prior piv a b) ((group piv a < group piv b) ⊎ ((group piv a ≡ group piv b) × (number a ≤ number b)))
prior_tells piv a b = either (less (group piv a) (group piv b)) (both (equal (group piv a) (group piv b)) (at_most (number a) (number b)))

-- two that may each go before the other have one owner
pub tied : (piv : ℕ → Bool) (a b : Record) → (a.commit ≡ b.commit → (a.commit ≡ 0 → ⊥) → a.start ≡ b.start) → prior piv a b ≡ true → prior piv b a ≡ true → a.start ≡ b.start
tied piv a b numbers e f = go (same ((prior_tells piv a b).holds e) ((prior_tells piv b a).holds f)) (rank piv a) (rank piv b)
  where
    same : (group piv a < group piv b) ⊎ ((group piv a ≡ group piv b) × (number a ≤ number b)) → (group piv b < group piv a) ⊎ ((group piv b ≡ group piv a) × (number b ≤ number a)) → (group piv a ≡ group piv b) × (number a ≡ number b)
    same (inl x) (inl y) = absurd (omega arith)
    same (inl x) (inr y) = absurd (omega (arith, y.0))
    same (inr x) (inl y) = absurd (omega (arith, x.0))
    same (inr x) (inr y) = (x.0, omega (arith, x.1, y.1))

    go : (group piv a ≡ group piv b) × (number a ≡ number b) → Rank piv a → Rank piv b → a.start ≡ b.start
    go (g, n) (committed some x y) (committed some' x' y') = numbers (sym y ∙ n ∙ y') some
    go (g, n) (pivoting c u x y) (pivoting c' u' x' y') = sym y ∙ n ∙ y'
    go (g, n) (waiting c u x y) (waiting c' u' x' y') = sym y ∙ n ∙ y'
    go (g, n) (committed some x y) (pivoting c u x' y') = absurd (omega arith)
    go (g, n) (committed some x y) (waiting c u x' y') = absurd (omega arith)
    go (g, n) (pivoting c u x y) (committed some x' y') = absurd (omega arith)
    go (g, n) (pivoting c u x y) (waiting c' u' x' y') = absurd (omega arith)
    go (g, n) (waiting c u x y) (committed some x' y') = absurd (omega arith)
    go (g, n) (waiting c u x y) (pivoting c' u' x' y') = absurd (omega arith)

pub in_own : (xs ys : List Record) → ((n : ℕ) → own n xs ≡ own n ys) → (r : Record) → In r xs → In r ys
in_own xs ys same r i = (kept_in (owned r.start) ys r (subst (In r) (same r.start) (in_kept (owned r.start) xs r i (eq-eqb r.start r.start refl)))).0
