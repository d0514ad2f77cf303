-- The order of two records in the orderly run.
use Rattle.std.proofs.Common.{◌≡◌, ℕ, ◌<◌, ◌≤◌, Bool, true, false, cond, ◌&&◌, eqb, ltb, leb, refl, ap, ◌∙◌, ⊎_elim, arith}
use Rattle.std.proofs.lemmas.Bool.{or_parts, or_from, and_cases, and_left, ltb-false, le-ltb, leb-false, ne_eqb, eqb-true, eqb-false}
use Rattle.protocol.specs.declared.record.Record.{Record}
use Rattle.protocol.specs.Log.{group, number, prior}

-- where a record stands in the orderly run
pub data Rank (piv : ℕ → Bool) (r : Record) : Type 0 where
  committed : (r.commit ≡ 0 → ⊥) → group piv r ≡ 0 → number r ≡ r.commit → Rank piv r
  pivoting : r.commit ≡ 0 → piv r.start ≡ true → group piv r ≡ 1 → number r ≡ r.start → Rank piv r
  waiting : r.commit ≡ 0 → piv r.start ≡ false → group piv r ≡ 2 → number r ≡ r.start → Rank piv r

pub rank : (piv : ℕ → Bool) (r : Record) → Rank piv r
rank piv r = go (eqb r.commit 0) refl (piv r.start) refl
  where
    go : (b : Bool) → eqb r.commit 0 ≡ b → (c : Bool) → piv r.start ≡ c → Rank piv r
    go true t true u = pivoting (eqb-true r.commit 0 t) u (ap (λ b. cond b (cond (piv r.start) 1 2) 0) t ∙ ap (λ c. cond c 1 2) u) (ap (λ b. cond b r.start r.commit) t)
    go true t false u = waiting (eqb-true r.commit 0 t) u (ap (λ b. cond b (cond (piv r.start) 1 2) 0) t ∙ ap (λ c. cond c 1 2) u) (ap (λ b. cond b r.start r.commit) t)
    go false t c u = committed (eqb-false r.commit 0 t) (ap (λ b. cond b (cond (piv r.start) 1 2) 0) t) (ap (λ b. cond b r.start r.commit) t)

-- b goes before a
pub record Later (piv : ℕ → Bool) (a b : Record) : Type 0 where
  pub low : group piv b ≤ group piv a
  pub within : group piv a ≡ group piv b → number b < number a

pub later : (piv : ℕ → Bool) (a b : Record) → prior piv a b ≡ false → Later piv a b
later piv a b e =
    let (x, y) = or_parts (ltb (group piv a) (group piv b)) (eqb (group piv a) (group piv b) && leb (number a) (number b)) e in
    record {
      low = ltb-false _ _ x;
      within = λ same. ⊎_elim (λ no. absurd (eqb-false _ _ no same)) (λ gt. leb-false _ _ gt) (and_cases (eqb (group piv a) (group piv b)) (leb (number a) (number b)) y);
    }

-- a lower group goes before
pub not_prior : (piv : ℕ → Bool) (a b : Record) → group piv b < group piv a → prior piv a b ≡ false
not_prior piv a b h = or_from _ _ (le-ltb _ _ (omega arith)) (and_left _ _ (ne_eqb _ _ (λ (e : group piv a ≡ group piv b). omega arith)))
