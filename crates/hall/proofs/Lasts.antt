-- The last record of a process, and its last pivot, by the place at which a search from the end stops.
use Rattle.std.proofs.Common.{◌≡◌, ℕ, zero, suc, ◌+◌, ◌<◌, ◌≤◌, Bool, true, false, cond, ◌&&◌, ◌||◌, List, [], ◌∷◌, length, get_or, take, drop, Some, None, sym, refl, ap, ◌∙◌, add-one, arith}
use Rattle.protocol.specs.declared.record.Record.{Record}
use Rattle.std.specs.List.{list_any}
use Rattle.protocol.specs.Log.{owned, own, from_pivot, or_here, last_of}
use Rattle.protocol.proofs.LastRecords.{from_none}
use Rattle.protocol.proofs.Members.{any_kept}

-- no record passes the test, from a place on
abbrev pub NoneFrom : (Record → Bool) → ℕ → List Record → Type 0
NoneFrom t k rs = (j : ℕ) (d : Record) → k ≤ j → j < length rs → t (get_or rs j d) ≡ false

module _ (t : Record → Bool) where
  pub none_passes : (rs : List Record) → NoneFrom t 0 rs → list_any t rs ≡ false
  none_passes [] f = refl
  none_passes (r ∷ rs) f = ap (λ b. b || list_any t rs) (f 0 r (omega arith) (omega arith)) ∙ none_passes rs (λ j d a h. f (suc j) d (omega arith) (omega arith))

  one_passes : (rs : List Record) (k : ℕ) (d : Record) → k < length rs → t (get_or rs k d) ≡ true → list_any t rs ≡ true
  one_passes [] k d h e = absurd (omega arith)
  one_passes (r ∷ rs) zero d h e = ap (λ b. b || list_any t rs) e
  one_passes (r ∷ rs) (suc k) d h e = go (t r) (one_passes rs k d (omega arith) e)
    where
      go : (b : Bool) → list_any t rs ≡ true → (b || list_any t rs) ≡ true
      go true i = refl
      go false i = i

module _ (n : ℕ) where
  pub last_none : (rs : List Record) → NoneFrom (owned n) 0 rs → None ≡ last_of n rs
  last_none [] f = refl
  last_none (r ∷ rs) f =
      ap (λ b. cond b (Some record { before = []; at = r; after = rs }) None) (sym (f 0 r (omega arith) (omega arith)))
      ∙ ap (or_here n r rs) (last_none rs (λ j d a h. f (suc j) d (omega arith) (omega arith)))

  last_found : (rs : List Record) (k : ℕ) (d : Record) → k < length rs → owned n (get_or rs k d) ≡ true → NoneFrom (owned n) (suc k) rs
      → Some record { before = take k rs; at = get_or rs k d; after = drop (suc k) rs } ≡ last_of n rs
  last_found [] k d h e f = absurd (omega arith)
  last_found (r ∷ rs) zero d h e f =
      ap (λ b. cond b (Some record { before = []; at = r; after = rs }) None) (sym e)
      ∙ ap (or_here n r rs) (last_none rs (λ j d a h. f (suc j) d (omega arith) (omega arith)))
  last_found (r ∷ rs) (suc k) d h e f = ap (or_here n r rs) (last_found rs k d (omega arith) e (λ j d a h. f (suc j) d (omega arith) (omega arith)))

  pub last_there : (rs : List Record) (k : ℕ) (r : Record) → k < length rs → r ≡ get_or rs k r → owned n r ≡ true → NoneFrom (owned n) (k + 1) rs
      → Some record { before = take k rs; at = r; after = drop (k + 1) rs } ≡ last_of n rs
  last_there rs k r h at e f =
      (λ j. Some record { before = take k rs; at = at j; after = drop (add-one k j) rs })
      ∙ last_found rs k r h (ap (owned n) (sym at) ∙ e) (λ j d a h. f j d (omega arith) h)

  -- the record is of the process, and a pivot
  abbrev pub own_pivot : Record → Bool
  own_pivot r = owned n r && r.pivot

  pub no_pivot : (rs : List Record) → NoneFrom own_pivot 0 rs → own n rs ≡ from_pivot (own n rs)
  no_pivot rs f = sym (from_none (own n rs) (sym (any_kept (λ x. x.pivot) (owned n) rs) ∙ none_passes own_pivot rs f))

  pivot_found : (rs : List Record) (k : ℕ) (d : Record) → k < length rs → own_pivot (get_or rs k d) ≡ true → NoneFrom own_pivot (suc k) rs → own n (drop (suc k) rs) ≡ from_pivot (own n rs)
  pivot_found [] k d h e f = absurd (omega arith)
  pivot_found (r ∷ rs) zero d h e f = go (owned n r) r.pivot refl e (sym (any_kept (λ x. x.pivot) (owned n) rs) ∙ none_passes own_pivot rs (λ j d a h. f (suc j) d (omega arith) (omega arith)))
    where
      go : (t b : Bool) → r.pivot ≡ b → (t && b) ≡ true → list_any (λ x. x.pivot) (own n rs) ≡ false → own n rs ≡ from_pivot (cond t (r ∷ own n rs) (own n rs))
      go true true p e k = sym (ap (λ v. cond v (from_pivot (own n rs)) (cond r.pivot (own n rs) (r ∷ own n rs))) k ∙ ap (λ v. cond v (own n rs) (r ∷ own n rs)) p)
      go true false p e k = absurd (cc)
      go false b p e k = absurd (cc)
  pivot_found (r ∷ rs) (suc k) d h e f =
      pivot_found rs k d (omega arith) e (λ j d a h. f (suc j) d (omega arith) (omega arith))
      ∙ go (owned n r) (sym (any_kept (λ x. x.pivot) (owned n) rs) ∙ one_passes own_pivot rs k d (omega arith) e)
    where
      go : (t : Bool) → list_any (λ x. x.pivot) (own n rs) ≡ true → from_pivot (own n rs) ≡ from_pivot (cond t (r ∷ own n rs) (own n rs))
      go true i = sym (ap (λ v. cond v (from_pivot (own n rs)) (cond r.pivot (own n rs) (r ∷ own n rs))) i)
      go false i = refl

  pub pivot_there : (rs : List Record) (k : ℕ) → k < length rs → ((d : Record) → own_pivot (get_or rs k d) ≡ true) → NoneFrom own_pivot (k + 1) rs → own n (drop (k + 1) rs) ≡ from_pivot (own n rs)
  pivot_there [] k h e f = absurd (omega arith)
  pivot_there (r ∷ rs) k h e f = ap (λ j. own n (drop j (r ∷ rs))) (add-one k) ∙ pivot_found (r ∷ rs) k r h (e r) (λ j d a h. f j d (omega arith) h)
