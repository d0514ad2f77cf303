-- What a process has kept up to its last pivot stays.
use Rattle.std.proofs.Common.{◌≡◌, ℕ, suc, Bool, true, false, cond, ◌||◌, ◌⊎◌, List, [], ◌∷◌, ◌++◌, map, Some, None, Option, sym, refl, ap, ◌∙◌, subst, inl, inr, append_assoc, append-nil}
use Rattle.std.specs.List.{list_any}
use Rattle.std.proofs.lemmas.List.{map-append}
use Rattle.std.proofs.lemmas.List.Elements.{filter-append}
use Rattle.std.proofs.lemmas.List.Folds.{list_any-append}
use Rattle.std.proofs.lemmas.Bool.{cond_both, or_left, eq-eqb, ne_eqb, cases_eq}
use Rattle.activity.specs.declared.Activity.{Activity}
use Rattle.protocol.specs.declared.record.Record.{Record}
use Rattle.station.specs.Meaning.{Meaning}
use Rattle.program.specs.Positions.{Position}
use Rattle.protocol.specs.Log.{Split, owned, own, rejoined, removed, to_pivot, committed_under}
use Rattle.protocol.specs.Hall.{Process, Hall}
use Rattle.protocol.specs.StepFunction.{performed}
use Rattle.protocol.specs.Call.{Call}
use Rattle.protocol.specs.CallFunction.{outcome, ends}
use Rattle.protocol.proofs.CallCases.{cases}
use Rattle.protocol.specs.Statements.{without_commit_number, Begins}
use Rattle.protocol.proofs.Tests.{or_off, kept_map}
use Rattle.protocol.proofs.Members.{any_push, any_map}
use Rattle.protocol.proofs.Sealed.{sealed}
use Rattle.protocol.proofs.LastRecords.{NotOf, Loose, LooseIs, loose_is}

-- beginnings of lists

module _ {X : Type 0} where
  pub begins_same : (xs : List X) → Begins xs xs
  begins_same xs = ([], append-nil xs)

  pub begins_more : (xs ys zs : List X) → Begins xs ys → Begins ys zs → Begins xs zs
  begins_more xs ys zs (a, p) (b, q) = (a ++ b, sym (append_assoc xs a b) ∙ ap (λ l. l ++ b) p ∙ q)

  pub begins_map : {Y : Type 0} (f : X → Y) (xs ys : List X) → Begins xs ys → Begins (map f xs) (map f ys)
  begins_map f xs ys (a, p) = (map f a, sym (map-append f xs a) ∙ ap (map f) p)

  begins_cons : (x : X) (xs ys : List X) → Begins xs ys → Begins (x ∷ xs) (x ∷ ys)
  begins_cons x xs ys (a, p) = (a, ap (λ l. x ∷ l) p)

pub pivot_begins : (xs : List Record) → Begins (to_pivot xs) xs
pivot_begins [] = begins_same []
pivot_begins (x ∷ xs) = cond_both (x.pivot || list_any (λ r. r.pivot) xs) (x ∷ to_pivot xs) [] (λ l. Begins l (x ∷ xs)) (λ _. begins_cons x (to_pivot xs) xs (pivot_begins xs)) (λ _. (x ∷ xs, refl))

pub pivot_longer : (xs ys : List Record) → Begins (to_pivot xs) (to_pivot (xs ++ ys))
pivot_longer [] ys = (to_pivot ys, refl)
pivot_longer (x ∷ xs) ys = go x.pivot (list_any (λ r. r.pivot) xs) refl (pivot_longer xs ys)
  where
    go : (b c : Bool) → list_any (λ r. r.pivot) xs ≡ c → Begins (to_pivot xs) (to_pivot (xs ++ ys)) → Begins (cond (b || c) (x ∷ to_pivot xs) []) (cond (b || list_any (λ r. r.pivot) (xs ++ ys)) (x ∷ to_pivot (xs ++ ys)) [])
    go true c e again = begins_cons x (to_pivot xs) (to_pivot (xs ++ ys)) again
    go false true e again = subst (λ d. Begins (x ∷ to_pivot xs) (cond d (x ∷ to_pivot (xs ++ ys)) [])) (sym (list_any-append (λ r. r.pivot) xs ys ∙ or_left _ _ e)) (begins_cons x (to_pivot xs) (to_pivot (xs ++ ys)) again)
    go false false e again = (cond (list_any (λ r. r.pivot) (xs ++ ys)) (x ∷ to_pivot (xs ++ ys)) [], refl)

-- one more that is no pivot
any_plain : (xs : List Record) (r : Record) → r.pivot ≡ false → list_any (λ x. x.pivot) (xs ++ r ∷ []) ≡ list_any (λ x. x.pivot) xs
any_plain xs r e = any_push (λ x. x.pivot) xs r ∙ or_off _ _ e

pub pivot_plain : (xs : List Record) (r : Record) → r.pivot ≡ false → to_pivot (xs ++ r ∷ []) ≡ to_pivot xs
pivot_plain [] r e = ap (λ b. cond (b || false) (r ∷ []) []) e
pivot_plain (x ∷ xs) r e = λ i. cond (x.pivot || any_plain xs r e i) (x ∷ pivot_plain xs r e i) []

abbrev pub firm : ℕ → List Record → List Record
firm n log = to_pivot (own n log)

pub own_none : (n : ℕ) (xs : List Record) → NotOf n xs → own n xs ≡ []
own_none n [] free = refl
own_none n (x ∷ xs) free = ap (λ b. cond b (x ∷ own n xs) (own n xs)) (ne_eqb x.start n (free x (inl refl))) ∙ own_none n xs (λ y i. free y (inr i))

-- how a log may change
pub data Turn (log : List Record) : List Record → Type 0 where
  stays : Turn log log
  pushed : (r : Record) → Turn log (log ++ r ∷ [])
  taken : (n : ℕ) (z : Split) → Loose n log z → Turn log (removed z)
  seals : (n c : ℕ) → Turn log (map (committed_under n c) log)

abbrev pub Grows : List Record → List Record → Type 0
Grows old new = (n : ℕ) → Begins (map without_commit_number (firm n old)) (map without_commit_number (firm n new))

grows_taken : (m : ℕ) (log : List Record) (z : Split) → Loose m log z → (n : ℕ) → firm n log ≡ firm n (removed z)
grows_taken m log z l n = ap (firm n) l.last.whole ∙ go (cases_eq m n)
  where
    go : (m ≡ n) ⊎ (m ≡ n → ⊥) → firm n (rejoined z) ≡ firm n (removed z)
    go (inl e) =
        let free : own n z.after ≡ [] = own_none n z.after (λ r i f. l.last.after r i (f ∙ sym e)) in
        let mine : owned n z.at ≡ true = eq-eqb z.at.start n (l.last.owner ∙ e) in
        ap to_pivot (filter-append (owned n) z.before (z.at ∷ z.after) ∙ ap (λ b. own n z.before ++ cond b (z.at ∷ own n z.after) (own n z.after)) mine ∙ ap (λ t. own n z.before ++ z.at ∷ t) free)
        ∙ pivot_plain (own n z.before) z.at l.plain
        ∙ sym (ap to_pivot (filter-append (owned n) z.before z.after ∙ ap (λ t. own n z.before ++ t) free ∙ append-nil (own n z.before)))
    go (inr e) =
        let other : owned n z.at ≡ false = ne_eqb z.at.start n (λ f. e (sym l.last.owner ∙ f)) in
        ap to_pivot (filter-append (owned n) z.before (z.at ∷ z.after) ∙ ap (λ b. own n z.before ++ cond b (z.at ∷ own n z.after) (own n z.after)) other ∙ sym (filter-append (owned n) z.before z.after))

module _ (m c : ℕ) where
  pub own_sealed : (n : ℕ) (xs : List Record) → own n (map (committed_under m c) xs) ≡ map (committed_under m c) (own n xs)
  own_sealed n xs = kept_map (owned n) (owned n) (committed_under m c) (λ r. sealed (owned n) m c r refl) xs

  any_sealed : (xs : List Record) → list_any (λ r. r.pivot) (map (committed_under m c) xs) ≡ list_any (λ r. r.pivot) xs
  any_sealed xs = any_map (λ r. r.pivot) (committed_under m c) (λ r. sealed (λ x. x.pivot) m c r refl) xs

  pub pivot_sealed : (xs : List Record) → map without_commit_number (to_pivot (map (committed_under m c) xs)) ≡ map without_commit_number (to_pivot xs)
  pivot_sealed [] = refl
  pivot_sealed (x ∷ xs) = ap (λ b. map without_commit_number (cond b (committed_under m c x ∷ to_pivot (map (committed_under m c) xs)) [])) (λ i. sealed (λ r. r.pivot) m c x refl i || any_sealed xs i) ∙ go (x.pivot || list_any (λ r. r.pivot) xs) (pivot_sealed xs)
    where
      go : (b : Bool) → map without_commit_number (to_pivot (map (committed_under m c) xs)) ≡ map without_commit_number (to_pivot xs) → map without_commit_number (cond b (committed_under m c x ∷ to_pivot (map (committed_under m c) xs)) []) ≡ map without_commit_number (cond b (x ∷ to_pivot xs) [])
      go true e = λ i. sealed without_commit_number m c x refl i ∷ e i
      go false e = refl

pub grows : {old new : List Record} → Turn old new → Grows old new
grows {old} stays n = begins_same (map without_commit_number (firm n old))
grows {old} (pushed r) n = begins_map without_commit_number (firm n old) (firm n (old ++ r ∷ [])) (subst (λ l. Begins (firm n old) (to_pivot l)) (sym (filter-append (owned n) old (r ∷ []))) (pivot_longer (own n old) (own n (r ∷ []))))
grows {old} (taken m z l) n = subst (λ x. Begins (map without_commit_number (firm n old)) (map without_commit_number x)) (grows_taken m old z l n) (begins_same (map without_commit_number (firm n old)))
grows {old} (seals m c) n = subst (λ x. Begins (map without_commit_number (firm n old)) x) (sym (ap (λ l. map without_commit_number (to_pivot l)) (own_sealed m c n old) ∙ pivot_sealed m c (own n old))) (begins_same (map without_commit_number (firm n old)))

-- each call turns the log so

module _ {S : Type 0} (M : Meaning S) where
  pushes : (h : Hall S) (p : Process) (pivot : Bool) (a : Activity) (to : Position) (o : Option (ℕ × S)) → Turn h.log (performed h p pivot a to o).hall.log
  pushes h p pivot a to None = stays
  pushes h p pivot a to (Some d) = pushed record { start = p.start; activity = a; answer = d.0; commit = 0; pivot = pivot }

  pub turns : (h : Hall S) (c : Call) → Turn h.log (outcome M h c).hall.log
  turns h = cases M h (λ c o. Turn h.log o.hall.log) record {
    refused = λ c r. stays;
    waited = λ p is told n. stays;
    loads = λ k b w e. stays;
    installs = λ k t b w e. stays;
    opens = λ k e. stays;
    cancels = λ p is e. stays;
    steps = λ p is g a to n free o e. pushes h p false a to o;
    crosses = λ p is g a to n alone free o e. pushes h p true a to o;
    commits = λ p is g n free. seals p.start (suc h.committed);
    takes_back = λ p is b z l free. taken p.start z (subst (LooseIs p.start h.log) l (loose_is p.start h.log));
    restarts = λ p is e none. stays;
    leaves = λ p is e none. stays;
    turns = λ p is e none. stays;
  }

  pub grows_ends : (h : Hall S) (cs : List Call) → Grows h.log (ends M h cs).log
  grows_ends h [] n = begins_same (map without_commit_number (firm n h.log))
  grows_ends h (c ∷ cs) n = begins_more (map without_commit_number (firm n h.log)) (map without_commit_number (firm n (outcome M h c).hall.log)) (map without_commit_number (firm n (ends M (outcome M h c).hall cs).log)) (grows (turns h c) n) (grows_ends (outcome M h c).hall cs n)
