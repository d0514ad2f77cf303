-- How many records there are.
use Rattle.std.proofs.Common.{◌≡◌, ℕ, zero, suc, ◌+◌, ◌*◌, ◌≤◌, Bool, true, false, cond, not, ◌||◌, eqb, List, [], ◌∷◌, ◌++◌, map, length, Some, None, filter, Option, sym, refl, ap, ◌∙◌, inl, arith, length-append}
use Rattle.std.specs.List.{list_any}
use Rattle.std.proofs.lemmas.Bool.{cond_both, or_right, eqb-true, eqb-false, eq-eqb, ne_eqb, true≢false, false≢true, or_parts, cases_Bool}
use Rattle.std.proofs.lemmas.Option.{none-some}
use Rattle.std.proofs.lemmas.List.{length_push}
use Rattle.std.proofs.lemmas.List.Filters.{length-filter_both}
use Rattle.std.proofs.lemmas.List.Elements.{filter-append}
use Rattle.activity.specs.declared.Activity.{Activity}
use Rattle.protocol.specs.declared.record.Record.{Record}
use Rattle.program.specs.Grammar.{finish, compensatable, pivot, Choices, row, or_else, body_steps, choices_steps, row_steps}
use Rattle.program.specs.Positions.{in_body, in_row, Position, outer, inner, alternative}
use Rattle.protocol.specs.Ahead.{Next, nothing, plain, crossing, next}
use Rattle.protocol.specs.Log.{Split, owned, own, removed, last_of, unless_pivot, returnable, to_pivot, from_pivot, committed_under, committed_records}
use Rattle.protocol.specs.Hall.{Process, find, without}
pub use Rattle.protocol.specs.Held.{size, choice_size, rest_size, Roomy}
use Rattle.protocol.proofs.Tests.{length-kept_cons, length-kept_le}
use Rattle.protocol.proofs.Members.{In, kept_in, some_any, in_here}
use Rattle.protocol.proofs.LastRecords.{Last, LastIs, last_is}
use Rattle.protocol.proofs.PivotsStay.{pivot_plain, own_none}

-- up to the last pivot, and after it

to_none : (xs : List Record) → list_any (λ x. x.pivot) xs ≡ false → to_pivot xs ≡ []
to_none [] e = refl
to_none (x ∷ xs) e = ap (λ b. cond b (x ∷ to_pivot xs) []) e

pub parts : (xs : List Record) → length (to_pivot xs) + length (from_pivot xs) ≡ length xs
parts [] = refl
parts (x ∷ xs) = go x.pivot (list_any (λ r. r.pivot) xs) refl (parts xs)
  where
    go : (b c : Bool) → list_any (λ r. r.pivot) xs ≡ c → length (to_pivot xs) + length (from_pivot xs) ≡ length xs → length (cond (b || c) (x ∷ to_pivot xs) []) + length (cond c (from_pivot xs) (cond b xs (x ∷ xs))) ≡ suc (length xs)
    go true true e h = omega arith
    go false true e h = omega arith
    go true false e h = omega (arith, ap length (to_none xs e))
    go false false e h = omega arith

-- a pivot at the end
pub to_last : (xs : List Record) (r : Record) → r.pivot ≡ true → to_pivot (xs ++ r ∷ []) ≡ xs ++ r ∷ []
to_last [] r e = ap (λ b. cond (b || false) (r ∷ []) []) e
to_last (x ∷ xs) r e =
    ap (λ b. cond b (x ∷ to_pivot (xs ++ r ∷ [])) []) (or_right x.pivot _ (some_any (λ y. y.pivot) (xs ++ r ∷ []) r (in_here xs r []) e))
    ∙ ap (λ l. x ∷ l) (to_last xs r e)

-- how many records a position leaves room for

row_size : (ss : List Activity) → length (row_steps ss) ≡ length ss
row_size [] = refl
row_size (s ∷ ss) = ap suc (row_size ss)

alternative_size : (c : Choices) (k : ℕ) → rest_size (alternative c k) ≤ choice_size c
alternative_size (row ss) k = omega (arith, row_size ss)
alternative_size (or_else b c) zero = omega (arith, length-append (body_steps b) (choices_steps c))
alternative_size (or_else b c) (suc k) = omega (arith, length-append (body_steps b) (choices_steps c), alternative_size c k)

pub roomy_few : (mine : List Record) (at : Position) → Roomy mine at → length mine ≤ 32
roomy_few mine (outer b) h = omega (arith, h)
roomy_few mine (inner c k r) h = omega (arith, parts mine, h.0, h.1, alternative_size c k)

-- by lengths alone
pub roomy_alike : (xs ys : List Record) (at : Position) → length (to_pivot ys) ≡ length (to_pivot xs) → length (from_pivot ys) ≤ length (from_pivot xs) → Roomy xs at → Roomy ys at
roomy_alike xs ys (outer b) p q h = omega (arith, parts xs, parts ys, p, q, h)
roomy_alike xs ys (inner c k r) p q h = (omega (arith, p, h.0), omega (arith, q, h.1))

-- one step more
abbrev pub NextRoom : List Record → Next → Type 0
NextRoom mine nothing = Unit {0}
NextRoom mine (plain s to) = (r : Record) → r.pivot ≡ false → Roomy (mine ++ r ∷ []) to
NextRoom mine (crossing s to) = (r : Record) → r.pivot ≡ true → Roomy (mine ++ r ∷ []) to

after_plain : (mine : List Record) (r : Record) → r.pivot ≡ false → length (from_pivot (mine ++ r ∷ [])) ≡ suc (length (from_pivot mine))
after_plain mine r e = omega (arith, parts mine, parts (mine ++ r ∷ []), length_push mine r, ap length (pivot_plain mine r e))

crossed : (mine : List Record) (c : Choices) (r : Record) → r.pivot ≡ true → suc (length mine) + choice_size c ≤ 32 → Roomy (mine ++ r ∷ []) (inner c 0 (alternative c 0))
crossed mine c r e h = (
  omega (arith, ap length (to_last mine r e), length_push mine r, h),
  omega (arith, ap length (to_last mine r e), length_push mine r, parts (mine ++ r ∷ [])),
)

pub next_room : (mine : List Record) (at : Position) → Roomy mine at → NextRoom mine (next at)
next_room mine (outer finish) h = tt
next_room mine (outer (compensatable s b)) h = λ r e. omega (arith, length_push mine r, h)
next_room mine (outer (pivot s c)) h = λ r e. crossed mine c r e (omega (arith, h))
next_room mine (inner c k (in_body finish)) h = tt
next_room mine (inner c k (in_body (compensatable s b))) h = λ r e. (omega (arith, ap length (pivot_plain mine r e), h.0), omega (arith, after_plain mine r e, h.1))
next_room mine (inner c k (in_body (pivot s d))) h = λ r e. crossed mine d r e (omega (arith, parts mine, h.0, h.1, alternative_size c k))
next_room mine (inner c k (in_row [])) h = tt
next_room mine (inner c k (in_row (s ∷ ss))) h = λ r e. (omega (arith, ap length (pivot_plain mine r e), h.0), omega (arith, after_plain mine r e, h.1))

-- own records, in a log that changed

pub own_pushed : (n : ℕ) (log : List Record) (r : Record) → own n (log ++ r ∷ []) ≡ own n log ++ cond (owned n r) (r ∷ []) []
own_pushed n log r = filter-append (owned n) log (r ∷ [])

pub own_taken : (n : ℕ) (log : List Record) (z : Split) → Last n log z → own n log ≡ own n z.before ++ z.at ∷ []
own_taken n log z l =
    ap (own n) l.whole ∙ filter-append (owned n) z.before (z.at ∷ z.after)
    ∙ ap (λ b. own n z.before ++ cond b (z.at ∷ own n z.after) (own n z.after)) (eq-eqb z.at.start n l.owner)
    ∙ ap (λ t. own n z.before ++ z.at ∷ t) (own_none n z.after l.after)

pub own_left : (n : ℕ) (log : List Record) (z : Split) → Last n log z → own n (removed z) ≡ own n z.before
own_left n log z l = filter-append (owned n) z.before z.after ∙ ap (λ t. own n z.before ++ t) (own_none n z.after l.after) ∙ mathlib.Core.List.append-nil (own n z.before)

pub own_others : (m n : ℕ) (log : List Record) (z : Split) → Last m log z → (n ≡ m → ⊥) → own n (removed z) ≡ own n log
own_others m n log z l off =
    filter-append (owned n) z.before z.after
    ∙ sym (ap (own n) l.whole ∙ filter-append (owned n) z.before (z.at ∷ z.after) ∙ ap (λ b. own n z.before ++ cond b (z.at ∷ own n z.after) (own n z.after)) (ne_eqb z.at.start n (λ e. off (sym e ∙ l.owner))))

-- with nothing to take back there is nothing after the last pivot
pub none_loose : (n : ℕ) (log : List Record) → returnable n log ≡ None → length (from_pivot (own n log)) ≡ 0
none_loose n log e = go (last_of n log) (last_is n log) e
  where
    go : (o : Option Split) → LastIs n log o → unless_pivot o ≡ None → length (from_pivot (own n log)) ≡ 0
    go None was f = ap (λ l. length (from_pivot l)) (own_none n log was)
    go (Some z) was f = cond_both z.at.pivot None (Some z) (λ o. o ≡ None → length (from_pivot (own n log)) ≡ 0)
        (λ p _. ap (λ l. length (from_pivot l)) (own_taken n log z was) ∙ last_zero p)
        (λ _ g. absurd (none-some _ (sym g)))
        f
      where
        last_zero : z.at.pivot ≡ true → length (from_pivot (own n z.before ++ z.at ∷ [])) ≡ 0
        last_zero p = omega (arith, parts (own n z.before ++ z.at ∷ []), ap length (to_last (own n z.before) z.at p))

-- committed records

pub closed_push : (log : List Record) (r : Record) → r.commit ≡ 0 → length (committed_records (log ++ r ∷ [])) ≡ length (committed_records log)
closed_push log r e = ap length (filter-append (λ x. not (eqb x.commit 0)) log (r ∷ [])) ∙ ap (λ b. length (committed_records log ++ cond (not b) (r ∷ []) [])) (eq-eqb r.commit 0 e) ∙ ap length (mathlib.Core.List.append-nil (committed_records log))

pub closed_less : (xs : List Record) (r : Record) (ys : List Record) → length (committed_records (xs ++ ys)) ≤ length (committed_records (xs ++ r ∷ ys))
closed_less [] r ys = omega (arith, length-kept_cons (λ x. not (eqb x.commit 0)) r ys)
closed_less (x ∷ xs) r ys = omega (arith, length-kept_cons (λ x. not (eqb x.commit 0)) x (xs ++ ys), length-kept_cons (λ x. not (eqb x.commit 0)) x (xs ++ r ∷ ys), closed_less xs r ys)

pub closed_sealed : (n c : ℕ) (log : List Record) → length (committed_records (map (committed_under n c) log)) ≤ length (committed_records log) + length (own n log)
closed_sealed n c [] = omega arith
closed_sealed n c (r ∷ rs) =
    let closed : Record → Bool = λ x. not (eqb x.commit 0) in
    let now = map (committed_under n c) rs in
    let own_one = length-kept_cons (owned n) r rs in
    let old_one = length-kept_cons closed r rs in
    let rest = closed_sealed n c rs in
    cond_both (owned n r) record { start = r.start; activity = r.activity; answer = r.answer; commit = c; pivot = r.pivot } r (λ x. length (committed_records (x ∷ now)) ≤ length (committed_records (r ∷ rs)) + length (own n (r ∷ rs)))
    (λ mine.
    let s : Record = record { start = r.start; activity = r.activity; answer = r.answer; commit = c; pivot = r.pivot } in
    let one : cond (not (eqb c 0)) 1 0 ≤ 1 = cond_both (not (eqb c 0)) 1 0 (λ k. k ≤ 1) (λ _. omega arith) (λ _. omega arith) in
    omega (arith, length-kept_cons closed s now, ap {B = ℕ} (λ b. cond b 1 0) mine))
    (λ _. omega (arith, length-kept_cons closed r now))

-- processes

pub without_less : (n : ℕ) (ps : List Process) (p : Process) → find n ps ≡ Some p → suc (length (without n ps)) ≤ length ps
without_less n [] p e = absurd (none-some _ e)
without_less n (q ∷ qs) p e = go (eqb q.start n) e (without_less n qs p)
  where
    go : (b : Bool) → cond b (Some q) (find n qs) ≡ Some p → (find n qs ≡ Some p → suc (length (without n qs)) ≤ length qs) → suc (length (cond (not b) (q ∷ without n qs) (without n qs))) ≤ suc (length qs)
    go true f again = omega (arith, length-kept_le (λ x. not (eqb x.start n)) qs)
    go false f again = omega (arith, again f)

-- records that have an owner each, and each owner at most 32
pub fewer_own : (n : ℕ) (t : Record → Bool) (xs : List Record) → length (own n (filter t xs)) ≤ length (own n xs)
fewer_own n t [] = omega arith
fewer_own n t (x ∷ xs) =
    let here = length-kept_cons (owned n) x xs in
    let rest = fewer_own n t xs in
    cond_both (t x) (x ∷ filter t xs) (filter t xs) (λ l. length (own n l) ≤ length (own n (x ∷ xs))) (λ _. omega (arith, length-kept_cons (owned n) x (filter t xs))) (λ _. omega arith)

pub spread : (ps : List Process) (xs : List Record) → ((r : Record) → In r xs → (q : Process) × (find r.start ps ≡ Some q)) → ((n : ℕ) → length (own n xs) ≤ 32) → length xs ≤ 32 * length ps
spread [] [] own-ed few = omega arith
spread [] (x ∷ xs) own-ed few = absurd (none-some _ (own-ed x (inl refl)).1)
spread (p ∷ ps) xs own-ed few =
    let rest = filter (λ r. not (owned p.start r)) xs in
    let h : length rest ≤ 32 * length ps = spread ps rest (λ r i. later r i) (λ n. omega (arith, fewer_own n (λ r. not (owned p.start r)) xs, few n)) in
    omega (arith, length-filter_both (owned p.start) (λ r. not (owned p.start r)) (λ r. refl) xs, few p.start, h)
  where
    later : (r : Record) → In r (filter (λ r. not (owned p.start r)) xs) → (q : Process) × (find r.start ps ≡ Some q)
    later r i =
        let (j, e) = kept_in (λ r. not (owned p.start r)) xs r i in
        let (q, at) = own-ed r j in
        let off : eqb p.start r.start ≡ false = ne_eqb p.start r.start (λ s. eqb-false r.start p.start (Rattle.std.proofs.lemmas.Bool.not-true _ e) (sym s)) in
        (q, sym (ap (λ b. cond b (Some p) (find r.start ps)) off) ∙ at)
