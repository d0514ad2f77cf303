-- The tests of the rules, and what they tell.
use Rattle.std.proofs.Common.{◌≡◌, ℕ, ◌<◌, ◌≤◌, Bool, true, false, cond, not, ◌&&◌, ◌⊎◌, List, [], ◌∷◌, map, Some, None, Option, sym, refl, ap, ◌∙◌, subst, inl, inr, ⊎_elim, arith}
use Rattle.std.specs.List.{AllZip, list_any}
use Rattle.std.proofs.lemmas.Bool.{false≢true, both_ways, and_from, cases_lt}
use Rattle.activity.specs.declared.Activity.{Activity}
use Rattle.protocol.specs.declared.record.Record.{Record}
use Rattle.protocol.specs.declared.standing.Standing.{Standing}
use Rattle.protocol.specs.declared.standing.Aim.TheVariants.{Restart}
use Rattle.protocol.specs.declared.standing.Direction.TheVariants.{Forward, Back}
use Rattle.protocol.specs.declared.standing.Standing.TheVariants.{Running, Withdrawing, PastPivot}
use Rattle.station.specs.Meaning.{Meaning}
use Rattle.protocol.specs.Log.{owned, own, Split, from_pivot}
use Rattle.protocol.specs.Hall.{Process, Hall, least, lower, stand, past_pivot, going_back, retreating, running}
use Rattle.protocol.specs.StepFunction.{holds_conflict, stands_before_conflict, other, blocks_back, blocks_plain, blocks_pivot, blocks_alone, blocks_commit, everybody, nobody, pivot_marks, marked}
use Rattle.protocol.specs.Relation.{In, Before, Retreats, Past, InConflict, BlocksBack, BlocksPlain, BlocksPivot, BlocksCommit, Nobody, Smallest, Marks}
use Rattle.protocol.proofs.Tests.{Tells, both, either, itself, opposite, equal, less, same_as}
use Rattle.protocol.proofs.Members.{some_any, in_any}

-- some element passes
pub some : {X : Type 0} (t : X → Bool) (A : X → Type 0) → ((x : X) → Tells (t x) (A x)) → (xs : List X) → Tells (list_any t xs) ((x : X) × In x xs × A x)
some t A tells xs = record { holds = λ e. let (x, i, p) = in_any t xs e in (x, i, (tells x).holds p); passes = λ (x, i, a). some_any t xs x i ((tells x).passes a) }

retreats : (st : Standing) → Tells (retreating st) (Retreats st)
retreats Running = record { holds = λ e. absurd (false≢true e); passes = λ e. absurd e }
retreats (Withdrawing aim) = record { holds = λ e. tt; passes = λ e. refl }
retreats (PastPivot Forward) = record { holds = λ e. absurd (false≢true e); passes = λ e. ap going_back e }
retreats (PastPivot Back) = record { holds = λ e. refl; passes = λ e. refl }

pub runs : (st : Standing) → Tells (running st) (st ≡ Running)
runs Running = record { holds = λ e. refl; passes = λ e. refl }
runs (Withdrawing aim) = record { holds = λ e. absurd (false≢true e); passes = λ e. ap running e }
runs (PastPivot way) = record { holds = λ e. absurd (false≢true e); passes = λ e. ap running e }

module _ {S : Type 0} (M : Meaning S) where
  conflicts : (log : List Record) (q : Process) (a : ℕ) → Tells (holds_conflict M.conflict q.start a log) (InConflict M log q a)
  conflicts log q a = same_as
      (some (λ r. owned q.start r && M.conflict r.activity.number a) (λ r. (r.start ≡ q.start) × (M.conflict r.activity.number a ≡ true)) (λ r. both (equal r.start q.start) (itself (M.conflict r.activity.number a))) log)
      (λ (r, i, h). (r, i, h.0, h.1)) (λ (r, i, h, k). (r, i, (h, k)))

  module _ (p : Process) where
    others : (q : Process) → Tells (other p q) (q.start ≡ p.start → ⊥)
    others q = opposite (equal q.start p.start)

    -- a test of the others
    abbrev pub OfOthers : (Process → Bool) → (Process → Type 0) → Type 0
    OfOthers t B = (q : Process) → Tells (t q) ((q.start ≡ p.start → ⊥) × B q)

    pub back_tells : (z : Split) → OfOthers (blocks_back M.conflict p z) (BlocksBack M z)
    back_tells z q = both (others q) (conflicts z.after q z.at.activity.number)

    pub plain_tells : (h : Hall S) (a : Activity) → OfOthers (blocks_plain M.conflict h.log p a) (BlocksPlain M h p a)
    plain_tells h a q = same_as
        (both (others q) (both (either (itself (past_pivot p.standing)) (either (less p.start q.start) (retreats q.standing))) (conflicts h.log q a.number)))
        (λ (o, x). (o, (x.1, x.0))) (λ (o, x). (o, (x.1, x.0)))

    pub pivot_tells : (h : Hall S) (a : Activity) → OfOthers (blocks_pivot M.conflict h.log p a) (BlocksPivot M h p a)
    pivot_tells h a q = both (others q) (either (conflicts h.log q a.number) (some (λ r. holds_conflict M.conflict q.start r.activity.number h.log) (λ r. InConflict M h.log q r.activity.number) (λ r. conflicts h.log q r.activity.number) (from_pivot (own p.start h.log))))

    pub pivot_marks_tell : (h : Hall S) (a : Activity) → OfOthers (λ q. blocks_pivot M.conflict h.log p a q && pivot_marks p q) (λ q. BlocksPivot M h p a q × (Past p ⊎ (p.start < q.start)))
    pivot_marks_tell h a q = same_as
        (both (pivot_tells h a q) (either (itself (past_pivot p.standing)) (less p.start q.start)))
        (λ (x, y). (x.0, (x.1, y))) (λ (o, x). ((o, x.0), x.1))

    pub everybody_tells : (t : Process → Bool) (B : Process → Type 0) → OfOthers t B → OfOthers (λ q. t q && everybody q) B
    everybody_tells t B tells q = same_as (both (tells q) (itself true)) (λ x. x.0) (λ x. (x, refl))

    pub alone_tells : past_pivot p.standing ≡ false → OfOthers (blocks_alone p) Past
    alone_tells run q = same_as (both (others q) (both (itself (not (past_pivot p.standing))) (itself (past_pivot q.standing)))) (λ (o, x). (o, x.1)) (λ (o, x). (o, (ap not run, x)))

    commits_before : (log : List Record) (q : Process) → Tells (stands_before_conflict M.conflict q.start p.start log) ((a : Record) × (b : Record) × Before a b log × (a.start ≡ q.start) × (b.start ≡ p.start) × (M.conflict a.activity.number b.activity.number ≡ true))
    commits_before [] q = record { holds = λ e. absurd (false≢true e); passes = λ x. absurd x.2 }
    commits_before (r ∷ rs) q = same_as
        (either (both (equal r.start q.start) (some (λ x. owned p.start x && M.conflict r.activity.number x.activity.number) (λ x. (x.start ≡ p.start) × (M.conflict r.activity.number x.activity.number ≡ true)) (λ x. both (equal x.start p.start) (itself (M.conflict r.activity.number x.activity.number))) rs)) (commits_before rs q))
        to from
      where
        to : ((r.start ≡ q.start) × ((x : Record) × In x rs × ((x.start ≡ p.start) × (M.conflict r.activity.number x.activity.number ≡ true)))) ⊎ ((a : Record) × (b : Record) × Before a b rs × (a.start ≡ q.start) × (b.start ≡ p.start) × (M.conflict a.activity.number b.activity.number ≡ true))
            → (a : Record) × (b : Record) × Before a b (r ∷ rs) × (a.start ≡ q.start) × (b.start ≡ p.start) × (M.conflict a.activity.number b.activity.number ≡ true)
        to (inl (e, (x, i, h))) = (r, x, inl (refl, i), e, h.0, h.1)
        to (inr (a, b, i, e, f, g)) = (a, b, inr i, e, f, g)

        from : (a : Record) × (b : Record) × Before a b (r ∷ rs) × (a.start ≡ q.start) × (b.start ≡ p.start) × (M.conflict a.activity.number b.activity.number ≡ true)
            → ((r.start ≡ q.start) × ((x : Record) × In x rs × ((x.start ≡ p.start) × (M.conflict r.activity.number x.activity.number ≡ true)))) ⊎ ((a : Record) × (b : Record) × Before a b rs × (a.start ≡ q.start) × (b.start ≡ p.start) × (M.conflict a.activity.number b.activity.number ≡ true))
        from (a, b, inl (at, i), e, f, g) = inl (ap (λ x. x.start) (sym at) ∙ e, (b, i, (f, ap (λ x. M.conflict x.activity.number b.activity.number) (sym at) ∙ g)))
        from (a, b, inr i, e, f, g) = inr (a, b, i, e, f, g)

    pub commit_tells : (h : Hall S) → OfOthers (blocks_commit M.conflict h.log p) (BlocksCommit M h p)
    commit_tells h q = both (others q) (commits_before h.log q)

    -- the smallest number, and that nobody blocks

    module _ (t : Process → Bool) (B : Process → Type 0) (tells : OfOthers t B) where
      -- what `least` gives
      abbrev Least : List Process → Option ℕ → Type 0
      Least ps None = (q : Process) → In q ps → t q ≡ true → ⊥
      Least ps (Some n) = (w : Process) × In w ps × (t w ≡ true) × (w.start ≡ n) × ((q : Process) → In q ps → t q ≡ true → n ≤ q.start)

      least_is : (ps : List Process) → Least ps (least t ps)
      least_is [] = λ q i. elim i [ ]
      least_is (p ∷ ps) = go (t p) refl (least t ps) (least_is ps)
        where
          go : (b : Bool) → t p ≡ b → (o : Option ℕ) → Least ps o → Least (p ∷ ps) (lower b p.start o)
          go false e None l = λ q i x. elim i [ inl f ↦ both_ways (t q) (ap t f ∙ e) x | inr j ↦ l q j x ]
          go false e (Some n) (w, i, x, f, m) = (w, inr i, x, f, λ q j y. elim j [ inl g ↦ absurd (both_ways (t q) (ap t g ∙ e) y) | inr k ↦ m q k y ])
          go true e None l = (p, inl refl, e, refl, λ q j y. elim j [ inl g ↦ omega (arith, ap (λ z. z.start) g) | inr k ↦ absurd (l q k y) ])
          go true e (Some n) (w, i, x, f, m) = ⊎_elim
              (λ (low : n < p.start). (w, inr i, x, omega (arith, f), λ q j y. elim j [ inl g ↦ omega (arith, ap (λ z. z.start) g) | inr k ↦ omega (arith, m q k y) ]))
              (λ (low : p.start ≤ n). (p, inl refl, e, omega arith, λ q j y. elim j [ inl g ↦ omega (arith, ap (λ z. z.start) g) | inr k ↦ omega (arith, m q k y) ]))
              (cases_lt n p.start)

      module _ (h : Hall S) where
        pub nobody_from : least t h.processes ≡ None → Nobody h p B
        nobody_from e q i o b = subst (Least h.processes) e (least_is h.processes) q i ((tells q).passes (o, b))

        pub smallest_from : (n : ℕ) → least t h.processes ≡ Some n → Smallest h p B n
        smallest_from n e =
            let (w, i, x, f, m) = subst (Least h.processes) e (least_is h.processes) in
            record { who = w; there = i; other = ((tells w).holds x).0; blocks = ((tells w).holds x).1; number = f; least = λ q j o b. m q j ((tells q).passes (o, b)) }

        pub nobody_to : Nobody h p B → least t h.processes ≡ None
        nobody_to none = go (least t h.processes) (least_is h.processes)
          where
            go : (o : Option ℕ) → Least h.processes o → o ≡ None
            go None l = refl
            go (Some n) (w, i, x, f, m) = absurd (none w i ((tells w).holds x).0 ((tells w).holds x).1)

        pub smallest_to : (n : ℕ) → Smallest h p B n → least t h.processes ≡ Some n
        smallest_to n s = go (least t h.processes) (least_is h.processes)
          where
            go : (o : Option ℕ) → Least h.processes o → o ≡ Some n
            go None l = absurd (l s.who s.there ((tells s.who).passes (s.other, s.blocks)))
            go (Some m) (w, i, x, f, low) =
                let a : m ≤ s.who.start = low s.who s.there ((tells s.who).passes (s.other, s.blocks)) in
                let b : n ≤ w.start = s.least w i ((tells w).holds x).0 ((tells w).holds x).1 in
                let c = s.number in
                ap Some (omega arith)

      -- marking
      marks_from : (q : Process) → Marks p B q (marked t q)
      marks_from q = go (t q) refl (running q.standing) refl
        where
          go : (b : Bool) → t q ≡ b → (c : Bool) → running q.standing ≡ c → Marks p B q (cond (b && c) (stand (Withdrawing Restart) q) q)
          go true e true f = inl (((tells q).holds e).0, ((tells q).holds e).1, (runs q.standing).holds f, refl)
          go true e false f = inr ((λ o b r. both_ways (running q.standing) f ((runs q.standing).passes r)), refl)
          go false e c f = inr ((λ o b r. both_ways (t q) e ((tells q).passes (o, b))), refl)

      pub marked_from : (ps : List Process) → AllZip (Marks p B) ps (map (marked t) ps)
      marked_from [] = tt
      marked_from (q ∷ qs) = (marks_from q, marked_from qs)

      marks_to : (q r : Process) → Marks p B q r → r ≡ marked t q
      marks_to q r (inl (o, b, run, e)) = e ∙ sym (ap (λ c. cond c (stand (Withdrawing Restart) q) q) (and_from (t q) (running q.standing) ((tells q).passes (o, b)) ((runs q.standing).passes run)))
      marks_to q r (inr (f, e)) = e ∙ go (t q) refl (running q.standing) refl
        where
          go : (b : Bool) → t q ≡ b → (c : Bool) → running q.standing ≡ c → q ≡ cond (b && c) (stand (Withdrawing Restart) q) q
          go true x true y = absurd (f ((tells q).holds x).0 ((tells q).holds x).1 ((runs q.standing).holds y))
          go true x false y = refl
          go false x c y = refl

      pub marked_to : (ps rs : List Process) → AllZip (Marks p B) ps rs → rs ≡ map (marked t) ps
      marked_to [] [] e = refl
      marked_to [] (r ∷ rs) e = absurd e
      marked_to (q ∷ qs) [] e = absurd e
      marked_to (q ∷ qs) (r ∷ rs) e = λ i. marks_to q r e.0 i ∷ marked_to qs rs e.1 i

-- nobody is marked
pub unmarked : (t : Process → Bool) (ps : List Process) → map (marked (λ q. t q && nobody q)) ps ≡ ps
unmarked t [] = refl
unmarked t (q ∷ qs) = λ i. go (t q) i ∷ unmarked t qs i
  where
    go : (b : Bool) → cond ((b && false) && running q.standing) (stand (Withdrawing Restart) q) q ≡ q
    go true = refl
    go false = refl
