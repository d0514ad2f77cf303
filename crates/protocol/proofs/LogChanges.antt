-- A step done, a step taken back and a commit keep a hall sound.
use Rattle.std.proofs.Common.{◌≡◌, ℕ, suc, ◌<◌, ◌≤◌, Bool, true, false, cond, ◌&&◌, ◌||◌, eqb, ◌⊎◌, List, [], ◌∷◌, ◌++◌, map, Some, sym, refl, ap, ◌∙◌, subst, inl, inr, ⊎_elim, arith}
use Rattle.std.specs.List.{list_any}
use mathlib.Core.Path.{fun_ext}
use Rattle.std.proofs.lemmas.Bool.{eq-eqb, ne_eqb, and_from, or_parts, or_left, or_right, and_left, cases_eq, and_right, both_ways}
use Rattle.serial.specs.Replay.{Replays}
use Rattle.serial.specs.Actions.{KeepsGood, Commutes, Restores}
use Rattle.serial.proofs.Replaying.{replay_push}
use Rattle.serial.proofs.Theorems.{taking_back_replays}
use Rattle.activity.specs.declared.Activity.{Activity}
use Rattle.protocol.specs.declared.record.Record.{Record}
use Rattle.protocol.specs.declared.standing.Standing.{Standing}
use Rattle.station.specs.Meaning.{Meaning}
use Rattle.protocol.specs.Means.{actions, Laws, Does, conflicting}
use Rattle.program.specs.Positions.{Position}
use Rattle.protocol.specs.Log.{owned, own, Split, rejoined, removed, pivoted, group, number, prior, committed_under, from_pivot}
use Rattle.protocol.specs.Hall.{Process, Hall, find, changed, move, past_pivot, record_of, standing_after}
use Rattle.protocol.specs.StepFunction.{holds_conflict, holds_any_conflict, stands_before_conflict, performed, undone, committing}
use Rattle.protocol.proofs.Tests.{or_off}
use Rattle.protocol.proofs.Members.{In, Before, all_from, before_first, before_second, in_push, before_push, in_more, before_more, before_here, in_here, in_map, before_map, any_none, any_push, any_more, any_map, in_kept, any_kept}
use Rattle.protocol.proofs.Processes.{found_start, from_changed, to_changed, find_without, from_without}
use Rattle.protocol.proofs.Ranks.{Rank, committed, pivoting, waiting, rank, Later, later, not_prior}
use Rattle.protocol.proofs.Sealed.{sealed}
use Rattle.protocol.proofs.LastRecords.{Loose, from_none}
use Rattle.protocol.proofs.Sound.{rowless, Placed, Owner, Active, Ordered, Sound}

-- a record of a process that conflicts with nothing of a process n in the log
pub untouched : (conflict : ℕ → ℕ → Bool) (n a : ℕ) (log : List Record) → holds_conflict conflict n a log ≡ false → (r : Record) → In r log → r.start ≡ n → conflict r.activity.number a ≡ false
untouched conflict n a log e r i same =
    ap (λ b. b && conflict r.activity.number a) (sym (eq-eqb r.start n same)) ∙ any_none (λ x. owned n x && conflict x.activity.number a) log e r i

pub not_before : (conflict : ℕ → ℕ → Bool) (n m : ℕ) (log : List Record) → stands_before_conflict conflict n m log ≡ false → (a b : Record) → Before a b log → a.start ≡ n → b.start ≡ m → conflict a.activity.number b.activity.number ≡ false
not_before conflict n m [] e a b i p q = elim i [ ]
not_before conflict n m (r ∷ rs) e a b (inr i) p q = not_before conflict n m rs (or_parts _ _ e).1 a b i p q
not_before conflict n m (r ∷ rs) e a b (inl (at, i)) p q =
    let none = (or_parts _ _ e).0 in
    let mine : owned n r ≡ true = eq-eqb r.start n (ap (λ x. x.start) (sym at) ∙ p) in
    let free : list_any (λ x. owned m x && conflict r.activity.number x.activity.number) rs ≡ false = ap (λ t. t && list_any (λ x. owned m x && conflict r.activity.number x.activity.number) rs) (sym mine) ∙ none in
    ap (λ x. conflict x.activity.number b.activity.number) at
    ∙ ap (λ t. t && conflict r.activity.number b.activity.number) (sym (eq-eqb b.start m q))
    ∙ any_none (λ x. owned m x && conflict r.activity.number x.activity.number) rs free b i

module _ {S : Type 0} (M : Meaning S) (laws : Laws M) (s : S) where
  -- a station's activities keep the laws of actions, in every state
  pub any_state : KeepsGood (actions M) (λ _. Unit {0})
  any_state a x s t good did = tt

  pub commuting : Commutes (actions M) (λ _. Unit {0})
  commuting a b x y s m t good apart did then = laws.commutes s m t a b x y apart did then

  pub restoring : Restores (actions M) (λ _. Unit {0})
  restoring a x s t good c did = laws.restores s t a x c did

  -- A step done

  -- nobody else has a record in conflict with the step, but older ones with a running process's
  abbrev pub Clear : Hall S → Process → Activity → Type 0
  Clear h p a = (n : ℕ) (q : Process) → find n h.processes ≡ Some q → (n ≡ p.start → ⊥) → (holds_conflict M.conflict n a.number h.log ≡ false) ⊎ ((n ≤ p.start) × (past_pivot p.standing ≡ false))

  -- at a running process's pivot nobody else is past a pivot, or has a record in conflict with one of its own
  pub record First (h : Hall S) (p : Process) : Type 0 where
    pub alone : (n : ℕ) (q : Process) → find n h.processes ≡ Some q → (n ≡ p.start → ⊥) → past_pivot q.standing ≡ false
    pub apart : (n : ℕ) (q : Process) → find n h.processes ≡ Some q → (n ≡ p.start → ⊥) → holds_any_conflict M.conflict n h.log (from_pivot (own p.start h.log)) ≡ false

  module _ (h : Hall S) (sound : Sound M s h) (p : Process) (is : find p.start h.processes ≡ Some p) where
    own_active : (r : Record) → In r h.log → r.start ≡ p.start → r.commit ≡ 0
    own_active r i e = (sound.owners r i).left p (ap (λ k. find k h.processes) e ∙ is)

    -- the new record goes behind all in conflict with it
    new_last : (piv : ℕ → Bool) (pivot : Bool) (a : Activity) (x : ℕ) → Clear h p a → (past_pivot p.standing ≡ false → (piv p.start ≡ false) ⊎ ((n : ℕ) (q : Process) → find n h.processes ≡ Some q → (n ≡ p.start → ⊥) → holds_conflict M.conflict n a.number h.log ≡ false))
        → (r : Record) → In r h.log → prior piv r (record_of p pivot a x) ≡ false → M.conflict r.activity.number a.number ≡ false
    new_last piv pivot a x clear first r i e = go (rank piv r) (rank piv new) (later piv r new e)
      where
        new : Record
        new = record_of p pivot a x

        other : r.commit ≡ 0 → (r.start ≡ p.start → ⊥) → (r.start ≤ p.start → piv p.start ≡ false → ⊥) → M.conflict r.activity.number a.number ≡ false
        other active apart younger =
            let (q, at) = (sound.owners r i).active active in
            ⊎_elim
            (λ none. untouched M.conflict r.start a.number h.log none r i refl)
            (λ old. ⊎_elim (λ low. absurd (younger old.0 low)) (λ free. untouched M.conflict r.start a.number h.log (free r.start q at apart) r i refl) (first old.1))
            (clear r.start q at apart)

        go : Rank piv r → Rank piv new → Later piv r new → M.conflict r.activity.number a.number ≡ false
        go r₁ (committed some g n) l = absurd (some refl)
        go (committed some g n) (pivoting c u g' n') l = absurd (omega (arith, l.low))
        go (committed some g n) (waiting c u g' n') l = absurd (omega (arith, l.low))
        go (pivoting c u g n) (pivoting c' u' g' n') l = other c (λ same. let less = l.within (g ∙ sym g') in omega arith) (λ low off. both_ways (piv p.start) off u')
        go (pivoting c u g n) (waiting c' u' g' n') l = absurd (omega (arith, l.low))
        go (waiting c u g n) (pivoting c' u' g' n') l = other c (λ (same : r.start ≡ p.start). both_ways (piv r.start) u (ap piv same ∙ u')) (λ low off. both_ways (piv p.start) off u')
        go (waiting c u g n) (waiting c' u' g' n') l =
            let less : number new < number r = l.within (g ∙ sym g') in
            other c (λ (same : r.start ≡ p.start). omega arith) (λ (low : r.start ≤ p.start) off. omega arith)

    -- the processes with a pivot: as before, unless this was the process's first
    pivots_same : (pivot : Bool) (a : Activity) (x : ℕ) → (pivot ≡ false) ⊎ (past_pivot p.standing ≡ true) → pivoted (h.log ++ record_of p pivot a x ∷ []) ≡ pivoted h.log
    pivots_same pivot a x how = fun_ext (λ n. any_push (λ r. owned n r && r.pivot) h.log (record_of p pivot a x) ∙ go n how)
      where
        go : (n : ℕ) → (pivot ≡ false) ⊎ (past_pivot p.standing ≡ true) → (pivoted h.log n || (owned n (record_of p pivot a x) && pivot)) ≡ pivoted h.log n
        go n (inl plain) = or_off (pivoted h.log n) (eqb p.start n && pivot) (and_right (eqb p.start n) pivot plain)
        go n (inr past) = ⊎_elim
            (λ same. let on = ap (pivoted h.log) (sym same) ∙ (sound.actives p.start p is).pivot ∙ past in or_left _ _ on ∙ sym on)
            (λ other. or_off (pivoted h.log n) (eqb p.start n && pivot) (ap (λ b. b && pivot) (ne_eqb p.start n other)))
            (cases_eq p.start n)

    pivots_more : (a : Activity) (x : ℕ) (n : ℕ) → (n ≡ p.start → ⊥) → pivoted (h.log ++ record_of p true a x ∷ []) n ≡ pivoted h.log n
    pivots_more a x n other = any_push (λ r. owned n r && r.pivot) h.log (record_of p true a x) ∙ or_off _ _ (and_left _ true (ne_eqb p.start n (λ e. other (sym e))))

    pivots_own : (a : Activity) (x : ℕ) → pivoted (h.log ++ record_of p true a x ∷ []) p.start ≡ true
    pivots_own a x = any_push (λ r. owned p.start r && r.pivot) h.log (record_of p true a x) ∙ or_right _ _ (and_from _ true (eq-eqb p.start p.start refl) refl)

    -- records that stood there when a running process passed its pivot
    old_pairs : (piv : ℕ → Bool) → ((n : ℕ) → (n ≡ p.start → ⊥) → piv n ≡ pivoted h.log n) → piv p.start ≡ true → past_pivot p.standing ≡ false → First h p → (a b : Record) → Before a b h.log → prior piv a b ≡ false → conflicting M a b ≡ false
    old_pairs piv others mine running first a b i e = go (cases_eq a.start p.start) (cases_eq b.start p.start)
      where
        ia : In a h.log
        ia = before_first a b h.log i

        ib : In b h.log
        ib = before_second a b h.log i

        free : from_pivot (own p.start h.log) ≡ own p.start h.log
        free = from_none (own p.start h.log) (sym (any_kept (λ r. r.pivot) (owned p.start) h.log) ∙ (sound.actives p.start p is).pivot ∙ running)

        -- another's record against one of the process's own
        cross : (x y : Record) → In x h.log → In y h.log → x.commit ≡ 0 → (x.start ≡ p.start → ⊥) → y.start ≡ p.start → conflicting M x y ≡ false
        cross x y ix iy active apart own-y =
            let (q, at) = (sound.owners x ix).active active in
            let none = subst (λ l. holds_any_conflict M.conflict x.start h.log l ≡ false) free (first.apart x.start q at apart) in
            untouched M.conflict x.start y.activity.number h.log (any_none (λ r. holds_conflict M.conflict x.start r.activity.number h.log) (own p.start h.log) none y (in_kept (owned p.start) h.log y iy (eq-eqb y.start p.start own-y))) x ix refl

        not_past : (x : Record) → In x h.log → x.commit ≡ 0 → (x.start ≡ p.start → ⊥) → piv x.start ≡ false
        not_past x ix active apart =
            let (q, at) = (sound.owners x ix).active active in
            others x.start apart ∙ ap (pivoted h.log) (sym (found_start x.start h.processes q at)) ∙ (sound.actives x.start q at).pivot ∙ first.alone x.start q at apart

        -- the order that was
        old : group (pivoted h.log) b < group (pivoted h.log) a → conflicting M a b ≡ false
        old less = sound.order a b i (not_prior (pivoted h.log) a b less)

        same_group : (x : Record) → (x.start ≡ p.start → ⊥) → group piv x ≡ group (pivoted h.log) x
        same_group x apart = ap (λ t. cond (eqb x.commit 0) (cond t 1 2) 0) (others x.start apart)

        go : (a.start ≡ p.start) ⊎ (a.start ≡ p.start → ⊥) → (b.start ≡ p.start) ⊎ (b.start ≡ p.start → ⊥) → conflicting M a b ≡ false
        go (inl own-a) (inl own-b) = by (rank piv a) (rank piv b) (later piv a b e)
          where
            by : Rank piv a → Rank piv b → Later piv a b → conflicting M a b ≡ false
            by (committed some g n) rb l = absurd (some (own_active a ia own-a))
            by (waiting c u g n) rb l = absurd (both_ways (piv a.start) u (ap piv own-a ∙ mine))
            by (pivoting c u g n) (committed some g' n') l = absurd (some (own_active b ib own-b))
            by (pivoting c u g n) (waiting c' u' g' n') l = absurd (both_ways (piv b.start) u' (ap piv own-b ∙ mine))
            by (pivoting c u g n) (pivoting c' u' g' n') l = absurd (let less = l.within (g ∙ sym g') in omega arith)
        go (inl own-a) (inr apart) = by (rank piv b) (rank (pivoted h.log) a) (rank (pivoted h.log) b)
          where
            by : Rank piv b → Rank (pivoted h.log) a → Rank (pivoted h.log) b → conflicting M a b ≡ false
            by (committed some g n) (committed some' g' n') rb = absurd (some' (own_active a ia own-a))
            by (committed some g n) (pivoting c u g' n') rb = old (omega (arith, same_group b apart))
            by (committed some g n) (waiting c u g' n') rb = old (omega (arith, same_group b apart))
            by (pivoting c u g n) ra rb = absurd (both_ways (piv b.start) (not_past b ib c apart) u)
            by (waiting c u g n) ra rb =
                laws.symmetric a.activity.number b.activity.number ∙ cross b a ib ia c apart own-a
        go (inr apart) (inl own-b) = by (rank piv a) (rank piv b) (later piv a b e)
          where
            by : Rank piv a → Rank piv b → Later piv a b → conflicting M a b ≡ false
            by (committed some g n) (committed some' g' n') l = absurd (some' (own_active b ib own-b))
            by (committed some g n) (pivoting c u g' n') l = absurd (omega (arith, l.low))
            by (committed some g n) (waiting c u g' n') l = absurd (omega (arith, l.low))
            by (pivoting c u g n) rb l = cross a b ia ib c apart own-b
            by (waiting c u g n) rb l = cross a b ia ib c apart own-b
        go (inr apart) (inr apart') = sound.order a b i (sym (same_prior (same_group a apart) (same_group b apart')) ∙ e)
          where
            same_prior : group piv a ≡ group (pivoted h.log) a → group piv b ≡ group (pivoted h.log) b → prior piv a b ≡ prior (pivoted h.log) a b
            same_prior x y = λ i. (lib.Dec.ltb (x i) (y i)) || (eqb (x i) (y i) && lib.Dec.leb (number a) (number b))

    abbrev pub Untouched : Activity → Type 0
    Untouched a = (n : ℕ) (q : Process) → find n h.processes ≡ Some q → (n ≡ p.start → ⊥) → holds_conflict M.conflict n a.number h.log ≡ false

    -- no first pivot, or a first one in its place
    pub data How (pivot : Bool) (a : Activity) : Type 0 where
      same : (pivot ≡ false) ⊎ (past_pivot p.standing ≡ true) → How pivot a
      first : pivot ≡ true → past_pivot p.standing ≡ false → First h p → Untouched a → How pivot a

    module _ (pivot : Bool) (a : Activity) (x : ℕ) (to : Position) (how : How pivot a) where
      others_same : (n : ℕ) → (n ≡ p.start → ⊥) → pivoted (h.log ++ record_of p pivot a x ∷ []) n ≡ pivoted h.log n
      others_same n other = go how
        where
          go : How pivot a → pivoted (h.log ++ record_of p pivot a x ∷ []) n ≡ pivoted h.log n
          go (same w) = ap (λ f. f n) (pivots_same pivot a x w)
          go (first e running f u) = ap (λ b. pivoted (h.log ++ record_of p b a x ∷ []) n) e ∙ pivots_more a x n other

      own_pivot : pivoted (h.log ++ record_of p pivot a x ∷ []) p.start ≡ past_pivot (standing_after pivot p.standing)
      own_pivot = go how
        where
          was : pivoted h.log p.start ≡ past_pivot p.standing
          was = (sound.actives p.start p is).pivot

          past : (b : Bool) → past_pivot p.standing ≡ true → past_pivot p.standing ≡ past_pivot (standing_after b p.standing)
          past true e = e
          past false e = refl

          go : How pivot a → pivoted (h.log ++ record_of p pivot a x ∷ []) p.start ≡ past_pivot (standing_after pivot p.standing)
          go (same (inl plain)) = ap (λ f. f p.start) (pivots_same pivot a x (inl plain)) ∙ was ∙ sym (ap (λ b. past_pivot (standing_after b p.standing)) plain)
          go (same (inr e)) = ap (λ f. f p.start) (pivots_same pivot a x (inr e)) ∙ was ∙ past pivot e
          go (first e running f u) = ap (λ b. pivoted (h.log ++ record_of p b a x ∷ []) p.start) e ∙ pivots_own a x ∙ sym (ap (λ b. past_pivot (standing_after b p.standing)) e)

      one_past : past_pivot (standing_after pivot p.standing) ≡ true → (m : ℕ) (r : Process) → find m h.processes ≡ Some r → (m ≡ p.start → ⊥) → past_pivot r.standing ≡ true → ⊥
      one_past now m r at other past = go how
        where
          go : How pivot a → ⊥
          go (same (inl plain)) = other (sound.lone m p.start r p at is past (sym (ap (λ b. past_pivot (standing_after b p.standing)) plain) ∙ now))
          go (same (inr e)) = other (sound.lone m p.start r p at is past e)
          go (first e running f u) = both_ways (past_pivot r.standing) (f.alone m r at other) past

      order' : Clear h p a → Ordered M (h.log ++ record_of p pivot a x ∷ [])
      order' clear b c i e = ⊎_elim old new (before_push b c h.log (record_of p pivot a x) i)
        where
          piv' : ℕ → Bool
          piv' = pivoted (h.log ++ record_of p pivot a x ∷ [])

          old : Before b c h.log → conflicting M b c ≡ false
          old j = go how
            where
              go : How pivot a → conflicting M b c ≡ false
              go (same w) = sound.order b c j (ap (λ f. prior f b c) (sym (pivots_same pivot a x w)) ∙ e)
              go (first y running f u) = old_pairs piv' others_same (own_pivot ∙ ap (λ t. past_pivot (standing_after t p.standing)) y) running f b c j e

          new : In b h.log × (c ≡ record_of p pivot a x) → conflicting M b c ≡ false
          new (j, is-new) =
              ap (λ z. M.conflict b.activity.number z.activity.number) is-new
              ∙ new_last piv' pivot a x clear (λ running. go how running) b j (ap (λ z. prior piv' b z) (sym is-new) ∙ e)
            where
              go : How pivot a → past_pivot p.standing ≡ false → (piv' p.start ≡ false) ⊎ Untouched a
              go (same (inl plain)) running = inl (own_pivot ∙ ap (λ t. past_pivot (standing_after t p.standing)) plain ∙ running)
              go (same (inr past)) running = absurd (both_ways (past_pivot p.standing) running past)
              go (first y run f u) running = inr u

    pub sound_done : (pivot : Bool) (a : Activity) (to : Position) (d : ℕ × S)
        → M.performed h.station a ≡ Some d
        → Clear h p a
        → How pivot a
        → Placed M (standing_after pivot p.standing) to
        → (rowless to ≡ true → rowless p.at ≡ true)
        → (pivot ≡ false → rowless to ≡ true → M.compensatable a.number ≡ true)
        → Sound M s (performed h p pivot a to (Some d)).hall
    sound_done pivot a to d did clear how placed row comp = record {
      replay = replay_push (Does M) h.log new s h.station d.1 sound.replay did;
      order = order' pivot a d.0 to how clear;
      kin = λ a b i j e. ⊎_elim
          (λ ia. ⊎_elim (λ ib. sound.kin a b ia ib e) (λ eb. own_active a ia (e ∙ ap (λ z. z.start) eb) ∙ sym (ap (λ z. z.commit) eb)) (in_push b h.log new j))
          (λ ea. ⊎_elim (λ ib. ap (λ z. z.commit) ea ∙ sym (own_active b ib (sym e ∙ ap (λ z. z.start) ea))) (λ eb. ap (λ z. z.commit) (ea ∙ sym eb)) (in_push b h.log new j))
          (in_push a h.log new i);
      numbers = λ a b i j e some. ⊎_elim
          (λ ia. ⊎_elim (λ ib. sound.numbers a b ia ib e some) (λ eb. absurd (some (e ∙ ap (λ z. z.commit) eb))) (in_push b h.log new j))
          (λ ea. absurd (some (ap (λ z. z.commit) ea)))
          (in_push a h.log new i);
      owners = λ r i. ⊎_elim (old r) (λ e. subst (Owner M after) (sym e) of_new) (in_push r h.log new i);
      actives = λ n q e. ⊎_elim
          (λ mine.
          subst (Active M after) (sym mine.1)
          record { low = (sound.actives p.start p is).low; pivot = own_pivot pivot a d.0 to how; placed = placed })
          (λ other.
          let b = sound.actives n q other.1 in
          record { low = b.low; pivot = others_same pivot a d.0 to how q.start (λ e. other.0 (sym (found_start n h.processes q other.1) ∙ e)) ∙ b.pivot; placed = b.placed })
          (from n q e);
      lone = λ n m q r e e' x y. ⊎_elim
          (λ mine. ⊎_elim
          (λ mine'. mine.0 ∙ sym mine'.0)
          (λ other. absurd (one_past pivot a d.0 to how (sym (ap (λ z. past_pivot z.standing) mine.1) ∙ x) m r other.1 other.0 y))
          (from m r e'))
          (λ other. ⊎_elim
          (λ mine'. absurd (one_past pivot a d.0 to how (sym (ap (λ z. past_pivot z.standing) mine'.1) ∙ y) n q other.1 other.0 x))
          (λ other'. sound.lone n m q r other.1 other'.1 x y)
          (from m r e'))
          (from n q e);
      programs = sound.programs;
    }
      where
        new : Record
        new = record_of p pivot a d.0

        after : Hall S
        after = (performed h p pivot a to (Some d)).hall

        st : Standing
        st = standing_after pivot p.standing

        from : (n : ℕ) (q : Process) → find n (changed p.start (move (standing_after pivot p.standing) to) h.processes) ≡ Some q → ((n ≡ p.start) × (q ≡ move (standing_after pivot p.standing) to p)) ⊎ ((n ≡ p.start → ⊥) × (find n h.processes ≡ Some q))
        from n q e = from_changed p.start p (move (standing_after pivot p.standing) to) (λ q. refl) h.processes is n q e

        old : (r : Record) → In r h.log → Owner M after r
        old r i =
            let o = sound.owners r i in
            record {
              low = o.low;
              bound = o.bound;
              active = λ e. let (q, at) = o.active e in to_changed p.start (move st to) (λ q. refl) r.start h.processes q at;
              left = λ q e. ⊎_elim (λ mine. own_active r i mine.0) (λ other. o.left q other.1) (from r.start q e);
              back = λ q e plain free. ⊎_elim
                  (λ mine. o.back p (ap (λ k. find k h.processes) mine.0 ∙ is) plain (row (sym (ap (λ z. rowless z.at) mine.1) ∙ free)))
                  (λ other. o.back q other.1 plain free)
                  (from r.start q e);
            }

        of_new : Owner M after new
        of_new = record {
          low = (sound.actives p.start p is).low;
          bound = omega arith;
          active = λ e. to_changed p.start (move st to) (λ q. refl) p.start h.processes p is;
          left = λ q e. refl;
          back = λ q e plain free. ⊎_elim
              (λ mine. comp plain (sym (ap (λ z. rowless z.at) mine.1) ∙ free))
              (λ other. absurd (other.0 refl))
              (from p.start q e);
        }

    -- A step taken back

    pub sound_undone : (z : Split) → Loose p.start h.log z
        → ((n : ℕ) (q : Process) → find n h.processes ≡ Some q → (n ≡ p.start → ⊥) → holds_conflict M.conflict n z.at.activity.number z.after ≡ false)
        → rowless p.at ≡ true
        → Sound M s (undone M h z).hall
    sound_undone z returnable clear free = record {
      replay = back_replays;
      order = λ a b i e. sound.order a b (more_before a b i) (ap (λ f. prior f a b) (sym pivots) ∙ e);
      kin = λ a b i j. sound.kin a b (more a i) (more b j);
      numbers = λ a b i j. sound.numbers a b (more a i) (more b j);
      owners = λ r i. let o = sound.owners r (more r i) in record { low = o.low; bound = o.bound; active = o.active; left = o.left; back = o.back };
      actives = λ n q e. let b = sound.actives n q e in record { low = b.low; pivot = ap (λ f. f q.start) pivots ∙ b.pivot; placed = b.placed };
      lone = sound.lone;
      programs = sound.programs;
    }
      where
        whole : h.log ≡ rejoined z
        whole = returnable.last.whole

        more : (r : Record) → In r (removed z) → In r h.log
        more r i = subst (In r) (sym whole) (in_more r z.before z.at z.after i)

        more_before : (a b : Record) → Before a b (removed z) → Before a b h.log
        more_before a b i = subst (Before a b) (sym whole) (before_more a b z.before z.at z.after i)

        here : In z.at h.log
        here = subst (In z.at) (sym whole) (in_here z.before z.at z.after)

        pivots : pivoted (removed z) ≡ pivoted h.log
        pivots = fun_ext (λ n. any_more (λ r. owned n r && r.pivot) z.before z.at z.after (and_right (owned n z.at) z.at.pivot returnable.plain) ∙ ap (λ l. pivoted l n) (sym whole))

        comp : M.compensatable z.at.activity.number ≡ true
        comp = (sound.owners z.at here).back p (ap (λ k. find k h.processes) returnable.last.owner ∙ is) returnable.plain free

        -- nothing after it is in conflict with it
        apart : (y : Record) → In y z.after → conflicting M z.at y ≡ false
        apart y i = go (rank (pivoted h.log) z.at) (rank (pivoted h.log) y)
          where
            before : Before z.at y h.log
            before = subst (Before z.at y) (sym whole) (before_here y z.before z.at z.after i)

            active_apart : y.commit ≡ 0 → conflicting M z.at y ≡ false
            active_apart c =
                let (q, at) = (sound.owners y (before_second z.at y h.log before)).active c in
                laws.symmetric z.at.activity.number y.activity.number ∙ untouched M.conflict y.start z.at.activity.number z.after (clear y.start q at (returnable.last.after y i)) y i refl

            go : Rank (pivoted h.log) z.at → Rank (pivoted h.log) y → conflicting M z.at y ≡ false
            go ra (pivoting c u g n) = active_apart c
            go ra (waiting c u g n) = active_apart c
            go (committed some g' n') (committed some' g n) = absurd (some (own_active z.at here returnable.last.owner))
            go (pivoting c u g' n') (committed some' g n) = sound.order z.at y before (not_prior (pivoted h.log) z.at y (omega arith))
            go (waiting c u g' n') (committed some' g n) = sound.order z.at y before (not_prior (pivoted h.log) z.at y (omega arith))

        back_replays : Replays (Does M) (removed z) s (M.taken_back h.station z.at.activity z.at.answer)
        back_replays =
            taking_back_replays (actions M) (λ _. Unit {0}) any_state commuting restoring (λ r. r.activity) (λ r. r.answer)
            z.before z.at z.after s h.station tt comp (all_from (λ y. conflicting M z.at y ≡ false) z.after apart)
            (subst (λ l. Replays (Does M) l s h.station) whole sound.replay)

    -- A commit

    pub sound_committed : ((n : ℕ) (q : Process) → find n h.processes ≡ Some q → (n ≡ p.start → ⊥) → stands_before_conflict M.conflict n p.start h.log ≡ false)
        → Sound M s (committing h p).hall
    sound_committed clear = record {
      replay = runs_sealed h.log s h.station sound.replay;
      order = λ a b i e. let (c, d, j, x, y) = before_map seal a b h.log i in
          ap (λ z. conflicting M z b) x ∙ ap (conflicting M (seal c)) y ∙ seal_clash c d
          ∙ pair c d j (cases_eq c.start p.start) (cases_eq d.start p.start) (ap (λ f. prior f (seal c) (seal d)) (sym pivots) ∙ ap (λ z. prior (pivoted (map seal h.log)) (seal c) z) (sym y) ∙ ap (λ z. prior (pivoted (map seal h.log)) z b) (sym x) ∙ e);
      kin = λ a b i j e.
          let (c, ic, x) = in_map seal a h.log i in
          let (d, id, y) = in_map seal b h.log j in
          ap (λ z. z.commit) x ∙ kin_sealed c d ic id (sym (seal_start c) ∙ ap (λ z. z.start) (sym x) ∙ e ∙ ap (λ z. z.start) y ∙ seal_start d) (cases_eq c.start p.start) ∙ ap (λ z. z.commit) (sym y);
      numbers = λ a b i j e some.
          let (c, ic, x) = in_map seal a h.log i in
          let (d, id, y) = in_map seal b h.log j in
          ap (λ z. z.start) x ∙ seal_start c
          ∙ number_sealed c d ic id (ap (λ z. z.commit) (sym x) ∙ e ∙ ap (λ z. z.commit) y) (λ f. some (ap (λ z. z.commit) x ∙ f)) (cases_eq c.start p.start) (cases_eq d.start p.start)
          ∙ sym (ap (λ z. z.start) y ∙ seal_start d);
      owners = λ r i. let (c, j, x) = in_map seal r h.log i in subst (Owner M after) (sym x) (owner c j (cases_eq c.start p.start));
      actives = λ n q e.
          let (other, at) = from_without p.start n h.processes q e in
          let b = sound.actives n q at in
          record { low = b.low; pivot = ap (λ f. f q.start) pivots ∙ b.pivot; placed = b.placed };
      lone = λ n m q r e f. sound.lone n m q r (from_without p.start n h.processes q e).1 (from_without p.start m h.processes r f).1;
      programs = sound.programs;
    }
      where
        after : Hall S
        after = (committing h p).hall

        seal : Record → Record
        seal = committed_under p.start (suc h.committed)

        with_commit : Record → Record
        with_commit r = record { start = r.start; activity = r.activity; answer = r.answer; commit = suc h.committed; pivot = r.pivot }

        seal_own : (r : Record) → r.start ≡ p.start → seal r ≡ with_commit r
        seal_own r e = ap (λ b. cond b (with_commit r) r) (eq-eqb r.start p.start e)

        seal_other : (r : Record) → (r.start ≡ p.start → ⊥) → seal r ≡ r
        seal_other r e = ap (λ b. cond b (with_commit r) r) (ne_eqb r.start p.start e)

        -- sealing changes nothing but the commit number
        seal_step : (r : Record) → (seal r).activity ≡ r.activity
        seal_step r = sealed (λ x. x.activity) p.start (suc h.committed) r refl

        seal_start : (r : Record) → (seal r).start ≡ r.start
        seal_start r = sealed (λ x. x.start) p.start (suc h.committed) r refl

        kin_sealed : (c d : Record) → In c h.log → In d h.log → c.start ≡ d.start → (c.start ≡ p.start) ⊎ (c.start ≡ p.start → ⊥) → (seal c).commit ≡ (seal d).commit
        kin_sealed c d i j e (inl mine) = ap (λ z. z.commit) (seal_own c mine) ∙ sym (ap (λ z. z.commit) (seal_own d (sym e ∙ mine)))
        kin_sealed c d i j e (inr other) = ap (λ z. z.commit) (seal_other c other) ∙ sound.kin c d i j e ∙ sym (ap (λ z. z.commit) (seal_other d (λ f. other (e ∙ f))))

        number_sealed : (c d : Record) → In c h.log → In d h.log → (seal c).commit ≡ (seal d).commit → ((seal c).commit ≡ 0 → ⊥) → (c.start ≡ p.start) ⊎ (c.start ≡ p.start → ⊥) → (d.start ≡ p.start) ⊎ (d.start ≡ p.start → ⊥) → c.start ≡ d.start
        number_sealed c d i j e some (inl mine) (inl mine') = mine ∙ sym mine'
        number_sealed c d i j e some (inl mine) (inr other) = absurd (omega (arith, ap (λ z. z.commit) (seal_own c mine), ap (λ z. z.commit) (seal_other d other), e, (sound.owners d j).bound))
        number_sealed c d i j e some (inr other) (inl mine) = absurd (omega (arith, ap (λ z. z.commit) (seal_own d mine), ap (λ z. z.commit) (seal_other c other), e, (sound.owners c i).bound))
        number_sealed c d i j e some (inr other) (inr other') = sound.numbers c d i j (ap (λ z. z.commit) (sym (seal_other c other)) ∙ e ∙ ap (λ z. z.commit) (seal_other d other')) (λ f. some (ap (λ z. z.commit) (seal_other c other) ∙ f))

        seal_answer : (r : Record) → (seal r).answer ≡ r.answer
        seal_answer r = sealed (λ x. x.answer) p.start (suc h.committed) r refl

        seal_test : (n : ℕ) (r : Record) → (owned n (seal r) && (seal r).pivot) ≡ (owned n r && r.pivot)
        seal_test n r = sealed (λ x. owned n x && x.pivot) p.start (suc h.committed) r refl

        seal_clash : (c d : Record) → conflicting M (seal c) (seal d) ≡ conflicting M c d
        seal_clash c d = λ i. M.conflict (seal_step c i).number (seal_step d i).number

        pivots : pivoted (map seal h.log) ≡ pivoted h.log
        pivots = fun_ext (λ n. any_map (λ r. owned n r && r.pivot) seal (seal_test n) h.log)

        runs_sealed : (l : List Record) (u t : S) → Replays (Does M) l u t → Replays (Does M) (map seal l) u t
        runs_sealed [] u t r = r
        runs_sealed (x ∷ xs) u t r = (r.0, ap (λ a. M.performed u a) (seal_step x) ∙ r.1 ∙ ap (λ v. Some (v, r.0)) (sym (seal_answer x)), runs_sealed xs r.0 t r.2)

        piv : ℕ → Bool
        piv = pivoted h.log

        rank_sealed : (r : Record) → (group piv (with_commit r) ≡ 0) × (number (with_commit r) ≡ suc h.committed)
        rank_sealed r = go (rank piv (with_commit r))
          where
            go : Rank piv (with_commit r) → (group piv (with_commit r) ≡ 0) × (number (with_commit r) ≡ suc h.committed)
            go (committed some g n) = (g, n)
            go (pivoting x u g n) = absurd (omega (arith, x))
            go (waiting x u g n) = absurd (omega (arith, x))

        owner : (c : Record) → In c h.log → (c.start ≡ p.start) ⊎ (c.start ≡ p.start → ⊥) → Owner M after (seal c)
        owner c j (inl mine) = subst (Owner M after) (sym (seal_own c mine)) record {
          low = (sound.owners c j).low;
          bound = omega arith;
          active = λ e. absurd (omega (arith, e));
          left = λ q e. absurd ((from_without p.start c.start h.processes q e).0 mine);
          back = λ q e. absurd ((from_without p.start c.start h.processes q e).0 mine);
        }
        owner c j (inr other) =
            let o = sound.owners c j in
            subst (Owner M after) (sym (seal_other c other)) record {
              low = o.low;
              bound = omega (arith, o.bound);
              active = λ e. let (q, at) = o.active e in (q, find_without p.start c.start h.processes other ∙ at);
              left = λ q e. o.left q (from_without p.start c.start h.processes q e).1;
              back = λ q e. o.back q (from_without p.start c.start h.processes q e).1;
            }

        pair : (c d : Record) → Before c d h.log → (c.start ≡ p.start) ⊎ (c.start ≡ p.start → ⊥) → (d.start ≡ p.start) ⊎ (d.start ≡ p.start → ⊥) → prior piv (seal c) (seal d) ≡ false → conflicting M c d ≡ false
        pair c d j (inl mine) (inl mine') e = absurd (go (later piv (with_commit c) (with_commit d) (ap (λ z. prior piv z (with_commit d)) (sym (seal_own c mine)) ∙ ap (prior piv (seal c)) (sym (seal_own d mine')) ∙ e)))
          where
            go : Later piv (with_commit c) (with_commit d) → ⊥
            go l = let less = l.within ((rank_sealed c).0 ∙ sym (rank_sealed d).0) in omega (arith, (rank_sealed c).1, (rank_sealed d).1)
        pair c d j (inl mine) (inr other) e = go (rank piv c) (rank piv d) (later piv (with_commit c) d (ap (λ z. prior piv z d) (sym (seal_own c mine)) ∙ ap (prior piv (seal c)) (sym (seal_other d other)) ∙ e))
          where
            go : Rank piv c → Rank piv d → Later piv (with_commit c) d → conflicting M c d ≡ false
            go (committed some g n) rd l = absurd (some (own_active c (before_first c d h.log j) mine))
            go (pivoting x u g n) (committed some g' n') l = sound.order c d j (not_prior piv c d (omega arith))
            go (waiting x u g n) (committed some g' n') l = sound.order c d j (not_prior piv c d (omega arith))
            go (pivoting x u g n) (pivoting x' u' g' n') l = absurd (let low = l.low in omega (arith, (rank_sealed c).0))
            go (pivoting x u g n) (waiting x' u' g' n') l = absurd (let low = l.low in omega (arith, (rank_sealed c).0))
            go (waiting x u g n) (pivoting x' u' g' n') l = absurd (let low = l.low in omega (arith, (rank_sealed c).0))
            go (waiting x u g n) (waiting x' u' g' n') l = absurd (let low = l.low in omega (arith, (rank_sealed c).0))
        pair c d j (inr other) (inl mine) e = go (rank piv c) (later piv c (with_commit d) (ap (λ z. prior piv z (with_commit d)) (sym (seal_other c other)) ∙ ap (prior piv (seal c)) (sym (seal_own d mine)) ∙ e))
          where
            active_apart : c.commit ≡ 0 → conflicting M c d ≡ false
            active_apart x =
                let (q, at) = (sound.owners c (before_first c d h.log j)).active x in
                not_before M.conflict c.start p.start h.log (clear c.start q at other) c d j refl mine

            go : Rank piv c → Later piv c (with_commit d) → conflicting M c d ≡ false
            go (committed some g n) l = absurd (let less = l.within (g ∙ sym (rank_sealed d).0) in let low = (sound.owners c (before_first c d h.log j)).bound in omega (arith, (rank_sealed d).1))
            go (pivoting x u g n) l = active_apart x
            go (waiting x u g n) l = active_apart x
        pair c d j (inr other) (inr other') e = sound.order c d j (ap (λ z. prior piv z d) (sym (seal_other c other)) ∙ ap (prior piv (seal c)) (sym (seal_other d other')) ∙ e)
