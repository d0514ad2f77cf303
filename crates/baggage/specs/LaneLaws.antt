-- The early bag store keeps the laws.
use Rattle.std.specs.Prelude.{◌≡◌, ℕ, ◌+◌, ◌-◌, ◌≤◌, Bool, true, false, ◌||◌, [], ◌∷◌, Some, None, Option, ◌==◌, slice_index_or, refl}
use Rattle.std.proofs.Common.{sym, ap, ◌∙◌, subst, ⊎_elim, zero-le, arith}
use Rattle.std.proofs.Math.Bridge.{le_prop}
use Rattle.std.proofs.Math.Decide.{dec_le}
use Rattle.std.specs.Option.{unwrap_or}
use Rattle.std.proofs.lemmas.Bool.{eqb-true, eqb-false, or_cases, cases_Bool}
use Rattle.station.specs.Meaning.{Restores, Commutes, Symmetric, AlwaysPossible, Bounded, lifted}
use Rattle.station.specs.Part.{Swap, parts}
use Rattle.baggage.specs.declared.lanes.LaneCount.{LaneCount}
use Rattle.baggage.specs.declared.lanes.Lane.{Lane}
use Rattle.baggage.specs.declared.lanes.LaneActivity.{LaneActivity}
use Rattle.baggage.specs.declared.lanes.LaneActivity.TheVariants.{Take, Give, Count, Send, Flag}
use Rattle.baggage.specs.Lanes.{within, counted, raised, lowered, with_count, recounted, flagged, on_lane, off_lane, empty_lane, lane_meaning, lanes_meaning}
use Rattle.baggage.specs.Swaps as swaps
use Rattle.baggage.specs.Cell.{CellLaws, Undone, Ready}
use Rattle.baggage.specs.RowLaws as row

-- ---- counts
abbrev count_of : (n : ℕ) → n ≤ 200 → LaneCount
count_of n h = record { value = n; bounded = h }

within_is : (n : ℕ) (h : n ≤ 200) (d : Dec (n ≤ 200)) → Some (count_of n h) ≡ within n d
within_is n h (yes k) = ap (λ z. Some (count_of n z)) (le_prop h k)
within_is n h (no k) = absurd (k h)

-- a number up to 200 is a count
pub counted_is : (n : ℕ) (h : n ≤ 200) → Some (count_of n h) ≡ counted n
counted_is n h = within_is n h (dec_le n 200)

within_value : (n : ℕ) (d : Dec (n ≤ 200)) (c : LaneCount) → within n d ≡ Some c → c.value ≡ n
within_value n (yes h) c e = let same : count_of n h ≡ c = cc in sym (ap (λ z. z.value) same)
within_value n (no h) c e = cc

counted_value : (n : ℕ) (c : LaneCount) → counted n ≡ Some c → c.value ≡ n
counted_value n c e = within_value n (dec_le n 200) c e

same_count : (n : ℕ) (c : LaneCount) → n ≡ c.value → counted n ≡ Some c
same_count n c e = ap counted e ∙ sym (counted_is c.value c.bounded)

raised_back : (c d : LaneCount) → raised c ≡ Some d → lowered d ≡ Some c
raised_back c d e =
    let v : d.value ≡ c.value + 1 = counted_value (c.value + 1) d e in
    ⊎_elim (λ z. let i = eqb-true d.value 0 z in absurd (omega arith))
    (λ z. rw z (same_count (d.value - 1) c (omega arith)))
    (cases_Bool (d.value == 0))

lowered_back : (c d : LaneCount) → lowered c ≡ Some d → raised d ≡ Some c
lowered_back c d e =
    ⊎_elim (λ z. let n : None ≡ Some d = (rw z at e) in cc)
    (λ z.
    let v : d.value ≡ c.value - 1 = counted_value (c.value - 1) d (rw z at e) in
    let i = eqb-false c.value 0 z in
    same_count (d.value + 1) c (omega arith))
    (cases_Bool (c.value == 0))

-- ---- one lane
recounted_is : (l m : Lane) (o : Option LaneCount) (x : ℕ) → recounted l o ≡ Some (x, m) → (o ≡ Some m.count) × (m ≡ with_count l m.count) × (x ≡ 0)
recounted_is l m None x e = (cc, cc, cc)
recounted_is l m (Some c) x e =
    let q = parts e in
    (ap (λ z. Some z.count) q.1, sym q.1 ∙ ap (λ z. with_count l z.count) q.1, sym q.0)

take_back : Undone lane_meaning Take
take_back p x l m e =
    let i = recounted_is l m (raised l.count) x e in
    ap (off_lane Take) i.1 ∙ ap (λ o. with_count l (unwrap_or o m.count)) (raised_back l.count m.count i.0)

give_back : Undone lane_meaning Give
give_back p x l m e =
    let i = recounted_is l m (lowered l.count) x e in
    ap (off_lane Give) i.1 ∙ ap (λ o. with_count l (unwrap_or o m.count)) (lowered_back l.count m.count i.0)

count_back : Undone lane_meaning Count
count_back p x l m e = sym (parts e).1

-- ---- which activities may change places on one lane
-- what it does, by a number: giving and sending do the same
code : LaneActivity → ℕ
code Take = 0
code Give = 1
code Count = 2
code Send = 1
code Flag = 3

-- they do the same, or one of them only sets the flag
free : LaneActivity → LaneActivity → Bool
unfolding code
free h k = code h == code k || (code Flag == code h || code Flag == code k)

all_free : row.AllFree lane_meaning free
unfolding code free
all_free = refl

-- an activity neither reads nor moves the flag
recounted_flagged : (l : Lane) (o : Option LaneCount) → recounted (flagged l) o ≡ lifted flagged (recounted l o)
recounted_flagged l None = refl
recounted_flagged l (Some c) = refl

on_flagged : (k : LaneActivity) (l : Lane) → on_lane k (flagged l) ≡ lifted flagged (on_lane k l)
on_flagged Take l = recounted_flagged l (raised l.count)
on_flagged Give l = recounted_flagged l (lowered l.count)
on_flagged Count l = refl
on_flagged Send l = recounted_flagged l (lowered l.count)
on_flagged Flag l = refl

-- an activity performed twice gives one answer
steady : (k : LaneActivity) (s t u : Lane) (x y : ℕ) → on_lane k s ≡ Some (x, t) → on_lane k t ≡ Some (y, u) → x ≡ y
steady Take s t u x y e f = (recounted_is s t (raised s.count) x e).2 ∙ sym (recounted_is t u (raised t.count) y f).2
steady Give s t u x y e f = (recounted_is s t (lowered s.count) x e).2 ∙ sym (recounted_is t u (lowered t.count) y f).2
steady Count s t u x y e f = sym (parts e).0 ∙ ap (λ l. l.count.value) (parts e).1 ∙ (parts f).0
steady Send s t u x y e f = (recounted_is s t (lowered s.count) x e).2 ∙ sym (recounted_is t u (lowered t.count) y f).2
steady Flag s t u x y e f = sym (parts e).0 ∙ (parts f).0

-- the function that a number stands for
by_code : ℕ → Lane → Option (ℕ × Lane)
by_code n = slice_index_or (on_lane Take ∷ on_lane Give ∷ on_lane Count ∷ on_lane Flag ∷ []) n (on_lane Take)

coded : (k : LaneActivity) → by_code (code k) ≡ on_lane k
unfolding code by_code
coded Take = refl
coded Give = refl
coded Count = refl
coded Send = refl
coded Flag = refl

same_effect : (h k : LaneActivity) → (code h == code k) ≡ true → on_lane h ≡ on_lane k
same_effect h k e = sym (coded h) ∙ ap by_code (eqb-true (code h) (code k) e) ∙ coded k

swap_free : (h k : LaneActivity) → free h k ≡ true → (s : Lane) → Swap (on_lane h) (on_lane k) s
unfolding free
swap_free h k e s =
    ⊎_elim
    (λ z. subst (λ (g : Lane → Option (ℕ × Lane)). Swap (on_lane h) g s) (same_effect h k z) (swaps.twice (on_lane h) s (steady h s)))
    (λ z.
    ⊎_elim
    (λ w. subst (λ (f : Lane → Option (ℕ × Lane)). Swap f (on_lane k) s) (same_effect Flag h w) (swaps.mark_first flagged (on_lane k) (on_flagged k) s))
    (λ w. subst (λ (g : Lane → Option (ℕ × Lane)). Swap (on_lane h) g s) (same_effect Flag k w) (swaps.mark_second flagged (on_lane h) (on_flagged h) s))
    (or_cases (code Flag == code h) (code Flag == code k) z))
    (or_cases (code h == code k) (code Flag == code h || code Flag == code k) e)

-- ---- the other laws
count_ready : Ready lane_meaning Count
count_ready = ((λ p l. refl), refl)

flag_ready : Ready lane_meaning Flag
flag_ready = ((λ p l. refl), refl)

pub laws : CellLaws lane_meaning
laws = record {
  undone = (take_back, (give_back, (count_back, tt)));
  free = row.changed_places lane_meaning free all_free (λ h k e p q. swap_free h k e);
  ready = (count_ready, (flag_ready, tt));
  passes = refl;
  five = refl;
}

-- ---- and so the sixteen keep those of a station
pub restores : Restores lanes_meaning
restores = row.restores lane_meaning 16 laws.undone

pub commutes : Commutes lanes_meaning
commutes = row.commutes lane_meaning 16 laws.free

pub symmetric : Symmetric lanes_meaning
symmetric = row.symmetric lane_meaning 16 laws.passes

pub retries : AlwaysPossible lanes_meaning
retries = row.retries lane_meaning 16 laws.ready

pub bounded : Bounded lanes_meaning
bounded = row.bounded lane_meaning 16 laws.passes laws.five

-- ---- the lane at first
pub is_empty : (h : 0 ≤ 200) → ◌≡◌ {A = Lane} (record { count = count_of 0 h; flag = false }) empty_lane
is_empty h = ap (λ z. record { count = count_of 0 z; flag = false }) (le_prop h zero-le)
