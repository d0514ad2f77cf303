-- The register keeps the laws.
use Rattle.std.specs.Prelude.{◌≡◌, ℕ, ◌%◌, ◌<◌, Bool, true, false, not, ◌&&◌, ◌||◌, ◌⊎◌, is_some, Some, None, Option, ◌==◌, slice_get, refl}
use Rattle.std.proofs.Common.{sym, ap, ◌∙◌, subst, inl, inr, ⊎_elim, arith}
use Rattle.std.proofs.Math.Bridge.{le_prop}
use Rattle.std.proofs.Math.Decide.{dec_lt}
use Rattle.std.proofs.lemmas.Bool.{eqb-true, or_cases, and_parts, and_right, both_ways}
use Rattle.baggage.specs.declared.register.Stand.{Stand}
use Rattle.baggage.specs.declared.register.Bag.{Bag}
use Rattle.baggage.specs.declared.register.BagActivity.{BagActivity}
use Rattle.baggage.specs.declared.register.BagActivity.TheVariants.{Enter, Strike, Look, Seal, Report}
use Rattle.station.specs.Meaning.{Restores, Commutes, Symmetric, AlwaysPossible, Bounded, lifted}
use Rattle.baggage.specs.Register.{between, standing, number_of, with_stand, with_seal, with_report, entered, if_open, on_bag, names, bag_meaning, register_meaning}
use Rattle.station.specs.Part.{Swap, parts}
use Rattle.baggage.specs.Swaps as swaps
use Rattle.baggage.specs.Cell.{CellLaws, Undone, Ready}
use Rattle.baggage.specs.RowLaws as row

-- ---- stands
abbrev stand_of : (n : ℕ) → (0 < n) × (n < 16) → Stand
stand_of n h = record { value = n; range = h }

between_is : (n : ℕ) (h : (0 < n) × (n < 16)) (d : Dec (0 < n)) (e : Dec (n < 16)) → Some (stand_of n h) ≡ between n d e
between_is n h (yes k) (yes l) = ap (λ z. Some (stand_of n (z, h.1))) (le_prop h.0 k) ∙ ap (λ z. Some (stand_of n (k, z))) (le_prop h.1 l)
between_is n h (yes k) (no l) = absurd (l h.1)
between_is n h (no k) e = absurd (k h.0)

pub standing_is : (n : ℕ) (h : (0 < n) × (n < 16)) → Some (stand_of n h) ≡ standing n
standing_is n h = between_is n h (dec_lt 0 n) (dec_lt n 16)

-- a stand comes back from its number
stand_back : (t : Stand) → standing (t.value % 16) ≡ Some t
stand_back t = ap standing (omega (arith, t.range.1)) ∙ sym (standing_is t.value t.range)

between_zero : (d : Dec (0 < 0)) (e : Dec (0 < 16)) → between 0 d e ≡ None
between_zero (yes l) e = absurd (omega arith)
between_zero (no l) e = refl

stands_back : (o : Option Stand) → standing (number_of o % 16) ≡ o
stands_back None = between_zero (dec_lt 0 0) (dec_lt 0 16)
stands_back (Some t) = stand_back t

-- ---- one bag
entered_is : (b c : Bag) (o n : Option Stand) (x : ℕ) → entered b o n ≡ Some (x, c) → (o ≡ None) × (c ≡ with_stand b n) × (is_some c.stand ≡ true)
entered_is b c None None x e = (refl, cc, cc)
entered_is b c None (Some t) x e = let q = parts e in (refl, sym q.1, ap (λ z. is_some z.stand) (sym q.1))
entered_is b c (Some u) n x e = (cc, cc, cc)

open_is : (o : Option Stand) (z : Bool) (b c : Bag) (x : ℕ) → if_open o z b ≡ Some (x, c) → (x ≡ number_of o) × (c ≡ b) × (is_some o && not z ≡ true)
open_is None z b c x e = (cc, cc, cc)
open_is (Some t) true b c x e = (cc, cc, cc)
open_is (Some t) false b c x e = let q = parts e in (sym q.0, sym q.1, refl)

enter_back : Undone bag_meaning Enter
enter_back p x b c e =
    let i = entered_is b c b.stand (standing (p % 16)) x e in
    ap (λ z. with_stand z None) i.1 ∙ ap (with_stand b) (sym i.0)

strike_back : Undone bag_meaning Strike
strike_back p x b c e =
    let i = open_is b.stand b.sealed (with_stand b None) c x e in
    ap (λ z. with_stand z (standing (x % 16))) i.1 ∙ ap (λ n. with_stand b (standing (n % 16))) i.0 ∙ ap (with_stand b) (stands_back b.stand)

look_back : Undone bag_meaning Look
look_back p x b c e = sym (parts e).1

-- ---- which activities may change places on one bag
code : BagActivity → ℕ
code Enter = 0
code Strike = 1
code Look = 2
code Seal = 3
code Report = 4

coded : (k : BagActivity) → slice_get names (code k) ≡ Some k
unfolding code
coded Enter = refl
coded Strike = refl
coded Look = refl
coded Seal = refl
coded Report = refl

is : BagActivity → BagActivity → Bool
is h k = code h == code k

is_same : (h k : BagActivity) → is h k ≡ true → h ≡ k
unfolding is
is_same h k e = let z : Some h ≡ Some k = sym (coded h) ∙ ap (slice_get names) (eqb-true (code h) (code k) e) ∙ coded k in cc

-- entering asks for an absent bag and leaves it present; striking and sealing ask for one that is open and leave it otherwise
data Use : Type 0 where
  absent : Use
  open_bag : Use
  any : Use

use_of : BagActivity → Use
use_of Enter = absent
use_of Strike = open_bag
use_of Look = any
use_of Seal = open_bag
use_of Report = any

ready : Use → Bag → Bool
ready absent b = not (is_some b.stand)
ready open_bag b = is_some b.stand && not b.sealed
ready any b = true

-- both use up the same
uses : Use → Use → Bool
uses absent absent = true
uses absent open_bag = false
uses absent any = false
uses open_bag absent = false
uses open_bag open_bag = true
uses open_bag any = false
uses any u = false

asks : (k : BagActivity) (p x : ℕ) (b c : Bag) → on_bag k p b ≡ Some (x, c) → ready (use_of k) b ≡ true
unfolding use_of ready
asks Enter p x b c e = ap (λ o. not (is_some o)) (entered_is b c b.stand (standing (p % 16)) x e).0
asks Strike p x b c e = (open_is b.stand b.sealed (with_stand b None) c x e).2
asks Look p x b c e = refl
asks Seal p x b c e = (open_is b.stand b.sealed (with_seal b) c x e).2
asks Report p x b c e = refl

spends : (k : BagActivity) (u : Use) → uses (use_of k) u ≡ true → (p x : ℕ) (b c : Bag) → on_bag k p b ≡ Some (x, c) → ready u c ≡ false
unfolding use_of ready uses
spends Enter absent s p x b c e = ap not (entered_is b c b.stand (standing (p % 16)) x e).2
spends Enter open_bag s p x b c e = cc
spends Enter any s p x b c e = cc
spends Strike open_bag s p x b c e = ap (λ z. is_some z.stand && not z.sealed) (open_is b.stand b.sealed (with_stand b None) c x e).1
spends Strike absent s p x b c e = cc
spends Strike any s p x b c e = cc
spends Look u s p x b c e = cc
spends Seal open_bag s p x b c e = ap (λ z. is_some z.stand && not z.sealed) (open_is b.stand b.sealed (with_seal b) c x e).1 ∙ and_right _ _ refl
spends Seal absent s p x b c e = cc
spends Seal any s p x b c e = cc
spends Report u s p x b c e = cc

-- looking and sealing keep the stand
keeps : BagActivity → Bool
unfolding is code
keeps k = is Look k || is Seal k

keeps_stand : (k : BagActivity) → keeps k ≡ true → (p x : ℕ) (b c : Bag) → on_bag k p b ≡ Some (x, c) → number_of c.stand ≡ number_of b.stand
unfolding keeps
keeps_stand k h p x b c e =
    ⊎_elim
    (λ z. let q : on_bag Look p b ≡ Some (x, c) = ap (λ a. on_bag a p b) (is_same Look k z) ∙ e in ap (λ d. number_of d.stand) (sym (parts q).1))
    (λ z.
    let q : on_bag Seal p b ≡ Some (x, c) = ap (λ a. on_bag a p b) (is_same Seal k z) ∙ e in
    ap (λ d. number_of d.stand) (open_is b.stand b.sealed (with_seal b) c x q).1)
    (or_cases (is Look k) (is Seal k) h)

-- reporting meets nothing else
entered_reported : (b : Bag) (o n : Option Stand) → entered (with_report b) o n ≡ lifted with_report (entered b o n)
entered_reported b None None = refl
entered_reported b None (Some t) = refl
entered_reported b (Some u) n = refl

open_reported : (o : Option Stand) (z : Bool) (b : Bag) → if_open o z (with_report b) ≡ lifted with_report (if_open o z b)
open_reported None z b = refl
open_reported (Some t) true b = refl
open_reported (Some t) false b = refl

blind : (k : BagActivity) (p : ℕ) (b : Bag) → on_bag k p (with_report b) ≡ lifted with_report (on_bag k p b)
blind Enter p b = entered_reported b b.stand (standing (p % 16))
blind Strike p b = open_reported b.stand b.sealed (with_stand b None)
blind Look p b = refl
blind Seal p b = open_reported b.stand b.sealed (with_seal b)
blind Report p b = refl

-- one reports, or both use up the same, or one looks and the other keeps the stand
free : BagActivity → BagActivity → Bool
free h k = (is Report h || is Report k) || (uses (use_of h) (use_of k) || ((is Look h && keeps k) || (is Look k && keeps h)))

all_free : row.AllFree bag_meaning free
unfolding code is use_of uses keeps free
all_free = refl

ways : (h k : BagActivity) → free h k ≡ true → ((is Report h ≡ true) ⊎ (is Report k ≡ true)) ⊎ ((uses (use_of h) (use_of k) ≡ true) ⊎ ((is Look h && keeps k ≡ true) ⊎ (is Look k && keeps h ≡ true)))
unfolding free
ways h k e =
    ⊎_elim (λ z. inl (or_cases (is Report h) (is Report k) z))
    (λ z. inr (⊎_elim inl (λ w. inr (or_cases (is Look h && keeps k) (is Look k && keeps h) w)) (or_cases (uses (use_of h) (use_of k)) _ z)))
    (or_cases (is Report h || is Report k) _ e)

swap_free : (h k : BagActivity) → free h k ≡ true → (p q : ℕ) (s : Bag) → Swap (on_bag h p) (on_bag k q) s
unfolding free
swap_free h k e p q s =
    ⊎_elim
    (⊎_elim
    (λ z. subst (λ (a : BagActivity). Swap (on_bag a p) (on_bag k q) s) (is_same Report h z) (swaps.mark_first with_report (on_bag k q) (blind k q) s))
    (λ z. subst (λ (a : BagActivity). Swap (on_bag h p) (on_bag a q) s) (is_same Report k z) (swaps.mark_second with_report (on_bag h p) (blind h p) s)))
    (⊎_elim
    (λ z. swaps.never (on_bag h p) (on_bag k q) s (λ t u x y f g. both_ways _ (spends h (use_of k) z p x s t f) (asks k q y t u g)))
    (⊎_elim
    (λ z.
    let i = and_parts _ _ z in
    subst (λ (a : BagActivity). Swap (on_bag a p) (on_bag k q) s) (is_same Look h i.0)
    (swaps.read_first (λ b. number_of b.stand) (on_bag k q) s (λ t u x f. keeps_stand k i.1 q x t u f)))
    (λ z.
    let i = and_parts _ _ z in
    subst (λ (a : BagActivity). Swap (on_bag h p) (on_bag a q) s) (is_same Look k i.0)
    (swaps.read_second (λ b. number_of b.stand) (on_bag h p) s (λ t u x f. keeps_stand h i.1 p x t u f)))))
    (ways h k e)

-- ---- the other laws
look_ready : Ready bag_meaning Look
look_ready = ((λ p b. refl), refl)

report_ready : Ready bag_meaning Report
report_ready = ((λ p b. refl), refl)

pub laws : CellLaws bag_meaning
laws = record {
  undone = (enter_back, (strike_back, (look_back, tt)));
  free = row.changed_places bag_meaning free all_free swap_free;
  ready = (look_ready, (report_ready, tt));
  passes = refl;
  five = refl;
}

-- ---- and so the 256 keep those of a station
pub restores : Restores register_meaning
restores = row.restores bag_meaning 256 laws.undone

pub commutes : Commutes register_meaning
commutes = row.commutes bag_meaning 256 laws.free

pub symmetric : Symmetric register_meaning
symmetric = row.symmetric bag_meaning 256 laws.passes

pub retries : AlwaysPossible register_meaning
retries = row.retries bag_meaning 256 laws.ready

pub bounded : Bounded register_meaning
bounded = row.bounded bag_meaning 256 laws.passes laws.five
