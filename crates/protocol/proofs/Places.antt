-- The same by places in tables, as code has them.
use Rattle.std.proofs.Common.{◌≡◌, ℕ, zero, suc, ◌<◌, min, Bool, true, false, cond, not, eqb, List, [], ◌∷◌, ◌++◌, length, get_or, take, drop, set, Some, None, Option, refl, ap, ◌∙◌, arith}
use lib.Seq.{split_at}
use Rattle.std.specs.List.{AllByRecursion}
use Rattle.std.proofs.lemmas.Bool.{eq-eqb, ne_eqb}
use Rattle.serial.specs.Sorts.{Pairwise}
use Rattle.protocol.specs.declared.record.Record.{Record}
use Rattle.protocol.specs.Log.{last_of}
use Rattle.protocol.specs.Hall.{Process, find, without, changed, least, lower}
use Rattle.protocol.proofs.LastRecords.{NotOf}
use Rattle.protocol.proofs.StepsExact.{last_here}

-- start numbers rise along the table
abbrev pub Rising : List Process → Type 0
Rising ps = Pairwise (λ a b. a.start < b.start) ps

-- what a place has stands after the first
above : (n : ℕ) (ps : List Process) (i : ℕ) (d : Process) → i < length ps → AllByRecursion (λ b. n < b.start) ps → n < (get_or ps i d).start
above n [] i d h all = absurd (omega arith)
above n (p ∷ ps) zero d h all = all.0
above n (p ∷ ps) (suc i) d h all = above n ps i d (omega arith) all.1

untold : (n : ℕ) (f : Process → Process) (ps : List Process) → AllByRecursion (λ b. n < b.start) ps → changed n f ps ≡ ps
untold n f [] all = refl
untold n f (p ∷ ps) all = λ i. ap (λ b. cond b (f p) p) (ne_eqb p.start n (λ (e : p.start ≡ n). omega (arith, all.0))) i ∷ untold n f ps all.1 i

all_there : (n : ℕ) (ps : List Process) → AllByRecursion (λ b. n < b.start) ps → without n ps ≡ ps
all_there n [] all = refl
all_there n (p ∷ ps) all = ap (λ b. cond (not b) (p ∷ without n ps) (without n ps)) (ne_eqb p.start n (λ (e : p.start ≡ n). omega (arith, all.0))) ∙ ap (λ l. p ∷ l) (all_there n ps all.1)

module _ (d : Process) where
  pub found_at : (ps : List Process) (i : ℕ) → Rising ps → i < length ps → find (get_or ps i d).start ps ≡ Some (get_or ps i d)
  found_at [] i r h = absurd (omega arith)
  found_at (p ∷ ps) zero r h = ap (λ b. cond b (Some p) (find p.start ps)) (eq-eqb p.start p.start refl)
  found_at (p ∷ ps) (suc i) r h =
      let up = above p.start ps i d (omega arith) r.0 in
      ap (λ b. cond b (Some p) (find (get_or ps i d).start ps)) (ne_eqb p.start (get_or ps i d).start (λ (e : p.start ≡ (get_or ps i d).start). omega arith)) ∙ found_at ps i r.1 (omega arith)

  pub changed_at : (f : Process → Process) (ps : List Process) (i : ℕ) → Rising ps → i < length ps → changed (get_or ps i d).start f ps ≡ set ps i (f (get_or ps i d))
  changed_at f [] i r h = absurd (omega arith)
  changed_at f (p ∷ ps) zero r h = λ j. ap (λ b. cond b (f p) p) (eq-eqb p.start p.start refl) j ∷ untold p.start f ps r.0 j
  changed_at f (p ∷ ps) (suc i) r h =
      let up = above p.start ps i d (omega arith) r.0 in
      let off : eqb p.start (get_or ps i d).start ≡ false = ne_eqb p.start (get_or ps i d).start (λ (e : p.start ≡ (get_or ps i d).start). omega arith) in
      let rest = changed_at f ps i r.1 (omega arith) in
      λ j. ap (λ b. cond b (f p) p) off j ∷ rest j

  pub without_at : (ps : List Process) (i : ℕ) → Rising ps → i < length ps → without (get_or ps i d).start ps ≡ take i ps ++ drop (suc i) ps
  without_at [] i r h = absurd (omega arith)
  without_at (p ∷ ps) zero r h = ap (λ b. cond (not b) (p ∷ without p.start ps) (without p.start ps)) (eq-eqb p.start p.start refl) ∙ all_there p.start ps r.0
  without_at (p ∷ ps) (suc i) r h =
      let up = above p.start ps i d (omega arith) r.0 in
      ap (λ b. cond (not b) (p ∷ without (get_or ps i d).start ps) (without (get_or ps i d).start ps)) (ne_eqb p.start (get_or ps i d).start (λ (e : p.start ≡ (get_or ps i d).start). omega arith))
      ∙ ap (λ l. p ∷ l) (without_at ps i r.1 (omega arith))

-- the last record of a process, by its place
pub last_at : (n : ℕ) (log : List Record) (i : ℕ) (d : Record) → i < length log → (get_or log i d).start ≡ n → NotOf n (drop (suc i) log) → last_of n log ≡ Some record { before = take i log; at = get_or log i d; after = drop (suc i) log }
last_at n log i d h mine none = ap (last_of n) (split_at log i d h) ∙ last_here n (take i log) (get_or log i d) (drop (suc i) log) mine none

-- the least one, with a best so far, as a loop finds it
abbrev pub least_from : (Process → Bool) → Option ℕ → List Process → Option ℕ
least_from t best [] = best
least_from t best (q ∷ qs) = least_from t (lower (t q) q.start best) qs

join : Option ℕ → Option ℕ → Option ℕ
join None o = o
join (Some m) None = Some m
join (Some m) (Some n) = Some (min m n)

join_lower : (b : Bool) (n : ℕ) (x y : Option ℕ) → join (lower b n x) y ≡ join x (lower b n y)
unfolding join
join_lower false n x y = refl
join_lower true n None None = refl
join_lower true n None (Some k) = refl
join_lower true n (Some m) None = ap Some (omega arith)
join_lower true n (Some m) (Some k) = ap Some (omega arith)

joined : (t : Process → Bool) (best : Option ℕ) (ps : List Process) → least_from t best ps ≡ join best (least t ps)
unfolding join
joined t None [] = refl
joined t (Some m) [] = refl
joined t best (q ∷ qs) = joined t (lower (t q) q.start best) qs ∙ join_lower (t q) q.start best (least t qs)

pub least_by_loop : (t : Process → Bool) (ps : List Process) → least_from t None ps ≡ least t ps
unfolding join
least_by_loop t ps = joined t None ps
