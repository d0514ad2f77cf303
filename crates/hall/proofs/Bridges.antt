-- From loops over the tables to the rules' own words.
use Rattle.std.proofs.Common.{◌≡◌, ℕ, min, Bool, true, false, cond, ◌&&◌, List, [], ◌∷◌, map, Some, None, Option, sym, refl, ap, ◌∙◌, arith}
use Rattle.std.specs.List.{filter, fold, reduce}
use Rattle.protocol.specs.declared.standing.Aim.TheVariants.{Restart}
use Rattle.protocol.specs.declared.standing.Standing.{Standing}
use Rattle.protocol.specs.declared.standing.Standing.TheVariants.{Running, Withdrawing, PastPivot}
use Rattle.protocol.specs.Hall as protocol
use Rattle.protocol.specs.Hall.{least, lower, running, stand}
use Rattle.protocol.specs.StepFunction as rules
use Rattle.protocol.proofs.Places.{least_from, least_by_loop}
use Rattle.program.specs.declared.program.Program.{Program}
use Rattle.hall.specs.declared.process.Process.{Process}
use Rattle.hall.specs.Claims.{withdrawn, marked}
use Rattle.hall.specs.Model.{seen, all_seen}

-- the least blocker, as a search for the least of the numbers finds it
module _ (ps : List (Option Program)) (f : Process → Bool) (g : protocol.Process → Bool) (e : (q : Process) → f q ≡ g (seen ps q)) where
  lower_is : (best : ℕ) (qs : List Process) → Some (fold min best (map (λ q. q.start) (filter f qs))) ≡ least_from g (Some best) (all_seen ps qs)
  lower_is best [] = refl
  lower_is best (q ∷ qs) = go (f q) (e q) (λ b. lower_is b qs)
    where
      go : (b : Bool) → b ≡ g (seen ps q) → ((m : ℕ) → Some (fold min m (map (λ x. x.start) (filter f qs))) ≡ least_from g (Some m) (all_seen ps qs))
          → Some (fold min best (map (λ x. x.start) (cond b (q ∷ filter f qs) (filter f qs)))) ≡ least_from g (lower (g (seen ps q)) q.start (Some best)) (all_seen ps qs)
      go true h ih = ih (min best q.start) ∙ ap (λ m. least_from g (Some m) (all_seen ps qs)) (omega arith) ∙ ap (λ b. least_from g (lower b q.start (Some best)) (all_seen ps qs)) h
      go false h ih = ih best ∙ ap (λ b. least_from g (lower b q.start (Some best)) (all_seen ps qs)) h

  first_is_from : (qs : List Process) → reduce min (map (λ q. q.start) (filter f qs)) ≡ least_from g None (all_seen ps qs)
  first_is_from [] = refl
  first_is_from (q ∷ qs) = go (f q) (e q) (first_is_from qs)
    where
      go : (b : Bool) → b ≡ g (seen ps q) → reduce min (map (λ x. x.start) (filter f qs)) ≡ least_from g None (all_seen ps qs)
          → reduce min (map (λ x. x.start) (cond b (q ∷ filter f qs) (filter f qs))) ≡ least_from g (lower (g (seen ps q)) q.start None) (all_seen ps qs)
      go true h ih = lower_is q.start qs ∙ ap (λ b. least_from g (lower b q.start None) (all_seen ps qs)) h
      go false h ih = ih ∙ ap (λ b. least_from g (lower b q.start None) (all_seen ps qs)) h

  pub least_is : (qs : List Process) → reduce min (map (λ q. q.start) (filter f qs)) ≡ least g (all_seen ps qs)
  least_is qs = first_is_from qs ∙ least_by_loop g (all_seen ps qs)

-- marking
pub marked_is : (ps : List (Option Program)) (f : Process → Bool) (g : protocol.Process → Bool) → ((q : Process) → f q ≡ g (seen ps q)) → (qs : List Process) → all_seen ps (map (marked f) qs) ≡ map (rules.marked g) (all_seen ps qs)
marked_is ps f g e [] = refl
marked_is ps f g e (q ∷ qs) = λ j. one (f q) (g (seen ps q)) (e q) (running q.standing) j ∷ marked_is ps f g e qs j
  where
    cell : (v : Bool) → seen ps (cond v record { start = q.start; place = q.place; standing = Withdrawing Restart; cursor = q.cursor } q) ≡ cond v (stand (Withdrawing Restart) (seen ps q)) (seen ps q)
    cell true = refl
    cell false = refl

    one : (a b : Bool) → a ≡ b → (v : Bool) → seen ps (cond (a && v) record { start = q.start; place = q.place; standing = Withdrawing Restart; cursor = q.cursor } q) ≡ cond (b && v) (stand (Withdrawing Restart) (seen ps q)) (seen ps q)
    one a b same v = cell (a && v) ∙ ap (λ x. cond (x && v) (stand (Withdrawing Restart) (seen ps q)) (seen ps q)) same

-- what a turn of the marking leaves of a process: set to withdraw where it runs and is told to, else as it was
module _ (told : Bool) (q : Process) where
  pub set_back : q.standing ≡ Running → told ≡ true → record q { standing = Withdrawing Restart } ≡ withdrawn told q
  set_back runs t = ap (λ v. cond v (record q { standing = Withdrawing Restart }) q) (sym (ap (λ b. b && running q.standing) t ∙ ap running runs))

  pub not_told : told ≡ false → q ≡ withdrawn told q
  not_told t = ap (λ b. withdrawn b q) (sym t)

  pub not_running : (q.standing ≡ Running → ⊥) → q ≡ withdrawn told q
  not_running r = go told q.standing refl
    where
      go : (b : Bool) (s : Standing) → q.standing ≡ s → q ≡ cond (b && running s) (record q { standing = Withdrawing Restart }) q
      go false s e = refl
      go true Running e = absurd (r e)
      go true (Withdrawing a) e = refl
      go true (PastPivot d) e = refl
