-- Entries of the tables: a process written over or taken out, where one begins, a commit, and room for what comes next.
use Rattle.std.proofs.Common.{◌≡◌, ℕ, zero, suc, ◌+◌, ◌<◌, Bool, true, false, cond, not, eqb, List, [], ◌∷◌, map, get_or, Some, None, Ok, Option, IsSome, sym, refl, ap, ◌∙◌, add-one, arith, vec_items, vec_len}
use mathlib.Core.Logic.{∥∥₁_elim}
use native.Mathlib.Bridge.{le_prop}
use Rattle.std.specs.List.{find as first, filter, AllByRecursion}
use Rattle.std.specs.Option.{option_map}
use Rattle.std.proofs.lemmas.List.Elements.{All-head, All-tail, All-cons, All-from_recursion}
use Rattle.std.proofs.lemmas.Bool.{eqb-true, eqb-false}
use Rattle.program.specs.declared.program.Program.{Program}
use Rattle.program.specs.declared.cursor.Cursor.{Cursor}
use Rattle.program.specs.declared.command.Step.{Step}
use Rattle.program.specs.declared.command.Kind.{Kind}
use Rattle.program.specs.declared.command.Kind.TheVariants.{Compensatable, Pivot, Retriable}
use Rattle.program.specs.Positions.{Position, outer}
use Rattle.program.specs.Places.{tree, position}
use Rattle.protocol.specs.declared.record.Record.{Record}
use Rattle.protocol.specs.declared.standing.Standing.{Standing}
use Rattle.protocol.specs.declared.answer.Served.TheVariants.{Stepped}
use Rattle.protocol.specs.declared.answer.Turn.TheVariants.{Committed}
use Rattle.protocol.specs.Log.{committed_under}
use Rattle.protocol.specs.StepFunction.{committing}
use Rattle.protocol.specs.Ahead.{next, by_kind}
use Rattle.protocol.specs.Hall as protocol
use Rattle.protocol.specs.Hall.{find, changed, without, body_of, beginning, answered}
use Rattle.protocol.specs.Held.{Held}
use Rattle.protocol.proofs.TablesHeld.{rising, room_plain, room_pivot}
use Rattle.protocol.proofs.Processes.{found_start}
use Rattle.protocol.proofs.Places.{Rising}
use Rattle.hall.specs.declared.process.Process.{Process}
use Rattle.hall.specs.declared.tables.Tables.{Tables}
use Rattle.hall.specs.Claims.{moved, put}
use Rattle.hall.specs.Model.{model, here, step_to, seen, all_seen, position_in, body_in, IsOnly}

-- a process of the table found, written over or taken out by its number
module _ (ps : List (Option Program)) (n : ℕ) where
  pub found_is : (qs : List Process) → option_map (seen ps) (first (λ q. eqb q.start n) qs) ≡ find n (all_seen ps qs)
  found_is [] = refl
  found_is (q ∷ qs) = go (eqb q.start n) (found_is qs)
    where
      go : (b : Bool) → option_map (seen ps) (first (λ r. eqb r.start n) qs) ≡ find n (all_seen ps qs) → option_map (seen ps) (cond b (Some q) (first (λ r. eqb r.start n) qs)) ≡ cond b (Some (seen ps q)) (find n (all_seen ps qs))
      go true h = refl
      go false h = h

  pub left_is : (qs : List Process) → all_seen ps (filter (λ q. not (eqb q.start n)) qs) ≡ without n (all_seen ps qs)
  left_is [] = refl
  left_is (q ∷ qs) = go (not (eqb q.start n)) (left_is qs)
    where
      go : (b : Bool) → all_seen ps (filter (λ r. not (eqb r.start n)) qs) ≡ without n (all_seen ps qs) → all_seen ps (cond b (q ∷ filter (λ r. not (eqb r.start n)) qs) (filter (λ r. not (eqb r.start n)) qs)) ≡ cond b (seen ps q ∷ without n (all_seen ps qs)) (without n (all_seen ps qs))
      go true h = λ j. seen ps q ∷ h j
      go false h = h

  -- where start numbers rise, the process found is the only one of its number
  pub only_is : (qs : List Process) → Rising (all_seen ps qs) → (p : Process) → Some p ≡ first (λ q. eqb q.start n) qs → IsOnly p qs
  only_is [] r p e = absurd (cc)
  only_is (q ∷ qs) r p e = go (eqb q.start n) refl e (λ k. only_is qs r.1 p k)
    where
      Same : Process → Type 0
      Same x = x.start ≡ p.start → x ≡ p

      -- those behind a process have other numbers
      above : (xs : List Process) → AllByRecursion (λ b. q.start < b.start) (all_seen ps xs) → q.start ≡ p.start → AllByRecursion Same xs
      above [] a e = tt
      above (x ∷ xs) a e = ((λ f. absurd (omega (arith, a.0))), above xs a.1 e)

      go : (b : Bool) → eqb q.start n ≡ b → Some p ≡ cond b (Some q) (first (λ x. eqb x.start n) qs) → (Some p ≡ first (λ x. eqb x.start n) qs → IsOnly p qs) → IsOnly p (q ∷ qs)
      go true t e k =
          let same : p ≡ q = cc in
          All-cons Same q qs (λ _. sym same) (All-from_recursion Same qs (above qs r.0 (ap (λ x. x.start) (sym same))))
      go false t e k = All-cons Same q qs (λ f. absurd (eqb-false _ _ t (f ∙ found_start n (all_seen ps qs) (seen ps p) (sym (ap (option_map (seen ps)) e ∙ found_is qs))))) (k e)

-- the only process of its number moved: what is done to it is known from itself
module _ (ps : List (Option Program)) (p : Process) (s : Standing) (to : Cursor) (f : protocol.Process → protocol.Process) (same : seen ps (moved p s to) ≡ f (seen ps p)) where
  pub moved_is : (qs : List Process) → IsOnly p qs → all_seen ps (map (put (moved p s to)) qs) ≡ changed p.start f (all_seen ps qs)
  moved_is [] o = refl
  moved_is (q ∷ qs) o = λ j. go (eqb q.start p.start) refl j ∷ moved_is qs (All-tail (λ x. x.start ≡ p.start → x ≡ p) q qs o) j
    where
      go : (b : Bool) → eqb q.start p.start ≡ b → seen ps (cond b (moved p s to) q) ≡ cond b (f (seen ps q)) (seen ps q)
      go true e = same ∙ ap (λ x. f (seen ps x)) (sym (All-head (λ x. x.start ≡ p.start → x ≡ p) q qs o (eqb-true _ _ e)))
      go false e = refl

-- the program at a place, as the rules see it
pub body_at : (ps : List (Option Program)) (k : ℕ) → get_or (map body_in ps) k None ≡ body_in (get_or ps k None)
body_at [] k = refl
body_at (p ∷ ps) zero = refl
body_at (p ∷ ps) (suc k) = body_at ps k

-- where a process begins, by a cursor at the beginning of every program
pub first_is : (ps : List (Option Program)) (k : ℕ) (r : Cursor) → ((p : Program) → position p r ≡ outer (tree p)) → position_in (get_or ps k None) r ≡ beginning (map body_in ps) k
first_is ps k r at = there (get_or ps k None) ∙ ap (λ x. outer (body_of x)) (sym (body_at ps k))
  where
    there : (o : Option Program) → position_in o r ≡ outer (body_of (body_in o))
    there None = refl
    there (Some p) = at p

-- a commit
pub concludes_is : {S : Type 0} (h : protocol.Hall S) (p : protocol.Process) (h2 : protocol.Hall S) (l : List Record)
    → l ≡ map (committed_under p.start (h.committed + 1)) h.log
    → h2 ≡ record { station = h.station; log = l; processes = without p.start h.processes; programs = h.programs; given = h.given; committed = h.committed }
    → answered record { station = h2.station; log = h2.log; processes = h2.processes; programs = h2.programs; given = h2.given; committed = h.committed + 1 } (Ok (Stepped (Committed (h.committed + 1)))) ≡ committing h p
concludes_is {S} h p h2 l e1 e2 =
    ap (λ (x : protocol.Hall S). answered record { station = x.station; log = x.log; processes = x.processes; programs = x.programs; given = x.given; committed = h.committed + 1 } (Ok (Stepped (Committed (h.committed + 1))))) e2
    ∙ ap (λ y. answered record { station = h.station; log = y; processes = without p.start h.processes; programs = h.programs; given = h.given; committed = h.committed + 1 } (Ok (Stepped (Committed (h.committed + 1))))) e1
    ∙ ap (λ n. answered record { station = h.station; log = map (committed_under p.start n) h.log; processes = without p.start h.processes; programs = h.programs; given = h.given; committed = n } (Ok (Stepped (Committed n)))) (add-one h.committed)

-- the process that a call is of, once it is found: it is the only one of its number, and there is room for what it has next
module _ {S T : Type 0} (view : S → T) (h : Tables S) (held : ∥ Held (model view h) ∥₁) (n : ℕ) (p : Process) (e : Some p ≡ first (λ q. eqb q.start n) (vec_items h.processes)) where
  pub only_found : IsOnly p (vec_items h.processes)
  only_found = only_is h.programs n (vec_items h.processes) (rising (model view h) held) p e

  seen_found : Some (seen h.programs p) ≡ find n (all_seen h.programs (vec_items h.processes))
  seen_found = ap (option_map (seen h.programs)) e ∙ found_is h.programs n (vec_items h.processes)

  own_number : find p.start (all_seen h.programs (vec_items h.processes)) ≡ Some (seen h.programs p)
  own_number = ap (λ k. find k (all_seen h.programs (vec_items h.processes))) (found_start n (all_seen h.programs (vec_items h.processes)) (seen h.programs p) (sym seen_found)) ∙ sym seen_found

  pub room_found : (o : Option Step) (to : Position) → IsSome o → step_to o to ≡ next (here h.programs p) → vec_len h.log < 1024
  room_found None to i x = absurd (cc)
  room_found (Some s) to i x = ∥∥₁_elim held le_prop (λ d. go d s.kind x)
    where
      go : Held (model view h) → (k : Kind) → by_kind k s.activity to ≡ next (here h.programs p) → vec_len h.log < 1024
      go d Compensatable e = let room = room_plain (model view h) d (seen h.programs p) own_number s.activity to (sym e) in omega (arith, room, h.log.ok.0)
      go d Pivot e = let room = room_pivot (model view h) d (seen h.programs p) own_number s.activity to (sym e) in omega (arith, room, h.log.ok.0)
      go d Retriable e = let room = room_plain (model view h) d (seen h.programs p) own_number s.activity to (sym e) in omega (arith, room, h.log.ok.0)

-- a commit number more can be told
pub few_commits : {S : Type 0} (h : protocol.Hall S) → ∥ Held h ∥₁ → h.committed < 65536
few_commits h s = ∥∥₁_elim s le_prop (λ d. omega (arith, d.bounded.committed, d.bounded.given))
