-- The book says what the hall holds.
use Rattle.std.proofs.Common.{◌≡◌, ℕ, suc, Bool, true, false, cond, not, ◌&&◌, eqb, List, [], ◌∷◌, ◌++◌, map, Some, None, filter, Option, sym, refl, ap, ◌∙◌, inl, inr, Ok, Err}
use Rattle.std.specs.Option.{option_map}
use Rattle.std.proofs.lemmas.Bool.{ne_eqb, cond_both}
use Rattle.std.proofs.lemmas.List.{map_push}
use Rattle.std.proofs.lemmas.Option.{none-some}
use Rattle.activity.specs.declared.Activity.{Activity}
use Rattle.protocol.specs.declared.record.Record.{Record}
use Rattle.protocol.specs.Answer.{Answer}
use Rattle.protocol.specs.declared.answer.Refusal.{Refusal}
use Rattle.protocol.specs.declared.answer.Served.TheVariants.{Stepped}
use Rattle.protocol.specs.declared.answer.Turn.TheVariants as turns
use Rattle.protocol.specs.declared.standing.Standing.{Standing}
use Rattle.protocol.specs.declared.standing.Aim.TheVariants.{Restart, End}
use Rattle.protocol.specs.declared.standing.Direction.TheVariants.{Forward}
use Rattle.protocol.specs.declared.standing.Standing.TheVariants.{Running, Withdrawing, PastPivot}
use Rattle.station.specs.Meaning.{Meaning}
use Rattle.protocol.specs.Means.{Laws}
use Rattle.program.specs.Positions.{Position, into, alternative_of}
use Rattle.protocol.specs.Ahead.{next}
use Rattle.protocol.specs.Log.{Split, owned, dropped, last_of, unless_pivot, committed_under}
use Rattle.protocol.specs.Hall.{Process, Hall, find, without, change, changed, stand, move, with_processes, beginning, running, Outcome, answered, failed, standing_after}
use Rattle.protocol.specs.StepFunction.{marked, performed, restarted, gone, next_alternative, undone, committing}
use Rattle.protocol.specs.Call.{Call, loading, installing, opening, stepping, cancelling}
use Rattle.protocol.specs.CallFunction.{outcome}
use Rattle.protocol.proofs.CallCases.{cases}
use Rattle.protocol.specs.Book.{Entry, Book, seek, struck, moved, with_entries, keep, keep_next, on_step, noted}
use Rattle.protocol.proofs.Tests.{cond_same, kept_map, find_mapped}
use Rattle.protocol.proofs.LastRecords.{NotOf}
use Rattle.protocol.proofs.Sound.{Sound}
use Rattle.protocol.proofs.SoundKept.{none_left}

abbrev pub entry_of : Process → Entry
entry_of q = record { start = q.start; place = q.place; at = q.at }

abbrev pub view : {S : Type 0} → Hall S → Book
view h = record { programs = h.programs; entries = map entry_of h.processes; kept = h.log }

-- entries of processes that changed

entries_same : (f : Process → Process) → ((q : Process) → entry_of q ≡ entry_of (f q)) → (ps : List Process) → map entry_of ps ≡ map entry_of (map f ps)
entries_same f same [] = refl
entries_same f same (p ∷ ps) = λ i. same p i ∷ entries_same f same ps i

stood : (n : ℕ) (st : Standing) (ps : List Process) → map entry_of ps ≡ map entry_of (changed n (stand st) ps)
stood n st ps = entries_same (change n (stand st)) (λ q. sym (cond_same entry_of (eqb q.start n) (stand st q) q refl)) ps

told_entries : (told : Process → Bool) (ps : List Process) → map entry_of ps ≡ map entry_of (map (marked told) ps)
told_entries told ps = entries_same (marked told) (λ q. sym (cond_same entry_of (told q && running q.standing) (stand (Withdrawing Restart) q) q refl)) ps

moved_is : (n : ℕ) (st : Standing) (to : Position) (ps : List Process) → moved n to (map entry_of ps) ≡ map entry_of (changed n (move st to) ps)
moved_is n st to [] = refl
moved_is n st to (p ∷ ps) = λ i. go (eqb p.start n) i ∷ moved_is n st to ps i
  where
    go : (b : Bool) → cond b record { start = p.start; place = p.place; at = to } (entry_of p) ≡ entry_of (cond b (move st to p) p)
    go true = refl
    go false = refl

struck_is : (n : ℕ) (ps : List Process) → struck n (map entry_of ps) ≡ map entry_of (without n ps)
struck_is n = kept_map (λ q. not (eqb q.start n)) (λ e. not (eqb e.start n)) entry_of (λ q. refl)

seek_is : (n : ℕ) (ps : List Process) → seek n (map entry_of ps) ≡ option_map entry_of (find n ps)
seek_is n = find_mapped (λ q. eqb q.start n) (λ e. eqb e.start n) entry_of (λ q. refl)

-- what is noted of no entry's step is noted of none
pub unnoted : (b : Book) (o : Option Entry) (a : Answer) → ((e : Entry) → on_step b (Some e) a ≡ b) → on_step b o a ≡ b
unnoted b None a silent = refl
unnoted b (Some e) a silent = silent e

-- nothing is struck where nothing is owned
all_kept : (n : ℕ) (log : List Record) → NotOf n log → filter (λ r. not (owned n r)) log ≡ log
all_kept n [] free = refl
all_kept n (r ∷ rs) free = ap (λ b. cond (not b) (r ∷ filter (λ x. not (owned n x)) rs) (filter (λ x. not (owned n x)) rs)) (ne_eqb r.start n (free r (inl refl))) ∙ ap (λ l. r ∷ l) (all_kept n rs (λ x i. free x (inr i)))

last_from_loose : (o : Option Split) (z : Split) → unless_pivot o ≡ Some z → o ≡ Some z
last_from_loose None z e = e
last_from_loose (Some s) z e = cond_both s.at.pivot None (Some s) (λ o. o ≡ Some z → Some s ≡ Some z) (λ _ f. absurd (none-some _ f)) (λ _ f. f) e

module _ {S : Type 0} (M : Meaning S) (laws : Laws M) (s : S) where
  abbrev Noted : Hall S → Call → Outcome S → Type 0
  Noted h c o = noted (view h) c o.answer ≡ view o.hall

  -- the entry of an active process
  entered : (h : Hall S) (p : Process) → find p.start h.processes ≡ Some p → seek p.start (map entry_of h.processes) ≡ Some (entry_of p)
  entered h p is = seek_is p.start h.processes ∙ ap (option_map entry_of) is

  -- what is noted on its step
  on_its : (h : Hall S) (p : Process) → find p.start h.processes ≡ Some p → (o : Outcome S) → on_step (view h) (Some (entry_of p)) o.answer ≡ view o.hall → Noted h (stepping p.start) o
  on_its h p is o e = ap (λ x. on_step (view h) x o.answer) (entered h p is) ∙ e

  noted_performed : (h : Hall S) (p : Process) (pivot : Bool) (a : Activity) (to : Position) → ((x : ℕ) → keep_next (view h) p.start x (next p.at) ≡ keep (view h) p.start pivot a x to) → (o : Option (ℕ × S)) → on_step (view h) (Some (entry_of p)) (performed h p pivot a to o).answer ≡ view (performed h p pivot a to o).hall
  noted_performed h p pivot a to keeps None = ap (with_entries (view h)) (stood p.start (failed p.standing) h.processes)
  noted_performed h p pivot a to keeps (Some d) = keeps d.0 ∙ ap (λ l. record { programs = h.programs; entries = l; kept = h.log ++ record { start = p.start; activity = a; answer = d.0; commit = 0; pivot = pivot } ∷ [] }) (moved_is p.start (standing_after pivot p.standing) to h.processes)

  pub noted_is : (h : Hall S) → Sound M s h → (c : Call) → noted (view h) c (outcome M h c).answer ≡ view (outcome M h c).hall
  noted_is h sound = cases M h (Noted h) record {
    refused = refused;
    waited = λ p is told n. on_its h p is (answered (with_processes h (map (marked told) h.processes)) (Ok (Stepped (turns.Wait n)))) (ap (with_entries (view h)) (told_entries told h.processes));
    loads = λ k b w e. refl;
    installs = λ k t b w e. refl;
    opens = λ k e. ap (with_entries (view h)) (sym (map_push entry_of h.processes record { start = suc h.given; place = k; standing = Running; at = beginning h.programs k }));
    cancels = λ p is e. ap (with_entries (view h)) (stood p.start (Withdrawing End) h.processes);
    steps = λ p is g a to n free o e. on_its h p is (performed h p false a to o) (noted_performed h p false a to (λ x. ap (keep_next (view h) p.start x) n) o);
    crosses = λ p is g a to n alone free o e. on_its h p is (performed h p true a to o) (noted_performed h p true a to (λ x. ap (keep_next (view h) p.start x) n) o);
    commits = λ p is g n free. on_its h p is (committing h p) (ap (λ l. record { programs = h.programs; entries = l; kept = map (committed_under p.start (suc h.committed)) h.log }) (struck_is p.start h.processes));
    takes_back = λ p is b z l free. on_its h p is (undone M h z) (ap (λ o. record { programs = h.programs; entries = map entry_of h.processes; kept = dropped h.log o }) (last_from_loose (last_of p.start h.log) z l));
    restarts = λ p is e none. on_its h p is (restarted h p) (ap (with_entries (view h)) (moved_is p.start Running (beginning h.programs p.place) h.processes));
    leaves = λ p is e none. on_its h p is (gone h p) (λ i. record { programs = h.programs; entries = struck_is p.start h.processes i; kept = all_kept p.start h.log (none_left M laws s h sound p is e none) i });
    turns = λ p is e none. on_its h p is (next_alternative h p) (ap (with_entries (view h)) (moved_is p.start (PastPivot Forward) (into (suc (alternative_of p.at)) p.at) h.processes));
  }
    where
      refused : (c : Call) (r : Refusal) → Noted h c (answered h (Err r))
      refused (loading k b w) r = refl
      refused (installing k t b o w) r = refl
      refused (opening k) r = refl
      refused (stepping n) r = unnoted (view h) (seek n (map entry_of h.processes)) (Err r) (λ e. refl)
      refused (cancelling n) r = refl
