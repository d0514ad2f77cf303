-- What holds of the run that the functions compute holds of every run, since there is no other.
use Rattle.std.proofs.Common.{◌≡◌, ◌≤◌, Bool, true, false, cond, ltb, List, [], ◌∷◌, ◌++◌, length, Some, sym, refl, ap, ◌∙◌, subst}
use Rattle.station.specs.Meaning.{Meaning}
use Rattle.protocol.specs.declared.answer.Refusal.TheVariants.{LongList}
use Rattle.protocol.specs.declared.scan.Request.{Request}
use Rattle.protocol.specs.Means.{Laws}
use Rattle.protocol.specs.Hall.{Hall, fresh}
use Rattle.protocol.specs.Call.{Event, call, scan}
use Rattle.protocol.specs.CallFunction.{outcome, scanned, scan_outcome, after, after_all}
use Rattle.protocol.specs.Book.{Told, called, scan_served, scan_refused}
use Rattle.protocol.specs.Statements.{Runs, no_more, by_call, by_scan, scan_told, RunsExactly, Agree, Agrees, Fixed, Stays}
use Rattle.protocol.specs.Room.{HasRoom, Bounded, StaysBounded}
use Rattle.protocol.proofs.Computed.{tells, history}
use Rattle.protocol.proofs.CallsExact.{calls_exactly, scans_exactly, served}
use Rattle.protocol.proofs.Promise as promise
use Rattle.protocol.proofs.TablesHeld.{always_held, held_few}

module _ {S : Type 0} (M : Meaning S) where
  told_is : (h : Hall S) (rs : List Request) → scan_told (scan_outcome M h rs).records (scan_outcome M h rs).refusal ≡ tells M h (scan rs)
  told_is h rs = go (ltb 64 (length rs))
    where
      go : (long : Bool) → scan_told (cond long record { hall = h; records = rs; refusal = Some LongList } (scanned M h rs)).records (cond long record { hall = h; records = rs; refusal = Some LongList } (scanned M h rs)).refusal ≡ cond long scan_refused (scan_served (cond long record { hall = h; records = rs; refusal = Some LongList } (scanned M h rs)).records)
      go true = refl
      go false = ap (scan_told (scanned M h rs).records) (served M h rs)

  pub computed_runs : (h : Hall S) (es : List Event) → Runs M h es (history M h es) (after_all M h es)
  computed_runs h [] = no_more
  computed_runs h (call c ∷ es) = by_call (calls_exactly M h c).allowed (computed_runs (outcome M h c).hall es)
  computed_runs h (scan rs ∷ es) = subst (λ t. Runs M h (scan rs ∷ es) (t ∷ history M (after M h (scan rs)) es) (after_all M h (scan rs ∷ es))) (told_is h rs) (by_scan (scans_exactly M h rs).allowed (computed_runs (scan_outcome M h rs).hall es))

  pub only_computed : (h : Hall S) (es : List Event) (ts : List Told) (g : Hall S) → Runs M h es ts g → (ts ≡ history M h es) × (g ≡ after_all M h es)
  only_computed h es ts g no_more = (refl, refl)
  only_computed h es ts g (by_call {m = m} {c = c} {a = a} {es = rest} {ts = told} x more) =
      let same = (calls_exactly M h c).only m a x in
      let (tells-so, ends_so) = only_computed m rest told g more in (
        (λ j. called c (same j).answer ∷ tells-so j) ∙ ap (λ k. called c (outcome M h c).answer ∷ history M k rest) (ap (λ o. o.hall) same),
        ends_so ∙ ap (λ o. after_all M o.hall rest) same,
      )
  only_computed h es ts g (by_scan {m = m} {rs = rs} {ws = ws} {o = o} {es = rest} {ts = told} x more) =
      let (hall, records, refusal) = (scans_exactly M h rs).only m ws o x in
      let (tells-so, ends_so) = only_computed m rest told g more in
      let told-so : scan_told ws o ≡ tells M h (scan rs) = (λ j. scan_told (records j) (refusal j)) ∙ told_is h rs in (
        (λ j. told-so j ∷ tells-so j) ∙ ap (λ k. tells M h (scan rs) ∷ history M k rest) hall,
        ends_so ∙ ap (λ k. after_all M k rest) hall,
      )

  pub runs_exactly : RunsExactly M
  runs_exactly h es = record { told = history M h es; end = after_all M h es; run = computed_runs h es; only = only_computed h es }

  pub has_room : HasRoom M
  has_room s es ts h r = subst (λ g. length g.log ≤ 1024) (sym (only_computed (fresh s) es ts h r).1) (held_few _ (always_held M s es))

  pub stays_bounded : StaysBounded M
  stays_bounded s es ts h r = subst Bounded (sym (only_computed (fresh s) es ts h r).1) (always_held M s es).bounded

  history_append : (h : Hall S) (es more : List Event) → history M h es ++ history M (after_all M h es) more ≡ history M h (es ++ more)
  history_append h [] more = refl
  history_append h (e ∷ es) more = ap (λ l. tells M h e ∷ l) (history_append (after M h e) es more)

  module _ (laws : Laws M) where
    pub agrees : Agrees M
    agrees s es ts h r =
        let (told, end) = only_computed (fresh s) es ts h r in
        subst (λ l. Agree M s l h) (sym told) (subst (Agree M s (history M (fresh s) es)) (sym end) (promise.agrees M laws s es))

    pub stays : Stays M
    stays s es ts h r more us g q n =
        let (told, end) = only_computed (fresh s) es ts h r in
        let (later, last) = only_computed h more us g q in
        let all : ts ++ us ≡ history M (fresh s) (es ++ more) = (λ j. told j ++ later j) ∙ ap (λ k. history M (fresh s) es ++ history M k more) end ∙ history_append (fresh s) es more in
        subst (λ l. Fixed l (ts ++ us) n) (sym told) (subst (λ l. Fixed (history M (fresh s) es) l n) (sym all) (promise.stays M laws s es more n))
