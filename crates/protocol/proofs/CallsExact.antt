-- Each call comes to exactly one thing: what the function gives is what the relation allows.
use Rattle.std.proofs.Common.{◌≡◌, ℕ, suc, Bool, true, false, cond, not, eqb, ltb, leb, List, [], ◌∷◌, length, get_or, is_some, Some, None, Option, sym, refl, ap, ◌∙◌, subst, arith}
use Rattle.std.specs.List.{AllByRecursion, list_any}
use Rattle.std.proofs.lemmas.Bool.{false≢true, false_from_ne_true, both_ways, not-true, not_from_false, ltb-true, ltb-false, leb-true, leb-false, lt-ltb, le-ltb, le-leb, lt-leb, eqb-true, eq-eqb}
use Rattle.std.proofs.lemmas.Option.{none-some, same_Some}
use Rattle.station.specs.Meaning.{Meaning}
use Rattle.program.specs.declared.command.Kind.{Kind}
use Rattle.program.specs.declared.command.Kind.TheVariants.{Compensatable, Pivot, Retriable}
use Rattle.program.specs.declared.command.Step.{Step}
use Rattle.program.specs.Grammar.{Body, body_steps}
use Rattle.protocol.specs.Answer.{Answer}
use Rattle.protocol.specs.declared.answer.Refusal.{Refusal}
use Rattle.protocol.specs.declared.answer.Refusal.TheVariants.{NoPlace, Busy, NoActivity, WrongKind, NotLoaded, Full, NoNumber, NoRoom, LongList}
use Rattle.protocol.specs.declared.scan.Request.{Request}
use Rattle.protocol.specs.declared.standing.Standing.{Standing}
use Rattle.protocol.specs.declared.standing.Standing.TheVariants.{Running, Withdrawing, PastPivot}
use Rattle.std.specs.Bool.{then_some}
use Rattle.std.specs.Option.{option_or}
use Rattle.protocol.specs.Hall.{Process, Hall, find, Outcome, answered}
use Rattle.protocol.specs.StepFunction.{step_of}
use Rattle.protocol.specs.Call.{Call, IsProgram, loading, installing, opening, stepping, cancelling}
use Rattle.protocol.specs.CallFunction.{fits, fault, faults, refused_or, loaded, opened, cancel_by, cancel_of, outcome, Scan, one, scanned}
use Rattle.protocol.specs.Letters.{call_of, written}
use Rattle.protocol.specs.Comes.{OfKind, Fits, Unfit, no_such_activity, of_another_kind, further_on, Unused, IsLoaded, records_at_most, Comes, load_nowhere, load_busy, load_unfit, loads, install_no_program, installs, open_nowhere, open_not_loaded, open_full, open_no_number, open_no_room, opens, step_nobody, steps, cancel_nobody, cancel_past_pivot, cancel_withdrawing, cancels, WorksOne, known, unknown, Works, none_left, one_by_one, Scans, too_long, worked}
use Rattle.protocol.specs.Exact.{CallsExactly, ScansExactly}
use Rattle.protocol.proofs.Members.{some_any, in_any, any_none}
use Rattle.protocol.proofs.StepsExact.{exact}

module _ {S : Type 0} (M : Meaning S) where
  -- ---- which steps fit
  kind_fits : (k : Kind) (a : ℕ) → fits M k a ≡ true → OfKind M k a
  kind_fits Compensatable a e = e
  kind_fits Pivot a e = not-true (M.compensatable a) e
  kind_fits Retriable a e = e

  fits_kind : (k : Kind) (a : ℕ) → OfKind M k a → fits M k a ≡ true
  fits_kind Compensatable a e = e
  fits_kind Pivot a e = not_from_false (M.compensatable a) e
  fits_kind Retriable a e = e

  -- a step's two tests, and what is said of the steps after it
  abbrev checked : ℕ → Bool → Bool → Option Refusal → Option Refusal
  checked i absent fit rest = option_or (option_or (then_some absent (NoActivity i)) (then_some (not fit) (WrongKind i))) rest

  step_fits : (i : ℕ) (s : Step) (absent fit : Bool) → leb M.activities s.activity.number ≡ absent → fits M s.kind s.activity.number ≡ fit → (rest : Option Refusal) → checked i absent fit rest ≡ None → Fits M s × (rest ≡ None)
  step_fits i s true fit e f rest g = absurd (none-some _ (sym g))
  step_fits i s false false e f rest g = absurd (none-some _ (sym g))
  step_fits i s false true e f rest g = (record { exists = leb-false M.activities s.activity.number e; kind = kind_fits s.kind s.activity.number f }, g)

  all_fit : (i : ℕ) (ss : List Step) → faults M i ss ≡ None → AllByRecursion (Fits M) ss
  all_fit i [] e = tt
  all_fit i (s ∷ ss) e =
      let (here, rest) = step_fits i s (leb M.activities s.activity.number) (fits M s.kind s.activity.number) refl refl (faults M (suc i) ss) e in
      (here, all_fit (suc i) ss rest)

  first_unfit : (i : ℕ) (ss : List Step) (r : Refusal) → faults M i ss ≡ Some r → Unfit M i ss r
  first_unfit i [] r e = absurd (none-some _ e)
  first_unfit i (s ∷ ss) r e = go (first_unfit (suc i) ss r) (leb M.activities s.activity.number) (fits M s.kind s.activity.number) refl refl e
    where
      go : (faults M (suc i) ss ≡ Some r → Unfit M (suc i) ss r) → (absent fit : Bool) → leb M.activities s.activity.number ≡ absent → fits M s.kind s.activity.number ≡ fit → checked i absent fit (faults M (suc i) ss) ≡ Some r → Unfit M i (s ∷ ss) r
      go more true fit x y g = subst (Unfit M i (s ∷ ss)) (same_Some _ _ g) (no_such_activity (leb-true M.activities s.activity.number x))
      go more false false x y g = subst (Unfit M i (s ∷ ss)) (same_Some _ _ g) (of_another_kind (leb-false M.activities s.activity.number x) (λ k. both_ways (fits M s.kind s.activity.number) y (fits_kind s.kind s.activity.number k)))
      go more false true x y g = further_on (record { exists = leb-false M.activities s.activity.number x; kind = kind_fits s.kind s.activity.number y }) (more g)

  fit_checked : (i : ℕ) (s : Step) (rest : Option Refusal) → Fits M s → option_or (fault M i s) rest ≡ rest
  fit_checked i s rest f = λ j. checked i (lt-leb M.activities s.activity.number f.exists j) (fits_kind s.kind s.activity.number f.kind j) rest

  no_faults : (i : ℕ) (ss : List Step) → AllByRecursion (Fits M) ss → faults M i ss ≡ None
  no_faults i [] all = refl
  no_faults i (s ∷ ss) (f, all) = fit_checked i s (faults M (suc i) ss) f ∙ no_faults (suc i) ss all

  faulted : (i : ℕ) (ss : List Step) (r : Refusal) → Unfit M i ss r → faults M i ss ≡ Some r
  faulted i ss r (no_such_activity {s = s} {ss = rest} above) = λ j. checked i (le-leb M.activities s.activity.number above j) (fits M s.kind s.activity.number) (faults M (suc i) rest)
  faulted i ss r (of_another_kind {s = s} {ss = rest} below other) =
      let unfit : fits M s.kind s.activity.number ≡ false = false_from_ne_true (fits M s.kind s.activity.number) (λ e. other (kind_fits s.kind s.activity.number e)) in
      λ j. checked i (lt-leb M.activities s.activity.number below j) (unfit j) (faults M (suc i) rest)
  faulted i ss r (further_on {s = s} {ss = rest} f u) = fit_checked i s (faults M (suc i) rest) f ∙ faulted (suc i) rest r u

  module _ (h : Hall S) where
    abbrev Allowed : Call → Outcome S → Type 0
    Allowed c o = Comes M h c o.hall o.answer

    -- ---- loading
    module _ (k : ℕ) (b : Body) (w : IsProgram b) where
      abbrev runs_there : Process → Bool
      runs_there q = eqb q.place k

      abbrev load_by : Bool → Bool → Option Refusal → Outcome S
      load_by far busy unfit = refused_or h (option_or (then_some far NoPlace) (option_or (then_some busy Busy) unfit)) (loaded h k b)

      unused : list_any runs_there h.processes ≡ false → Unused M h k
      unused e q i at = both_ways (runs_there q) (any_none runs_there h.processes e q i) (eq-eqb q.place k at)

      used_not : Unused M h k → list_any runs_there h.processes ≡ false
      used_not u = false_from_ne_true (list_any runs_there h.processes) (λ e. let (q, i, t) = in_any runs_there h.processes e in u q i (eqb-true q.place k t))

      load_allowed : (far busy : Bool) (unfit : Option Refusal) → ltb 7 k ≡ far → list_any runs_there h.processes ≡ busy → faults M 0 (body_steps b) ≡ unfit → Allowed (loading k b w) (load_by far busy unfit)
      load_allowed true busy unfit e f g = load_nowhere (ltb-true 7 k e)
      load_allowed false true unfit e f g = let (q, i, t) = in_any runs_there h.processes f in load_busy q (ltb-false 7 k e) i (eqb-true q.place k t)
      load_allowed false false (Some r) e f g = load_unfit (ltb-false 7 k e) (unused f) (first_unfit 0 (body_steps b) r g)
      load_allowed false false None e f g = loads (ltb-false 7 k e) (unused f) (all_fit 0 (body_steps b) g)

      load_only : (g : Hall S) (a : Answer) → Comes M h (loading k b w) g a → answered g a ≡ load_by (ltb 7 k) (list_any runs_there h.processes) (faults M 0 (body_steps b))
      load_only g a (load_nowhere far) = λ j. load_by (sym (lt-ltb 7 k far) j) (list_any runs_there h.processes) (faults M 0 (body_steps b))
      load_only g a (load_busy q near i at) = λ j. load_by (sym (le-ltb 7 k near) j) (sym (some_any runs_there h.processes q i (eq-eqb q.place k at)) j) (faults M 0 (body_steps b))
      load_only g a (load_unfit {r = r} near u f) = λ j. load_by (sym (le-ltb 7 k near) j) (sym (used_not u) j) (sym (faulted 0 (body_steps b) r f) j)
      load_only g a (loads near u f) = λ j. load_by (sym (le-ltb 7 k near) j) (sym (used_not u) j) (sym (no_faults 0 (body_steps b) f) j)

    -- ---- opening
    module _ (k : ℕ) where
      abbrev at_place : Option Body
      at_place = get_or h.programs k None

      abbrev open_by : Bool → Bool → Bool → Bool → Bool → Outcome S
      open_by far there full last over =
          refused_or h (option_or (then_some far NoPlace) (option_or (then_some (not there) NotLoaded) (option_or (then_some full Full) (option_or (then_some last NoNumber) (then_some over NoRoom))))) (opened h k)

      is_loaded : (o : Option Body) → is_some o ≡ true → (b : Body) × (o ≡ Some b)
      is_loaded None e = absurd (false≢true e)
      is_loaded (Some b) e = (b, refl)

      loaded_some : IsLoaded M h k → is_some at_place ≡ true
      loaded_some (b, e) = ap is_some e

      not_loaded : (IsLoaded M h k → ⊥) → is_some at_place ≡ false
      not_loaded f = false_from_ne_true (is_some at_place) (λ e. f (is_loaded at_place e))

      open_allowed : (far there full last over : Bool) → ltb 7 k ≡ far → is_some at_place ≡ there → leb 16 (length h.processes) ≡ full → leb 65535 h.given ≡ last → ltb 1024 (records_at_most M h) ≡ over → Allowed (opening k) (open_by far there full last over)
      open_allowed true there full last over e f g n r = open_nowhere (ltb-true 7 k e)
      open_allowed false false full last over e f g n r = open_not_loaded (ltb-false 7 k e) (λ l. both_ways (is_some at_place) f (loaded_some l))
      open_allowed false true true last over e f g n r = open_full (ltb-false 7 k e) (is_loaded at_place f) (leb-true 16 (length h.processes) g)
      open_allowed false true false true over e f g n r = open_no_number (ltb-false 7 k e) (is_loaded at_place f) (leb-false 16 (length h.processes) g) (leb-true 65535 h.given n)
      open_allowed false true false false true e f g n r = open_no_room (ltb-false 7 k e) (is_loaded at_place f) (leb-false 16 (length h.processes) g) (leb-false 65535 h.given n) (ltb-true 1024 (records_at_most M h) r)
      open_allowed false true false false false e f g n r = opens (ltb-false 7 k e) (is_loaded at_place f) (leb-false 16 (length h.processes) g) (leb-false 65535 h.given n) (ltb-false 1024 (records_at_most M h) r)

      abbrev full_now : Bool
      full_now = leb 16 (length h.processes)

      abbrev last_now : Bool
      last_now = leb 65535 h.given

      abbrev over_now : Bool
      over_now = ltb 1024 (records_at_most M h)

      open_only : (g : Hall S) (a : Answer) → Comes M h (opening k) g a → answered g a ≡ open_by (ltb 7 k) (is_some at_place) full_now last_now over_now
      open_only g a (open_nowhere far) = λ j. open_by (sym (lt-ltb 7 k far) j) (is_some at_place) full_now last_now over_now
      open_only g a (open_not_loaded near l) = λ j. open_by (sym (le-ltb 7 k near) j) (sym (not_loaded l) j) full_now last_now over_now
      open_only g a (open_full near l f) = λ j. open_by (sym (le-ltb 7 k near) j) (sym (loaded_some l) j) (sym (le-leb 16 (length h.processes) f) j) last_now over_now
      open_only g a (open_no_number near l f n) = λ j. open_by (sym (le-ltb 7 k near) j) (sym (loaded_some l) j) (sym (lt-leb 16 (length h.processes) f) j) (sym (le-leb 65535 h.given n) j) over_now
      open_only g a (open_no_room near l f n r) = λ j. open_by (sym (le-ltb 7 k near) j) (sym (loaded_some l) j) (sym (lt-leb 16 (length h.processes) f) j) (sym (lt-leb 65535 h.given n) j) (sym (lt-ltb 1024 (records_at_most M h) r) j)
      open_only g a (opens near l f n r) = λ j. open_by (sym (le-ltb 7 k near) j) (sym (loaded_some l) j) (sym (lt-leb 16 (length h.processes) f) j) (sym (lt-leb 65535 h.given n) j) (sym (le-ltb 1024 (records_at_most M h) r) j)

    -- ---- stepping and cancelling
    module _ (n : ℕ) where
      step_allowed : (o : Option Process) → find n h.processes ≡ o → Allowed (stepping n) (step_of M h o)
      step_allowed None e = step_nobody e
      step_allowed (Some p) e = let x = exact M h p in subst (Comes M h (stepping n) (step_of M h (Some p)).hall) (sym x.answers) (steps e x.allowed)

      step_only : (g : Hall S) (a : Answer) → Comes M h (stepping n) g a → answered g a ≡ step_of M h (find n h.processes)
      step_only g a (step_nobody e) = ap (step_of M h) (sym e)
      step_only g a (steps {p = p} {t = t} e s) = (exact M h p).only g t s ∙ ap (step_of M h) (sym e)

      cancel_allowed : (o : Option Process) → find n h.processes ≡ o → Allowed (cancelling n) (cancel_of h o)
      cancel_allowed None e = cancel_nobody e
      cancel_allowed (Some p) e = go p.standing refl
        where
          go : (st : Standing) → p.standing ≡ st → Allowed (cancelling n) (cancel_by h p st)
          go Running f = cancels e f
          go (Withdrawing aim) f = cancel_withdrawing e f
          go (PastPivot d) f = cancel_past_pivot e f

      cancel_only : (g : Hall S) (a : Answer) → Comes M h (cancelling n) g a → answered g a ≡ cancel_of h (find n h.processes)
      cancel_only g a (cancel_nobody e) = ap (cancel_of h) (sym e)
      cancel_only g a (cancel_past_pivot {p = p} e f) = ap (cancel_by h p) (sym f) ∙ ap (cancel_of h) (sym e)
      cancel_only g a (cancel_withdrawing {p = p} e f) = ap (cancel_by h p) (sym f) ∙ ap (cancel_of h) (sym e)
      cancel_only g a (cancels {p = p} e f) = ap (cancel_by h p) (sym f) ∙ ap (cancel_of h) (sym e)

    allowed : (c : Call) → Allowed c (outcome M h c)
    allowed (loading k b w) = load_allowed k b w (ltb 7 k) (list_any (runs_there k b w) h.processes) (faults M 0 (body_steps b)) refl refl refl
    allowed (installing k t b None w) = installs (load_allowed k b (t, w) (ltb 7 k) (list_any (runs_there k b (t, w)) h.processes) (faults M 0 (body_steps b)) refl refl refl)
    allowed (installing k t b (Some e) w) = install_no_program
    allowed (opening k) = open_allowed k (ltb 7 k) (is_some (at_place k)) (full_now k) (last_now k) (over_now k) refl refl refl refl refl
    allowed (stepping n) = step_allowed n (find n h.processes) refl
    allowed (cancelling n) = cancel_allowed n (find n h.processes) refl

    only : (c : Call) (g : Hall S) (a : Answer) → Comes M h c g a → answered g a ≡ outcome M h c
    only (loading k b w) g a x = load_only k b w g a x
    only (installing k t b None w) g a (installs x) = load_only k b (t, w) g a x
    only (installing k t b (Some e) w) g a install_no_program = refl
    only (opening k) g a x = open_only k g a x
    only (stepping n) g a x = step_only n g a x
    only (cancelling n) g a x = cancel_only n g a x

  pub calls_exactly : CallsExactly M
  calls_exactly h c = record { allowed = allowed h c; only = only h c }

  -- ---- scan lists
  works_one : (h : Hall S) (r : Request) (o : Option Call) → call_of r ≡ o → WorksOne M h r (one M h o).hall (written r (one M h o).answer)
  works_one h r None e = unknown e
  works_one h r (Some c) e = known e (allowed h c)

  works : (h : Hall S) (rs : List Request) → Works M h rs (scanned M h rs).hall (scanned M h rs).records
  works h [] = none_left
  works h (r ∷ rs) = one_by_one (works_one h r (call_of r) refl) (works (one M h (call_of r)).hall rs)

  pub served : (h : Hall S) (rs : List Request) → (scanned M h rs).refusal ≡ None
  served h [] = refl
  served h (r ∷ rs) = served (one M h (call_of r)).hall rs

  one_only : (h : Hall S) (r : Request) (g : Hall S) (w : Request) → WorksOne M h r g w → (g ≡ (one M h (call_of r)).hall) × (w ≡ written r (one M h (call_of r)).answer)
  one_only h r g w (known {c = c} {a = a} e x) =
      let same = only h c g a x ∙ ap (one M h) (sym e) in
      (ap (λ o. o.hall) same, ap (λ o. written r o.answer) same)
  one_only h r g w (unknown e) = (ap (λ o. (one M h o).hall) (sym e), ap (λ o. written r (one M h o).answer) (sym e))

  works_only : (h : Hall S) (rs : List Request) (g : Hall S) (ws : List Request) → Works M h rs g ws → (g ≡ (scanned M h rs).hall) × (ws ≡ (scanned M h rs).records)
  works_only h rs g ws none_left = (refl, refl)
  works_only h rs g ws (one_by_one {m = m} {r = r} {w = w} {rs = rest} {ws = others} x more) =
      let first = one_only h r m w x in
      let (hall, records) = works_only m rest g others more in (
        hall ∙ ap (λ k. (scanned M k rest).hall) first.0,
        (λ j. first.1 j ∷ records j) ∙ ap (λ k. written r (one M h (call_of r)).answer ∷ (scanned M k rest).records) first.0,
      )

  abbrev by_length : Hall S → List Request → Bool → Scan S
  by_length h rs long = cond long record { hall = h; records = rs; refusal = Some LongList } (scanned M h rs)

  scan_allowed : (h : Hall S) (rs : List Request) (long : Bool) → ltb 64 (length rs) ≡ long → Scans M h rs (by_length h rs long).hall (by_length h rs long).records (by_length h rs long).refusal
  scan_allowed h rs true e = too_long (ltb-true 64 (length rs) e)
  scan_allowed h rs false e = subst (Scans M h rs (scanned M h rs).hall (scanned M h rs).records) (sym (served h rs)) (worked (ltb-false 64 (length rs) e) (works h rs))

  scan_only : (h : Hall S) (rs : List Request) (long : Bool) → ltb 64 (length rs) ≡ long → (g : Hall S) (ws : List Request) (o : Option Refusal) → Scans M h rs g ws o → (g ≡ (by_length h rs long).hall) × (ws ≡ (by_length h rs long).records) × (o ≡ (by_length h rs long).refusal)
  scan_only h rs true e g ws o (too_long above) = (refl, refl, refl)
  scan_only h rs true e g ws o (worked below x) = absurd (omega (arith, ltb-true 64 (length rs) e))
  scan_only h rs false e g ws o (too_long above) = absurd (omega (arith, ltb-false 64 (length rs) e))
  scan_only h rs false e g ws o (worked below x) = let (hall, records) = works_only h rs g ws x in (hall, records, sym (served h rs))

  pub scans_exactly : ScansExactly M
  scans_exactly h rs = record { allowed = scan_allowed h rs (ltb 64 (length rs)) refl; only = scan_only h rs (ltb 64 (length rs)) refl }
