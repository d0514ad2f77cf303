-- The book that is fed with what was told of a hall is the hall's own view: calls with their answers, scan lists by letters and numbers.
use Rattle.std.proofs.Common.{◌≡◌, ℕ, Bool, true, false, cond, eqb, ltb, List, [], ◌∷◌, length, Some, None, Option, sym, refl, ap, ◌∙◌, subst, Ok, Err}
use Rattle.station.specs.Meaning.{Meaning}
use Rattle.protocol.specs.Answer.{Answer}
use Rattle.protocol.specs.declared.answer.Served.TheVariants.{Loaded, Opened, Cancelled, Stepped}
use Rattle.protocol.specs.declared.answer.Refusal.{Refusal}
use Rattle.protocol.specs.declared.answer.Refusal.TheVariants.{LongList}
use Rattle.protocol.specs.declared.answer.Turn.{Turn}
use Rattle.protocol.specs.declared.answer.Turn.TheVariants as turns
use Rattle.protocol.specs.declared.scan.Request.{Request}
use Rattle.protocol.specs.declared.standing.Standing.{Standing}
use Rattle.protocol.specs.declared.standing.Standing.TheVariants.{Running, Withdrawing, PastPivot}
use Rattle.std.specs.Bool.{then_some}
use Rattle.std.specs.Option.{option_or}
use Rattle.protocol.specs.Means.{Laws}
use Rattle.protocol.specs.Hall.{Process, Hall, find}
use Rattle.protocol.specs.StepFunction.{step_of}
use Rattle.protocol.specs.Call.{Call, opening, stepping, cancelling, Event, call, scan}
use Rattle.protocol.specs.CallFunction.{refused_or, against_open, opened, cancel_by, cancel_of, outcome, one, scanned, after, after_all}
use Rattle.protocol.specs.Letters.{call_of, written}
use Rattle.protocol.specs.Book.{Book, seek, noted, answer_told, noted_if, noted_record, noted_records, scan_served, scan_refused, heard, book_of}
use Rattle.protocol.proofs.Computed.{tells, history}
use Rattle.protocol.proofs.Sound.{Sound}
use Rattle.protocol.proofs.SoundKept.{sound_outcome}
use Rattle.protocol.proofs.Books.{view, unnoted, noted_is}
use Rattle.protocol.proofs.StepsExact.{exact}

-- a call that a scan record can be, with an answer that it can have
pub data ScanCall : Call → Answer → Type 0 where
  open_served : {k n : ℕ} → ScanCall (opening k) (Ok (Opened n))
  step_served : {n : ℕ} {t : Turn} → ScanCall (stepping n) (Ok (Stepped t))
  cancel_served : {n : ℕ} → ScanCall (cancelling n) (Ok Cancelled)
  open_refused : {k : ℕ} {r : Refusal} → ScanCall (opening k) (Err r)
  step_refused : {n : ℕ} {r : Refusal} → ScanCall (stepping n) (Err r)
  cancel_refused : {n : ℕ} {r : Refusal} → ScanCall (cancelling n) (Err r)

-- the letter and the number that are written say as much as the answer
step_told : (b : Book) (n : ℕ) (t : Turn) (r : Request) → noted_if b (Some (stepping n)) (answer_told (written r (Ok (Stepped t))).letter (written r (Ok (Stepped t))).number) ≡ noted b (stepping n) (Ok (Stepped t))
step_told b n (turns.Done x) r = refl
step_told b n turns.Failed r = sym (unnoted b (seek n b.entries) (Ok (Stepped turns.Failed)) (λ e. refl))
step_told b n (turns.Wait m) r = sym (unnoted b (seek n b.entries) (Ok (Stepped (turns.Wait m))) (λ e. refl))
step_told b n (turns.Undone a) r = refl
step_told b n turns.Restarted r = refl
step_told b n turns.Gone r = refl
step_told b n (turns.Next k) r = refl
step_told b n (turns.Committed c) r = refl

told : (b : Book) (c : Call) (a : Answer) → ScanCall c a → (r : Request) → noted_if b (Some c) (answer_told (written r a).letter (written r a).number) ≡ noted b c a
told b c a open_served r = refl
told b c a (step_served {n} {t}) r = step_told b n t r
told b c a cancel_served r = refl
told b c a open_refused r = refl
told b c a (step_refused {n} {r = f}) r = sym (unnoted b (seek n b.entries) (Err f) (λ e. refl))
told b c a cancel_refused r = refl

-- a record keeps its kind and its operand
same_call : (r : Request) (a : Answer) → call_of (written r a) ≡ call_of r
same_call r (Ok Loaded) = refl
same_call r (Ok (Opened n)) = refl
same_call r (Ok Cancelled) = refl
same_call r (Ok (Stepped (turns.Done x))) = refl
same_call r (Ok (Stepped turns.Failed)) = refl
same_call r (Ok (Stepped (turns.Wait n))) = refl
same_call r (Ok (Stepped (turns.Undone x))) = refl
same_call r (Ok (Stepped turns.Restarted)) = refl
same_call r (Ok (Stepped turns.Gone)) = refl
same_call r (Ok (Stepped (turns.Next k))) = refl
same_call r (Ok (Stepped (turns.Committed c))) = refl
same_call r (Err f) = refl

-- a known kind is an opening, a step or a cancelling
abbrev by_kind : ℕ → Bool → Bool → Bool → Option Call
by_kind n o s x = option_or (then_some o (opening n)) (option_or (then_some s (stepping n)) (then_some x (cancelling n)))

module _ {S : Type 0} (M : Meaning S) where
  opens_scan : (h : Hall S) (k : ℕ) (o : Option Refusal) → ScanCall (opening k) (refused_or h o (opened h k)).answer
  opens_scan h k None = open_served
  opens_scan h k (Some r) = open_refused

  steps_scan : (h : Hall S) (n : ℕ) (o : Option Process) → ScanCall (stepping n) (step_of M h o).answer
  steps_scan h n None = step_refused
  steps_scan h n (Some p) = subst (ScanCall (stepping n)) (sym (exact M h p).answers) step_served

  cancels_scan : (h : Hall S) (n : ℕ) (o : Option Process) → ScanCall (cancelling n) (cancel_of h o).answer
  cancels_scan h n None = cancel_refused
  cancels_scan h n (Some p) = go p.standing
    where
      go : (st : Standing) → ScanCall (cancelling n) (cancel_by h p st).answer
      go Running = cancel_served
      go (Withdrawing aim) = cancel_refused
      go (PastPivot d) = cancel_refused

  module _ (laws : Laws M) (s : S) where
    record_by : (h : Hall S) → Sound M s h → (r : Request) (n : ℕ) (o t x : Bool) → noted_if (view h) (by_kind n o t x) (answer_told (written r (one M h (by_kind n o t x)).answer).letter (written r (one M h (by_kind n o t x)).answer).number) ≡ view (one M h (by_kind n o t x)).hall
    record_by h sound r n true t x = told (view h) (opening n) (outcome M h (opening n)).answer (opens_scan h n (against_open h n)) r ∙ noted_is M laws s h sound (opening n)
    record_by h sound r n false true x = told (view h) (stepping n) (outcome M h (stepping n)).answer (steps_scan h n (find n h.processes)) r ∙ noted_is M laws s h sound (stepping n)
    record_by h sound r n false false true = told (view h) (cancelling n) (outcome M h (cancelling n)).answer (cancels_scan h n (find n h.processes)) r ∙ noted_is M laws s h sound (cancelling n)
    record_by h sound r n false false false = refl

    record_is : (h : Hall S) → Sound M s h → (r : Request) → noted_record (view h) (written r (one M h (call_of r)).answer) ≡ view (one M h (call_of r)).hall
    record_is h sound r =
        let w = written r (one M h (call_of r)).answer in
        ap (λ c. noted_if (view h) c (answer_told w.letter w.number)) (same_call r (one M h (call_of r)).answer)
        ∙ record_by h sound r r.operand (eqb r.kind 79) (eqb r.kind 83) (eqb r.kind 88)

    sound_one : (h : Hall S) → Sound M s h → (o : Option Call) → Sound M s (one M h o).hall
    sound_one h sound None = sound
    sound_one h sound (Some c) = sound_outcome M laws s h sound c

    records_are : (h : Hall S) → Sound M s h → (rs : List Request) → noted_records (view h) (scanned M h rs).records ≡ view (scanned M h rs).hall
    records_are h sound [] = refl
    records_are h sound (r ∷ rs) =
        ap (λ b. noted_records b (scanned M (one M h (call_of r)).hall rs).records) (record_is h sound r)
        ∙ records_are (one M h (call_of r)).hall (sound_one h sound (call_of r)) rs

    sound_scanned : (h : Hall S) → Sound M s h → (rs : List Request) → Sound M s (scanned M h rs).hall
    sound_scanned h sound [] = sound
    sound_scanned h sound (r ∷ rs) = sound_scanned (one M h (call_of r)).hall (sound_one h sound (call_of r)) rs

    pub sound_event : (h : Hall S) → Sound M s h → (e : Event) → Sound M s (after M h e)
    sound_event h sound (call c) = sound_outcome M laws s h sound c
    sound_event h sound (scan rs) = go (ltb 64 (length rs))
      where
        go : (b : Bool) → Sound M s (cond b record { hall = h; records = rs; refusal = Some LongList } (scanned M h rs)).hall
        go true = sound
        go false = sound_scanned h sound rs

    event_is : (h : Hall S) → Sound M s h → (e : Event) → heard (view h) (tells M h e) ≡ view (after M h e)
    event_is h sound (call c) = noted_is M laws s h sound c
    event_is h sound (scan rs) = go (ltb 64 (length rs)) refl
      where
        go : (b : Bool) → ltb 64 (length rs) ≡ b → heard (view h) (cond b scan_refused (scan_served (cond b record { hall = h; records = rs; refusal = Some LongList } (scanned M h rs)).records)) ≡ view (cond b record { hall = h; records = rs; refusal = Some LongList } (scanned M h rs)).hall
        go true e = refl
        go false e = records_are h sound rs

    pub history_is : (h : Hall S) → Sound M s h → (es : List Event) → book_of (view h) (history M h es) ≡ view (after_all M h es)
    history_is h sound [] = refl
    history_is h sound (e ∷ es) = ap (λ b. book_of b (history M (after M h e) es)) (event_is h sound e) ∙ history_is (after M h e) (sound_event h sound e) es

    pub sound_events : (h : Hall S) → Sound M s h → (es : List Event) → Sound M s (after_all M h es)
    sound_events h sound [] = sound
    sound_events h sound (e ∷ es) = sound_events (after M h e) (sound_event h sound e) es
