-- What can stand where, and what one part of the reader hands to the next.
use Rattle.std.proofs.Common.{◌≡◌, ℕ, zero, suc, ◌+◌, ◌<◌, ◌≤◌, [], ◌∷◌, ◌++◌, length, sym, refl, ap, ◌∙◌, subst, add-one, arith}
use Rattle.activity.specs.declared.Activity.{Activity}
use Rattle.program.specs.declared.command.Kind.{Kind}
use Rattle.program.specs.declared.command.Kind.TheVariants.{Compensatable, Pivot, Retriable}
use Rattle.program.specs.declared.command.Command.{Command}
use Rattle.program.specs.declared.command.Command.TheVariants.{C, P, R, Open, Bar, Close, Stop}
use Rattle.program.specs.declared.refusal.Fault.TheVariants.{Misplaced, CutOff, TooDeep}
use Rattle.program.specs.declared.reader.Reader.{Reader}
use Rattle.program.specs.Grammar.{mark, letter_of, command_of}
use Rattle.program.specs.Refusals.{weight, Within, opened, open_after, Refused}
use Rattle.program.specs.Contexts.{Context, in_body_at, at_pivot, at_choice, in_row_at, nowhere, over, end_mark, go, goes}
use Rattle.program.specs.Reads.{text_of, commands_of, context, byte_at, Pushed, Only, KindNext, Stepped, StepsNext, MarkNext, Passed, Ready, BodyNext, RowNext, Moved}
use Rattle.program.proofs.Places.{width, somewhere, none_left, misplaced, too_deep}
use Rattle.program.proofs.Trees.{goes_more, level_of, opened_level, body_ends}
use Rattle.program.proofs.Counts.{count_more, opened_peak, peak_more}

pub only_body : (n x : ℕ) (c : Command) → mark c ≡ x → (x ≡ 67 → ⊥) → (x ≡ 80 → ⊥) → (x ≡ mark (end_mark n) → ⊥) → go (in_body_at n) c ≡ nowhere
only_body n x (C s) e h k l = absurd (h (sym e))
only_body n x (P s) e h k l = absurd (k (sym e))
only_body zero x Stop e h k l = absurd (l (sym e))
only_body (suc n) x Bar e h k l = absurd (l (sym e))
only_body zero x _ e h k l = refl
only_body (suc n) x _ e h k l = refl

only_pivot : (n x : ℕ) (c : Command) → mark c ≡ x → (x ≡ 91 → ⊥) → go (at_pivot n) c ≡ nowhere
only_pivot n x Open e h = absurd (h (sym e))
only_pivot n x _ e h = refl

pub only_row : (n x : ℕ) (c : Command) → mark c ≡ x → (x ≡ 82 → ⊥) → (x ≡ 93 → ⊥) → go (in_row_at n) c ≡ nowhere
only_row n x (R s) e h k = absurd (h (sym e))
only_row n x Close e h k = absurd (k (sym e))
only_row n x _ e h k = refl

only_choice : (n x : ℕ) (c : Command) → mark c ≡ x → (x ≡ 67 → ⊥) → (x ≡ 80 → ⊥) → (x ≡ 82 → ⊥) → (x ≡ 93 → ⊥) → (x ≡ 124 → ⊥) → go (at_choice n) c ≡ nowhere
only_choice n x (C s) e hc hp hr hk hb = absurd (hc (sym e))
only_choice n x (P s) e hc hp hr hk hb = absurd (hp (sym e))
only_choice n x (R s) e hc hp hr hk hb = absurd (hr (sym e))
only_choice n x Bar e hc hp hr hk hb = absurd (hb (sym e))
only_choice n x Close e hc hp hr hk hb = absurd (hk (sym e))
only_choice n x _ e hc hp hr hk hb = refl

module _ (r : Reader) (n : ℕ) where
  by : {st st' : Context} (c : Command) → context r ≡ st → go st c ≡ st' → go (context r) c ≡ st'
  by c e f = ap (λ s. go s c) e ∙ f

  pub body_goes_on : context r ≡ in_body_at n → BodyNext r n
  body_goes_on e = record {
    on_c = λ s. by (C s) e refl;
    on_p = λ s. by (P s) e refl;
    ends = by (end_mark n) e (body_ends n);
    others = λ here h k c m l. by c e (only_body n (byte_at r) c m h k l);
  }

  pub row_goes_on : context r ≡ in_row_at n → RowNext r n
  row_goes_on e = record {
    on_r = λ s. by (R s) e refl;
    ends = by Close e refl;
    others = λ here h c m l. by c e (only_row n (byte_at r) c m h l);
  }

  -- where neither a row nor the end of the choices stands, a body begins
  pub choice_goes_on : context r ≡ at_choice n → (r.at < length (text_of r) → byte_at r ≡ 82 → ⊥) → (r.at < length (text_of r) → byte_at r ≡ 93 → ⊥) → BodyNext r (n + 1)
  choice_goes_on e hr hk = subst (BodyNext r) (sym (add-one n)) (record {
    on_c = λ s. by (C s) e refl;
    on_p = λ s. by (P s) e refl;
    ends = by Bar e refl;
    others = λ here hc hp c m l. by c e (only_choice n (byte_at r) c m hc hp (hr here) (hk here) l);
  })

  pub at_open : context r ≡ at_pivot n → Only r Open
  at_open e c m l = by c e (only_pivot n (byte_at r) c m l)

step_weight : (k : Kind) (s : Activity) → weight (command_of k s) ≡ 1
step_weight Compensatable s = refl
step_weight _ s = refl

step_opens : (k : Kind) (s : Activity) (n : ℕ) → open_after n (command_of k s) ≡ n
step_opens Compensatable s n = refl
step_opens _ s n = refl

module _ (r : Reader) where
  low : opened 0 (commands_of r) ≤ 4
  low = omega (arith, opened_peak 0 (commands_of r), r.within.shallow)

  level : (context r ≡ nowhere → ⊥) → opened 0 (commands_of r) ≡ level_of (context r)
  level some = opened_level (commands_of r) (in_body_at 0) some

  pub choice_level : (n : ℕ) → context r ≡ at_choice n → n < 4
  choice_level n e =
      let f = level (λ z. cc) ∙ ap level_of e in
      omega (arith, low)

  -- a mark that stands at the place keeps the limits
  pub mark_within : (m : Command) → MarkNext r m → r.at < length (text_of r) → byte_at r ≡ mark m → Within (commands_of r ++ m ∷ [])
  mark_within m next here is = record {
    few = omega (arith, count_more (commands_of r) m, next.plain, r.within.few);
    shallow = peak_more 0 (commands_of r) m r.within.shallow (next.low here is);
  }

  -- so does a step where there were fewer than 32
  pub step_within : (k : Kind) (s : Activity) → r.steps < 32 → Within (commands_of r ++ command_of k s ∷ [])
  step_within k s few = record {
    few = omega (arith, count_more (commands_of r) (command_of k s), step_weight k s, r.count);
    shallow = peak_more 0 (commands_of r) (command_of k s) r.within.shallow (omega (arith, step_opens k s (opened 0 (commands_of r)), low));
  }

  -- the mark that a part leaves to its caller, where it is no opening bracket
  pub ready_next : (m : Command) (st : Context) → Ready r m st → (st ≡ nowhere → ⊥) → weight m ≡ 0 → open_after (opened 0 (commands_of r)) m ≤ opened 0 (commands_of r) → MarkNext r m
  ready_next m st ready some w h = record {
    plain = w;
    leads = λ e. some (sym ready.leads ∙ e);
    low = λ here is. omega (arith, low);
    only = ready.only;
  }

pushed_context : (r r' : Reader) (c : Command) → Pushed r r' c → context r' ≡ go (context r) c
pushed_context r r' c p = ap (goes (in_body_at 0)) p.grown ∙ goes_more (in_body_at 0) (commands_of r) c

-- a reader that has taken a command has read it, and moved
pub pushed_on : (r r' : Reader) (c : Command) → Pushed r r' c → Moved r r' × Passed r r' c
pushed_on r r' c p = (
  record { same = p.same; forward = omega (arith, p.place) },
  record { stands = pushed_context r r' c p; further = omega (arith, p.place, width c) },
)

pub moved_more : (r r' r'' : Reader) → Moved r r' → Moved r' r'' → Moved r r''
moved_more r r' r'' m n = record { same = n.same ∙ m.same; forward = omega (arith, m.forward, n.forward) }

-- a step of a row that may begin or go on can stand at the place where its letter does
pub steps_next : (k : Kind) (r : Reader) (n : ℕ) → StepsNext k r n → r.at < length (text_of r) → byte_at r ≡ letter_of k → KindNext r k
steps_next Compensatable r n next here is s = record { here = here; letter = sym is; step = refl; leads = λ e. let f : in_body_at n ≡ nowhere = sym (next.on_c s) ∙ e in cc }
steps_next Pivot r n next here is s = absurd next
steps_next Retriable r n next here is s = record { here = here; letter = sym is; step = refl; leads = λ e. let f : in_row_at n ≡ nowhere = sym (next.on_r s) ∙ e in cc }

-- and the row goes on after it
pub steps_on : (k : Kind) (r r' : Reader) (n : ℕ) → StepsNext k r n → Stepped r r' k → StepsNext k r' n
steps_on Compensatable r r' n next (s, p) = body_goes_on r' n (p.stands ∙ next.on_c s)
steps_on Pivot r r' n next p = next
steps_on Retriable r r' n next (s, p) = row_goes_on r' n (p.stands ∙ next.on_r s)

-- what stands where only the mark m can stand, and does not
module _ (r : Reader) (m : Command) (next : MarkNext r m) where
  more : context r ≡ over → ⊥
  more e = next.leads (ap (λ st. go st m) e)

  pub mark_refused : r.at < length (text_of r) → (byte_at r ≡ mark m → ⊥) → Refused (text_of r) Misplaced r.at
  mark_refused here other = misplaced r (somewhere _ m next.leads) here more (λ k l. next.only here k l other)

  pub end_refused : length (text_of r) ≤ r.at → Refused (text_of r) CutOff r.at
  end_refused end = none_left r (somewhere _ m next.leads) end more

-- the opening bracket after a pivot
module _ (r : Reader) (n : ℕ) (e : context r ≡ at_pivot n) where
  opens : go (context r) Open ≡ nowhere → ⊥
  opens z = let f : at_choice n ≡ nowhere = sym (ap (λ st. go st Open) e) ∙ z in cc

  deep : opened 0 (commands_of r) ≡ n
  deep = level r (somewhere (context r) Open opens) ∙ ap level_of e

  pub open_next : (r.at < length (text_of r) → byte_at r ≡ 91 → n < 4) → MarkNext r Open
  open_next h = record {
    plain = refl;
    leads = opens;
    low = λ here is. omega (arith, h here is, deep);
    only = λ here. at_open r n e;
  }

  pub fifth_bracket : 4 ≤ n → r.at < length (text_of r) → byte_at r ≡ 91 → Refused (text_of r) TooDeep r.at
  fifth_bracket h here is = too_deep r (somewhere (context r) Open opens) here (sym is) opens (omega (arith, deep, low r))
