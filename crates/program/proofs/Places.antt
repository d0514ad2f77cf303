-- A reader between two commands: one command more, and a refusal at its place.
use Rattle.std.proofs.Common.{◌≡◌, ℕ, ◌+◌, ◌-◌, ◌*◌, ◌<◌, ◌≤◌, List, [], ◌∷◌, ◌++◌, length, take, drop, set, sym, refl, ap, ◌∙◌, subst, arith, length-append, length-drop, take-append-drop, length-take-le, take-add}
use Rattle.std.proofs.lemmas.List.{take_all, take_more_set, drop_more, drop_all}
use Rattle.program.specs.declared.command.Command.{Command}
use Rattle.program.specs.declared.command.Command.TheVariants.{C, Open}
use Rattle.program.specs.declared.refusal.Fault.{Fault}
use Rattle.program.specs.declared.refusal.Fault.TheVariants.{TooLong, Misplaced, CutOff, TooManySteps, TooDeep, Trailing}
use Rattle.program.specs.declared.reader.Reader.{Reader}
use Rattle.program.specs.Grammar.{mark, written, bytes, Yields, Yielded}
use Rattle.program.specs.Places.{body_at}
use Rattle.program.specs.Refusals.{weight, step_count, Within, Whole, opened, Stands, Reason, Stuck, Refused, number_of}
use Rattle.program.specs.Contexts.{Context, in_body_at, nowhere, over, go}
use Rattle.program.specs.Reads.{text_of, commands_of, context, byte_at, Spelled, StepNext}
use Rattle.program.proofs.Trees.{goes_whole, goes_more, goes_begins, begins_goes, whole_goes}
use Rattle.program.proofs.ReadBack.{text_back}
use Rattle.program.proofs.Limits.{yields_of}
use Rattle.program.proofs.Counts.{bytes_more, count_more}

pub width : (c : Command) → length (written c) ≡ 1 + 3 * weight c
width (C s) = refl
width _ = refl

-- a reader that takes the command c at its place
module _ (r : Reader) (c : Command) (here : Spelled r c) where
  pub grown : take (r.len + 1) (set r.commands r.len c) ≡ commands_of r ++ c ∷ []
  grown = take_more_set r.commands r.len c (omega (arith, width c, r.long, r.room, r.inside, r.short, here.fits))

  pub split_on : take (r.at + length (written c)) (text_of r) ≡ bytes (take (r.len + 1) (set r.commands r.len c))
  split_on = take-add r.at (length (written c)) (text_of r) ∙ (λ i. r.split i ++ here.spelled i) ∙ sym (bytes_more (commands_of r) c) ∙ ap bytes (sym grown)

  pub counted : step_count (take (r.len + 1) (set r.commands r.len c)) ≡ r.steps + weight c
  counted = omega (arith, r.count, count_more (commands_of r) c, ap step_count grown)

pub somewhere : (st : Context) (c : Command) → (go st c ≡ nowhere → ⊥) → st ≡ nowhere → ⊥
somewhere st c h e = h (ap (λ s. go s c) e)

module _ (r : Reader) (some : context r ≡ nowhere → ⊥) where
  -- a refusal where no byte is left, and where there is one
  pub stuck : (f : Fault) (rest : List ℕ) → drop r.at (text_of r) ≡ rest → Reason f (commands_of r) rest → (cs : List Command) × (more : List ℕ) × Stuck (text_of r) f r.at cs more
  stuck f rest left reason = (
    commands_of r,
    rest,
    record {
      short = r.short;
      split = sym (take-append-drop r.at (text_of r)) ∙ (λ i. r.split i ++ left i);
      placed = sym (length-take-le r.at (text_of r) r.inside) ∙ ap length r.split;
      begins = goes_begins (commands_of r) some;
      within = r.within;
      reason = reason;
    },
  )

  pub unfinished : (context r ≡ over → ⊥) → Whole (commands_of r) → ⊥
  unfinished h w = h (whole_goes (commands_of r) w)

  pub none_left : length (text_of r) ≤ r.at → (context r ≡ over → ⊥) → Refused (text_of r) CutOff r.at
  none_left end more = stuck CutOff [] (drop_all r.at (text_of r) end) (unfinished more)

  module _ (here : r.at < length (text_of r)) where
    left : drop r.at (text_of r) ≡ byte_at r ∷ drop (r.at + 1) (text_of r)
    left = drop_more (text_of r) r.at 0 here

    pub misplaced : (context r ≡ over → ⊥) → ((c : Command) → mark c ≡ byte_at r → go (context r) c ≡ nowhere) → Refused (text_of r) Misplaced r.at
    misplaced more none = stuck Misplaced (byte_at r ∷ drop (r.at + 1) (text_of r)) left (
      unfinished more,
      λ c s. begins_goes (commands_of r ++ c ∷ []) s.begins (goes_more (in_body_at 0) (commands_of r) c ∙ none c s.marked),
    )

    pub stands : (c : Command) → mark c ≡ byte_at r → (go (context r) c ≡ nowhere → ⊥) → Stands (commands_of r) (byte_at r) c
    stands c m h = record { marked = m; begins = goes_begins (commands_of r ++ c ∷ []) (λ e. h (sym (goes_more (in_body_at 0) (commands_of r) c) ∙ e)) }

    pub trailing : context r ≡ over → Whole (commands_of r) → Refused (text_of r) Trailing r.at
    trailing end w = stuck Trailing (byte_at r ∷ drop (r.at + 1) (text_of r)) left w

    pub too_deep : mark Open ≡ byte_at r → (go (context r) Open ≡ nowhere → ⊥) → opened 0 (commands_of r) ≡ 4 → Refused (text_of r) TooDeep r.at
    too_deep m h four = stuck TooDeep (byte_at r ∷ drop (r.at + 1) (text_of r)) left (stands Open m h, four)

-- what a step command at the place can be refused for
module _ (r : Reader) (c : Command) (next : StepNext r c) where
  some : context r ≡ nowhere → ⊥
  some = somewhere (context r) c next.leads

  pub too_many : r.steps ≡ 32 → Refused (text_of r) TooManySteps r.at
  too_many e = stuck r some TooManySteps (byte_at r ∷ drop (r.at + 1) (text_of r)) (drop_more (text_of r) r.at 0 next.here) (c, stands r some next.here c next.letter next.leads, next.step, sym r.count ∙ e)

  pub cut_off : (r.steps ≡ 32 → ⊥) → length (text_of r) - r.at < 4 → Refused (text_of r) CutOff r.at
  cut_off e h =
      stuck r some CutOff (byte_at r ∷ drop (r.at + 1) (text_of r)) (drop_more (text_of r) r.at 0 next.here) (
        c,
        stands r some next.here c next.letter next.leads,
        next.step,
        omega (arith, r.count, r.within.few),
        simp length-drop (omega arith),
      )

-- a reader past the full stop
module _ (t : List ℕ) (r : Reader) (same : text_of r ≡ t) (end : context r ≡ over) where
  somewhere_else : context r ≡ nowhere → ⊥
  somewhere_else e = let a : over ≡ nowhere = sym end ∙ e in cc

  -- the commands read are those of a text that the grammar yields
  pub yielded : Yielded (commands_of r)
  yielded =
      let w = goes_whole (commands_of r) end in
      (w.0, w.1, yields_of (bytes (commands_of r)) w.0 (ap bytes w.1) (omega (arith, ap length r.split, length-take-le r.at (text_of r) r.inside, r.inside, r.short)) (subst Within w.1 r.within))

  pub finished : length t ≤ r.at → Yields t (body_at (commands_of r))
  finished h =
      let all : bytes (commands_of r) ≡ t = sym r.split ∙ take_all r.at (text_of r) (omega (arith, ap length same)) ∙ same in
      let back : yielded.0 ≡ body_at (commands_of r) = sym (ap body_at yielded.1 ∙ text_back yielded.0) in
      subst (λ b. Yields t b) back (subst (λ l. Yields l yielded.0) all yielded.2)

  pub followed : r.at < length t → Refused t Trailing r.at
  followed h =
      let here = subst (λ l. r.at < length l) (sym same) h in
      subst (λ l. Refused l Trailing r.at) same (trailing r somewhere_else here end (goes_whole (commands_of r) end))

-- a refusal stands within the 255 bytes, and its number is at most 6
stuck_place : (t : List ℕ) (f : Fault) (place : ℕ) (cs : List Command) (rest : List ℕ) → Stuck t f place cs rest → place ≤ 255
stuck_place t f place cs rest s = omega (arith, s.short, s.placed, ap length s.split ∙ length-append (bytes cs) rest)

pub refused_place : (t : List ℕ) (f : Fault) (place : ℕ) → Refused t f place → place ≤ 255
refused_place t TooLong place h = omega arith
refused_place t Misplaced place (cs, rest, s) = stuck_place t Misplaced place cs rest s
refused_place t CutOff place (cs, rest, s) = stuck_place t CutOff place cs rest s
refused_place t TooManySteps place (cs, rest, s) = stuck_place t TooManySteps place cs rest s
refused_place t TooDeep place (cs, rest, s) = stuck_place t TooDeep place cs rest s
refused_place t Trailing place (cs, rest, s) = stuck_place t Trailing place cs rest s

pub number_bound : (f : Fault) → number_of f ≤ 6
number_bound TooLong = omega arith
number_bound Misplaced = omega arith
number_bound CutOff = omega arith
number_bound TooManySteps = omega arith
number_bound TooDeep = omega arith
number_bound Trailing = omega arith
