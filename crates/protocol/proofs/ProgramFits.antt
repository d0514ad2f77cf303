-- What comes next fits.
use Rattle.std.proofs.Common.{◌≡◌, ℕ, zero, suc, true, false, List, [], ◌∷◌, ◌++◌, None, refl}
use Rattle.std.specs.List.{AllByRecursion}
use Rattle.std.proofs.lemmas.Bool.{true≢false, false≢true, not-false}
use Rattle.activity.specs.declared.Activity.{Activity}
use Rattle.protocol.specs.declared.standing.Aim.{Aim}
use Rattle.protocol.specs.declared.standing.Standing.{Standing}
use Rattle.protocol.specs.declared.standing.Direction.TheVariants.{Forward, Back}
use Rattle.protocol.specs.declared.standing.Standing.TheVariants.{Running, Withdrawing, PastPivot}
use Rattle.station.specs.Meaning.{Meaning}
use Rattle.program.specs.Grammar.{Body, finish, compensatable, pivot, Choices, row, or_else, body_steps, choices_steps, row_steps}
use Rattle.program.specs.Positions.{in_body, in_row, Position, outer, inner, alternative, into}
use Rattle.protocol.specs.Ahead.{Next, nothing, plain, crossing, next}
use Rattle.program.specs.declared.command.Step.{Step}
use Rattle.protocol.specs.Hall.{failed, Hall}
use Rattle.protocol.specs.CallFunction.{fits, fault, faults, against_load}
use Rattle.protocol.proofs.Objections.{neither, not_so, no_faults}
use Rattle.protocol.proofs.Sound.{FitsRow, FitsBody, FitsChoices, FitsRest, rowless, Placed}

module _ {S : Type 0} (M : Meaning S) where
  pub record Plain (st : Standing) (at : Position) (s : Activity) (to : Position) : Type 0 where
    pub placed : Placed M st to
    pub row : rowless to ≡ true → rowless at ≡ true
    pub comp : rowless to ≡ true → M.compensatable s.number ≡ true
    pub sure : rowless at ≡ false → M.retriable s.number ≡ true

  pub record Crossing (at to : Position) : Type 0 where
    pub placed : Placed M (PastPivot Forward) to
    pub row : rowless at ≡ true

  abbrev pub NextFits : Standing → Position → Next → Type 0
  NextFits st at nothing = Unit {0}
  NextFits st at (plain s to) = Plain st at s to
  NextFits st at (crossing s to) = Crossing at to

  pub alternative_fits : (c : Choices) (k : ℕ) → FitsChoices M c → FitsRest M (alternative c k)
  alternative_fits (row ss) k f = f
  alternative_fits (or_else b c) zero f = f.0
  alternative_fits (or_else b c) (suc k) f = alternative_fits c k f.1

  pub running_fits : (at : Position) → Placed M Running at → NextFits Running at (next at)
  running_fits (inner c k r) f = elim f [ ]
  running_fits (outer finish) f = tt
  running_fits (outer (compensatable s b)) f = record { placed = f.1; row = λ e. refl; comp = λ e. f.0; sure = λ e. absurd (true≢false e) }
  running_fits (outer (pivot s c)) f = record { placed = (f, alternative_fits c 0 f); row = refl }

  pub past_fits : (at : Position) → Placed M (PastPivot Forward) at → NextFits (PastPivot Forward) at (next at)
  past_fits (outer b) f = elim f [ ]
  past_fits (inner d k (in_body finish)) f = tt
  past_fits (inner d k (in_body (compensatable s b))) f = record { placed = (f.0, f.1.1); row = λ e. refl; comp = λ e. f.1.0; sure = λ e. absurd (true≢false e) }
  past_fits (inner d k (in_body (pivot s c))) f = record { placed = (f.1, alternative_fits c 0 f.1); row = refl }
  past_fits (inner d k (in_row [])) f = tt
  past_fits (inner d k (in_row (s ∷ ss))) f = record { placed = (f.0, f.1.1); row = λ e. absurd (false≢true e); comp = λ e. absurd (false≢true e); sure = λ e. f.1.0 }

  -- a step that was not possible
  pub failed_placed : (st : Standing) (at : Position) → Placed M st at → rowless at ≡ true → Placed M (failed st) at
  failed_placed Running (outer b) f e = tt
  failed_placed Running (inner c k r) f e = f
  failed_placed (Withdrawing aim) (outer b) f e = tt
  failed_placed (Withdrawing aim) (inner c k r) f e = f
  failed_placed (PastPivot way) (outer b) f e = f
  failed_placed (PastPivot Forward) (inner c k (in_body b)) f e = f.0
  failed_placed (PastPivot Back) (inner c k (in_body b)) f e = f
  failed_placed (PastPivot way) (inner c k (in_row ss)) f e = absurd (false≢true e)

  -- into the next alternative
  pub into_placed : (at : Position) (k : ℕ) → Placed M (PastPivot Back) at → Placed M (PastPivot Forward) (into k at)
  into_placed (outer b) k f = f
  into_placed (inner c j (in_body b)) k f = (f, alternative_fits c k f)
  into_placed (inner c j (in_row ss)) k f = elim f [ ]

  pub back_rowless : (at : Position) → Placed M (PastPivot Back) at → rowless at ≡ true
  back_rowless (outer b) f = refl
  back_rowless (inner c k (in_body b)) f = refl
  back_rowless (inner c k (in_row ss)) f = elim f [ ]

  pub withdrawing_rowless : (aim : Aim) (at : Position) → Placed M (Withdrawing aim) at → rowless at ≡ true
  withdrawing_rowless aim (outer b) f = refl
  withdrawing_rowless aim (inner c k r) f = elim f [ ]

  -- a program without faults fits
  slot_fits : (i : ℕ) (s : Step) → fault M i s ≡ None → fits M s.kind s.activity.number ≡ true
  slot_fits i s e = not-false _ (not_so _ _ (neither _ _ e).1)

  abbrev Faultless : List Step → Type 0
  Faultless ss = AllByRecursion (λ s. fits M s.kind s.activity.number ≡ true) ss

  pub faultless : (i : ℕ) (ss : List Step) → faults M i ss ≡ None → Faultless ss
  faultless i [] e = tt
  faultless i (s ∷ ss) e = let (a, b) = neither (fault M i s) (faults M (suc i) ss) e in (slot_fits i s a, faultless (suc i) ss b)

  split : (xs ys : List Step) → Faultless (xs ++ ys) → Faultless xs × Faultless ys
  split [] ys f = (tt, f)
  split (x ∷ xs) ys f = let (a, b) = split xs ys f.1 in ((f.0, a), b)

  row_fits : (ss : List Activity) → Faultless (row_steps ss) → FitsRow M ss
  row_fits [] f = tt
  row_fits (s ∷ ss) f = (f.0, row_fits ss f.1)

  mutual
    pub body_fits : (b : Body) → Faultless (body_steps b) → FitsBody M b
    body_fits finish f = tt
    body_fits (compensatable s b) f = (f.0, body_fits b f.1)
    body_fits (pivot s c) f = choices_fit c f.1

    choices_fit : (c : Choices) → Faultless (choices_steps c) → FitsChoices M c
    choices_fit (row ss) f = row_fits ss f
    choices_fit (or_else b c) f = (body_fits b (split (body_steps b) (choices_steps c) f).0, choices_fit c (split (body_steps b) (choices_steps c) f).1)

  pub load_fits : (h : Hall S) (k : ℕ) (p : Body) → against_load M h k p ≡ None → FitsBody M p
  load_fits h k p e = body_fits p (faultless 0 (body_steps p) (no_faults M h k p e))
