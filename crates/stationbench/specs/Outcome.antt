-- What a line gives at a station, and what it does to it.
use Rattle.std.specs.Prelude.{cond, Some, None, nat_lt}
use Rattle.station.specs.Meaning.{Meaning, answer_of, state_after}
use Rattle.bench_lines.specs.declared.Line.{Line}
use Rattle.bench_lines.specs.declared.Line.TheVariants.{Blank, Perform, TakeBack, Conflict, Kinds, State}
use Rattle.stationbench.specs.declared.outcome.Outcome.{Outcome}
use Rattle.stationbench.specs.declared.outcome.Outcome.TheVariants as gives

module _ {S : Type 0} (m : Meaning S) where
  -- what is printed
  abbrev pub outcome_of : S → Line → Outcome
  outcome_of s Blank = gives.Nothing
  outcome_of s (Perform a) = gives.Performed (answer_of (m.performed s a))
  outcome_of s (TakeBack a x) = gives.TakenBack
  outcome_of s (Conflict a b) = gives.Conflict (m.conflict a b)
  outcome_of s (Kinds n) = gives.Kinds (cond (nat_lt n m.activities) (Some (record { compensatable = m.compensatable n; retriable = m.retriable n })) None)
  outcome_of s State = gives.State

  -- the state after it: only performing and taking back change it
  abbrev pub state_of : S → Line → S
  state_of s Blank = s
  state_of s (Perform a) = state_after s (m.performed s a)
  state_of s (TakeBack a x) = m.taken_back s a x
  state_of s (Conflict a b) = s
  state_of s (Kinds n) = s
  state_of s State = s
