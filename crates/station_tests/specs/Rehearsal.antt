-- What is left of a station after an activity was performed and taken back at once.
use Rattle.std.specs.Prelude.{ℕ, Some, None, Option}
use Rattle.activity.specs.declared.Activity.{Activity}
use Rattle.station.specs.Meaning.{Meaning}

-- the state to which taking back leads from where performing led, and the one before where the activity is not possible
abbrev pub rehearsed_state : {S : Type 0} → Meaning S → S → Activity → Option (ℕ × S) → S
rehearsed_state m s a None = s
rehearsed_state m s a (Some (x, t)) = m.taken_back t a x
