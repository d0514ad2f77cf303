-- What a renumbered station means.
use Rattle.std.specs.Prelude.{ℕ, ◌+◌, ◌%◌}
use Rattle.activity.specs.declared.Activity.{Activity}
use Rattle.station.specs.Meaning.{Meaning, lifted}

-- the state of a renumbered station: that of the station below, and the number that is added
pub record Renumbered (S : Type 0) : Type 0 where
  pub inner : S
  pub offset : ℕ

-- the activity with n added to its parameter, modulo 65,536
abbrev pub shifted_by : ℕ → Activity → Activity
shifted_by n a = record { number = a.number; parameter = (a.parameter + n) % 65536 }

-- the same number over another state below
abbrev pub with_inner : {S : Type 0} → Renumbered S → S → Renumbered S
with_inner s t = record { inner = t; offset = s.offset }

-- each activity is that of the station below, at the shifted parameter; the catalogue is the station's below
abbrev pub renumbered : {S : Type 0} → Meaning S → Meaning (Renumbered S)
renumbered m = record {
  activities = m.activities;
  performed = λ s a. lifted (with_inner s) (m.performed s.inner (shifted_by s.offset a));
  taken_back = λ s a x. with_inner s (m.taken_back s.inner (shifted_by s.offset a) x);
  compensatable = m.compensatable;
  retriable = m.retriable;
  conflict = m.conflict;
}
