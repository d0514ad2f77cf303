-- What a station's meaning says of records.
use Rattle.std.specs.Prelude.{◌≡◌, Bool, Some}
use Rattle.activity.specs.declared.Activity.{Activity}
use Rattle.serial.specs.Actions as serial
use Rattle.station.specs.Meaning.{Meaning, Restores, Commutes, Symmetric, AlwaysPossible, Bounded}
use Rattle.protocol.specs.declared.record.Record.{Record}

module _ {S : Type 0} where
  -- the activities of a station, as actions on its states
  abbrev pub actions : Meaning S → serial.Meaning Activity S
  actions M = record {
    does = λ a s. M.performed s a;
    undone = λ a x s. M.taken_back s a x;
    compensatable = λ a. M.compensatable a.number;
    conflict = λ a b. M.conflict a.number b.number;
  }

  -- the laws that a station's maker shows, together
  pub record Laws (M : Meaning S) : Type 0 where
    pub restores : Restores M
    pub commutes : Commutes M
    pub symmetric : Symmetric M
    pub retries : AlwaysPossible M
    pub bounded : Bounded M

  -- the record's step is possible at s, gives the answer that the record has, and leads to t
  abbrev pub Does : Meaning S → Record → S → S → Type 0
  Does M r s t = M.performed s r.activity ≡ Some (r.answer, t)

  -- two records conflict
  abbrev pub conflicting : Meaning S → Record → Record → Bool
  conflicting M a b = M.conflict a.activity.number b.activity.number
