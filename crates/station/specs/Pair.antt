-- What a pair of stations means.
use Rattle.std.specs.Prelude.{ℕ, ◌-◌, Bool, false, cond, Some, None, Option, nat_lt}
use Rattle.activity.specs.declared.Activity.{Activity}
use Rattle.station.specs.declared.pair.Half.{Half}
use Rattle.station.specs.declared.pair.Half.TheVariants.{First, Second}
use Rattle.station.specs.Meaning.{Meaning, lifted}

-- the state of a pair: one of each half
pub record Both (A B : Type 0) : Type 0 where
  pub first : A
  pub second : B

-- the half that a number belongs to, if any, with its number there
abbrev pub half : ℕ → Option Half
half n = cond (nat_lt n 32) (Some (First n)) (cond (nat_lt n 64) (Some (Second (n - 32))) None)

-- the same parameter under another number
abbrev pub numbered : ℕ → Activity → Activity
numbered n a = record { number = n; parameter = a.parameter }

abbrev pub with_first : {A B : Type 0} → Both A B → A → Both A B
with_first s t = record { first = t; second = s.second }

abbrev pub with_second : {A B : Type 0} → Both A B → B → Both A B
with_second s t = record { first = s.first; second = t }

module _ {A B : Type 0} (m : Meaning A) (n : Meaning B) where
  abbrev pub performed_in : Option Half → Both A B → Activity → Option (ℕ × Both A B)
  performed_in (Some (First k)) s a = lifted (with_first s) (m.performed s.first (numbered k a))
  performed_in (Some (Second k)) s a = lifted (with_second s) (n.performed s.second (numbered k a))
  performed_in None s a = None

  abbrev pub taken_back_in : Option Half → Both A B → Activity → ℕ → Both A B
  taken_back_in (Some (First k)) s a x = with_first s (m.taken_back s.first (numbered k a) x)
  taken_back_in (Some (Second k)) s a x = with_second s (n.taken_back s.second (numbered k a) x)
  taken_back_in None s a x = s

  abbrev pub compensatable_in : Option Half → Bool
  compensatable_in (Some (First k)) = m.compensatable k
  compensatable_in (Some (Second k)) = n.compensatable k
  compensatable_in None = false

  abbrev pub retriable_in : Option Half → Bool
  retriable_in (Some (First k)) = m.retriable k
  retriable_in (Some (Second k)) = n.retriable k
  retriable_in None = false

  -- the halves never conflict with one another
  abbrev pub conflict_in : Option Half → Option Half → Bool
  conflict_in (Some (First k)) (Some (First l)) = m.conflict k l
  conflict_in (Some (First k)) (Some (Second l)) = false
  conflict_in (Some (First k)) None = false
  conflict_in (Some (Second k)) (Some (First l)) = false
  conflict_in (Some (Second k)) (Some (Second l)) = n.conflict k l
  conflict_in (Some (Second k)) None = false
  conflict_in None h = false

  -- 0 to 31 belong to the first station, 32 to 63, less 32, to the second
  abbrev pub paired : Meaning (Both A B)
  paired = record {
    activities = 64;
    performed = λ s a. performed_in (half a.number) s a;
    taken_back = λ s a x. taken_back_in (half a.number) s a x;
    compensatable = λ k. compensatable_in (half k);
    retriable = λ k. retriable_in (half k);
    conflict = λ k l. conflict_in (half k) (half l);
  }
