-- What the activities of the early bag store mean.
use Rattle.std.specs.Prelude.{ℕ, ◌+◌, ◌-◌, ◌≤◌, Bool, true, false, cond, List, [], ◌∷◌, Some, None, Option, ◌==◌, slice_get}
use Rattle.std.proofs.Common.{zero-le}
use Rattle.std.proofs.Math.Decide.{dec_le}
use Rattle.std.specs.Option.{unwrap_or, option_map}
use Rattle.station.specs.Meaning.{Meaning}
use Rattle.baggage.specs.Tabled.{Listing}
use Rattle.baggage.specs.declared.row.Row.{Row}
use Rattle.baggage.specs.Cell.{CellMeaning}
use Rattle.baggage.specs.Row.{first_row, in_row}
use Rattle.baggage.specs.declared.lanes.LaneCount.{LaneCount}
use Rattle.baggage.specs.declared.lanes.Lane.{Lane}
use Rattle.baggage.specs.declared.lanes.LaneActivity.{LaneActivity}
use Rattle.baggage.specs.declared.lanes.LaneActivity.TheVariants.{Take, Give, Count, Send, Flag}

-- ---- one lane

-- the count of n bags: none is over 200
abbrev pub within : (n : ℕ) → Dec (n ≤ 200) → Option LaneCount
within n (yes h) = Some (record { value = n; bounded = h })
within n (no h) = None

abbrev pub counted : ℕ → Option LaneCount
counted n = within n (dec_le n 200)

-- one bag more, unless there are 200, and one less, unless there is none
abbrev pub raised : LaneCount → Option LaneCount
raised c = counted (c.value + 1)

abbrev pub lowered : LaneCount → Option LaneCount
lowered c = cond (c.value == 0) None (counted (c.value - 1))

abbrev pub with_count : Lane → LaneCount → Lane
with_count l c = record { count = c; flag = l.flag }

-- the lane with another count, and the answer 0
abbrev pub recounted : Lane → Option LaneCount → Option (ℕ × Lane)
recounted l None = None
recounted l (Some c) = Some (0, with_count l c)

abbrev pub flagged : Lane → Lane
flagged l = record { count = l.count; flag = true }

-- what an activity does to its lane
abbrev pub on_lane : LaneActivity → Lane → Option (ℕ × Lane)
on_lane Take l = recounted l (raised l.count)
on_lane Give l = recounted l (lowered l.count)
on_lane Count l = Some (l.count.value, l)
on_lane Send l = recounted l (lowered l.count)
on_lane Flag l = Some (0, flagged l)

-- what taking it back does: a take lowers a count over 0, a give raises a count under 200
abbrev pub off_lane : LaneActivity → Lane → Lane
off_lane Take l = with_count l (unwrap_or (lowered l.count) l.count)
off_lane Give l = with_count l (unwrap_or (raised l.count) l.count)
off_lane Count l = l
off_lane Send l = l
off_lane Flag l = l

-- counting and flagging are possible where there is no such lane too
abbrev pub anywhere : LaneActivity → Bool
anywhere Take = false
anywhere Give = false
anywhere Count = true
anywhere Send = false
anywhere Flag = true

-- the activities, by number
abbrev pub names : List LaneActivity
names = Take ∷ Give ∷ Count ∷ Send ∷ Flag ∷ []

abbrev pub lanes_listing : Listing
lanes_listing = record {
  compensatables = 0 ∷ 1 ∷ 2 ∷ [];
  retriables = 2 ∷ 4 ∷ [];
  conflicts = (0, 1) ∷ (0, 2) ∷ (0, 3) ∷ (1, 2) ∷ (2, 3) ∷ [];
}

abbrev pub empty_lane : Lane
empty_lane = record { count = record { value = 0; bounded = zero-le }; flag = false }

-- the parameter is the lane
abbrev pub lane_meaning : CellMeaning Lane LaneActivity
lane_meaning = record {
  first = empty_lane;
  names = names;
  listing = lanes_listing;
  place = λ p. p;
  performed = λ k p l. on_lane k l;
  taken_back = λ k x l. off_lane k l;
  anywhere = anywhere;
}

-- ---- the sixteen lanes

abbrev pub Lanes : Type 0
Lanes = Row Lane 16

abbrev pub lanes_meaning : Meaning Lanes
lanes_meaning = in_row lane_meaning 16

-- the lanes at first
abbrev pub first_lanes : Lanes
first_lanes = first_row lane_meaning 16

-- a lane's count and flag, where there is such a lane
abbrev pub count_at : Lanes → ℕ → Option ℕ
count_at s i = option_map (λ l. l.count.value) (slice_get s.cells i)

abbrev pub flag_at : Lanes → ℕ → Option Bool
flag_at s i = option_map (λ l. l.flag) (slice_get s.cells i)
