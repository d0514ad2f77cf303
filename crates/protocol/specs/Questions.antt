-- Making, the questions, and closing.
use Rattle.std.specs.Prelude.{ℕ, length, Option}
use Rattle.std.specs.Option.{option_map}
use Rattle.program.specs.Places.{nth}
use Rattle.protocol.specs.declared.record.Record.{Record}
use Rattle.protocol.specs.declared.standing.Standing.{Standing}
use Rattle.protocol.specs.Log.{orderly}
use Rattle.protocol.specs.Hall.{Hall, fresh, find}

module _ {S : Type 0} where
  -- a hall is made over a station, with nothing in it
  abbrev pub made_over : S → Hall S
  made_over s = fresh s

  -- the kept step at a place, from 0, of the orderly run; none past the last
  abbrev pub kept_step : Hall S → ℕ → Option Record
  kept_step h i = nth (orderly h.log) i

  -- the standing of a start number; none if no active process has it
  abbrev pub standing_of : Hall S → ℕ → Option Standing
  standing_of h n = option_map (λ p. p.standing) (find n h.processes)

  -- closing gives back the station, and the number of active processes
  abbrev pub station_back : Hall S → S
  station_back h = h.station

  abbrev pub still_active : Hall S → ℕ
  still_active h = length h.processes
