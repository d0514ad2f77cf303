-- A station that is a row of cells: each activity works on the one cell that its parameter names.
use Rattle.std.specs.Prelude.{ℕ, replicate, slice_get, slice_set}
use Rattle.std.proofs.Common.{◌∙◌, length-set}
use Rattle.std.proofs.lemmas.List.{length-replicate}
use Rattle.station.specs.Meaning.{Meaning}
use Rattle.baggage.specs.declared.row.Row.{Row}
use Rattle.baggage.specs.Cell.{CellMeaning}
use Rattle.baggage.specs.Cells.{on_found}

-- the row at first
unfoldable pub first_row : {C K : Type 0} → CellMeaning C K → (N : ℕ) → Row C N
first_row m N = record { cells = replicate N m.first; full = length-replicate N m.first }

-- a row with another cell at a place
unfoldable pub with_cell : {C : Type 0} {N : ℕ} → Row C N → ℕ → C → Row C N
with_cell s i c = record { cells = slice_set s.cells i c; full = length-set s.cells i c ∙ s.full }

-- the activities and the catalogue of a row of N cells
abbrev pub in_row : {C K : Type 0} → CellMeaning C K → (N : ℕ) → Meaning (Row C N)
in_row m N = on_found m (λ s i. slice_get s.cells i) with_cell
