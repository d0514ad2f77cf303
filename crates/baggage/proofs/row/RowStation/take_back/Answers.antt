use Rattle.std.proofs.Common.{◌≡◌, Some, slice_get, slice_set, arith}
use Rattle.baggage.specs.Row.{with_cell}
use Rattle.baggage.specs.RowLaws.{row_path}
use Rattle.baggage.proofs.row.RowStation.take_back.Goals as goal

pub returns-in-Some-cell : goal.returns-in-Some-cell
unfolding with_cell
returns-in-Some-cell g c =
    let m = g.C.Cell.meaning in
    let cells = c.args.self.now.cells in
    let named : slice_get m.names c.args.activity.number ≡ Some c.in-Some.named = cc in
    let there : slice_get cells (m.place c.args.activity.parameter) ≡ Some c.in-Some-cell.cell = cc in
    let before : slice_set cells c.place-place.result c.take_back.result ≡ slice_set cells (m.place c.args.activity.parameter) (m.taken_back c.in-Some.named c.args.answer c.in-Some-cell.cell) = grind arith in
    rw (there, named) (row_path _ _ before)
