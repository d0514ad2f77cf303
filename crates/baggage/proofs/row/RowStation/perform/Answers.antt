use Rattle.std.proofs.Common.{◌≡◌, Some, slice_get, slice_set, ap}
use Rattle.baggage.specs.Row.{with_cell}
use Rattle.baggage.specs.RowLaws.{row_path}
use Rattle.baggage.proofs.row.RowStation.perform.Goals as goal

pub returns-clause-state : goal.returns-clause-state
unfolding with_cell
returns-clause-state g c =
    let named = rw c.in_ok-named.was at c.named.ensures in
    let there : slice_get c.args.self.now.cells (g.C.Cell.meaning.place c.args.activity.parameter) ≡ Some c.in-Some.cell = cc in
    let done = rw c.in_ok-answer.was at c.perform.ensures in
    rw (there, ← named, ← done) (row_path _ _ (ap (λ i. slice_set c.args.self.now.cells i c.in_ok-answer.after) c.place-place.ensures))
