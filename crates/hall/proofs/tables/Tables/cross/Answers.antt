use Rattle.std.proofs.Common.{true, refl, ◌∙◌}
use Rattle.program.specs.Positions.{onward}
use Rattle.protocol.specs.StepFunction.{performed}
use Rattle.hall.specs.Model.{model, seen, here}
use Rattle.hall.proofs.Claimed.{pivot_claimed}
use Rattle.hall.proofs.tables.Tables.cross.Goals as goal

pub returns-in-Some : goal.returns-in-Some
returns-in-Some g c =
    let h = c.args.self.now in
    let on = performed (model g.S.Station.view h) (seen h.programs c.args.p) true c.args.activity (onward (here h.programs c.args.p)) (g.S.Station.meaning.performed (g.S.Station.view h.station) c.args.activity) in
    c.in-Some.ensures.waits on ∙ pivot_claimed g.S.Station.meaning (model g.S.Station.view h) h.programs c.args.p c.args.activity c.after_pivot.result on c.after_pivot.ensures

pub returns : goal.returns
returns g c =
    let h = c.args.self.now in
    let on = performed (model g.S.Station.view h) (seen h.programs c.args.p) true c.args.activity (onward (here h.programs c.args.p)) (g.S.Station.meaning.performed (g.S.Station.view h.station) c.args.activity) in
    (rw (c.in_default.ensures.same refl) at c.perform.ensures)
    ∙ (c.in_default.ensures.free refl on ∙ pivot_claimed g.S.Station.meaning (model g.S.Station.view h) h.programs c.args.p c.args.activity c.after_pivot.result on c.after_pivot.ensures)
