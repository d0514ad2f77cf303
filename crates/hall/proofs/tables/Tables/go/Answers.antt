use Rattle.std.proofs.Common.{Bool, refl, ap, ◌∙◌}
use Rattle.program.specs.Positions.{onward}
use Rattle.protocol.specs.StepFunction.{performed}
use Rattle.hall.specs.Model.{model, seen, here}
use Rattle.hall.proofs.tables.Tables.go.Goals as goal

pub returns-in-Some : goal.returns-in-Some
returns-in-Some g c = c.in-Some.ensures.waits _

pub returns : goal.returns
returns g c =
    let h = c.args.self.now in
    let on = λ (b : Bool). performed (model g.S.Station.view h) (seen h.programs c.args.p) b c.args.step.activity (onward (here h.programs c.args.p)) (g.S.Station.meaning.performed (g.S.Station.view h.station) c.args.step.activity) in
    (rw (c.in_default.ensures.same refl) at c.perform.ensures) ∙ ap on c.requires.no_pivot ∙ c.in_default.ensures.free refl _
