use Rattle.std.proofs.Common.{◌≡◌, ◌∙◌, Ok, rules, ap}
use Rattle.protocol.specs.declared.standing.Aim.TheVariants.{Restart}
use Rattle.protocol.specs.declared.standing.Standing.TheVariants.{Running, Withdrawing}
use Rattle.protocol.specs.declared.answer.Served.TheVariants.{Stepped}
use Rattle.protocol.specs.declared.answer.Turn.TheVariants.{Restarted}
use Rattle.protocol.specs.Hall.{answered, changed, move, with_processes}
use Rattle.hall.specs.Model.{model, seen}
use Rattle.hall.specs.Rules.{with_nothing_left}
use Rattle.hall.proofs.Entries.{first_is}
use Rattle.hall.proofs.tables.Tables.with_nothing_left.Goals as goal

pub returns-in-Withdrawing-Restart : goal.returns-in-Withdrawing-Restart
returns-in-Withdrawing-Restart g c =
    let h = model g.S.Station.view c.args.self.now in
    let p = c.args.p in
    let restarts : Withdrawing Restart ≡ p.standing = search rules in
    ap (λ x. answered x (Ok (Stepped Restarted))) (c.relocate.ensures.moved ∙ ap (λ at. with_processes h (changed p.start (move Running at) h.processes)) (first_is c.args.self.now.programs p.place _ c.start.ensures.place))
    ∙ ap (with_nothing_left h (seen c.args.self.now.programs p)) restarts
