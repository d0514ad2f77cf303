use Rattle.std.proofs.Common.{rules, not, eqb, ap, ◌∙◌}
use Rattle.std.proofs.lemmas.Fn.{filter_same}
use Rattle.protocol.specs.Hall.{with_processes}
use Rattle.hall.specs.Model.{model, all_seen}
use Rattle.hall.proofs.Entries.{left_is}
use Rattle.hall.proofs.tables.Tables.leave.Goals as goal

pub returns : goal.returns
returns g c =
    let h = c.args.self.now in
    let n = c.args.start in
    ap (λ qs. with_processes (model g.S.Station.view h) (all_seen h.programs qs)) (filter_same _ (λ q. not (eqb q.start n)) _ (λ x b f' k. search rules) _ _ c.retain.ensures.filtered)
    ∙ ap (with_processes (model g.S.Station.view h)) (left_is h.programs n h.processes.items)
