use Rattle.std.proofs.Common.{rules, tests, sym, refl, ap, ◌∙◌}
use Rattle.std.proofs.lemmas.Iterator.{YieldsList-from_slice, YieldsList-from_map}
use Rattle.std.proofs.lemmas.Iterator.Consumers.{YieldsList-from_filter, min_from_yields_List}
use Rattle.std.proofs.lemmas.Iterator.Adapters.{option_map_id}
use Rattle.std.specs.Iterator.Adapters.{filter_callee}
use Rattle.hall.specs.declared.process.Process.{Process}
use Rattle.hall.specs.Claims.{blocks, blocker}
use Rattle.hall.proofs.Bridges.{least_is}
use Rattle.hall.proofs.tables.Tables.first_blocker.Goals as goal

pub returns : goal.returns
returns g c =
    let h = c.args.self.now in
    let f = λ (q : Process). blocks g.S.Station.meaning.conflict h.log.items c.args.c q.start q.standing in
    sym (option_map_id c.min.result)
    ∙ min_from_yields_List _ _ c.min.ensures.ran (YieldsList-from_map _ (λ (q : Process). q.start) (YieldsList-from_filter _ f (YieldsList-from_slice h.processes.items cc) (ap filter_callee c.map.ensures.source ∙ c.filter.ensures.closure) (λ x b q k. search (rules, tests))) c.map.ensures.closure (λ x r q k. search rules))
    ∙ least_is h.programs f (blocker g.S.Station.meaning.conflict h.log.items c.args.c) (λ q. refl) h.processes.items
