use Rattle.std.proofs.Common.{eqb, rules, tests, ap, ◌∙◌}
use Rattle.std.proofs.lemmas.Iterator.{YieldsList-from_slice}
use Rattle.std.proofs.lemmas.Iterator.Search.{find_from_yields_List}
use Rattle.std.specs.Option.{option_map}
use Rattle.hall.specs.Model.{seen}
use Rattle.hall.proofs.Entries.{found_is}
use Rattle.hall.proofs.tables.Tables.process.Goals as goal

pub returns-clause-there : goal.returns-clause-there
returns-clause-there g c = c.copied.ensures ∙ find_from_yields_List (λ q. eqb q.start c.args.start) _ _ _ c.find.ensures.ran (YieldsList-from_slice c.args.self.now.processes.items cc) (λ x b q k. search (rules, tests))

pub returns-clause-seen : goal.returns-clause-seen
returns-clause-seen g c =
    let h = c.args.self.now in
    ap (option_map (seen h.programs)) (returns-clause-there g c) ∙ found_is h.programs c.args.start h.processes.items
