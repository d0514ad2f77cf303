use Rattle.std.proofs.Common.{sym, ◌∙◌}
use Rattle.hall.proofs.Entries.{only_found}
use Rattle.hall.proofs.tables.Tables.cancel.Goals as goal

pub relocate-requires : goal.relocate-requires
relocate-requires g c = only_found g.S.Station.view c.args.self.now c.requires c.args.start c.in_ok-p.p (sym c.in_ok-p.ensures.ok_part ∙ c.process.ensures.there)
