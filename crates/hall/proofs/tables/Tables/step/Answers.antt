use Rattle.std.proofs.Common.{rules, sym, ◌∙◌}
use Rattle.program.specs.Positions.{onward}
use Rattle.hall.specs.Model.{model, here}
use Rattle.hall.proofs.Entries.{only_found, room_found, few_commits}
use Rattle.hall.proofs.tables.Tables.step.Goals as goal

pub back-requires : goal.back-requires
back-requires g c = only_found g.S.Station.view c.args.self.now c.requires c.args.start c.in_ok-p.p (sym c.in_ok-p.ensures.ok_part ∙ c.process.ensures.there)

pub commit-requires : goal.commit-requires
commit-requires g c = few_commits (model g.S.Station.view c.args.self.now) c.requires

pub go-requires : goal.go-requires
go-requires g c =
    let h = c.args.self.now in
    let p = c.in_ok-p.p in
    let found = sym c.in_ok-p.ensures.ok_part ∙ c.process.ensures.there in
    record {
      no_pivot = search rules;
      only = only_found g.S.Station.view h c.requires c.args.start p found;
      room = room_found g.S.Station.view h c.requires c.args.start p found c.next_step.result (onward (here h.programs p)) (search rules) c.next_step.ensures;
    }

pub pivot-requires : goal.pivot-requires
pivot-requires g c =
    let h = c.args.self.now in
    let p = c.in_ok-p.p in
    let found = sym c.in_ok-p.ensures.ok_part ∙ c.process.ensures.there in
    record {
      only = only_found g.S.Station.view h c.requires c.args.start p found;
      room = room_found g.S.Station.view h c.requires c.args.start p found c.next_step.result (onward (here h.programs p)) (search rules) c.next_step.ensures;
    }
