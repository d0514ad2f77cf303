use Rattle.std.proofs.Common.{◌+◌, arith}
use Rattle.protocol.specs.Log.{committed_under}
use Rattle.hall.specs.Model.{model, seen}
use Rattle.hall.proofs.Maps.{mapped_more, all_mapped, written, kept}
use Rattle.hall.proofs.Entries.{concludes_is}
use Rattle.hall.proofs.tables.Tables.conclude.Goals as goal
use Rattle.hall.proofs.tables.Tables.conclude.Goals.{then-r-p, else-r-p}

pub loop-r-preserved : goal.loop-r-preserved
loop-r-preserved g c =
    let f = committed_under c.args.p.start (c.args.self.now.committed + 1) in
    elim c.if-r-p.branch [
      | then-r-p w ↦ rw w.r-items-is (mapped_more f _ _ _ c.loop-r.invariant _ _ (omega arith) (omega arith) (written _ _ _ _ w.if-r-p.true))
      | else-r-p w ↦ rw w.r-items-is (mapped_more f _ _ _ c.loop-r.invariant _ _ (omega arith) (omega arith) (kept _ _ _ _ w.if-r-p.false))
    ]

pub returns : goal.returns
returns g c =
    let h = c.args.self.now in
    let f = committed_under c.args.p.start (h.committed + 1) in
    let now = all_mapped f h.log _ _ _ c.loop-r.invariant c.loop-r-test.false c.loop-r.auto.r-items c.deref_mut-r-items.ensures.value c.deref_mut-r-items.ensures.len in
    concludes_is (model g.S.Station.view h) (seen h.programs c.args.p) (model g.S.Station.view c.leave.new.self) _ now c.leave.ensures
