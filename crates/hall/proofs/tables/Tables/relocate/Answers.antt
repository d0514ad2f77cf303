use Rattle.std.proofs.Common.{◌≡◌, refl, ap, ◌∙◌, arith}
use Rattle.protocol.specs.Hall.{Process, stand, move, with_processes}
use Rattle.hall.specs.Claims.{moved, put}
use Rattle.hall.specs.Model.{model, all_seen, seen, position_at}
use Rattle.hall.proofs.Maps.{mapped_more, all_mapped, written, kept}
use Rattle.hall.proofs.Entries.{moved_is}
use Rattle.hall.proofs.tables.Tables.relocate.Goals as goal
use Rattle.hall.proofs.tables.Tables.relocate.Goals.{then-q-p, else-q-p}

pub loop-q-preserved : goal.loop-q-preserved
loop-q-preserved g c =
    let p = moved c.args.p c.args.s c.args.to in
    elim c.if-q-p.branch [
      | then-q-p w ↦ rw w.q-items-is (mapped_more (put p) _ _ _ c.loop-q.invariant c.q-item.result _ (omega arith) (omega arith) (written _ _ _ _ w.if-q-p.true))
      | else-q-p w ↦ rw w.q-items-is (mapped_more (put p) _ _ _ c.loop-q.invariant c.q-item.result _ (omega arith) (omega arith) (kept _ _ _ _ w.if-q-p.false))
    ]

pub returns : goal.returns
returns g c =
    let h = c.args.self.now in
    let p = c.args.p in
    let put_there = put (moved p c.args.s c.args.to) in
    let now = all_mapped put_there h.processes _ _ _ c.loop-q.invariant c.loop-q-test.false c.loop-q.auto.q-items c.deref_mut-q-items.ensures.value c.deref_mut-q-items.ensures.len in
    let becomes = λ (f : Process → Process) (same : seen h.programs (moved p c.args.s c.args.to) ≡ f (seen h.programs p)).
    ap (λ qs. with_processes (model g.S.Station.view h) (all_seen h.programs qs)) now
    ∙ ap (with_processes (model g.S.Station.view h)) (moved_is h.programs p c.args.s c.args.to f same h.processes.items c.requires) in
    record {
      moved = becomes (move c.args.s (position_at h.programs p c.args.to)) refl;
      stays = λ e. becomes (stand c.args.s) (ap (λ k. seen h.programs (moved p c.args.s k)) e);
    }
