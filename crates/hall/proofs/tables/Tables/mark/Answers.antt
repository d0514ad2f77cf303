use Rattle.std.proofs.Common.{◌&&◌, get_or, rules, sym, refl, ap, ◌∙◌, arith}
use Rattle.protocol.specs.Hall.{with_processes}
use Rattle.hall.specs.Claims.{told, marked, blocker, marks_it}
use Rattle.hall.specs.Model.{model, all_seen}
use Rattle.hall.proofs.Maps.{mapped_more, all_mapped}
use Rattle.hall.proofs.Bridges.{marked_is, set_back, not_told, not_running}
use Rattle.hall.proofs.tables.Tables.mark.Goals as goal
use Rattle.hall.proofs.tables.Tables.mark.Goals.{then-eq+then-marks, else-eq, else-eq-via-then-eq+else-marks, else-eq-via-else-eq}

pub loop-q-preserved : goal.loop-q-preserved
loop-q-preserved g c =
    let there = told g.S.Station.meaning.conflict c.args.self.now.log.items c.args.c in
    let q = get_or c.loop-q.q-items c.loop-q.q-index c.q-item.result in
    let of_log = ap (λ l. told g.S.Station.meaning.conflict l c.args.c q) c.as_slice.ensures.value in
    elim c.if-eq.branch [
      | then-eq+then-marks w ↦ rw w.q-items-is (mapped_more (marked there) _ _ _ c.loop-q.invariant c.q-item.result _ (omega arith) (omega arith) (set_back (there q) q (search rules) (sym (w.marks.ensures ∙ of_log) ∙ w.if-marks.true)))
      | else-eq w ↦ elim w.else-eq.branch [
        | else-eq-via-then-eq+else-marks w' ↦ rw (w.q-items-is, w'.q-items-is) (mapped_more (marked there) _ _ _ c.loop-q.invariant c.q-item.result _ (omega arith) (omega arith) (not_told (there q) q (sym (w'.marks.ensures ∙ of_log) ∙ w'.if-marks.false)))
        | else-eq-via-else-eq w' ↦ rw (w.q-items-is, w'.q-items-is) (mapped_more (marked there) _ _ _ c.loop-q.invariant c.q-item.result _ (omega arith) (omega arith) (not_running (there q) q (search rules)))
      ]
    ]

pub returns : goal.returns
returns g c =
    let h = c.args.self.now in
    let there = marked (told g.S.Station.meaning.conflict h.log.items c.args.c) in
    ap (λ qs. with_processes (model g.S.Station.view h) (all_seen h.programs qs)) (all_mapped there h.processes _ _ _ c.loop-q.invariant c.loop-q-test.false c.loop-q.auto.q-items c.deref_mut-q-items.ensures.value c.deref_mut-q-items.ensures.len)
    ∙ ap (with_processes (model g.S.Station.view h)) (marked_is h.programs (told g.S.Station.meaning.conflict h.log.items c.args.c) (λ q. blocker g.S.Station.meaning.conflict h.log.items c.args.c q && marks_it c.args.c q) (λ q. refl) h.processes.items)
