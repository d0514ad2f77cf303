use Rattle.std.proofs.Common.{◌≡◌, rules, get_or, sym, refl, ap, ◌∙◌}
use Rattle.protocol.specs.Log.{returnable}
use Rattle.protocol.specs.StepFunction.{backward}
use Rattle.hall.specs.Model.{model, seen, split_of}
use Rattle.hall.specs.Rules.{with_nothing_left}
use Rattle.hall.proofs.Claimed.{returnable_is}
use Rattle.hall.proofs.tables.Tables.back.Goals as goal

pub returns-in-Some-wait_for : goal.returns-in-Some-wait_for
returns-in-Some-wait_for g c =
    let h = model g.S.Station.view c.args.self.now in
    let p = seen c.args.self.now.programs c.args.p in
    let rs = c.args.self.now.log.items in
    let last : split_of rs c.filter.result ≡ returnable c.args.p.start rs = returnable_is _ rs _ _ (λ x b said. search rules) _ c.last_record.ensures.value c.filter.ensures in
    c.in-Some-wait_for.ensures.waits _ ∙ ap (backward g.S.Station.meaning h p (with_nothing_left h p c.args.p.standing)) (ap (split_of rs) (sym c.in-Some.is) ∙ last)

pub returns : goal.returns
returns g c =
    let h = model g.S.Station.view c.args.self.now in
    let p = seen c.args.self.now.programs c.args.p in
    let rs = c.args.self.now.log.items in
    let last : split_of rs c.filter.result ≡ returnable c.args.p.start rs = returnable_is _ rs _ _ (λ x b said. search rules) _ c.last_record.ensures.value c.filter.ensures in
    let at : c.in-Some.r ≡ get_or rs c.in-Some.k c.in-Some.r = search rules in
    (rw (c.in_default-wait_for.ensures.same refl) at c.undo.ensures) c.in-Some.r at ∙ (c.in_default-wait_for.ensures.free refl _ ∙ ap (backward g.S.Station.meaning h p (with_nothing_left h p c.args.p.standing)) (ap (split_of rs) (sym c.in-Some.is) ∙ last))
