use Rattle.std.proofs.Common.{refl, ◌∙◌, arith}
use Rattle.program.specs.declared.command.Command.TheVariants.{Stop}
use Rattle.program.specs.Contexts.{over}
use Rattle.program.proofs.Parts.{ready_next}
use Rattle.program.proofs.Places.{finished, followed, yielded}
use Rattle.program.proofs.reader.parse.Goals as goal

pub expect-requires : goal.expect-requires
expect-requires c = ready_next c.body.new.self Stop over c.in_ok-body.ensures.1 (λ e. cc) refl (omega arith)

pub returns-then-reader-text : goal.returns-then-reader-text
returns-then-reader-text c =
    let h = c.in_ok-body.ensures in
    let k = c.in_ok-expect.ensures in
    rw c.refusal.ensures (followed c.args.text.now c.expect.new.self (k.0.same ∙ h.0.same) (k.1.stands ∙ h.1.leads) (omega arith))

pub returns : goal.returns
returns c =
    let h = c.in_ok-body.ensures in
    let k = c.in_ok-expect.ensures in
    finished c.args.text.now c.expect.new.self (k.0.same ∙ h.0.same) (k.1.stands ∙ h.1.leads) (omega arith)

pub invariant_of-result-clause-yielded : goal.invariant_of-result-clause-yielded
invariant_of-result-clause-yielded c =
    let h = c.in_ok-body.ensures in
    let k = c.in_ok-expect.ensures in
    ∣ yielded c.args.text.now c.expect.new.self (k.0.same ∙ h.0.same) (k.1.stands ∙ h.1.leads) ∣₁
