use Rattle.std.proofs.Common.{length, refl, ap, add-one, arith, rules}
use Rattle.program.specs.declared.command.Command.TheVariants.{Bar, Close}
use Rattle.program.specs.Contexts.{at_choice, closed}
use Rattle.program.proofs.Parts.{choice_goes_on, ready_next, choice_level}
use Rattle.program.proofs.reader.Reader.+body_choices.Goals as goal

pub body-expect-requires : goal.body-expect-requires
body-expect-requires t c =
    ready_next c.choices.new.self Close (closed c.args.depth) c.in_ok-choices-in-Some-P.ensures.1 (λ e. cc) refl (omega arith)

pub choices-overflow_add-depth : goal.choices-overflow_add-depth
choices-overflow_add-depth t c = search (rules, choice_level c.loop-self.self c.args.depth c.loop-self.invariant.1)

pub choices-body-requires : goal.choices-body-requires
choices-body-requires t c =
    let inv = c.loop-self.invariant in (
      omega (arith, c.decreases, inv.0.forward, c.loop-self.self.inside, ap length inv.0.same),
      choice_goes_on c.loop-self.self c.args.depth inv.1 (λ here is. search rules) (λ here is. search rules),
    )

pub choices-expect-requires : goal.choices-expect-requires
choices-expect-requires t c =
    ready_next c.body.new.self Bar (at_choice c.args.depth) (rw (add-one c.args.depth) at c.in_ok-body-in_default.ensures.1) (λ e. cc) refl (omega arith)
