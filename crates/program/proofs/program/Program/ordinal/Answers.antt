use Rattle.std.proofs.Common.{◌≡◌, ◌<◌, length, take, sym, ap, ◌∙◌, length-take, arith, rules}
use Rattle.program.specs.declared.command.Command.{Command}
use Rattle.program.specs.Refusals.{step_count}
use Rattle.program.specs.Grammar.{body_steps}
use Rattle.program.specs.Places.{nth, tree, steps_among, steps_before, begun, taken}
use Rattle.program.proofs.Counts.{count_few, counted_on, up_to}
use Rattle.program.proofs.Cursors.{ordinal_names, steps_left}
use Rattle.program.proofs.Limits.{count_steps}
use Rattle.program.proofs.program.Program.ordinal.Goals as goal
use Rattle.program.proofs.program.Program.ordinal.Goals.{then-is_step, else-is_step}

pub overflow_add-steps : goal.overflow_add-steps
overflow_add-steps c =
    let few : c.loop-command.steps < c.min.result = omega (arith, count_few c.loop-command.command-index (take c.min.result c.commands-commands.result.now), c.loop-command.invariant, length-take {A = Command}) in
    search (rules, few)

pub loop-command-preserved : goal.loop-command-preserved
loop-command-preserved c =
    let xs = take c.min.result c.commands-commands.result.now in
    elim c.if-is_step.branch [
      | then-is_step w ↦ counted_on xs c.loop-command.command-index _ _ _ _ (omega arith) c.loop-command.invariant w.if-is_step.ensures (omega (arith, w.steps-is))
      | else-is_step w ↦ counted_on xs c.loop-command.command-index _ _ _ _ (omega arith) c.loop-command.invariant w.if-is_step.ensures (omega (arith, w.steps-is))
    ]

pub returns : goal.returns
returns c =
    let p = c.args.self.now in
    let cs = c.commands-commands.result.now in
    let at = c.args.cursor.at in
    let count : c.loop-command.steps ≡ steps_before p c.args.cursor =
    c.loop-command.invariant ∙ ap step_count (up_to cs at c.min.result c.loop-command.command-index c.min.ensures (omega arith)) ∙ sym (count_steps (take at cs)) ∙ ap (λ cs. length (steps_among (take at cs))) c.commands-commands.ensures.table in
    record {
      count = count;
      left = omega (arith, count, steps_left p at);
      names = λ s e. ap (nth (body_steps (tree p))) count ∙ ordinal_names p at (begun c.args.cursor.choices) (taken c.args.cursor.choices) s e;
    }
