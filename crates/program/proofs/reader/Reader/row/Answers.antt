use Rattle.std.proofs.Common.{rules}
use Rattle.program.proofs.Parts.{steps_next, steps_on, moved_more}
use Rattle.program.proofs.reader.Reader.row.Goals as goal

pub step-requires : goal.step-requires
step-requires c = steps_next c.args.kind c.loop-self.self c.args.depth c.loop-self.invariant.1 (search rules) (search rules)

pub loop-self-preserved : goal.loop-self-preserved
loop-self-preserved c =
    let inv = c.loop-self.invariant in
    let told = c.in_ok-step-in-Compensatable.ensures in
    (moved_more _ _ _ inv.0 told.0, steps_on c.args.kind c.loop-self.self c.step.new.self c.args.depth inv.1 told.1)

pub step-requires-in-Some-R : goal.step-requires-in-Some-R
step-requires-in-Some-R c = steps_next c.args.kind c.loop-self-2.self c.args.depth c.loop-self-2.invariant.1 (search rules) (search rules)

pub loop-self-2-preserved : goal.loop-self-2-preserved
loop-self-2-preserved c =
    let inv = c.loop-self-2.invariant in
    let told = c.in_ok-step-in-Retriable.ensures in
    (moved_more _ _ _ inv.0 told.0, steps_on c.args.kind c.loop-self-2.self c.step-in-Some-R.new.self c.args.depth inv.1 told.1)
