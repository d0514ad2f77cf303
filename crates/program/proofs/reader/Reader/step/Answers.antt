use Rattle.activity.specs.declared.Activity.{Activity}
use Rattle.program.specs.Grammar.{command_of}
use Rattle.program.proofs.Parts.{step_within, pushed_on}
use Rattle.program.proofs.reader.Reader.step.Goals as goal

pub operands-requires : goal.operands-requires
operands-requires c =
    let some : Activity = record { number = 0; parameter = 0 } in
    (command_of c.args.kind some, c.requires some)

pub push-requires-clause-within : goal.push-requires-clause-within
push-requires-clause-within c = rw c.command.ensures (step_within c.args.self.now c.args.kind c.in_ok-activity.activity c.in_ok-activity.ensures.0)

pub returns : goal.returns
returns c =
    let on = pushed_on _ _ _ (rw c.command.ensures at c.push.ensures) in
    (on.0, (c.in_ok-activity.activity, on.1))
