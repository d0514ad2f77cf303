use Rattle.std.proofs.Common.{ℕ, arith, length-drop, length-take}
use Rattle.program.proofs.Places.{too_many, cut_off}
use Rattle.program.proofs.reader.Reader.operands.Goals as goal

pub returns-then-self-eq-MAX_STEPS : goal.returns-then-self-eq-MAX_STEPS
returns-then-self-eq-MAX_STEPS c = rw c.refusal.ensures (too_many c.args.self.now c.requires.0 c.requires.1 c.if-self-eq-MAX_STEPS.true)

pub returns-in_default : goal.returns-in_default
returns-in_default c = rw c.refusal-in_default.ensures (cut_off c.args.self.now c.requires.0 c.requires.1 c.if-self-eq-MAX_STEPS.false (omega (arith, c.in_default.len_below, length-take {A = ℕ}, length-drop {A = ℕ})))
