use Rattle.std.proofs.Common.{sym, ◌∙◌}
use Rattle.program.proofs.Parts.{mark_within, pushed_on, mark_refused, end_refused}
use Rattle.program.proofs.reader.Reader.expect.Goals as goal

pub push-requires-clause-within : goal.push-requires-clause-within
push-requires-clause-within c = mark_within c.args.self.now c.args.m c.requires c.in-Some.ensures.0 (sym c.in-Some.ensures.1 ∙ c.if-b-letter.true ∙ c.letter.ensures)

pub returns-in-Some : goal.returns-in-Some
returns-in-Some c = pushed_on _ _ _ c.push.ensures

pub returns-in-Some-2 : goal.returns-in-Some-2
returns-in-Some-2 c =
    let told = c.in-Some.ensures in
    rw c.refusal.ensures (mark_refused c.args.self.now c.args.m c.requires told.0 (λ is. c.if-b-letter.false (told.1 ∙ is ∙ sym c.letter.ensures)))

pub returns-in-None : goal.returns-in-None
returns-in-None c = rw c.refusal-in-None.ensures (end_refused c.args.self.now c.args.m c.requires c.in-None.ensures)
