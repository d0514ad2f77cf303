use Rattle.std.proofs.Common.{◌+◌, take, sym, ap, ◌∙◌, subst, arith, length-set}
use Rattle.std.proofs.lemmas.Grind.{common_steps}
use Rattle.program.specs.Refusals.{Within}
use Rattle.program.proofs.Places.{grown, split_on, counted}
use Rattle.program.proofs.reader.Reader.push.Goals as goal

pub invariant_of-self-clause-split : goal.invariant_of-self-clause-split
invariant_of-self-clause-split c =
    let r = c.args.self.now in
    ap (λ n. take (r.at + n) r.text.now) c.width.ensures ∙ split_on r c.args.command c.requires.here

pub invariant_of-self-clause-long : goal.invariant_of-self-clause-long
invariant_of-self-clause-long c = length-set _ _ _ ∙ c.args.self.now.long

pub invariant_of-self-clause-within : goal.invariant_of-self-clause-within
invariant_of-self-clause-within c = subst Within (sym (grown c.args.self.now c.args.command c.requires.here)) c.requires.within

pub invariant_of-self-clause-count : goal.invariant_of-self-clause-count
invariant_of-self-clause-count c = grind (arith, common_steps, counted c.args.self.now c.args.command c.requires.here)
