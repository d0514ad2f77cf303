use Rattle.std.proofs.Common.{sym, refl, ap, subst, lit≤, take}
use Rattle.program.specs.Grammar.{finish, Yielded}
use Rattle.program.proofs.reading.stop.Goals as goal

pub invariant_of-result-clause-yielded : goal.invariant_of-result-clause-yielded
invariant_of-result-clause-yielded c =
    ∣ subst Yielded (sym (ap (take 1) c.blank.ensures)) (finish, refl, record { spelled = refl; short = lit≤ tt; few = lit≤ tt; shallow = lit≤ tt }) ∣₁
