use Rattle.std.proofs.Common.{◌≡◌, Some, option_and_then, sym, ap, ◌∙◌, arith}
use Rattle.std.proofs.lemmas.List.{drop_all}
use Rattle.std.proofs.lemmas.Grind.{common_steps}
use Rattle.std.proofs.lemmas.Bool.Decides.{nat_tests}
use Rattle.bench_lines.specs.Lines.{within, digits}
use Rattle.bench_lines.proofs.Numbers.{digits_narrow}
use Rattle.bench_lines.proofs.decimal.Goals as goal

pub returns-in_err-value : goal.returns-in_err-value
returns-in_err-value g c =
    let narrow = digits_narrow g.N.Field.LIMIT 4294967295 c.args.word.now 0 g.N.Field.narrow (omega arith) in
    grind (arith, common_steps)

pub returns : goal.returns
returns g c =
    let keeps = g.met.N.Field.keeps c.loop-b.value c.try_from.result c.try_from.ensures in
    let narrow = digits_narrow g.N.Field.LIMIT 4294967295 c.args.word.now 0 g.N.Field.narrow (omega arith) in
    let read : digits 4294967295 c.args.word.now 0 ≡ Some c.loop-b.value = sym c.loop-b.invariant ∙ ap (λ l. digits 4294967295 l c.loop-b.value) (drop_all c.loop-b.b-index c.args.word.now (omega arith)) in
    let kept = ap (option_and_then (within g.N.Field.LIMIT)) read in
    grind (arith, common_steps, nat_tests)
