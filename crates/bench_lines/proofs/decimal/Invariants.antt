use Rattle.std.proofs.Common.{◌≡◌, drop}
use Rattle.bench_lines.specs.Lines.{digits}
use Rattle.bench_lines.proofs.decimal.Given as goal

abbrev pub invariant-loop-b : goal.invariant-loop-b
invariant-loop-b g l = digits 4294967295 (drop l.b-index l.word) l.value ≡ digits 4294967295 l.word 0
