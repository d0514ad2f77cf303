use Rattle.std.proofs.Common.{◌≡◌, drop, vec_items}
use Rattle.notation.specs.Notation.{Low, bytes_of, bytes_from, with_front}
use Rattle.notation.proofs.decoding.decode.Given as goal

abbrev pub invariant-loop-column : goal.invariant-loop-column
invariant-loop-column l = Low l.waiting × (with_front (vec_items l.bytes) (bytes_from l.column l.waiting (drop l.column l.line)) ≡ bytes_of l.line)
