use Rattle.std.proofs.Common.{◌≡◌, drop, string_bytes}
use Rattle.notation.specs.Notation.{written, written_on}
use Rattle.notation.proofs.encoding.encode.Given as goal

abbrev pub invariant-loop-byte : goal.invariant-loop-byte
invariant-loop-byte l = written_on (string_bytes l.out) l.due (drop l.byte-index l.bytes) ≡ written l.bytes
