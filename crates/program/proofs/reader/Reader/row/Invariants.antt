use Rattle.std.proofs.Common.{◌-◌, length}
use Rattle.program.specs.Reads.{text_of, Moved, StepsNext}
use Rattle.program.proofs.reader.Reader.row.Given as goal

abbrev pub invariant-loop-self : goal.invariant-loop-self
invariant-loop-self l = Moved l.initial.self l.self × StepsNext l.kind l.self l.depth

abbrev pub decreases-loop-self : goal.decreases-loop-self
decreases-loop-self l = length (text_of l.self) - l.self.at

abbrev pub invariant-loop-self-2 : goal.invariant-loop-self-2
invariant-loop-self-2 l = Moved l.initial.self l.self × StepsNext l.kind l.self l.depth

abbrev pub decreases-loop-self-2 : goal.decreases-loop-self-2
decreases-loop-self-2 l = length (text_of l.self) - l.self.at
