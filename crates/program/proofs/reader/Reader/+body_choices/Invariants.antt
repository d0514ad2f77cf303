use Rattle.std.proofs.Common.{◌≡◌, ◌+◌, ◌-◌, ◌*◌, length}
use Rattle.program.specs.Contexts.{at_choice}
use Rattle.program.specs.Reads.{text_of, context, Moved}
use Rattle.program.proofs.reader.Reader.+body_choices.Given as goal

abbrev pub decreases-body : goal.decreases-body
decreases-body l = 2 * (length (text_of l.self.now) - l.self.now.at)

abbrev pub decreases-choices : goal.decreases-choices
decreases-choices l = 2 * (length (text_of l.self.now) - l.self.now.at) + 1

abbrev pub invariant-choices-loop-self : goal.invariant-choices-loop-self
invariant-choices-loop-self l = Moved l.initial.self l.self × (context l.self ≡ at_choice l.depth)

abbrev pub decreases-choices-loop-self : goal.decreases-choices-loop-self
decreases-choices-loop-self l = length (text_of l.self) - l.self.at
