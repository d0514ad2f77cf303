-- The answer to a call: what was served, or why the call is refused.
use Rattle.std.specs.Prelude.{Result}
use Rattle.protocol.specs.declared.answer.Served.{Served}
use Rattle.protocol.specs.declared.answer.Refusal.{Refusal}

abbrev pub Answer : Type 0
Answer = Result Served Refusal
