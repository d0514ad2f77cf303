-- The calls on a hall, and the scan lists.
use Rattle.std.specs.Prelude.{ℕ, List, Option}
use Rattle.program.specs.declared.refusal.Refusal as text
use Rattle.program.specs.Grammar.{Body, Yields}
use Rattle.program.specs.Outcome.{OutcomeBy}
use Rattle.protocol.specs.declared.scan.Request.{Request}

-- a program is the tree of a text that was read
abbrev pub IsProgram : Body → Type 0
IsProgram b = (t : List ℕ) × Yields t b

-- A call on a hall. A program is spoken of by its tree, with the text that it is read from. Installing names the text and what reading it
-- comes to: the tree, and the refusal if there is one; of another tree or refusal there is no such call.
pub data Call : Type 0 where
  loading : ℕ → (b : Body) → IsProgram b → Call
  installing : ℕ → (t : List ℕ) (b : Body) (o : Option text.Refusal) → OutcomeBy t b o → Call
  opening : ℕ → Call
  stepping : ℕ → Call
  cancelling : ℕ → Call

-- what may come in: a call, or a scan list
pub data Event : Type 0 where
  call : Call → Event
  scan : List Request → Event
