-- What each call's result is as an answer of the rules.
use Rattle.std.specs.Prelude.{ℕ, Ok, Err, Result}
use Rattle.protocol.specs.Answer.{Answer}
use Rattle.protocol.specs.declared.answer.Served.{Served}
use Rattle.protocol.specs.declared.answer.Served.TheVariants.{Loaded, Opened, Cancelled, Stepped}
use Rattle.protocol.specs.declared.answer.Refusal.{Refusal}
use Rattle.protocol.specs.declared.answer.Turn.{Turn}

-- a refusal, or what was served
abbrev pub reply : {X : Type 0} → (X → Served) → Result X Refusal → Answer
reply served (Ok x) = Ok (served x)
reply served (Err r) = Err r

abbrev pub load_reply : Result (Unit {0}) Refusal → Answer
load_reply r = reply (λ _. Loaded) r

abbrev pub open_reply : Result ℕ Refusal → Answer
open_reply r = reply (λ n. Opened n) r

abbrev pub step_reply : Result Turn Refusal → Answer
step_reply r = reply (λ t. Stepped t) r

abbrev pub cancel_reply : Result (Unit {0}) Refusal → Answer
cancel_reply r = reply (λ _. Cancelled) r
