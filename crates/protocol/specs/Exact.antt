-- That every step, call and scan list comes to exactly one of the things that the rules allow: the one that the functions compute.
use Rattle.std.specs.Prelude.{◌≡◌, List, Option, Ok}
use Rattle.station.specs.Meaning.{Meaning}
use Rattle.protocol.specs.Answer.{Answer}
use Rattle.protocol.specs.declared.answer.Served.TheVariants.{Stepped}
use Rattle.protocol.specs.declared.answer.Refusal.{Refusal}
use Rattle.protocol.specs.declared.answer.Turn.{Turn}
use Rattle.protocol.specs.declared.scan.Request.{Request}
use Rattle.protocol.specs.Hall.{Process, Hall, answered}
use Rattle.protocol.specs.Call.{Call}
use Rattle.protocol.specs.Relation.{Steps}
use Rattle.protocol.specs.Comes.{Comes, Scans}
use Rattle.protocol.specs.StepFunction.{by_standing}
use Rattle.protocol.specs.CallFunction.{outcome, scan_outcome}

module _ {S : Type 0} where
  -- what the function gives is what the rules allow, and nothing else is
  pub record Exact (M : Meaning S) (h : Hall S) (p : Process) : Type 0 where
    pub turn : Turn
    pub answers : (by_standing M h p p.standing).answer ≡ Ok (Stepped turn)
    pub allowed : Steps M h p (by_standing M h p p.standing).hall turn
    pub only : (g : Hall S) (t : Turn) → Steps M h p g t → answered g (Ok (Stepped t)) ≡ by_standing M h p p.standing

  abbrev pub StepsExactly : Meaning S → Type 0
  StepsExactly M = (h : Hall S) (p : Process) → Exact M h p

module _ {S : Type 0} (M : Meaning S) where
  -- what the function `outcome` gives is what the rules allow, and nothing else is
  pub record ExactlyOne (h : Hall S) (c : Call) : Type 0 where
    pub allowed : Comes M h c (outcome M h c).hall (outcome M h c).answer
    pub only : (g : Hall S) (a : Answer) → Comes M h c g a → answered g a ≡ outcome M h c

  abbrev pub CallsExactly : Type 0
  CallsExactly = (h : Hall S) (c : Call) → ExactlyOne h c

  pub record ExactlyOneScan (h : Hall S) (rs : List Request) : Type 0 where
    pub allowed : Scans M h rs (scan_outcome M h rs).hall (scan_outcome M h rs).records (scan_outcome M h rs).refusal
    pub only : (g : Hall S) (ws : List Request) (o : Option Refusal) → Scans M h rs g ws o → (g ≡ (scan_outcome M h rs).hall) × (ws ≡ (scan_outcome M h rs).records) × (o ≡ (scan_outcome M h rs).refusal)

  abbrev pub ScansExactly : Type 0
  ScansExactly = (h : Hall S) (rs : List Request) → ExactlyOneScan h rs
