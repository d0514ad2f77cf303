-- What a claim comes to, in the rules' own words.
use Rattle.std.proofs.Common.{◌≡◌, ℕ, Bool, true, false, cond, not, ◌&&◌, ◌||◌, List, drop, Some, None, Option, MatchOption, refl, ap, ◌∙◌}
use Rattle.std.specs.Bool.{then_some}
use Rattle.activity.specs.declared.Activity.{Activity}
use Rattle.station.specs.Meaning.{Meaning}
use Rattle.program.specs.declared.program.Program.{Program}
use Rattle.protocol.specs.declared.record.Record.{Record}
use Rattle.protocol.specs.Log.{own, from_pivot, unless_pivot, last_of, returnable}
use Rattle.protocol.specs.Hall.{Hall, Outcome}
use Rattle.protocol.specs.StepFunction.{holds_conflict, holds_any_conflict, other, blocks_pivot, pivot_marks, unless_blocked}
use Rattle.hall.specs.declared.process.Process.{Process}
use Rattle.hall.specs.declared.claim.Deed.TheVariants.{Pivot}
use Rattle.hall.specs.Model.{seen, split_of}
use Rattle.hall.specs.Rules.{claimed}

pub pivot_claimed : {S : Type 0} (M : Meaning S) (h : Hall S) (ps : List (Option Program)) (p : Process) (a : Activity) (k : ℕ) (on : Outcome S) → own p.start (drop k h.log) ≡ from_pivot (own p.start h.log)
    → claimed M h record { process = p; deed = Pivot a.number k } on ≡ unless_blocked h (blocks_pivot M.conflict h.log (seen ps p) a) (pivot_marks (seen ps p)) on
pivot_claimed M h ps p a k on e = ap (λ mine. unless_blocked h (λ q. other (seen ps p) q && (holds_conflict M.conflict q.start a.number h.log || holds_any_conflict M.conflict q.start h.log mine)) (pivot_marks (seen ps p)) on) e

-- the last record, which a test leaves where it is no pivot
module _ (n : ℕ) (log : List Record) (left : Option (ℕ × Record)) (Says : ℕ × Record → Bool → Type 0) (says : (x : ℕ × Record) (b : Bool) → Says x b → b ≡ not x.1.pivot) where
  pub returnable_is : (last : Option (ℕ × Record)) → split_of log last ≡ last_of n log → MatchOption last (left ≡ None) (λ x. (b : Bool) × Says x b × (left ≡ then_some b x)) → split_of log left ≡ returnable n log
  returnable_is last e m = go last m ∙ ap unless_pivot e
    where
      kept : (x : ℕ × Record) (v : Bool) → split_of log (then_some (not v) x) ≡ cond v None (split_of log (Some x))
      kept x true = refl
      kept x false = refl

      go : (o : Option (ℕ × Record)) → MatchOption o (left ≡ None) (λ x. (b : Bool) × Says x b × (left ≡ then_some b x)) → split_of log left ≡ unless_pivot (split_of log o)
      go None none = ap (split_of log) none
      go (Some x) (b, said, is) = ap (split_of log) (is ∙ ap (λ v. then_some v x) (says x b said)) ∙ kept x x.1.pivot
