-- What it says that nothing speaks against a call.
use Rattle.std.proofs.Common.{◌≡◌, ℕ, ◌+◌, ◌*◌, ◌<◌, ◌≤◌, Bool, true, false, length, Some, None, Option, sym, refl}
use Rattle.std.specs.Bool.{then_some}
use Rattle.std.specs.Option.{option_or}
use Rattle.std.proofs.lemmas.Bool.{ltb-false, leb-false}
use Rattle.std.proofs.lemmas.Option.{none-some}
use Rattle.program.specs.Grammar.{Body, body_steps}
use Rattle.station.specs.Meaning.{Meaning}
use Rattle.protocol.specs.Log.{committed_records}
use Rattle.protocol.specs.Hall.{Hall}
use Rattle.protocol.specs.CallFunction.{faults, against_load, against_open}

pub neither : {X : Type 0} (a b : Option X) → option_or a b ≡ None → (a ≡ None) × (b ≡ None)
neither None b e = (refl, e)
neither (Some x) b e = absurd (none-some x (sym e))

pub not_so : {X : Type 0} (b : Bool) (x : X) → then_some b x ≡ None → b ≡ false
not_so true x e = absurd (none-some x (sym e))
not_so false x e = refl

module _ {S : Type 0} where
  pub no_faults : (M : Meaning S) (h : Hall S) (k : ℕ) (b : Body) → against_load M h k b ≡ None → faults M 0 (body_steps b) ≡ None
  no_faults M h k b e = (neither _ _ (neither _ _ e).1).1

  pub record Openable (h : Hall S) : Type 0 where
    pub few : length h.processes < 16
    pub low : h.given < 65535
    pub room : length (committed_records h.log) + 32 * (length h.processes + 1) ≤ 1024

  pub openable : (h : Hall S) (k : ℕ) → against_open h k ≡ None → Openable h
  openable h k e =
      let loaded = neither _ _ (neither _ _ e).1 in
      let (full, rest) = neither _ _ loaded.1 in
      let (last, over) = neither _ _ rest in
      record { few = leb-false 16 _ (not_so _ _ full); low = leb-false 65535 _ (not_so _ _ last); room = ltb-false 1024 _ (not_so _ _ over) }
