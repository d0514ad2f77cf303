-- A commit changes nothing of a record but its commit number.
use Rattle.std.proofs.Common.{◌≡◌, ℕ}
use Rattle.protocol.specs.declared.record.Record.{Record}
use Rattle.protocol.specs.Log.{owned, committed_under}
use Rattle.protocol.proofs.Tests.{cond_same}

-- what is the same of a record under another commit number is the same of it after a commit
pub sealed : {X : Type 0} (f : Record → X) (n c : ℕ) (r : Record) → f record { start = r.start; activity = r.activity; answer = r.answer; commit = c; pivot = r.pivot } ≡ f r → f (committed_under n c r) ≡ f r
sealed f n c r same = cond_same f (owned n r) record { start = r.start; activity = r.activity; answer = r.answer; commit = c; pivot = r.pivot } r same
