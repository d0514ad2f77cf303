-- Who blocks a claim, and whom it marks.
use Rattle.std.specs.Prelude.{ℕ, Bool, true, false, cond, not, ◌&&◌, ◌||◌, List, drop, ◌==◌, nat_lt}
use Rattle.program.specs.declared.cursor.Cursor.{Cursor}
use Rattle.protocol.specs.declared.record.Record.{Record}
use Rattle.protocol.specs.declared.standing.Standing.{Standing}
use Rattle.protocol.specs.declared.standing.Aim.TheVariants.{Restart}
use Rattle.protocol.specs.declared.standing.Standing.TheVariants.{Withdrawing}
use Rattle.std.specs.List.{list_any}
use Rattle.protocol.specs.Log.{owned, own}
use Rattle.protocol.specs.Hall as protocol
use Rattle.protocol.specs.Hall.{retreating, past_pivot, running}
use Rattle.protocol.specs.StepFunction.{holds_conflict, holds_any_conflict, stands_before_conflict}
use Rattle.hall.specs.declared.process.Process.{Process}
use Rattle.hall.specs.declared.claim.Claim.{Claim}
use Rattle.hall.specs.declared.claim.Deed.{Deed}
use Rattle.hall.specs.declared.claim.Deed.TheVariants.{Back, Plain, Pivot, Alone, Commit}

-- whether a process of the number n and the standing st stops what a claim's process is about to do
abbrev pub stops_deed : (ℕ → ℕ → Bool) → List Record → Process → Deed → ℕ → Standing → Bool
stops_deed conflict log p (Back a from) n st = holds_conflict conflict n a (drop from log)
stops_deed conflict log p (Plain a) n st = (past_pivot p.standing || (nat_lt p.start n || retreating st)) && holds_conflict conflict n a log
stops_deed conflict log p (Pivot a from) n st = holds_conflict conflict n a log || holds_any_conflict conflict n log (own p.start (drop from log))
stops_deed conflict log p Alone n st = not (past_pivot p.standing) && past_pivot st
stops_deed conflict log p Commit n st = stands_before_conflict conflict n p.start log

abbrev pub stops : (ℕ → ℕ → Bool) → List Record → Claim → ℕ → Standing → Bool
stops conflict log c n st = stops_deed conflict log c.process c.deed n st

abbrev pub blocks : (ℕ → ℕ → Bool) → List Record → Claim → ℕ → Standing → Bool
blocks conflict log c n st = not (n == c.process.start) && stops conflict log c n st

abbrev pub marks_for : Process → Deed → ℕ → Bool
marks_for p (Back a from) n = true
marks_for p (Plain a) n = true
marks_for p (Pivot a from) n = past_pivot p.standing || nat_lt p.start n
marks_for p Alone n = false
marks_for p Commit n = false

abbrev pub may_mark : Claim → ℕ → Bool
may_mark c n = marks_for c.process c.deed n

abbrev pub blocker : (ℕ → ℕ → Bool) → List Record → Claim → protocol.Process → Bool
blocker conflict log c q = blocks conflict log c q.start q.standing

abbrev pub marks_it : Claim → protocol.Process → Bool
marks_it c q = may_mark c q.start

abbrev pub told : (ℕ → ℕ → Bool) → List Record → Claim → Process → Bool
told conflict log c q = blocks conflict log c q.start q.standing && may_mark c q.start

-- a process of the table set to withdraw, to restart
abbrev pub withdrawn : Bool → Process → Process
withdrawn b q = cond (b && running q.standing) record { start = q.start; place = q.place; standing = Withdrawing Restart; cursor = q.cursor } q

abbrev pub marked : (Process → Bool) → Process → Process
marked p q = withdrawn (p q) q

-- a process of the table at another standing and another place of its program
abbrev pub moved : Process → Standing → Cursor → Process
moved p s to = record p { standing = s; cursor = to }

-- the process p in place of the one of its number
abbrev pub put : Process → Process → Process
put p q = cond (q.start == p.start) p q

-- a record is of the process n, and the process m has a later one in conflict
abbrev pub leads : (ℕ → ℕ → Bool) → ℕ → ℕ → Record → List Record → Bool
leads conflict n m r rs = owned n r && list_any (λ x. owned m x && conflict r.activity.number x.activity.number) rs
