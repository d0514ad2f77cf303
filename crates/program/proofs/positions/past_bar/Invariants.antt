use Rattle.std.proofs.Common.{◌≡◌, ◌≤◌, drop}
use Rattle.program.specs.Places.{skip}
use Rattle.program.proofs.positions.past_bar.Given as goal

abbrev pub invariant-loop-place : goal.invariant-loop-place
invariant-loop-place l = record {
  shallow : l.depth ≤ l.place;
  same : skip l.depth (drop l.place l.text) ≡ skip 0 l.text;
}
