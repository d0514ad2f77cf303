use Rattle.std.proofs.Common.{◌≡◌, ℕ, ◌+◌, ◌-◌, ◌≤◌, length, drop}
use Rattle.program.specs.Positions.{reached}
use Rattle.program.specs.Places.{program_commands, choices_at, skipped}
use Rattle.program.proofs.program.Program.alternative_at.Given as goal

-- what is still to be passed, no more than stood from the choices on; each alternative passed took a command, and the pivot stands before them
abbrev pub invariant-loop-alternative : goal.invariant-loop-alternative
invariant-loop-alternative l =
    let first = drop l.from (program_commands l.self) in
    let left = l.k - l.alternative in
    record {
      there : (i : ℕ) × (drop i l.commands ≡ l.rest);
      text : skipped left l.rest ≡ skipped l.k first;
      count : l.alternative + reached (choices_at l.rest) left ≡ reached (choices_at first) l.k;
      within : length l.rest ≤ length l.commands - l.from;
      passed : l.alternative + length l.rest ≤ 254;
    }

abbrev pub decreases-loop-alternative : goal.decreases-loop-alternative
decreases-loop-alternative l = l.k - l.alternative
