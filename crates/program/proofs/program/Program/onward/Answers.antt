use Rattle.program.specs.Places.{program_commands, begun, taken}
use Rattle.program.proofs.Cursors.{plain_on, crossing_on, plain_left, crossing_left}
use Rattle.program.proofs.program.Program.onward.Goals as goal

pub returns-in-Pivot : goal.returns-in-Pivot
returns-in-Pivot c =
    let cs = program_commands c.args.self.now in
    let cursor = c.args.cursor in
    record {
      place = crossing_on cs cursor.at (begun cursor.choices) (taken cursor.choices) _ c.in-Some.ensures c.in-Pivot.is;
      left = crossing_left cs cursor.at (begun cursor.choices) _ _ c.in-Some.ensures c.in-Pivot.is;
    }

pub returns-in_default-kind : goal.returns-in_default-kind
returns-in_default-kind c =
    let p = c.args.self.now in
    let cursor = c.args.cursor in
    record {
      place = plain_on p cursor.at (begun cursor.choices) (taken cursor.choices) _ c.in-Some.ensures c.in_default-kind.not-Pivot;
      left = plain_left (program_commands p) cursor.at (begun cursor.choices) _ _ c.in-Some.ensures c.in_default-kind.not-Pivot;
    }
