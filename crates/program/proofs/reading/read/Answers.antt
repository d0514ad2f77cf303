use Rattle.std.proofs.Common.{ap}
use Rattle.program.specs.Places.{body_at}
use Rattle.program.proofs.Unique.{settled}
use Rattle.program.proofs.reading.read.Goals as goal

pub returns-in-Ok : goal.returns-in-Ok
returns-in-Ok c = settled c.args.text.now _ c.in-Ok.ensures

pub returns-in-Err : goal.returns-in-Err
returns-in-Err c = settled c.args.text.now _ (c.in-Err.ensures, ap body_at c.stop.ensures)
