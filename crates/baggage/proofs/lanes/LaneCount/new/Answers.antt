use Rattle.baggage.specs.LaneLaws.{counted_is}
use Rattle.baggage.proofs.lanes.LaneCount.new.Goals as goal

pub returns-then-value-le-FULL : goal.returns-then-value-le-FULL
returns-then-value-le-FULL c = counted_is c.args.value _
