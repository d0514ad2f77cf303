use Rattle.baggage.specs.LaneLaws.{is_empty}
use Rattle.baggage.proofs.lanes.work.LaneCell.first.Goals as goal

pub returns : goal.returns
returns c = is_empty _
