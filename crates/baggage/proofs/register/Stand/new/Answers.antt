use Rattle.baggage.specs.BagLaws.{standing_is}
use Rattle.baggage.proofs.register.Stand.new.Goals as goal

pub returns-then-from-lt-STANDS : goal.returns-then-from-lt-STANDS
returns-then-from-lt-STANDS c = standing_is c.args.value _
