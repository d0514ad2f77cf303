use Rattle.std.proofs.Common.{refl, ◌∙◌}
use Rattle.hall.proofs.tables.Tables.pivot.Goals as goal

pub returns-in-Some : goal.returns-in-Some
returns-in-Some g c = c.in-Some.ensures.waits _

pub returns : goal.returns
returns g c = (rw (c.in_default.ensures.same refl) at c.cross.ensures) ∙ c.in_default.ensures.free refl _
