use Rattle.baggage.proofs.row.RowStation.conflict.Goals as goal

pub returns : goal.returns
returns g c = c.conflict.ensures.listed g.C.Cell.meaning.listing c.catalogue.ensures
