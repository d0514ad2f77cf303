use Rattle.baggage.proofs.row.RowStation.retriable.Goals as goal

pub returns : goal.returns
returns g c = c.kind.ensures.retriable g.C.Cell.meaning.listing c.catalogue.ensures
