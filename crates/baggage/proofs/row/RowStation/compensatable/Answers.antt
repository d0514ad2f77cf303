use Rattle.baggage.proofs.row.RowStation.compensatable.Goals as goal

pub returns : goal.returns
returns g c = c.kind.ensures.compensatable g.C.Cell.meaning.listing c.catalogue.ensures
