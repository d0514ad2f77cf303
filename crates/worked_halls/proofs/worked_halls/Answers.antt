use Rattle.worked_halls.proofs.Halls.{halls}
use Rattle.worked_halls.proofs.worked_halls.Goals as goal

pub returns : goal.returns
returns c = halls c.worked_texts.ensures
