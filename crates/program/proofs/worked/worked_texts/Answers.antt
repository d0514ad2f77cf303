use Rattle.program.proofs.WorkedTexts.{worked}
use Rattle.program.proofs.worked.worked_texts.Goals as goal

pub returns : goal.returns
returns c = worked
