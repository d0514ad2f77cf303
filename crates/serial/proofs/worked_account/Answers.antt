use Rattle.serial.proofs.Account.{worked_account}
use Rattle.serial.proofs.worked_account.Goals as goal

pub returns : goal.returns
returns c = worked_account
