use Rattle.serial.proofs.Unique.{one_serial_order}
use Rattle.serial.proofs.serial_order_is_one.Goals as goal

pub returns : goal.returns
returns g c = one_serial_order
