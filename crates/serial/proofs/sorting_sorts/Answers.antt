use Rattle.serial.proofs.Sorting.{sort_sorts}
use Rattle.serial.proofs.sorting_sorts.Goals as goal

pub returns : goal.returns
returns g c = sort_sorts
