use Rattle.serial.proofs.Sorting.{sort_by_rank_sorts}
use Rattle.serial.proofs.sorting_by_rank_sorts.Goals as goal

pub returns : goal.returns
returns g c = sort_by_rank_sorts
