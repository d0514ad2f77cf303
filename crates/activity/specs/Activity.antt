-- An activity in words.
use Rattle.std.specs.Prelude.{ℕ, List, ◌++◌, codes, decimal}
use Rattle.activity.specs.declared.Activity.{Activity}

-- as in `activity 3, parameter 256`
abbrev pub activity_shown : Activity → List ℕ
activity_shown a = codes "activity " ++ (decimal a.number ++ (codes ", parameter " ++ decimal a.parameter))
