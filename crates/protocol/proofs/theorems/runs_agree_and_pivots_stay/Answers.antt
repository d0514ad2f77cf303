use Rattle.protocol.specs.Means.{Laws}
use Rattle.protocol.proofs.EveryRun.{agrees, stays}
use Rattle.protocol.proofs.theorems.runs_agree_and_pivots_stay.Goals as goal

pub returns : goal.returns
returns g c =
    let met = g.met.S.Station in
    let laws : Laws g.S.Station.meaning = record { restores = met.restores; commutes = met.commutes; symmetric = met.symmetric; retries = met.retries; bounded = met.bounded } in
    record { agree = agrees g.S.Station.meaning laws; stay = stays g.S.Station.meaning laws }
