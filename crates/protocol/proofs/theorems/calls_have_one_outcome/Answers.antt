use Rattle.protocol.proofs.StepsExact.{exact}
use Rattle.protocol.proofs.CallsExact.{calls_exactly, scans_exactly}
use Rattle.protocol.proofs.EveryRun.{runs_exactly}
use Rattle.protocol.proofs.theorems.calls_have_one_outcome.Goals as goal

pub returns : goal.returns
returns g c =
    record {
      calls = calls_exactly g.S.Station.meaning;
      steps = exact g.S.Station.meaning;
      scans = scans_exactly g.S.Station.meaning;
      lists = runs_exactly g.S.Station.meaning;
    }
