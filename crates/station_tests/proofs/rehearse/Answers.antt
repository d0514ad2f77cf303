use Rattle.station_tests.proofs.Rehearsed.{left, rehearsed}
use Rattle.station_tests.proofs.rehearse.Goals as goal

pub returns : goal.returns
returns g c = record {
  answer = c.in_ok-answer.ensures.answer;
  state = left g.S.Station.meaning _ _ _ c.args.activity c.in_ok-answer.answer c.in_ok-answer.ensures.answer c.perform.ensures.state c.take_back.ensures;
  restored = λ kind.
      rehearsed g.S.Station.meaning g.met.S.Station.restores _ _ _ c.args.activity c.in_ok-answer.answer kind c.in_ok-answer.ensures.answer c.perform.ensures.state c.take_back.ensures;
}
