use Rattle.std.proofs.Common.{◌≡◌, ◌+◌, true, None, rules}
use Rattle.std.proofs.iter.runs.Made.{chains}
use Rattle.protocol.specs.Log.{owned, last_of}
use Rattle.hall.proofs.Lasts.{NoneFrom, last_none, last_there}
use Rattle.hall.proofs.tables.Tables.last_record.Goals as goal

pub returns-in_err-k-clause-value : goal.returns-in_err-k-clause-value
returns-in_err-k-clause-value g c =
    let rs = c.args.self.now.log.items in
    let none : NoneFrom (owned c.args.start) 0 rs = search (rules, chains) in
    let is : None ≡ last_of c.args.start rs = last_none c.args.start rs none in
    search rules

pub returns : goal.returns
returns g c =
    let rs = c.args.self.now.log.items in
    let k = c.in_ok-k.k in
    let r = c.index.result.now in
    let here : owned c.args.start r ≡ true = search (rules, chains) in
    let later : NoneFrom (owned c.args.start) (k + 1) rs = search (rules, chains) in
    record { value = last_there c.args.start rs k r (search rules) c.index.ensures here later; item = search rules }
