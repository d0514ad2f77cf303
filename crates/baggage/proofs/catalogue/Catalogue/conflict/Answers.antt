use Rattle.std.proofs.Common.{◌≡◌, ◌∙◌, arith}
use Rattle.std.proofs.lemmas.Grind.{common_steps}
use Rattle.baggage.specs.Tabled.{conflict_at}
use Rattle.baggage.specs.Tables.{agreed}
use Rattle.baggage.proofs.catalogue.Catalogue.conflict.Goals as goal

pub returns : goal.returns
returns c =
    let entry : c.unwrap_or.result ≡ conflict_at c.args.self.now c.args.a c.args.b = grind (arith, common_steps) in
    record {
      table = entry;
      listed = λ l passes. entry ∙ (agreed c.args.self.now l passes).conflict c.args.a c.args.b;
    }
