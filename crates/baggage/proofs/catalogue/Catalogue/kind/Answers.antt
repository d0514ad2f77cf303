use Rattle.std.proofs.Common.{◌≡◌, ap, ◌∙◌, arith}
use Rattle.std.proofs.lemmas.Grind.{common_steps}
use Rattle.baggage.specs.Tabled.{kind_at}
use Rattle.baggage.specs.Tables.{agreed}
use Rattle.baggage.proofs.catalogue.Catalogue.kind.Goals as goal

pub returns : goal.returns
returns c =
    let entry : c.unwrap_or.result ≡ kind_at c.args.self.now c.args.number = grind (arith, common_steps) in
    record {
      table = entry;
      compensatable = λ l passes. ap (λ k. k.compensatable) entry ∙ (agreed c.args.self.now l passes).compensatable c.args.number;
      retriable = λ l passes. ap (λ k. k.retriable) entry ∙ (agreed c.args.self.now l passes).retriable c.args.number;
    }
