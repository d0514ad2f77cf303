use Rattle.std.proofs.Common.{sym, ◌∙◌, rules}
use Rattle.program.proofs.Parts.{open_next, fifth_bracket}
use Rattle.program.proofs.reader.Reader.open.Goals as goal

pub expect-requires : goal.expect-requires
expect-requires c = open_next c.args.self.now c.args.depth c.requires (λ here is. search rules)

pub returns-in-Some-eq91 : goal.returns-in-Some-eq91
returns-in-Some-eq91 c =
    let told = c.in-Some-eq91.ensures in
    rw c.refusal.ensures (fifth_bracket c.args.self.now c.args.depth c.requires c.if-depth-ge-MAX_DEPTH.true told.0 (sym told.1 ∙ c.in-Some-eq91.field-0-test))
