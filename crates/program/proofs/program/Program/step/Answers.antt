use Rattle.std.proofs.Common.{rules, ap, sym, ◌∙◌}
use borrow.Author.Tests.{tests}
use Rattle.std.proofs.lemmas.Iterator.{YieldsList-from_slice}
use Rattle.std.proofs.lemmas.Iterator.Adapters.{option_map_id}
use Rattle.std.proofs.lemmas.Iterator.Consumers.{YieldsList-from_filter_map, nth_from_yields_List}
use Rattle.program.specs.Places.{step_of, nth, program_commands}
use Rattle.program.proofs.Cursors.{program_steps}
use Rattle.program.proofs.program.Program.step.Goals as goal

pub returns : goal.returns
returns c =
    let p = c.args.self.now in
    sym (option_map_id c.nth.result)
    ∙ nth_from_yields_List c.nth.result c.nth.new.self c.args.ordinal c.nth.ensures.ran (YieldsList-from_filter_map _ step_of (YieldsList-from_slice (program_commands p) cc) c.filter_map.ensures.closure (λ x r q k. search (rules, tests)))
    ∙ ap (λ ss. nth ss c.args.ordinal) (program_steps p)
