use Rattle.std.proofs.Common.{◌≡◌, ◌⊎◌, ◌+◌, ◌-◌, suc, true, drop, sym, ap, subst, ◌∙◌, arith, inl, inr}
use Rattle.std.proofs.lemmas.List.{drop-drop}
use Rattle.program.specs.Places.{program_commands, rest_at, skipped, starts_row, choices_at}
use Rattle.program.specs.Positions.{reached}
use Rattle.program.proofs.Alternatives.{by_length, by_place, skip_there, stays_there, Passes, passes, rest_skipped}
use Rattle.program.proofs.program.Program.alternative_at.Goals as goal
use Rattle.program.proofs.program.Program.alternative_at.Goals.{then-loop-alternative-test+else-not-starts_row, else-loop-alternative-test}

pub loop-alternative-preserved : goal.loop-alternative-preserved
loop-alternative-preserved c =
    let xs = c.loop-alternative.rest.now in
    let j = c.args.k - (c.loop-alternative.alternative + 1) in
    let one : suc j ≡ c.args.k - c.loop-alternative.alternative = omega arith in
    let past = subst (λ ys. Passes xs ys j) (sym c.past_bar-rest.ensures) (passes xs j (sym c.starts_row.ensures ∙ c.if-not-starts_row.true)) in
    let here = c.loop-alternative.invariant.there in
    let on = skip_there 0 xs in
    record {
      there = (here.0 + on.0, sym (drop-drop on.0 here.0 c.commands-commands.result.now) ∙ ap (drop on.0) here.1 ∙ on.1 ∙ sym c.past_bar-rest.ensures);
      text = past.text ∙ ap (λ n. skipped n xs) one ∙ c.loop-alternative.invariant.text;
      count = omega (arith, past.count, ap (reached (choices_at xs)) one);
      within = omega (arith, past.shorter, c.loop-alternative.invariant.within);
      passed = omega (arith, past.shorter);
    }

pub overflow_sub-commands : goal.overflow_sub-commands
overflow_sub-commands c = (by_length c.commands-commands.result.now c.loop-alternative.rest.now c.loop-alternative.invariant.there.0 c.loop-alternative.invariant.there.1).0

pub returns : goal.returns
returns c =
    let xs = c.loop-alternative.rest.now in
    let left = c.args.k - c.loop-alternative.alternative in
    let stop : (starts_row xs ≡ true) ⊎ (left ≡ 0) = elim c.loop-alternative-test.branch [
      | then-loop-alternative-test+else-not-starts_row w ↦ inl (sym w.starts_row.ensures ∙ w.if-not-starts_row.false)
      | else-loop-alternative-test w ↦ inr (omega arith)
    ] in
    let stays = stays_there xs left stop in
    let at = c.max.result in
    let text : drop at (program_commands c.args.self.now) ≡ skipped c.args.k (drop c.args.from (program_commands c.args.self.now)) =
    ap (drop at) (sym c.commands-commands.ensures.table) ∙ by_place c.commands-commands.result.now xs c.loop-alternative.invariant.there.0 c.args.from at c.loop-alternative.invariant.there.1 c.loop-alternative.invariant.within c.max.ensures ∙ sym stays.0 ∙ c.loop-alternative.invariant.text in
    record {
      there = ap rest_at text ∙ rest_skipped c.args.k (drop c.args.from (program_commands c.args.self.now));
      count = omega (arith, stays.1);
      low = omega arith;
      text = text;
    }
