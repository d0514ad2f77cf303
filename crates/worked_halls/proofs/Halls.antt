-- The worked halls, by computing.
use mathlib.Core.Path.{◌≡◌, refl, subst}
use mathlib.Core.List.{List, map}
use native.Mathlib.Decide.{dec_le}
use Rattle.program.specs.Worked.{WorkedTexts}
use Rattle.baggage.specs.Row.{first_row, with_cell}
use Rattle.protocol.specs.Hall.{fresh}
use Rattle.protocol.specs.CallFunction.{after_all}
use Rattle.protocol.specs.Statements.{Runs}
use Rattle.protocol.proofs.Computed.{history}
use Rattle.protocol.proofs.EveryRun.{computed_runs}
use Rattle.worked_halls.specs.Worked as worked
use Rattle.worked_halls.specs.Worked.{Line, sides_meaning, first_sides, ComesOut, WorkedHalls}

-- what the functions tell is what the lines say
abbrev Computes : List Line → Type 0
Computes ls = history sides_meaning (fresh first_sides) (map (λ l. l.0) ls) ≡ map (λ l. l.1) ls

-- and so the lines are a run
comes_out : (ls : List Line) → Computes ls → ComesOut ls
comes_out ls e =
    let es = map (λ (l : Line). l.0) ls in
    let end = after_all sides_meaning (fresh first_sides) es in
    (end, subst (λ ts. Runs sides_meaning (fresh first_sides) es ts end) e (computed_runs sides_meaning (fresh first_sides) es))

refused_and_left : Computes worked.refused_and_left
unfolding first_row with_cell dec_le
refused_and_left = refl

commits_in_order : Computes worked.commits_in_order
unfolding first_row with_cell dec_le
commits_in_order = refl

withdrawal_cascades : Computes worked.withdrawal_cascades
unfolding first_row with_cell dec_le
withdrawal_cascades = refl

past_pivot_stays : Computes worked.past_pivot_stays
unfolding first_row with_cell dec_le
past_pivot_stays = refl

second_alternative : Computes worked.second_alternative
unfolding first_row with_cell dec_le
second_alternative = refl

pivots_apart : Computes worked.pivots_apart
unfolding first_row with_cell dec_le
pivots_apart = refl

younger_gives_way : Computes worked.younger_gives_way
unfolding first_row with_cell dec_le
younger_gives_way = refl

pivot_waits_for_older : Computes worked.pivot_waits_for_older
unfolding first_row with_cell dec_le
pivot_waits_for_older = refl

scan_list_answered : Computes worked.scan_list_answered
unfolding first_row with_cell dec_le
scan_list_answered = refl

calls_refused : Computes worked.calls_refused
unfolding first_row with_cell dec_le
calls_refused = refl

pub halls : WorkedTexts → WorkedHalls
halls texts = record {
  refused_and_left = comes_out worked.refused_and_left refused_and_left;
  commits_in_order = comes_out worked.commits_in_order commits_in_order;
  withdrawal_cascades = comes_out worked.withdrawal_cascades withdrawal_cascades;
  past_pivot_stays = comes_out worked.past_pivot_stays past_pivot_stays;
  second_alternative = comes_out worked.second_alternative second_alternative;
  pivots_apart = comes_out worked.pivots_apart pivots_apart;
  younger_gives_way = comes_out worked.younger_gives_way younger_gives_way;
  pivot_waits_for_older = comes_out worked.pivot_waits_for_older pivot_waits_for_older;
  scan_list_answered = comes_out worked.scan_list_answered scan_list_answered;
  calls_refused = comes_out worked.calls_refused calls_refused;
  texts = texts;
}
