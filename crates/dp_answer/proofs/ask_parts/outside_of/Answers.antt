use Rattle.std.proofs.Common.{ap, ◌∙◌}
use Rattle.dp_answer.specs.Ranges.{ranges}
use Rattle.dp_answer.proofs.RangeLemmas.{outside-same}
use Rattle.dp_answer.proofs.ask_parts.outside_of.Goals as goal

pub returns : goal.returns
returns c = outside-same (record { exten = c.set_of_ranges.result; caller = c.set_of_ranges-2.result; facts = c.set_of_ranges-3.result; contexts = c.in_ok-contexts.contexts }) _ _ _ _
    (λ b. c.set_of_ranges.ensures b ∙ ap (λ text. ranges text b) c.given_or.ensures)
    (λ b. c.set_of_ranges-2.ensures b ∙ ap (λ text. ranges text b) c.given_or-2.ensures)
    (λ b. c.set_of_ranges-3.ensures b ∙ ap (λ text. ranges text b) c.given_or-3.ensures)
    c.in_ok-contexts.ensures
