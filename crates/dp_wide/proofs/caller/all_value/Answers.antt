-- The text is made from the name and the number that were found.
use Rattle.std.proofs.Common.{◌∙◌}
use Rattle.dp_wide.specs.Caller.{caller_text}
use Rattle.dp_wide.proofs.caller.all_value.Goals as goal

pub returns-clause-value : goal.returns-clause-value
returns-clause-value g c =
    let name = c.deref.ensures.value ∙ c.in_ok-name.ensures in
    c.in_ok-text.ensures ∙ (λ i. caller_text (name i) (c.number_of.ensures i))
