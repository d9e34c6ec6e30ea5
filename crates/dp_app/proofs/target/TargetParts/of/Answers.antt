use Rattle.std.proofs.Common.{sym, ◌∙◌}
use Rattle.dp_app.proofs.TargetsLemmas.{more_than_three}
use Rattle.dp_app.proofs.target.TargetParts.of.Goals as goal

pub whole-requires : goal.whole-requires
whole-requires c =
    more_than_three c.args.target.now c.first_argument.result.0.now c.first_argument-2.result.0.now c.first_argument-3.result.0.now
    c.in-Some.rest.now c.in-Some-rest.rest.now c.first_argument-3.result.1 (rw c.in-Some.is at c.first_argument.ensures.parts)
    (rw c.in-Some-rest.is at c.first_argument-2.ensures.parts) (sym c.is_some.ensures ∙ c.if-is_some.true) c.first_argument-3.ensures.parts
