use Rattle.std.proofs.Common.{ap, ◌∙◌}
use Rattle.dp_conf.specs.Cut.{before_last}
use Rattle.dp_vars.specs.Spans.{text_at}
use Rattle.dp_vars.specs.Values.{function_name, function_of}
use Rattle.dp_vars.proofs.HeadsLemmas.{call-seen, other-seen}
use Rattle.dp_vars.proofs.head.read_call.Goals as goal

pub returns-in-Some-function_of : goal.returns-in-Some-function_of
returns-in-Some-function_of c functions sight =
    ap (λ span. functions.value sight (function_name c.in-Some-function_of.function) (text_at c.args.text.now span)) c.front-argument.ensures
    ∙ call-seen functions sight c.args.text.now c.in-Some-function_of.function (text_at c.args.text.now c.args.name) c.in-Some.argument.now c.args.after
    (c.in-Some-function_of.ensures ∙ ap function_of c.of-in-Some.ensures) (c.in-Some.ensures ∙ ap (before_last 41) c.of.ensures)

pub returns-in-None-function_of : goal.returns-in-None-function_of
returns-in-None-function_of c functions sight =
    ap (λ span. functions.value sight (text_at c.args.text.now c.args.name) (text_at c.args.text.now span)) c.front-argument.ensures
    ∙ other-seen functions sight c.args.text.now c.args.name c.in-Some.argument.now c.args.after (c.in-Some.ensures ∙ ap (before_last 41) c.of.ensures)
