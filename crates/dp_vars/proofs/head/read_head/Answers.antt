use Rattle.std.proofs.Common.{sym, ap, ◌∙◌, length, ◌-◌}
use Rattle.dp_conf.specs.Cut.{before_last, cut_once}
use Rattle.dp_vars.specs.Spans.{text_at}
use Rattle.dp_vars.specs.steps.Spans.{after_of, front_of}
use Rattle.dp_vars.specs.Values.{call_argument_with}
use Rattle.dp_vars.proofs.HeadsLemmas.{name-seen, head-seen}
use Rattle.dp_vars.proofs.head.read_head.Goals as goal

pub returns-in-None : goal.returns-in-None
returns-in-None c functions sight =
    name-seen functions sight c.args.text.now c.args.place (ap (cut_once 40) (sym c.of-head.ensures) ∙ c.in-None.ensures)

pub returns-in-Some : goal.returns-in-Some
returns-in-Some c functions sight =
    head-seen functions sight c.args.text.now c.args.place c.in-Some.name.now c.in-Some.after.now c.read_call.result
    (ap (cut_once 40) (sym c.of-head.ensures) ∙ c.in-Some.ensures)
    (c.read_call.ensures functions sight
    ∙ ap (λ span. call_argument_with functions sight (text_at c.args.text.now span) (before_last 41 (text_at c.args.text.now c.after-rest.result))) c.front.ensures
    ∙ ap (λ span. call_argument_with functions sight (text_at c.args.text.now (front_of c.args.place (length c.in-Some.name.now))) (before_last 41 (text_at c.args.text.now span)))
    (c.after-rest.ensures ∙ ap (λ bytes. after_of c.args.place (length bytes - length c.in-Some.after.now)) c.of-head.ensures))
