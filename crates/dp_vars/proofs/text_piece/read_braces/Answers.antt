use Rattle.std.proofs.Common.{sym, ap, ◌∙◌, ◌-◌, length}
use Rattle.dp_conf.specs.Levels.{cut_outside}
use Rattle.dp_vars.specs.Heads.{head_seen}
use Rattle.dp_vars.specs.Spans.{text_at}
use Rattle.dp_vars.specs.steps.Spans.{after_of}
use Rattle.dp_vars.specs.Values.{head_value_with}
use Rattle.dp_vars.proofs.HeadsLemmas.{full-found, part-found}
use Rattle.dp_vars.proofs.text_piece.read_braces.Goals as goal

pub returns-in_ok-piece-in-None : goal.returns-in_ok-piece-in-None
returns-in_ok-piece-in-None c functions sight written =
    c.in_ok-piece-in-None.ensures functions sight c.args.text.now written
    ∙ full-found functions sight c.args.text.now c.args.place c.read_head.result written (ap (cut_outside 58) (sym c.of-body.ensures) ∙ c.in-None.ensures.cut)
    (λ f s. c.read_head.ensures f s)

pub returns-in_ok-cut-in-Some : goal.returns-in_ok-cut-in-Some
returns-in_ok-cut-in-Some c functions sight written =
    part-found functions sight c.args.text.now c.args.place c.in-Some.head.now c.in-Some.tail.now c.in_ok-cut-in-Some.cut.value written
    (ap (cut_outside 58) (sym c.of-body.ensures) ∙ c.in-Some.ensures.cut)
    (λ f s. ap (λ cut. head_seen f s c.args.text.now cut.head) c.in_ok-cut-in-Some.ensures.ok
    ∙ c.read_head-in-Some.ensures f s ∙ ap (λ span. head_value_with f s (text_at c.args.text.now span)) c.front.ensures)
    (ap (λ cut. cut.tail) c.in_ok-cut-in-Some.ensures.ok
    ∙ c.after.ensures ∙ ap (λ bytes. after_of c.args.place (length bytes - length c.in-Some.tail.now)) c.of-body.ensures)
    (ap (λ cut. cut.asked) c.in_ok-cut-in-Some.ensures.ok ∙ c.read_asked.ensures)
