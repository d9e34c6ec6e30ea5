use Rattle.std.proofs.Common.{◌≡◌, true, false, sym, ap, ◌∙◌}
use Rattle.dp_conf.specs.Blanks.{trim_end, is_blank}
use Rattle.dp_conf.proofs.TrimLemmas.{trim_end-push_blank, trim_end-push_kept}
use Rattle.dp_conf.proofs.cut.trim_end.Goals as goal

pub loop-last-preserved : goal.loop-last-preserved
loop-last-preserved c =
    let blank : is_blank c.in-Some.last.now ≡ true = sym c.is_blank.ensures ∙ c.if-not-is_blank.false in
    let cut = trim_end-push_blank c.in-Some.front.now c.in-Some.last.now blank in
    sym cut ∙ (ap trim_end (sym c.in-Some.ensures.cases.0) ∙ c.loop-last.invariant)

pub returns-then-not-is_blank : goal.returns-then-not-is_blank
returns-then-not-is_blank c =
    let kept : is_blank c.in-Some.last.now ≡ false = sym c.is_blank.ensures ∙ c.if-not-is_blank.true in
    let whole = trim_end-push_kept c.in-Some.front.now c.in-Some.last.now kept in
    c.in-Some.ensures.cases.0 ∙ (sym whole ∙ (ap trim_end (sym c.in-Some.ensures.cases.0) ∙ c.loop-last.invariant))
