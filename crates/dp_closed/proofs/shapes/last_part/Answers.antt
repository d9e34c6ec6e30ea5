use Rattle.std.proofs.Common.{◌<◌, ◌∷◌, sym, ap, ◌∙◌, subst}
use Rattle.dp_pieces.specs.Shown.{shown_all}
use Rattle.dp_pieces.proofs.PartLemmas.{count-less, left_count, parts-first, parts_left}
use Rattle.dp_reach.specs.Choices.{last_part}
use Rattle.dp_closed.proofs.KnownLemmas.{split-more}
use Rattle.dp_closed.proofs.shapes.last_part.Goals as goal

pub loop-rest-init : goal.loop-rest-init
loop-rest-init c = split-more (shown_all c.args.pieces.now) 0 (shown_all c.args.pieces.now)

pub loop-rest-smaller : goal.loop-rest-smaller
loop-rest-smaller c =
    subst (λ n. left_count c.first_part.result.1 < n) (ap left_count (sym c.in-Some.is)) (count-less c.in-Some.left.now c.first_part.result.1 c.first_part.ensures.shorter)

pub loop-rest-preserved : goal.loop-rest-preserved
loop-rest-preserved c =
    ap last_part (sym (parts-first c.in-Some.left.now c.first_part.result.0.now c.first_part.result.1 c.first_part.ensures.parts))
    ∙ (sym (split-more (shown_all c.loop-rest.last.now) 0 (shown_all c.in-Some.left.now))
    ∙ (ap (λ rest. last_part (shown_all c.loop-rest.last.now ∷ parts_left rest)) (sym c.in-Some.is) ∙ c.loop-rest.invariant))

pub returns : goal.returns
returns c = ap (λ rest. last_part (shown_all c.loop-rest.last.now ∷ parts_left rest)) (sym c.in_default.is) ∙ c.loop-rest.invariant
