use Rattle.std.proofs.Common.{◌<◌, ◌++◌, map, sym, ap, ◌∙◌, subst}
use Rattle.std.proofs.lemmas.List.{append-nil}
use Rattle.dp_pieces.specs.Arguments.{shapes_of}
use Rattle.dp_pieces.specs.Shown.{shown_all}
use Rattle.dp_pieces.specs.Trimmed.{without_end_blanks}
use Rattle.dp_pieces.proofs.PartLemmas.{count-less, left_count, parts_left, shapes-left}
use Rattle.dp_pieces.proofs.arguments.shapes_of.Goals as goal

pub loop-rest-smaller : goal.loop-rest-smaller
loop-rest-smaller c =
    subst (λ n. left_count c.first_part.result.1 < n) (ap left_count (sym c.in-Some.is)) (count-less c.in-Some.left.now c.first_part.result.1 c.first_part.ensures.shorter)

pub loop-rest-preserved : goal.loop-rest-preserved
loop-rest-preserved c =
    shapes-left c.loop-rest.shapes.items c.push.new.self.items c.in_ok-trim_pieces.field-0 c.first_part.result.0.now c.in-Some.left.now c.first_part.result.1
    c.in_ok-push.ensures.items c.in_ok-trim_pieces.ensures c.first_part.ensures.parts
    ∙ (ap (λ rest. map (λ shape. shown_all shape.items) c.loop-rest.shapes.items ++ map without_end_blanks (parts_left rest)) (sym c.in-Some.is) ∙ c.loop-rest.invariant)

pub returns : goal.returns
unfolding shapes_of
returns c =
    sym (append-nil (map (λ shape. shown_all shape.items) c.loop-rest.shapes.items))
    ∙ (ap (λ rest. map (λ shape. shown_all shape.items) c.loop-rest.shapes.items ++ map without_end_blanks (parts_left rest)) (sym c.in_default.is) ∙ c.loop-rest.invariant)
