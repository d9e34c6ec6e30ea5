use Rattle.std.proofs.Common.{◌<◌, ◌&&◌, ◌||◌, ◌∙◌, length, refl, ap, arith}
use Rattle.dp_closed.specs.Answers.{has_place, is_same, is_marked}
use Rattle.dp_closed.proofs.MarkLemmas.{more-mark, same-places}
use Rattle.dp_closed.proofs.marks.Marks.mark.Goals as goal

pub returns-clause-marks : goal.returns-clause-marks
returns-clause-marks c = λ other.
    let marks = c.self.inside.rows.items in
    let within : c.args.id.context < length marks = omega (arith, c.in-Some.ensures.variant.0 refl, c.self.inside.rows.ok) in
    more-mark marks c.args.id other c.in-Some.row.now c.set_mark.new.marks within c.in-Some.ensures.value c.set_mark.ensures
    ∙ ap (λ ms. (is_same other c.args.id && has_place ms c.args.id) || is_marked ms other) c.self.view_is

pub returns-clause-places : goal.returns-clause-places
returns-clause-places c = λ other.
    let marks = c.self.inside.rows.items in
    let within : c.args.id.context < length marks = omega (arith, c.in-Some.ensures.variant.0 refl, c.self.inside.rows.ok) in
    same-places marks c.args.id other c.in-Some.row.now c.set_mark.new.marks within c.in-Some.ensures.value c.set_mark.ensures
    ∙ ap (λ ms. has_place ms other) c.self.view_is
