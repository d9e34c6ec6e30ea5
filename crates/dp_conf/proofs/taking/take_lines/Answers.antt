use Rattle.std.proofs.Common.{◌+◌, Bool, false, fold, length, sym, ap, ◌∙◌, arith}
use Rattle.std.proofs.lemmas.Result.{err_from_is_err_and}
use Rattle.dp_conf.specs.Lines.{line_fault, parts_of, lines_of, items_before_fault, at_line, part_item}
use Rattle.dp_conf.specs.Taking.{all_taken, part_taken}
use Rattle.dp_conf.proofs.AnswersLemmas.{Refuses-passed_on}
use Rattle.dp_conf.proofs.LinesLemmas.{length-without_mark, parts_left, left_len, parts_left-cut, left_len-cut}
use Rattle.dp_conf.proofs.TakingLemmas.{rest_taken, rest_taken-text, rest_taken-turn, rest_taken-refused, front_taken, front_taken-text, front_taken-turn, AtFault-front_taken}
use Rattle.dp_conf.proofs.taking.take_lines.Goals as goal

pub loop-rest-init : goal.loop-rest-init
loop-rest-init g c =
    let next = g.T.TakeLine.after_line in
    let shorter = length-without_mark c.args.text.now in
    let same = ap length c.without_mark.ensures in
    record {
      counted = omega (arith, shorter, same);
      whole = ap (λ text. rest_taken next false 0 c.args.taker.now (parts_of text)) c.without_mark.ensures ∙ rest_taken-text next c.args.taker.now c.args.text.now;
      front = ap (λ text. front_taken next false 0 c.args.taker.now (parts_of text)) c.without_mark.ensures ∙ front_taken-text next c.args.taker.now c.args.text.now;
    }

pub loop-rest-preserved : goal.loop-rest-preserved
loop-rest-preserved g c =
    let next = g.T.TakeLine.after_line in
    let l = c.loop-rest in
    let part = c.first_part.result.0.now in
    let after = c.first_part.result.1 in
    let cut = ap parts_left c.in-Some.is ∙ parts_left-cut c.in-Some.left.now part after c.first_part.ensures.parts in
    let shorter = left_len-cut c.in-Some.left.now after c.first_part.ensures.shorter in
    let left = ap left_len c.in-Some.is in
    record {
      counted = omega (arith, shorter, left, l.invariant.counted);
      whole =
          rest_taken-turn next l.in_section c.in_ok-in_section.in_section l.line l.taker c.take_part.new.taker part (parts_left after) c.in_ok-in_section.ensures.taken
          ∙ (ap (rest_taken next l.in_section l.line l.taker) (sym cut) ∙ l.invariant.whole);
      front =
          front_taken-turn next l.in_section c.in_ok-in_section.in_section l.line l.taker c.take_part.new.taker part (parts_left after) c.in_ok-in_section.ensures.taken
          ∙ (ap (front_taken next l.in_section l.line l.taker) (sym cut) ∙ l.invariant.front);
    }

pub returns-in_err-in_section : goal.returns-in_err-in_section
returns-in_err-in_section g c =
    let next = g.T.TakeLine.after_line in
    let l = c.loop-rest in
    let part = c.first_part.result.0.now in
    let after = c.first_part.result.1 in
    let cut = ap parts_left c.in-Some.is ∙ parts_left-cut c.in-Some.left.now part after c.first_part.ensures.parts in
    let read = at_line (l.line + 1) (part_item l.in_section (l.line + 1) part) in
    let p = err_from_is_err_and c.from_residual.result c.from_residual.ensures.1 in
    let refused = Refuses-passed_on (line_fault c.in_err-in_section.field-0.0) (part_taken next l.in_section l.taker read) (all_taken next c.args.taker.now (lines_of c.args.text.now))
    (λ fault e.
    sym (ap (rest_taken next l.in_section l.line l.taker) (sym cut) ∙ l.invariant.whole)
    ∙ rest_taken-refused next l.in_section l.line l.taker part (parts_left after) fault e)
    c.in_err-in_section.ensures.taken in
    let left = AtFault-front_taken Bool (Unit {0}) next l.in_section l.line l.taker c.take_part.new.taker (fold next c.args.taker.now (items_before_fault c.args.text.now)) part (parts_left after)
    c.in_err-in_section.field-0.0 c.in_err-in_section.ensures.taken c.in_err-in_section.ensures.kept
    (ap (front_taken next l.in_section l.line l.taker) (sym cut) ∙ l.invariant.front) in
    rw (p.1, p.2) (record { taken = refused; left = left })
