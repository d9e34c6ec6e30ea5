use Rattle.std.proofs.Common.{◌++◌, ◌-◌, List, ℕ, Some, length, take, sym, ap, ◌∙◌, arith}
use Rattle.std.specs.Option.{option_map}
use Rattle.dp_commands.specs.Joined.{lines_before, lines_after}
use Rattle.dp_conf.proofs.LinesLemmas.{parts_left, parts_left-cut}
use Rattle.dp_commands.proofs.JoinedLemmas.{bytes_left, place-turn, lines_before-turn, lines_after-turn, text_before-found, text_after-found, text_before-absent, text_after-absent}
use Rattle.dp_commands.proofs.joined_text.split_at_line.Goals as goal

pub returns-then-is_separator-clause-before : goal.returns-then-is_separator-clause-before
returns-then-is_separator-clause-before c =
    let separator = c.args.separator.now in
    let text = c.args.text.now in
    let left = c.in-Some.left.now in
    let part = c.first_part.result.0.now in
    let after = c.first_part.result.1 in
    let cut = parts_left-cut left part after c.first_part.ensures.parts in
    text_before-found separator text left part (parts_left after) c.loop-rest.start
    (c.loop-rest.invariant.before ∙ ap (λ rest. option_map (λ later. take c.loop-rest.start text ++ later) (lines_before separator (parts_left rest))) c.in-Some.is)
    cut (sym c.is_separator.ensures ∙ c.if-is_separator.true)

pub returns-then-is_separator-clause-after : goal.returns-then-is_separator-clause-after
returns-then-is_separator-clause-after c =
    let separator = c.args.separator.now in
    let text = c.args.text.now in
    let left = c.in-Some.left.now in
    let part = c.first_part.result.0.now in
    let after = c.first_part.result.1 in
    let cut = parts_left-cut left part after c.first_part.ensures.parts in
    ap (λ (t : List ℕ). Some t) c.or_empty.ensures ∙ text_after-found separator text left part after
    (c.loop-rest.invariant.after ∙ ap (λ rest. lines_after separator (parts_left rest)) c.in-Some.is) cut (sym c.is_separator.ensures ∙ c.if-is_separator.true)

pub returns-clause-before : goal.returns-clause-before
returns-clause-before c =
    let separator = c.args.separator.now in
    text_before-absent separator c.args.text.now c.loop-rest.start
    (c.loop-rest.invariant.before ∙ ap (λ rest. option_map (λ later. take c.loop-rest.start c.args.text.now ++ later) (lines_before separator (parts_left rest))) c.in_default.is)

pub returns-clause-after : goal.returns-clause-after
returns-clause-after c =
    let separator = c.args.separator.now in
    text_after-absent separator c.args.text.now (c.loop-rest.invariant.after ∙ ap (λ rest. lines_after separator (parts_left rest)) c.in_default.is)

pub loop-rest-preserved : goal.loop-rest-preserved
loop-rest-preserved c =
    let separator = c.args.separator.now in
    let text = c.args.text.now in
    let left = c.in-Some.left.now in
    let part = c.first_part.result.0.now in
    let after = c.first_part.result.1 in
    let cut = parts_left-cut left part after c.first_part.ensures.parts in
    let other = sym c.is_separator.ensures ∙ c.if-is_separator.false in
    let place = ap (λ rest. take c.loop-rest.start text ++ bytes_left rest) (sym c.in-Some.is) ∙ c.loop-rest.invariant.place in
    let size = ap length c.or_empty-in-Some.ensures in
    record {
      within = omega arith;
      place = ap (λ n. take (length text - n) text ++ bytes_left after) size ∙ place-turn text left part after c.loop-rest.start place cut;
      before = c.loop-rest.invariant.before ∙ (ap (λ rest. option_map (λ later. take c.loop-rest.start text ++ later) (lines_before separator (parts_left rest))) c.in-Some.is
          ∙ (lines_before-turn separator text left part after c.loop-rest.start place cut other
          ∙ ap (λ n. option_map (λ later. take (length text - n) text ++ later) (lines_before separator (parts_left after))) (sym size)));
      after = c.loop-rest.invariant.after ∙ (ap (λ rest. lines_after separator (parts_left rest)) c.in-Some.is ∙ lines_after-turn separator left part (parts_left after) cut other);
    }
