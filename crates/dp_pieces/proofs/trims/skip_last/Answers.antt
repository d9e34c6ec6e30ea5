use Rattle.std.proofs.Common.{◌≡◌, true, false, sym, ◌∙◌}
use Rattle.dp_pieces.specs.Shown.{shown_piece}
use Rattle.dp_pieces.specs.steps.Softened.{blank_of}
use Rattle.dp_pieces.proofs.SoftLemmas.{kept-blank, kept-last}
use Rattle.dp_pieces.proofs.trims.skip_last.Goals as goal

pub returns-then-not-is_known_blank : goal.returns-then-not-is_known_blank
returns-then-not-is_known_blank c =
    let kept : blank_of (shown_piece c.in-Some.last.now) ≡ false = sym c.is_known_blank.ensures ∙ c.if-not-is_known_blank.true in
    sym (kept-last c.loop-last.left.now c.in-Some.front.now c.in-Some.last.now c.in-Some.ensures.cases.0 kept) ∙ c.loop-last.invariant

pub loop-last-preserved : goal.loop-last-preserved
loop-last-preserved c =
    let blank : blank_of (shown_piece c.in-Some.last.now) ≡ true = sym c.is_known_blank.ensures ∙ c.if-not-is_known_blank.false in
    sym (kept-blank c.loop-last.left.now c.in-Some.front.now c.in-Some.last.now c.in-Some.ensures.cases.0 blank) ∙ c.loop-last.invariant
