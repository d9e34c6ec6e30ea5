use Rattle.std.proofs.Common.{◌≡◌, ◌<◌, ◌^◌, Some, length, ap, ◌∙◌, arith}
use Rattle.std.proofs.lemmas.List.{length-map}
use Rattle.dp_pieces.specs.Names.{part_pieces}
use Rattle.dp_pieces.specs.Shown.{shown_piece, shown_all}
use Rattle.dp_vars.specs.Parts.{asked_of}
use Rattle.dp_pieces.proofs.FarLemmas.{part_pieces-at_most}
use Rattle.dp_wide_pieces.proofs.wide_names.WideNamesAt.part.Goals as goal

pub returns : goal.returns
returns c =
    let size : length (shown_all c.in_ok-whole.whole.items) ≡ length c.in_ok-whole.whole.items = length-map c.in_ok-whole.whole.items shown_piece in
    let small : length (shown_all c.in_ok-whole.whole.items) < 2 ^ 64 = omega (arith, size, c.in_ok-whole.whole.small) in
    c.in_ok-part.ensures
    ∙ ((λ i. part_pieces (c.read_asked.ensures i) (shown_all (c.deref.ensures.value i)))
    ∙ (part_pieces-at_most (asked_of (Some c.args.tail.now)) (shown_all c.in_ok-whole.whole.items) small
    ∙ ap (part_pieces (asked_of (Some c.args.tail.now))) c.in_ok-whole.ensures))
