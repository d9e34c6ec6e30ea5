use Rattle.std.proofs.Common.{ap, ◌∙◌, sym}
use Rattle.dp_vars.specs.Far.{asked_at_most}
use Rattle.dp_vars.specs.Parts.{part_from, offset_of, length_of, part_of_cut}
use Rattle.dp_vars.proofs.PartsLemmas.{part_from-at_most}
use Rattle.dp_vars.proofs.part.read_asked.Goals as goal

pub returns-in-Some : goal.returns-in-Some
returns-in-Some c =
    c.part_from-in-Some.ensures
    ∙ (λ i. part_from (c.read_offset-in-Some.ensures i) (c.read_length.ensures i))
    ∙ part_from-at_most (offset_of c.in-Some.offset.now) (length_of c.in-Some.length.now)
    ∙ ap (λ cut. asked_at_most (part_of_cut c.args.tail.now cut)) (sym c.in-Some.ensures)
