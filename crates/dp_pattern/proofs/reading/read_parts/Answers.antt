use Rattle.std.proofs.Common.{◌≡◌, true, false, ◌∷◌, rules}
use Rattle.std.specs.List.{list_all}
use Rattle.dp_pattern.specs.Dashes.{is_dash}
use Rattle.dp_pattern.specs.Name.{Wild, pieces_of}
use Rattle.dp_pattern.proofs.PieceLemmas.{ends_wild, ends_wild-fault}
use Rattle.dp_pattern.proofs.reading.read_parts.Goals as goal

pub returns-in-Wild : goal.returns-in-Wild
returns-in-Wild c =
    let cut : pieces_of c.loop-piece.rest.now ≡ Wild c.in-Wild.tail ∷ pieces_of c.in-Some.after.now = search rules in
    let dashes : list_all is_dash c.in-Some.after.now ≡ true = search rules in
    ends_wild _ _ _ c.in-Some.after.now _ c.loop-piece.invariant cut dashes

pub returns-in-Wild-2 : goal.returns-in-Wild-2
returns-in-Wild-2 c =
    let cut : pieces_of c.loop-piece.rest.now ≡ Wild c.in-Wild-2.field-0 ∷ pieces_of c.in-Some.after.now = search rules in
    let dashes : list_all is_dash c.in-Some.after.now ≡ false = search rules in
    ends_wild-fault _ _ _ c.in-Some.after.now _ c.loop-piece.invariant cut dashes
