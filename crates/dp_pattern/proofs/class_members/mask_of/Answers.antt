use Rattle.std.proofs.Common.{◌≡◌, slice_index, rules}
use Rattle.dp_pattern.proofs.KeptLemmas.{class_by-mask}
use Rattle.dp_pattern.proofs.class_members.mask_of.Goals as goal

pub returns-in-0 : goal.returns-in-0
returns-in-0 c =
    let words = c.args.words.now in
    let second : slice_index words 1 ≡ 0 = search rules in
    let third : slice_index words 2 ≡ 0 = search rules in
    let fourth : slice_index words 3 ≡ 0 = search rules in
    class_by-mask words (search rules) c.if-first-eq0.true second third fourth
