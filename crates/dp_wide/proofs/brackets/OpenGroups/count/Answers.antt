use Rattle.std.proofs.Common.{◌≡◌, rules, tests}
use Rattle.std.specs.List.{list_any}
use Rattle.std.proofs.lemmas.Iterator.{YieldsList-from_slice}
use Rattle.std.proofs.lemmas.Iterator.Search.{any_from_yields_List}
use Rattle.dp_wide.specs.Brackets.{counts_in}
use Rattle.dp_wide.proofs.BracketsLemmas.{any-reverse}
use Rattle.dp_wide.proofs.brackets.OpenGroups.count.Goals as goal

pub returns : goal.returns
returns c =
    let counted : c.any.result ≡ list_any (counts_in c.args.byte) c.deref.result.now =
    any_from_yields_List (counts_in c.args.byte) _ _ _ c.any.ensures.ran (YieldsList-from_slice c.deref.result.now cc)
    (λ x b q k. search (rules, tests)) in
    let items = c.deref.ensures.value in
    let turned = any-reverse (counts_in c.args.byte) c.self.inside.kinds.items in
    let view = c.self.view_is in
    cc
