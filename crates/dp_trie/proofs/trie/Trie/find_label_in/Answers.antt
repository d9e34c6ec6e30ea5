use Rattle.std.proofs.Common.{List, ◌∙◌, false, refl, sym, ap}
use Rattle.std.specs.Option.{option_map, option_and_then}
use Rattle.dp_lookup.specs.FoundEntry as entries
use Rattle.dp_lookup.specs.FoundEntry.{found_label, priority_at}
use Rattle.dp_pattern.specs.Dashes.{without_dashes}
use Rattle.dp_trie.specs.Asked.{is_asked, has_label}
use Rattle.dp_trie.specs.Known.{Known, KeptContext, found_first}
use Rattle.dp_trie.proofs.KeepLemmas.{found-first, found-priority}
use Rattle.dp_trie.proofs.trie.Trie.find_label_in.Goals as goal

pub returns : goal.returns
unfolding found_label
returns c = λ plan keeps.
    let test = is_asked false (has_label c.args.label.now) (without_dashes c.args.text.now) in
    let order = c.args.contexts.now in
    c.look_up_label.ensures
    ∙ (ap (λ (kept : List KeptContext). option_map (λ (k : Known). k.priority) (found_first kept test order)) (c.deref.ensures.value ∙ c.self.view_is)
    ∙ (sym (found-priority plan c.args.self.now keeps test order)
    ∙ ap (option_and_then (priority_at plan)) (sym (found-first plan c.args.self.now keeps (entries.has_label c.args.text.now c.args.label.now) test (λ id entry. refl) order))))
