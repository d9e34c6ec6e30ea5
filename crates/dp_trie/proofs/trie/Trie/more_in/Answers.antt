use Rattle.std.proofs.Common.{List, ◌∙◌, refl, sym, ap}
use Rattle.std.specs.Prelude.{is_some}
use Rattle.std.specs.Option.{option_map}
use Rattle.dp_lookup.specs.FoundEntry.{goes_on_more, begins_later}
use Rattle.dp_pattern.specs.Dashes.{without_dashes}
use Rattle.dp_trie.specs.Asked.{is_more, wants, is_asked, hit_of}
use Rattle.dp_trie.specs.Known.{KeptContext, found_first}
use Rattle.dp_trie.specs.declared.entry_question.EntryQuestion.TheVariants.{More}
use Rattle.dp_trie.proofs.KeepLemmas.{found-first}
use Rattle.dp_trie.proofs.trie.Trie.more_in.Goals as goal

pub returns : goal.returns
unfolding goes_on_more
returns c = λ plan keeps.
    let test = is_asked (is_more More) (wants More) (without_dashes c.args.text.now) in
    let order = c.args.contexts.now in
    c.is_some.ensures
    ∙ (ap is_some (c.look_up-found.ensures.hit ∙ ap (λ (kept : List KeptContext). option_map hit_of (found_first kept test order)) (c.deref.ensures.value ∙ c.self.view_is))
    ∙ ap is_some (sym (found-first plan c.args.self.now keeps (begins_later c.args.text.now) test (λ id entry. refl) order)))
