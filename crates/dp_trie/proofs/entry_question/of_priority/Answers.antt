use Rattle.std.proofs.Common.{refl, sym, ap}
use Rattle.std.specs.Option.{option_map}
use Rattle.std.proofs.lemmas.Option.{slice_get_read}
use Rattle.dp_trie.specs.Asked.{hit_held}
use Rattle.dp_trie.proofs.RisingLemmas.{found-at}
use Rattle.dp_trie.proofs.entry_question.of_priority.Goals as goal

pub returns-in-Some : goal.returns-in-Some
returns-in-Some c =
    let found = c.in-Some.ensures.lookup.3 in
    let here = slice_get_read c.args.held.now _ c.saturating_sub-place.result c.in-Some.one.now refl found.0 (found.1 c.in-Some.one.now) in
    ap (option_map hit_held) (sym (found-at c.args.held.now c.saturating_sub-place.result c.in-Some.one.now c.args.priority c.requires here c.if-one-priority.true))
