use Rattle.std.proofs.Common.{◌-◌, ◌^◌, min, List, Option, ◌∙◌, refl, sym, ap, subst}
use Rattle.std.specs.Option.{option_map}
use Rattle.dp_lookup.specs.FoundEntry.{found_entry, has_priority}
use Rattle.dp_pattern.specs.Dashes.{without_dashes}
use Rattle.dp_plan.specs.declared.entry.EntryId.{EntryId}
use Rattle.dp_trie.specs.Asked.{is_more, wants, is_asked, hit_of}
use Rattle.dp_trie.specs.Entered.{entered_first}
use Rattle.dp_trie.specs.Known.{KeptContext, found_first, FindsPattern}
use Rattle.dp_trie.specs.declared.entry_question.EntryQuestion.TheVariants.{Priority}
use Rattle.dp_trie.proofs.KeepLemmas.{found-first, found-pattern}
use Rattle.dp_trie.proofs.PlainLemmas.{HasAtMost}
use Rattle.dp_trie.proofs.trie.Trie.counted_in.Goals as goal

pub returns-clause-found : goal.returns-clause-found
unfolding found_entry
returns-clause-found c = λ plan keeps.
    let test = is_asked (is_more (Priority c.args.priority)) (wants (Priority c.args.priority)) (without_dashes c.args.text.now) in
    let order = c.args.contexts.now in
    c.look_up-found.ensures.hit
    ∙ (ap (λ (kept : List KeptContext). option_map hit_of (found_first kept test order)) (c.deref.ensures.value ∙ c.self.view_is)
    ∙ sym (found-first plan c.args.self.now keeps (has_priority c.args.text.now c.args.priority) test (λ id entry. refl) order))

pub returns-clause-count : goal.returns-clause-count
returns-clause-count c =
    c.look_up-found.ensures.count
    ∙ ap (λ (kept : List KeptContext). min (entered_first kept (is_more (Priority c.args.priority)) (wants (Priority c.args.priority)) (without_dashes c.args.text.now) c.args.contexts.now) (2 ^ 64 - 1)) (c.deref.ensures.value ∙ c.self.view_is)

pub returns-clause-least : goal.returns-clause-least
returns-clause-least c = λ plan keeps.
    let test = is_asked (is_more (Priority c.args.priority)) (wants (Priority c.args.priority)) (without_dashes c.args.text.now) in
    let order = c.args.contexts.now in
    let same =
    c.look_up-found.ensures.hit ∙ ap (λ (kept : List KeptContext). option_map hit_of (found_first kept test order)) (c.deref.ensures.value ∙ c.self.view_is) in
    subst (λ (o : Option EntryId). FindsPattern plan o c.look_up-found.result.count) (sym same)
    (found-pattern plan c.args.self.now keeps test order c.look_up-found.result.count
    (subst (λ (kept : List KeptContext). HasAtMost (found_first kept test order) c.look_up-found.result.count) (c.deref.ensures.value ∙ c.self.view_is) c.look_up-found.ensures.least))
