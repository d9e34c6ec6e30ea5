use Rattle.std.proofs.Common.{◌≡◌, ◌∙◌, [], sym, ap, subst, length, Option, vec_len, arith}
use Rattle.std.proofs.lemmas.Grind.{common_steps}
use Rattle.std.specs.List.{find}
use Rattle.std.specs.Option.{option_map}
use Rattle.dp_pattern.specs.Dashes.{without_dashes}
use Rattle.dp_trie.specs.Asked.{is_more, wants, is_asked, hit_of}
use Rattle.dp_trie.specs.Entered.{entered_count}
use Rattle.dp_trie.specs.Known.{Known}
use Rattle.dp_trie.specs.Names.{known_plain}
use Rattle.dp_trie.specs.Tree.{known_from}
use Rattle.dp_trie.proofs.EnteredLemmas.{plain-answers, none-entered_count, tree-answers}
use Rattle.dp_trie.proofs.PlainLemmas.{both-some, both-none, no-nodes, none-counted, tree-counted, names-plain, HasAtMost}
use Rattle.dp_trie.proofs.context_table.ContextTable.find.Goals as goal

pub returns-in-Some-clause-hit : goal.returns-in-Some-clause-hit
returns-in-Some-clause-hit c =
    let inside = c.self.inside in
    let test = is_asked (is_more c.args.question) (wants c.args.question) (without_dashes c.args.digits.now.text.now) in
    let found = rw (c.deref.ensures.value, c.deref-2.ensures.value) at c.in-Some.ensures in
    found ∙ ap (option_map hit_of) (sym (both-some test (known_plain inside.plain.items inside.names.items) (known_from inside.held.items [] inside.nodes.items) c.in-Some.hit found))
    ∙ ap (λ kept. option_map hit_of (find test kept.entries)) c.self.view_is

pub returns-in-Some-clause-count : goal.returns-in-Some-clause-count
returns-in-Some-clause-count c =
    let inside = c.self.inside in
    let found = rw (c.deref.ensures.value, c.deref-2.ensures.value) at c.in-Some.ensures in
    plain-answers (is_more c.args.question) (wants c.args.question) (without_dashes c.args.digits.now.text.now) inside.plain.items inside.held.items inside.names.items inside.nodes.items c.in-Some.hit found
    ∙ ap (λ kept. entered_count (is_more c.args.question) (wants c.args.question) (without_dashes c.args.digits.now.text.now) kept.entries) c.self.view_is

pub returns-in-Some-clause-least : goal.returns-in-Some-clause-least
returns-in-Some-clause-least c =
    let inside = c.self.inside in
    let test = is_asked (is_more c.args.question) (wants c.args.question) (without_dashes c.args.digits.now.text.now) in
    let found = rw (c.deref.ensures.value, c.deref-2.ensures.value) at c.in-Some.ensures in
    subst (λ kept. HasAtMost (find test kept.entries) 0) c.self.view_is
    (subst (λ (o : Option Known). HasAtMost o 0) (sym (both-some test (known_plain inside.plain.items inside.names.items) (known_from inside.held.items [] inside.nodes.items) c.in-Some.hit found))
    (none-counted _ 0 (names-plain inside.plain.items test inside.names.items)))

pub returns-then-is_empty-clause-hit : goal.returns-then-is_empty-clause-hit
returns-then-is_empty-clause-hit c =
    let inside = c.self.inside in
    let test = is_asked (is_more c.args.question) (wants c.args.question) (without_dashes c.args.digits.now.text.now) in
    let absent = rw (c.deref.ensures.value, c.deref-2.ensures.value) at c.in-None.ensures in
    let none : vec_len inside.nodes ≡ 0 = grind (arith, common_steps) in
    let empty : length inside.nodes.items ≡ 0 = omega (arith, none, inside.nodes.ok) in
    ap (option_map hit_of) (sym (both-none test (known_plain inside.plain.items inside.names.items) (known_from inside.held.items [] inside.nodes.items) absent ∙ no-nodes test inside.held.items inside.nodes.items empty))
    ∙ ap (λ kept. option_map hit_of (find test kept.entries)) c.self.view_is

pub returns-then-is_empty-clause-count : goal.returns-then-is_empty-clause-count
returns-then-is_empty-clause-count c =
    let inside = c.self.inside in
    let absent = rw (c.deref.ensures.value, c.deref-2.ensures.value) at c.in-None.ensures in
    let none : vec_len inside.nodes ≡ 0 = grind (arith, common_steps) in
    let empty : length inside.nodes.items ≡ 0 = omega (arith, none, inside.nodes.ok) in
    none-entered_count (is_more c.args.question) (wants c.args.question) (without_dashes c.args.digits.now.text.now) inside.held.items inside.nodes.items empty
    ∙ tree-answers (is_more c.args.question) (wants c.args.question) (without_dashes c.args.digits.now.text.now) inside.plain.items inside.held.items inside.names.items inside.nodes.items absent
    ∙ ap (λ kept. entered_count (is_more c.args.question) (wants c.args.question) (without_dashes c.args.digits.now.text.now) kept.entries) c.self.view_is

pub returns-then-is_empty-clause-least : goal.returns-then-is_empty-clause-least
returns-then-is_empty-clause-least c =
    let inside = c.self.inside in
    let test = is_asked (is_more c.args.question) (wants c.args.question) (without_dashes c.args.digits.now.text.now) in
    let absent = rw (c.deref.ensures.value, c.deref-2.ensures.value) at c.in-None.ensures in
    let none : vec_len inside.nodes ≡ 0 = grind (arith, common_steps) in
    let empty : length inside.nodes.items ≡ 0 = omega (arith, none, inside.nodes.ok) in
    subst (λ kept. HasAtMost (find test kept.entries) 0) c.self.view_is
    (subst (λ (o : Option Known). HasAtMost o 0) (sym (both-none test (known_plain inside.plain.items inside.names.items) (known_from inside.held.items [] inside.nodes.items) absent ∙ no-nodes test inside.held.items inside.nodes.items empty)) tt)

pub returns-else-is_empty-clause-hit : goal.returns-else-is_empty-clause-hit
returns-else-is_empty-clause-hit c =
    let inside = c.self.inside in
    let test = is_asked (is_more c.args.question) (wants c.args.question) (without_dashes c.args.digits.now.text.now) in
    let absent = rw (c.deref.ensures.value, c.deref-2.ensures.value) at c.in-None.ensures in
    rw (c.deref-in-None.ensures.value, c.deref-in-None-4.ensures.value) at c.find.ensures.hit ∙ ap (option_map hit_of) (sym (both-none test (known_plain inside.plain.items inside.names.items) (known_from inside.held.items [] inside.nodes.items) absent))
    ∙ ap (λ kept. option_map hit_of (find test kept.entries)) c.self.view_is

pub returns-else-is_empty-clause-count : goal.returns-else-is_empty-clause-count
returns-else-is_empty-clause-count c =
    let inside = c.self.inside in
    let absent = rw (c.deref.ensures.value, c.deref-2.ensures.value) at c.in-None.ensures in
    rw (c.deref-in-None.ensures.value, c.deref-in-None-4.ensures.value) at c.find.ensures.count ∙ c.self.invariant.6.each (is_more c.args.question) (wants c.args.question) (without_dashes c.args.digits.now.text.now)
    ∙ tree-answers (is_more c.args.question) (wants c.args.question) (without_dashes c.args.digits.now.text.now) inside.plain.items inside.held.items inside.names.items inside.nodes.items absent
    ∙ ap (λ kept. entered_count (is_more c.args.question) (wants c.args.question) (without_dashes c.args.digits.now.text.now) kept.entries) c.self.view_is

pub returns-else-is_empty-clause-least : goal.returns-else-is_empty-clause-least
returns-else-is_empty-clause-least c =
    let inside = c.self.inside in
    let test = is_asked (is_more c.args.question) (wants c.args.question) (without_dashes c.args.digits.now.text.now) in
    let absent = rw (c.deref.ensures.value, c.deref-2.ensures.value) at c.in-None.ensures in
    subst (λ kept. HasAtMost (find test kept.entries) c.find.result.count) c.self.view_is
    (subst (λ (o : Option Known). HasAtMost o c.find.result.count) (sym (both-none test (known_plain inside.plain.items inside.names.items) (known_from inside.held.items [] inside.nodes.items) absent))
    (tree-counted _ c.find.result.count (rw (c.deref-in-None.ensures.value, c.deref-in-None-4.ensures.value) at c.find.ensures.least)))
