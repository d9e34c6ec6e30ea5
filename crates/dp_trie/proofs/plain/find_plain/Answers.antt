use Rattle.std.proofs.Common.{◌<◌, ◌≤◌, ◌∙◌, arith, refl, sym, ap, subst, take, drop}
use Rattle.std.specs.Prelude.{slice_range}
use Rattle.std.specs.List.{AllByRecursion, find}
use Rattle.std.specs.Option.{option_map}
use Rattle.dp_pattern.specs.Dashes.{without_dashes}
use Rattle.dp_trie.specs.Asked.{is_more, wants, is_asked, hit_of, Rise}
use Rattle.dp_trie.specs.Names.{known_plain, rank, rank_of, fitting, NamesRise, RiseEach}
use Rattle.dp_trie.specs.declared.plain.PlainName.{PlainName}
use Rattle.std.proofs.lemmas.Option.{slice_get_read}
use Rattle.dp_trie.proofs.BuildLemmas.{all-at}
use Rattle.dp_trie.proofs.PlainLemmas.{names-rise, only-name, rise-each, rise-drop, all-dropped, found-only, found-rest}
use Rattle.dp_trie.proofs.plain.find_plain.Goals as goal

pub find_only-requires-clause-rise : goal.find_only-requires-clause-rise
find_only-requires-clause-rise c =
    let here = slice_get_read c.args.names.now _ 0 c.only-item.result refl (omega arith) c.only-item.is in
    all-at (λ (p : PlainName). Rise (slice_range c.args.held.now p.from p.until)) c.args.names.now 0 c.only-item.result
    (rise-each c.args.held.now c.args.names.now c.requires.order) here

pub returns-in-len1 : goal.returns-in-len1
returns-in-len1 c =
    let digits = without_dashes c.args.digits.now.text.now in
    let more = is_more c.args.question in
    let here = slice_get_read c.args.names.now _ 0 c.only-item.result refl (omega arith) c.only-item.is in
    c.find_only.ensures
    ∙ ap (option_map hit_of)
    (found-only c.args.held.now (is_asked more (wants c.args.question) digits) c.only-item.result
    ∙ ap (λ names. find (is_asked more (wants c.args.question) digits) (known_plain c.args.held.now names)) (sym (only-name c.args.names.now c.only-item.result (omega arith) here)))

pub count_below-requires : goal.count_below-requires
count_below-requires c = names-rise c.args.held.now c.args.names.now c.requires.ranges c.requires.order

pub find_in_front-requires-clause-rise : goal.find_in_front-requires-clause-rise
find_in_front-requires-clause-rise c =
    subst (RiseEach c.args.held.now) (sym c.split_at.ensures.back)
    (all-dropped (λ (p : PlainName). Rise (slice_range c.args.held.now p.from p.until)) c.args.names.now c.count_below.result
    (rise-each c.args.held.now c.args.names.now c.requires.order))

pub find_in_front-requires-clause-order : goal.find_in_front-requires-clause-order
find_in_front-requires-clause-order c =
    subst NamesRise (sym c.split_at.ensures.back)
    (rise-drop c.args.names.now c.count_below.result (names-rise c.args.held.now c.args.names.now c.requires.ranges c.requires.order))

pub find_in_front-requires-clause-least : goal.find_in_front-requires-clause-least
find_in_front-requires-clause-least c =
    let digits = without_dashes c.args.digits.now.text.now in
    let limit = c.rank-limit.ensures ∙ ap rank (c.fitting.ensures ∙ ap fitting c.is_more.ensures) in
    subst (AllByRecursion (λ (p : PlainName). rank (fitting (is_more c.args.question)) ≤ rank_of digits p)) (sym c.split_at.ensures.back)
    (subst (λ least. AllByRecursion (λ (p : PlainName). least ≤ rank_of digits p) (drop c.count_below.result c.args.names.now)) limit c.count_below.ensures.above)

pub returns : goal.returns
returns c =
    let digits = without_dashes c.args.digits.now.text.now in
    let more = is_more c.args.question in
    let limit = c.rank-limit.ensures ∙ ap rank (c.fitting.ensures ∙ ap fitting c.is_more.ensures) in
    c.find_in_front.ensures
    ∙ (ap (λ names. option_map hit_of (find (is_asked more (wants c.args.question) digits) (known_plain c.args.held.now names))) c.split_at.ensures.back
    ∙ ap (option_map hit_of)
    (found-rest c.args.held.now (wants c.args.question) more digits c.args.names.now c.count_below.result
    (subst (λ least. AllByRecursion (λ (p : PlainName). rank_of digits p < least) (take c.count_below.result c.args.names.now)) limit c.count_below.ensures.below)))
