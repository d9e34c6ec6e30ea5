use Rattle.std.proofs.Common.{◌∙◌, true, refl, sym, ap, arith}
use Rattle.std.specs.Option.{option_map}
use Rattle.std.proofs.lemmas.Option.{slice_get_read}
use Rattle.dp_pattern.specs.Dashes.{without_dashes}
use Rattle.dp_trie.specs.Asked.{is_more, wants, is_asked, hit_of}
use Rattle.dp_trie.proofs.PlainLemmas.{names-found, names-past, own-is_asked, found-ended}
use Rattle.dp_trie.proofs.plain.find_in_front.Goals as goal

pub returns-then-not-fits : goal.returns-then-not-fits
returns-then-not-fits c =
    let digits = without_dashes c.args.digits.now.text.now in
    let more = is_more c.args.question in
    let plain = c.plain-item.result in
    let here = slice_get_read c.args.names.now _ c.loop-plain.plain-index plain refl (omega arith) c.plain-item.is in
    ap (option_map hit_of)
    (sym (found-ended c.args.held.now (wants c.args.question) more digits c.args.names.now c.loop-plain.plain-index plain c.requires.order c.requires.least here (sym c.fits.ensures ∙ c.if-not-fits.true))
    ∙ c.loop-plain.invariant)

pub returns-then-is_some : goal.returns-then-is_some
returns-then-is_some c =
    let digits = without_dashes c.args.digits.now.text.now in
    let more = is_more c.args.question in
    let plain = c.plain-item.result in
    let here = slice_get_read c.args.names.now _ c.loop-plain.plain-index plain refl (omega arith) c.plain-item.is in
    let own = own-is_asked c.args.held.now (wants c.args.question) more digits plain true (sym c.fits.ensures ∙ c.if-not-fits.false) in
    names-found c.args.held.now (is_asked more (wants c.args.question) digits) c.args.names.now c.loop-plain.plain-index plain c.find_own-found.result here
    (c.find_own-found.ensures ∙ ap (option_map hit_of) (sym own)) (sym c.is_some.ensures ∙ c.if-is_some.true) c.loop-plain.invariant

pub loop-plain-preserved : goal.loop-plain-preserved
loop-plain-preserved c =
    let digits = without_dashes c.args.digits.now.text.now in
    let more = is_more c.args.question in
    let plain = c.plain-item.result in
    let here = slice_get_read c.args.names.now _ c.loop-plain.plain-index plain refl (omega arith) c.plain-item.is in
    let own = own-is_asked c.args.held.now (wants c.args.question) more digits plain true (sym c.fits.ensures ∙ c.if-not-fits.false) in
    names-past c.args.held.now (is_asked more (wants c.args.question) digits) c.args.names.now c.loop-plain.plain-index plain c.find_own-found.result here
    (c.find_own-found.ensures ∙ ap (option_map hit_of) (sym own)) (sym c.is_some.ensures ∙ c.if-is_some.false) c.loop-plain.invariant
