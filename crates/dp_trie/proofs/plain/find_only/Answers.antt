use Rattle.std.proofs.Common.{◌∙◌, true, false, sym, ap}
use Rattle.std.specs.Option.{option_map}
use Rattle.dp_pattern.specs.Dashes.{without_dashes}
use Rattle.dp_trie.specs.Asked.{is_more, wants, hit_of}
use Rattle.dp_trie.proofs.PlainLemmas.{own-is_asked}
use Rattle.dp_trie.proofs.plain.find_only.Goals as goal

pub returns-then-fits : goal.returns-then-fits
returns-then-fits c =
    let digits = without_dashes c.args.digits.now.text.now in
    let more = is_more c.args.question in
    c.find_own.ensures
    ∙ ap (option_map hit_of) (sym (own-is_asked c.args.held.now (wants c.args.question) more digits c.args.plain.now true (sym c.fits.ensures ∙ c.if-fits.true)))

pub returns-else-fits : goal.returns-else-fits
returns-else-fits c =
    let digits = without_dashes c.args.digits.now.text.now in
    let more = is_more c.args.question in
    ap (option_map hit_of) (sym (own-is_asked c.args.held.now (wants c.args.question) more digits c.args.plain.now false (sym c.fits.ensures ∙ c.if-fits.false)))
