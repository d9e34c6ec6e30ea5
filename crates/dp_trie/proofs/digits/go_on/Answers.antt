use Rattle.std.proofs.Common.{◌∙◌, refl, sym, ap, arith}
use Rattle.std.specs.Prelude.{slice_get}
use Rattle.std.proofs.lemmas.Bool.{ne_eqb}
use Rattle.std.proofs.lemmas.Option.{slice_get_read, slice_get_past}
use Rattle.dp_pattern.specs.Dashes.{without_dashes}
use Rattle.dp_trie.proofs.DigitLemmas.{digit-at, digits-ended}
use Rattle.dp_trie.proofs.digits.go_on.Goals as goal

pub returns-then-cursor-number-clause-there : goal.returns-then-cursor-number-clause-there
returns-then-cursor-number-clause-there c =
    let found = c.in-Some.ensures.lookup.3 in
    let text = c.args.text.now in
    let here = slice_get_read text _ c.loop-byte.cursor.place c.in-Some.byte.now refl found.0 (found.1 c.in-Some.byte.now) in
    here
    ∙ (sym (digit-at text c.loop-byte.cursor.place c.in-Some.byte.now here (ne_eqb c.in-Some.byte.now 45 c.if-byte-ne45.true))
    ∙ ap (slice_get (without_dashes text)) (sym c.loop-byte.invariant.stands.before ∙ c.if-cursor-number.true))

pub returns-clause-there : goal.returns-clause-there
returns-clause-there c =
    let ended = c.in_default.ensures.lookup.3 in
    let before = c.loop-byte.invariant.stands.before in
    let most = c.loop-byte.invariant.most in
    slice_get_past c.args.text.now c.loop-byte.cursor.place ended
    ∙ sym (digits-ended c.args.text.now c.loop-byte.cursor.place c.args.number ended (omega (arith, before, most)))
