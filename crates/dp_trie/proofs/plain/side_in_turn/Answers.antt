use Rattle.std.proofs.Common.{◌∙◌, sym, arith, length, get_or, Less, Equal, Greater}
use Rattle.std.proofs.lemmas.Bool.{ltb-true, ltb-false}
use Rattle.std.proofs.lemmas.Option.{slice_get-get_or}
use Rattle.dp_pattern.specs.Dashes.{without_dashes}
use Rattle.dp_trie.proofs.PlainLemmas.{side-at, side-longer, side-before, side-same}
use Rattle.dp_trie.proofs.plain.side_in_turn.Goals as goal

pub returns-in-Less : goal.returns-in-Less
returns-in-Less c =
    let here = slice_get-get_or c.args.name.now c.loop-number.number 0 (omega arith) in
    sym (side-at c.args.name.now (without_dashes c.args.digits.now.text.now) c.loop-number.number (get_or c.args.name.now c.loop-number.number 0) c.in-Some.digit Less here (sym c.in-Some.ensures.value) (sym c.in-Less.ensures))
    ∙ c.loop-number.invariant.side

pub returns-in-Greater : goal.returns-in-Greater
returns-in-Greater c =
    let here = slice_get-get_or c.args.name.now c.loop-number.number 0 (omega arith) in
    sym (side-at c.args.name.now (without_dashes c.args.digits.now.text.now) c.loop-number.number (get_or c.args.name.now c.loop-number.number 0) c.in-Some.digit Greater here (sym c.in-Some.ensures.value) (sym c.in-Greater.ensures))
    ∙ c.loop-number.invariant.side

pub returns-in-None : goal.returns-in-None
returns-in-None c =
    let here = slice_get-get_or c.args.name.now c.loop-number.number 0 (omega arith) in
    sym (side-longer c.args.name.now (without_dashes c.args.digits.now.text.now) c.loop-number.number (get_or c.args.name.now c.loop-number.number 0) here (sym c.in-None.ensures.value))
    ∙ c.loop-number.invariant.side

pub loop-number-preserved : goal.loop-number-preserved
loop-number-preserved c =
    let here = slice_get-get_or c.args.name.now c.loop-number.number 0 (omega arith) in
    record {
      stands = c.at.ensures.stands;
      side =
          sym (side-at c.args.name.now (without_dashes c.args.digits.now.text.now) c.loop-number.number (get_or c.args.name.now c.loop-number.number 0) c.in-Some.digit Equal here (sym c.in-Some.ensures.value) (sym c.in-Equal.ensures))
          ∙ c.loop-number.invariant.side;
    }

pub returns-then-has : goal.returns-then-has
returns-then-has c =
    let digits = without_dashes c.args.digits.now.text.now in
    let more = ltb-true (length c.args.name.now) (length digits) (sym c.has.ensures.value ∙ c.if-has.true) in
    sym (side-before c.args.name.now digits c.loop-number.number (omega arith) (omega (arith, more)))
    ∙ c.loop-number.invariant.side

pub returns-else-has : goal.returns-else-has
returns-else-has c =
    let digits = without_dashes c.args.digits.now.text.now in
    let few = ltb-false (length c.args.name.now) (length digits) (sym c.has.ensures.value ∙ c.if-has.false) in
    sym (side-same c.args.name.now digits c.loop-number.number (omega arith) (omega (arith, few)))
    ∙ c.loop-number.invariant.side
