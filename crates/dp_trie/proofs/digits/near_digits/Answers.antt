use Rattle.std.proofs.Common.{arith, get_or}
use Rattle.std.proofs.lemmas.Bool.{eq-eqb, ne_eqb}
use Rattle.std.proofs.lemmas.Option.{slice_get-get_or}
use Rattle.dp_trie.proofs.DigitLemmas.{kept-digit, kept-dash, near-full, near-ended}
use Rattle.dp_trie.proofs.digits.near_digits.Goals as goal
use Rattle.dp_trie.proofs.digits.near_digits.Goals.{then-byte-ne45, else-byte-ne45}

pub loop-byte-preserved : goal.loop-byte-preserved
loop-byte-preserved c =
    let text = c.args.text.now in
    let place = c.loop-byte.byte-index in
    let byte = get_or text place 0 in
    let here = slice_get-get_or text place 0 (omega arith) in
    let few = c.loop-byte.invariant.few in
    let other = c.if-count-eq-NEAR.false in
    elim c.if-byte-ne45.branch [
      | then-byte-ne45 w ↦ rw (w.bytes-is, w.count-is) (kept-digit text c.loop-byte.bytes place c.loop-byte.count byte here (ne_eqb byte 45 w.if-byte-ne45.true) (omega (arith, few, other)) c.loop-byte.invariant)
      | else-byte-ne45 w ↦ rw (w.bytes-is, w.count-is) (kept-dash text c.loop-byte.bytes place c.loop-byte.count byte here (eq-eqb byte 45 w.if-byte-ne45.false) c.loop-byte.invariant)
    ]

pub returns : goal.returns
returns c = near-ended c.args.text.now c.loop-byte.bytes c.loop-byte.byte-index c.loop-byte.count (omega arith) c.loop-byte.invariant

pub returns-then-count-eq-NEAR : goal.returns-then-count-eq-NEAR
returns-then-count-eq-NEAR c = near-full c.args.text.now c.loop-byte.bytes c.loop-byte.byte-index c.loop-byte.count c.if-count-eq-NEAR.true c.loop-byte.invariant
