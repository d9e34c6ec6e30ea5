use Rattle.std.proofs.Common.{◌≡◌, ◌==◌, ◌+◌, suc, true, false, Some, sym, ap, ◌∙◌, subst, arith, rules, tests}
use Rattle.std.proofs.lemmas.List.{take-map}
use Rattle.dp_pieces.specs.Pieces.{Known}
use Rattle.dp_pieces.specs.Shown.{shown_piece}
use Rattle.dp_pieces.proofs.RuleLemmas.{IsKnownFront, front-here, front-none, front-over, front-push, front-unknown, is-known, rest-at}
use Rattle.dp_pieces.proofs.cuts.cut_known.Goals as goal

pub loop-at-init : goal.loop-at-init
loop-at-init c = front-none c.args.mark c.args.pieces.now

pub returns-in_default : goal.returns-in_default
returns-in_default c =
    front-unknown c.args.mark c.loop-at.at c.args.pieces.now c.index-pieces-at.result c.loop-at-test.true c.index-pieces-at.is (sym (c.in_default.ensures {u = tt})) c.loop-at.invariant

pub returns-then-byte-mark : goal.returns-then-byte-mark
returns-then-byte-mark c =
    let same : (c.in-Some.byte == c.args.mark) ≡ true = search (rules, tests) in
    let known : shown_piece c.index-pieces-at.result ≡ Known c.in-Some.byte = is-known (shown_piece c.index-pieces-at.result) c.in-Some.byte (sym c.byte.ensures ∙ c.in-Some.is) in (
      c.loop-at.invariant.name,
      front-here c.args.mark c.loop-at.at c.in-Some.byte c.args.pieces.now c.index-pieces-at.result c.loop-at-test.true c.index-pieces-at.is known same c.loop-at.invariant
          ∙ ap (λ ps. Some (c.loop-at.invariant.name, ps)) (rest-at c.loop-at.at c.args.pieces.now),
      sym (take-map shown_piece c.loop-at.at c.args.pieces.now) ∙ c.loop-at.invariant.front,
    )

pub loop-at-preserved : goal.loop-at-preserved
loop-at-preserved c =
    let next : suc c.loop-at.at ≡ c.loop-at.at + 1 = omega arith in
    let other : (c.in-Some.byte == c.args.mark) ≡ false = search (rules, tests) in
    let known : shown_piece c.index-pieces-at.result ≡ Known c.in-Some.byte = is-known (shown_piece c.index-pieces-at.result) c.in-Some.byte (sym c.byte.ensures ∙ c.in-Some.is) in
    subst (λ n. IsKnownFront c.args.mark n c.args.pieces.now) next
    (front-push c.args.mark c.loop-at.at c.in-Some.byte c.args.pieces.now c.index-pieces-at.result c.loop-at-test.true c.index-pieces-at.is known other c.loop-at.invariant)

pub returns : goal.returns
returns c = front-over c.args.mark c.loop-at.at c.args.pieces.now (omega (arith, c.loop-at-test.false)) c.loop-at.invariant
