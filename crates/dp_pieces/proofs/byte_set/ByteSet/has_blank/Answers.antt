use Rattle.std.proofs.Common.{◌≡◌, ◌+◌, suc, false, sym, ap, ◌∙◌, subst, arith}
use Rattle.dp_pieces.specs.Bytes.{has_blank, has_blank_below}
use Rattle.dp_pieces.specs.Sets.{set_by}
use Rattle.dp_pieces.proofs.BlankLemmas.{below-found, below-next, below-none, blanks-apart}
use Rattle.dp_pieces.proofs.byte_set.ByteSet.has_blank.Goals as goal

pub loop-byte-init : goal.loop-byte-init
loop-byte-init c = below-none (set_by c.args.self.now)

pub returns-then-has_as_blank : goal.returns-then-has_as_blank
returns-then-has_as_blank c = sym (below-found 33 c.loop-byte.byte (set_by c.args.self.now) c.loop-byte-test.true (sym (c.if-has_as_blank.ensures {u = tt})))

pub loop-byte-preserved : goal.loop-byte-preserved
loop-byte-preserved c =
    let next : suc c.loop-byte.byte ≡ c.loop-byte.byte + 1 = omega arith in
    subst (λ n. has_blank_below n (set_by c.args.self.now) ≡ false) next (below-next c.loop-byte.byte (set_by c.args.self.now) c.loop-byte.invariant (sym (c.if-has_as_blank.ensures {u = tt})))

pub returns-then-shared_bits-eq0 : goal.returns-then-shared_bits-eq0
returns-then-shared_bits-eq0 c =
    sym (ap (λ words. has_blank (set_by words)) (sym c.self.view_is) ∙ blanks-apart c.self.inside.words c.shared_bits.result c.if-shared_bits-eq0.true c.shared_bits.ensures)
