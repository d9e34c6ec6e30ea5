use Rattle.std.proofs.Common.{◌≡◌, refl, sym, subst, take, arith, true≢false}
use Rattle.std.proofs.lemmas.Option.{slice_get_read}
use Rattle.dp_trie.proofs.BuildLemmas.{shared-step}
use Rattle.dp_trie.proofs.EnteredLemmas.{shared-differ, shared-end}
use Rattle.dp_trie.proofs.build.count_shared.Goals as goal

pub loop-place-preserved : goal.loop-place-preserved
loop-place-preserved c =
    shared-step c.args.left.now c.args.right.now c.loop-place.place c.index-left-place.result c.index-right-place.result
    (slice_get_read c.args.left.now _ c.loop-place.place c.index-left-place.result refl (omega arith) c.index-left-place.is)
    (slice_get_read c.args.right.now _ c.loop-place.place c.index-right-place.result refl (omega arith) c.index-right-place.is)
    (c.if-not-is_same.ensures.0 refl) c.loop-place.invariant

pub returns-then-not-is_same-clause-value : goal.returns-then-not-is_same-clause-value
returns-then-not-is_same-clause-value c =
    shared-differ c.args.left.now c.args.right.now c.loop-place.place c.index-left-place.result c.index-right-place.result (omega arith) c.loop-place.invariant
    (slice_get_read c.args.left.now _ c.loop-place.place c.index-left-place.result refl (omega arith) c.index-left-place.is)
    (slice_get_read c.args.right.now _ c.loop-place.place c.index-right-place.result refl (omega arith) c.index-right-place.is)
    (λ same. true≢false (sym (c.if-not-is_same.ensures.1 same)))

pub returns-clause-value : goal.returns-clause-value
returns-clause-value c =
    let end : c.loop-place.place ≡ c.min-most.result = omega arith in
    shared-end c.args.left.now c.args.right.now c.min-most.result (omega arith)
    (subst (λ k. take k c.args.left.now ≡ take k c.args.right.now) end c.loop-place.invariant) (λ left right. omega (arith, left, right))
