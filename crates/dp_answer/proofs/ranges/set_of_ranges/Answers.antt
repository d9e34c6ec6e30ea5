use Rattle.std.proofs.Common.{◌≡◌, ◌∷◌, ◌||◌, Some, None, ap, rules}
use Rattle.dp_answer.specs.RangeSteps.{upper}
use Rattle.dp_answer.specs.Ranges.{ranges}
use Rattle.dp_pieces.proofs.SetLemmas.{none-set}
use Rattle.dp_answer.proofs.RangeLemmas.{byte-put, range-put}
use Rattle.dp_answer.proofs.ranges.set_of_ranges.Goals as goal

pub loop-low-init : goal.loop-low-init
loop-low-init c = λ b. ap (λ has. has || ranges c.args.text.now b) (none-set c.none-set.result c.none-set.ensures b)

pub loop-low-preserved-in-Some-upper : goal.loop-low-preserved-in-Some-upper
loop-low-preserved-in-Some-upper c =
    let split : c.loop-low.left.now ≡ c.in-Some.low.now ∷ c.in-Some.rest.now = search rules in
    let up : upper c.in-Some.rest.now ≡ Some (c.in-Some-upper.high, c.in-Some-upper.after.now) = search rules in
    λ b. range-put c.loop-low.set c.put_between.new.set c.in-Some.low.now c.in-Some-upper.high c.loop-low.left.now c.in-Some.rest.now c.in-Some-upper.after.now c.args.text.now b
    split up (c.put_between.ensures b) (c.loop-low.invariant b)

pub loop-low-preserved : goal.loop-low-preserved
loop-low-preserved c =
    let split : c.loop-low.left.now ≡ c.in-Some.low.now ∷ c.in-Some.rest.now = search rules in
    let up : upper c.in-Some.rest.now ≡ None = search rules in
    λ b. byte-put c.loop-low.set c.put.new.self c.in-Some.low.now c.loop-low.left.now c.in-Some.rest.now c.args.text.now b
    split up (c.put.ensures b) (c.loop-low.invariant b)
