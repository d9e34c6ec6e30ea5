use Rattle.std.proofs.Common.{◌≡◌, true, false, ap, sym, ◌∙◌, arith}
use Rattle.dp_machine.specs.World.{World}
use Rattle.dp_test_runs.specs.Settling.{can_step, is_channel, next_to_step}
use Rattle.dp_test_runs.proofs.SettlingLemmas.{found_left, later_left, none_left, number_within}
use Rattle.dp_test_runs.proofs.settling.next_to_step.Goals as goal

-- the number is the first that passes
pub returns-then-branch-clause-next : goal.returns-then-branch-clause-next
unfolding next_to_step
returns-then-branch-clause-next c =
    let w = c.args.machine.now in
    let number = c.loop-alloc.number in
    let here : is_channel w number ≡ true = ap (λ (v : World). is_channel v number) (sym c.loop-alloc.invariant.same) ∙ (sym c.is_channel.ensures ∙ c.loop-alloc-test.true) in
    let passes : can_step w number ≡ true = ap (λ (v : World). can_step v number) (sym c.loop-alloc.invariant.same) ∙ (sym c.in_ok-can_step.ensures.can ∙ c.if-branch.true) in
    sym (found_left (can_step w) w number c.loop-alloc.invariant.first here passes) ∙ c.loop-alloc.invariant.left

-- the number is that of a channel
pub loop-alloc-smaller : goal.loop-alloc-smaller
loop-alloc-smaller c =
    let w = c.args.machine.now in
    let number = c.loop-alloc.number in
    let here : is_channel w number ≡ true = ap (λ (v : World). is_channel v number) (sym c.loop-alloc.invariant.same) ∙ (sym c.is_channel.ensures ∙ c.loop-alloc-test.true) in
    omega (arith, number_within w number c.loop-alloc.invariant.first here)

-- the number does not pass
pub loop-alloc-preserved : goal.loop-alloc-preserved
loop-alloc-preserved c =
    let w = c.args.machine.now in
    let number = c.loop-alloc.number in
    let here : is_channel w number ≡ true = ap (λ (v : World). is_channel v number) (sym c.loop-alloc.invariant.same) ∙ (sym c.is_channel.ensures ∙ c.loop-alloc-test.true) in
    let fails : can_step w number ≡ false = ap (λ (v : World). can_step v number) (sym c.loop-alloc.invariant.same) ∙ (sym c.in_ok-can_step.ensures.can ∙ c.if-branch.false) in
    record {
      same = c.can_step.ensures.same ∙ c.loop-alloc.invariant.same;
      first = omega arith;
      within = omega (arith, number_within w number c.loop-alloc.invariant.first here);
      left = sym (later_left (can_step w) w number c.loop-alloc.invariant.first here fails) ∙ c.loop-alloc.invariant.left;
    }

-- no number is left
pub returns-clause-next : goal.returns-clause-next
unfolding next_to_step
returns-clause-next c =
    let w = c.args.machine.now in
    let number = c.loop-alloc.number in
    let gone : is_channel w number ≡ false = ap (λ (v : World). is_channel v number) (sym c.loop-alloc.invariant.same) ∙ (sym c.is_channel.ensures ∙ c.loop-alloc-test.false) in
    sym (none_left (can_step w) w number c.loop-alloc.invariant.first gone) ∙ c.loop-alloc.invariant.left
