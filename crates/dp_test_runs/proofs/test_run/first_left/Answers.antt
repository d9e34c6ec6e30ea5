use Rattle.std.proofs.Common.{◌≡◌, true, false, ap, sym, ◌∙◌, arith}
use Rattle.dp_machine.specs.World.{World}
use Rattle.dp_test_runs.specs.Settling.{is_channel}
use Rattle.dp_test_runs.specs.Tests.{is_left}
use Rattle.dp_test_runs.proofs.SettlingLemmas.{found_left, later_left, none_left, number_within}
use Rattle.dp_test_runs.proofs.test_run.first_left.Goals as goal

-- the number is the first that passes
pub returns-then-branch-clause-left : goal.returns-then-branch-clause-left
returns-then-branch-clause-left c =
    let w = c.args.machine.now in
    let number = c.loop-alloc.number in
    let here : is_channel w number ≡ true = ap (λ (v : World). is_channel v number) (sym c.loop-alloc.invariant.same) ∙ (sym c.is_channel.ensures ∙ c.loop-alloc-test.true) in
    let passes : is_left w c.args.lines.now number ≡ true = ap (λ (v : World). is_left v c.args.lines.now number) (sym c.loop-alloc.invariant.same) ∙ (sym c.in_ok-is_left.ensures.left ∙ c.if-branch.true) in
    sym (found_left (is_left w c.args.lines.now) w number c.loop-alloc.invariant.first here passes) ∙ c.loop-alloc.invariant.left

-- the number is that of a channel
pub loop-alloc-smaller : goal.loop-alloc-smaller
loop-alloc-smaller c =
    let w = c.args.machine.now in
    let number = c.loop-alloc.number in
    let here : is_channel w number ≡ true = ap (λ (v : World). is_channel v number) (sym c.loop-alloc.invariant.same) ∙ (sym c.is_channel.ensures ∙ c.loop-alloc-test.true) in
    omega (arith, number_within w number c.loop-alloc.invariant.first here)

-- the number does not pass
pub loop-alloc-preserved : goal.loop-alloc-preserved
loop-alloc-preserved c =
    let w = c.args.machine.now in
    let number = c.loop-alloc.number in
    let here : is_channel w number ≡ true = ap (λ (v : World). is_channel v number) (sym c.loop-alloc.invariant.same) ∙ (sym c.is_channel.ensures ∙ c.loop-alloc-test.true) in
    let fails : is_left w c.args.lines.now number ≡ false = ap (λ (v : World). is_left v c.args.lines.now number) (sym c.loop-alloc.invariant.same) ∙ (sym c.in_ok-is_left.ensures.left ∙ c.if-branch.false) in
    record {
      same = c.is_left.ensures.same ∙ c.loop-alloc.invariant.same;
      first = omega arith;
      within = omega (arith, number_within w number c.loop-alloc.invariant.first here);
      left = sym (later_left (is_left w c.args.lines.now) w number c.loop-alloc.invariant.first here fails) ∙ c.loop-alloc.invariant.left;
    }

-- no number is left
pub returns-clause-left : goal.returns-clause-left
returns-clause-left c =
    let w = c.args.machine.now in
    let number = c.loop-alloc.number in
    let gone : is_channel w number ≡ false = ap (λ (v : World). is_channel v number) (sym c.loop-alloc.invariant.same) ∙ (sym c.is_channel.ensures ∙ c.loop-alloc-test.false) in
    sym (none_left (is_left w c.args.lines.now) w number c.loop-alloc.invariant.first gone) ∙ c.loop-alloc.invariant.left
