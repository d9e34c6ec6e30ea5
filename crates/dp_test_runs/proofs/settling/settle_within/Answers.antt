use Rattle.std.proofs.Common.{◌≡◌, ◌+◌, ◌-◌, ◌<◌, ◌≤◌, List, ◌++◌, Some, None, ap, sym, ◌∙◌, append_assoc, append-nil, arith}
use Rattle.dp_machine.specs.Replay.{final_world}
use Rattle.dp_machine.specs.World.{World}
use Rattle.dp_machine.specs.declared.event.Event.TheVariants.{Step}
use Rattle.dp_wide_runs.specs.Turns.{wide_meanings}
use Rattle.dp_test_runs.specs.Ran.{ran_by}
use Rattle.dp_test_runs.specs.Settling.{after_step, next_to_step, ran_within, settled_within}
use Rattle.dp_test_runs.specs.declared.ran_entries.RanEntry.{RanEntry}
use Rattle.dp_test_runs.proofs.SettlingLemmas.{ran_end, ran_more, ran_none, settled_end, settled_more}
use Rattle.dp_test_runs.proofs.settling.settle_within.Goals as goal

-- a step is one of those that were left
pub loop-step-preserved : goal.loop-step-preserved
loop-step-preserved c =
    let w = c.loop-step.machine in
    let number = c.in-Some.channel in
    let taken = c.loop-step._step in
    let rest = c.args.left - (taken + 1) in
    let more : taken < c.args.left = omega (arith, c.loop-step-test.true) in
    let next : next_to_step w ≡ Some number = sym c.in_ok-channel.ensures.next ∙ c.in-Some.is in
    let after : c.give.new.machine ≡ after_step w number =
    c.in_ok-give.ensures.world ∙ ap (λ (v : World). final_world wide_meanings v (Step number)) c.next_to_step.ensures.same in
    let gave : c.give.new.ran ≡ c.loop-step.ran ++ ran_by w (Step number) =
    c.in_ok-give.ensures.ran ∙ ap (λ (v : World). c.loop-step.ran ++ ran_by v (Step number)) c.next_to_step.ensures.same in
    record {
      world = ap (settled_within rest) after ∙ (sym (settled_more c.args.left taken w number more next) ∙ c.loop-step.invariant.world);
      ran =
          ap (λ (ran : List RanEntry). ran ++ ran_within rest c.give.new.machine) gave
          ∙ (ap (λ (v : World). (c.loop-step.ran ++ ran_by w (Step number)) ++ ran_within rest v) after
          ∙ (append_assoc c.loop-step.ran (ran_by w (Step number)) (ran_within rest (after_step w number))
          ∙ (ap (λ (ran : List RanEntry). c.loop-step.ran ++ ran) (sym (ran_more c.args.left taken w number more next)) ∙ c.loop-step.invariant.ran)));
    }

-- there is no step to take
pub returns-in_default-clause-ran : goal.returns-in_default-clause-ran
returns-in_default-clause-ran c =
    let w = c.loop-step.machine in
    let rest = c.args.left - c.loop-step._step in
    let none : next_to_step w ≡ None = sym c.in_ok-channel.ensures.next ∙ c.in_default.is in
    sym (append-nil c.loop-step.ran) ∙ (ap (λ (ran : List RanEntry). c.loop-step.ran ++ ran) (sym (ran_none rest w none)) ∙ c.loop-step.invariant.ran)

-- no steps are left
pub returns-clause-world : goal.returns-clause-world
returns-clause-world c =
    let end : c.args.left ≤ c.loop-step._step = omega (arith, c.loop-step-test.false) in
    sym (settled_end c.args.left c.loop-step._step c.loop-step.machine end) ∙ c.loop-step.invariant.world

pub returns-clause-ran : goal.returns-clause-ran
returns-clause-ran c =
    let end : c.args.left ≤ c.loop-step._step = omega (arith, c.loop-step-test.false) in
    sym (append-nil c.loop-step.ran)
    ∙ (ap (λ (ran : List RanEntry). c.loop-step.ran ++ ran) (sym (ran_end c.args.left c.loop-step._step c.loop-step.machine end)) ∙ c.loop-step.invariant.ran)
