use Rattle.std.proofs.Common.{ℕ, Option, Result, subst, sym}
use Rattle.std.specs.Option.{option_map}
use Rattle.dp_program.specs.Checks.{check_by, queues_report}
use Rattle.dp_program.specs.Dialplans.{moment_in}
use Rattle.dp_program.specs.Including.{ChecksBothIncluding, ChecksIncluding, ChecksQueuesIncluding}
use Rattle.dp_program.specs.Serves.{ChecksBoth, ReportsOn}
use Rattle.dp_program.specs.declared.fault_places.Faulted.{Faulted}
use Rattle.dp_program.proofs.program.serve.Goals as goal
use Rattle.dp_wide.specs.declared.times.Moment.{Moment}

-- a report on a dialplan
pub returns-in-Check-clause-serves : goal.returns-in-Check-clause-serves
returns-in-Check-clause-serves g c =
    let file = c.in-Check.file.now in
    let report = check_by c.args.options.is_json c.args.options.explains file in
    let old = g.W.WriteTold.contents c.args.output.now in
    let new = g.W.WriteTold.contents c.serve_check.new.output in
    rw c.in-Check.is (
      subst (λ (answered : Result ℕ Faulted). ReportsOn file (g.F.ReadFiles.source_at c.args.files.now file) report old new answered)
          (sym c.without_hint-in-Check.ensures.same) c.serve_check.ensures.serves,
      c.without_hint-in-Check.ensures.nothing,
    )

-- with the files that it includes
pub returns-in-CheckIncluding-clause-serves : goal.returns-in-CheckIncluding-clause-serves
returns-in-CheckIncluding-clause-serves g c =
    let files = g.F.ReadFiles.source_at c.args.files.now in
    let old = g.W.WriteTold.contents c.args.output.now in
    let new = g.W.WriteTold.contents c.serve_check_including.new.output in
    let moment : Option Moment = moment_in (option_map (λ word. word.now) c.args.options.clock) in
    rw c.in-CheckIncluding.is (
      subst (λ (answered : Result ℕ Faulted). ChecksIncluding c.args.options.is_json moment c.in-CheckIncluding.file.now files old new answered)
          (sym c.without_hint-in-CheckIncluding.ensures.same) c.serve_check_including.ensures.serves,
      c.without_hint-in-CheckIncluding.ensures.nothing,
    )

-- on queues with the files that they include
pub returns-in-CheckQueuesIncluding-clause-serves : goal.returns-in-CheckQueuesIncluding-clause-serves
returns-in-CheckQueuesIncluding-clause-serves g c =
    let files = g.F.ReadFiles.source_at c.args.files.now in
    let old = g.W.WriteTold.contents c.args.output.now in
    let new = g.W.WriteTold.contents c.serve_check_queues_including.new.output in
    rw c.in-CheckQueuesIncluding.is (
      subst (λ (answered : Result ℕ Faulted). ChecksQueuesIncluding c.args.options.is_json c.in-CheckQueuesIncluding.queues.now files old new answered)
          (sym c.without_hint-in-CheckQueuesIncluding.ensures.same) c.serve_check_queues_including.ensures.serves,
      c.without_hint-in-CheckQueuesIncluding.ensures.nothing,
    )

-- on both with the files that they include
pub returns-in-CheckBothIncluding-clause-serves : goal.returns-in-CheckBothIncluding-clause-serves
returns-in-CheckBothIncluding-clause-serves g c =
    let files = g.F.ReadFiles.source_at c.args.files.now in
    let plan = c.in-CheckBothIncluding.paths.plan.now in
    let queues = c.in-CheckBothIncluding.paths.queues.now in
    let old = g.W.WriteTold.contents c.args.output.now in
    let new = g.W.WriteTold.contents c.serve_check_both_including.new.output in
    let moment : Option Moment = moment_in (option_map (λ word. word.now) c.args.options.clock) in
    rw c.in-CheckBothIncluding.is (
      subst (λ (answered : Result ℕ Faulted). ChecksBothIncluding c.args.options.is_json moment plan queues files old new answered)
          (sym c.without_hint-in-CheckBothIncluding.ensures.same) c.serve_check_both_including.ensures.serves,
      c.without_hint-in-CheckBothIncluding.ensures.nothing,
    )

-- on queues
pub returns-in-CheckQueues-clause-serves : goal.returns-in-CheckQueues-clause-serves
returns-in-CheckQueues-clause-serves g c =
    let queues = c.in-CheckQueues.queues.now in
    let old = g.W.WriteTold.contents c.args.output.now in
    let new = g.W.WriteTold.contents c.serve_check_queues.new.output in
    rw c.in-CheckQueues.is (
      subst (λ (answered : Result ℕ Faulted). ReportsOn queues (g.F.ReadFiles.source_at c.args.files.now queues) (queues_report c.args.options.is_json) old new answered)
          (sym c.without_hint-in-CheckQueues.ensures.same) c.serve_check_queues.ensures.serves,
      c.without_hint-in-CheckQueues.ensures.nothing,
    )

-- on both
pub returns-in-CheckBoth-clause-serves : goal.returns-in-CheckBoth-clause-serves
returns-in-CheckBoth-clause-serves g c =
    let files = g.F.ReadFiles.source_at c.args.files.now in
    let plan = c.in-CheckBoth.paths.plan.now in
    let queues = c.in-CheckBoth.paths.queues.now in
    let old = g.W.WriteTold.contents c.args.output.now in
    let new = g.W.WriteTold.contents c.serve_check_both.new.output in
    rw c.in-CheckBoth.is (
      subst (λ (answered : Result ℕ Faulted). ChecksBoth files plan queues c.args.options.is_json c.args.options.explains old new answered)
          (sym c.without_hint-in-CheckBoth.ensures.same) c.serve_check_both.ensures.serves,
      c.without_hint-in-CheckBoth.ensures.nothing,
    )

-- an audit
pub returns-in-Audit-clause-serves : goal.returns-in-Audit-clause-serves
returns-in-Audit-clause-serves g c = rw c.in-Audit.is c.serve_audit.ensures.serves

-- a look-up
pub returns-in-Match-clause-serves : goal.returns-in-Match-clause-serves
returns-in-Match-clause-serves g c = rw c.in-Match.is c.serve_match.ensures.serves

-- in a dialplan with the files that it includes
pub returns-in-MatchIncluding-clause-serves : goal.returns-in-MatchIncluding-clause-serves
returns-in-MatchIncluding-clause-serves g c = rw c.in-MatchIncluding.is c.serve_match_including.ensures.serves

-- a picture is written
pub returns-in-Graph-clause-serves : goal.returns-in-Graph-clause-serves
returns-in-Graph-clause-serves g c = rw c.in-Graph.is c.serve_graph.ensures.serves

pub returns-in-GraphIncluding-clause-serves : goal.returns-in-GraphIncluding-clause-serves
returns-in-GraphIncluding-clause-serves g c = rw c.in-GraphIncluding.is c.serve_graph_including.ensures.serves

-- it is asked what a call may run
pub returns-in-ReachIncluding-clause-serves : goal.returns-in-ReachIncluding-clause-serves
returns-in-ReachIncluding-clause-serves g c = rw c.in-ReachIncluding.is c.serve_reach_including.ensures.serves

-- or what it reaches only before or after a change
pub returns-in-ReachDiff-clause-serves : goal.returns-in-ReachDiff-clause-serves
returns-in-ReachDiff-clause-serves g c = rw c.in-ReachDiff.is c.serve_reach_diff.ensures.serves

pub returns-in-ReachDiffIncluding-clause-serves : goal.returns-in-ReachDiffIncluding-clause-serves
returns-in-ReachDiffIncluding-clause-serves g c = rw c.in-ReachDiffIncluding.is c.serve_reach_diff_including.ensures.serves
