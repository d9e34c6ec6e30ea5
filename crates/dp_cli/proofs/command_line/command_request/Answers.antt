use Rattle.std.proofs.Common.{List, ℕ, sym, subst}
use Rattle.clap.specs.Kinds.{FailsBy}
use Rattle.clap.specs.Matches.{found_of}
use Rattle.clap.specs.Walk.{rows_of}
use Rattle.dp_cli.specs.Refusals.{command_kinds}
use Rattle.dp_cli.proofs.command_line.command_request.Goals as goal

pub returns-in-match-clause-kinds : goal.returns-in-match-clause-kinds
returns-in-match-clause-kinds c =
    let P : List ℕ → Type 0 = λ name. FailsBy (command_kinds name (rows_of (found_of c.args.given.now))) c.match_request.result in
    subst P (sym c.in-match.is) c.match_request.ensures.kinds

pub returns-in-run-clause-kinds : goal.returns-in-run-clause-kinds
returns-in-run-clause-kinds c =
    let P : List ℕ → Type 0 = λ name. FailsBy (command_kinds name (rows_of (found_of c.args.given.now))) c.run_request.result in
    subst P (sym c.in-run.is) c.run_request.ensures.kinds

pub returns-in-test-clause-kinds : goal.returns-in-test-clause-kinds
returns-in-test-clause-kinds c =
    let P : List ℕ → Type 0 = λ name. FailsBy (command_kinds name (rows_of (found_of c.args.given.now))) c.test_request.result in
    subst P (sym c.in-test.is) c.test_request.ensures.kinds

pub returns-in-audit-clause-kinds : goal.returns-in-audit-clause-kinds
returns-in-audit-clause-kinds c =
    let P : List ℕ → Type 0 = λ name. FailsBy (command_kinds name (rows_of (found_of c.args.given.now))) c.audit_request.result in
    subst P (sym c.in-audit.is) c.audit_request.ensures.kinds

pub returns-in-explain-clause-kinds : goal.returns-in-explain-clause-kinds
returns-in-explain-clause-kinds c =
    let P : List ℕ → Type 0 = λ name. FailsBy (command_kinds name (rows_of (found_of c.args.given.now))) c.explain_request.result in
    subst P (sym c.in-explain.is) c.explain_request.ensures.kinds
