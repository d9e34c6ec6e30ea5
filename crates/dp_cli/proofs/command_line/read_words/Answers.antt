use Rattle.std.proofs.lemmas.Result.{err_from_is_err_and}
use Rattle.clap.specs.Simple.{subcommand_of, subcommand_rows_of}
use Rattle.dp_cli.proofs.RefusalsLemmas.{has_first, none_left, request_clock}
use Rattle.dp_cli.specs.CommandLine.{asked_of, pbx_app, texts}
use Rattle.dp_cli.specs.Refusals.{clock_kinds_by, refusals_of}
use Rattle.dp_cli.proofs.command_line.read_words.Goals as goal

pub returns-in_err-matches-clause-refused : goal.returns-in_err-matches-clause-refused
returns-in_err-matches-clause-refused c =
    let p = err_from_is_err_and c.from_residual.result c.from_residual.ensures.1 in
    rw (p.1, p.2) (λ takes some. c.in_err-matches.ensures.refused takes)

pub returns-in_err-matches-clause-kinds : goal.returns-in_err-matches-clause-kinds
unfolding refusals_of
returns-in_err-matches-clause-kinds c =
    let p = err_from_is_err_and c.from_residual.result c.from_residual.ensures.1 in
    rw (p.1, p.2) (has_first _ _ _ c.in_err-matches.ensures.faults)

-- words that are a request have no refusal of their clock
pub returns-in_err-check_clock-clause-refused : goal.returns-in_err-check_clock-clause-refused
unfolding asked_of
returns-in_err-check_clock-clause-refused c =
    let p = err_from_is_err_and c.from_residual-in_err-check_clock.result c.from_residual-in_err-check_clock.ensures.1 in
    rw (p.1, p.2) (λ takes some. none_left (clock_kinds_by (subcommand_rows_of c.in_ok-matches.matches)) _
    (rw c.in_ok-matches.ensures.command (request_clock (subcommand_of pbx_app (texts c.args.words.now)) some)) c.in_err-check_clock.ensures.kinds)
