use Rattle.std.proofs.Common.{◌≡◌, List, ℕ, Option, Some, sym, subst}
use Rattle.std.specs.Box.{box_value}
use Rattle.clap.specs.Kinds.{FailsBy}
use Rattle.clap.specs.Matches.{found_of}
use Rattle.clap.specs.Simple.{subcommand_rows_of}
use Rattle.clap.specs.Walk.{Row, rows_of}
use Rattle.clap.specs.declared.parser.matches.ArgMatches.TheViews.{out-ArgMatches, out-SubCommand}
use Rattle.dp_cli.specs.Refusals.{kinds_by}
use Rattle.dp_cli.proofs.MatchesLemmas.{both_are}
use Rattle.dp_cli.proofs.command_line.request_of.Goals as goal

pub returns-in-Some-clause-kinds : goal.returns-in-Some-clause-kinds
returns-in-Some-clause-kinds c =
    let rows : subcommand_rows_of c.args.matches.now ≡ Some (c.in-Some.name.now, rows_of (found_of c.in-Some.given.now)) =
    both_are (λ b. (out-SubCommand (box_value b)).name.now) (λ b. rows_of (found_of (out-SubCommand (box_value b)).matches)) (out-ArgMatches c.args.matches.now).subcommand
    c.in-Some.name.now (rows_of (found_of c.in-Some.given.now)) c.in-Some.ensures.name c.in-Some.ensures.rows in
    let P : Option (List ℕ × List Row) → Type 0 = λ command. FailsBy (kinds_by command) c.command_request.result in
    subst P (sym rows) c.command_request.ensures.kinds
