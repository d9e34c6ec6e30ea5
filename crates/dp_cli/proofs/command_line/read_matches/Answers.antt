use Rattle.std.proofs.Common.{◌≡◌, List, ℕ, true, Result, Ok, Err, IfOk, IfErr, subst, refl}
use Rattle.clap.proofs.OnLiterals.{clap_on_literals}
use Rattle.clap.specs.Faults.{fault_of, is_simple_and_free}
use Rattle.clap.specs.Kinds.{FailsBy}
use Rattle.clap.specs.Simple.{App, HasMatchesOf, is_simple, subcommand_of, subcommand_rows_of}
use Rattle.clap.specs.Takes.{takes}
use Rattle.clap.specs.Values.{kind_of}
use Rattle.clap.specs.declared.error.kind.ErrorKind.TheVariants.{OutOfMemory}
use Rattle.clap.specs.declared.error.Error.{Error}
use Rattle.clap.specs.declared.parser.matches.ArgMatches.{ArgMatches}
use Rattle.dp_cli.specs.CommandLine.{texts, pbx_app}
use Rattle.dp_cli.proofs.command_line.read_matches.Goals as goal

-- clap's contract covers the matches of the program's commands
has_simple_rules : is_simple pbx_app ≡ true
unfolding clap_on_literals
has_simple_rules = refl

command_is : (words : List (List ℕ)) (result : Result ArgMatches Error) → IfOk result (HasMatchesOf pbx_app words) → IfOk result (λ matches. subcommand_rows_of matches ≡ subcommand_of pbx_app words)
command_is words (Ok matches) has = (has has_simple_rules).1
command_is words (Err error) has = tt

pub returns-clause-command : goal.returns-clause-command
returns-clause-command c =
    let P : App → Type 0 = λ app. IfOk c.try_get_matches_from.result (HasMatchesOf app (texts c.args.words.now)) in
    command_is (texts c.args.words.now) c.try_get_matches_from.result (subst P c.in_ok-commands.ensures.0 c.try_get_matches_from.ensures.matches)

pub returns-clause-refused : goal.returns-clause-refused
returns-clause-refused c =
    let P : App → Type 0 = λ app. IfErr c.try_get_matches_from.result (λ error. takes app (texts c.args.words.now) ≡ true → kind_of error ≡ OutOfMemory) in
    subst P c.in_ok-commands.ensures.0 c.try_get_matches_from.ensures.passes

-- clap's contract covers the faults of the program's commands
is_simple_pbx : is_simple_and_free pbx_app ≡ true
unfolding clap_on_literals
is_simple_pbx = refl

pub returns-clause-faults : goal.returns-clause-faults
returns-clause-faults c =
    let P : App → Type 0 = λ app. is_simple_and_free app ≡ true → FailsBy (fault_of app (texts c.args.words.now)) c.try_get_matches_from.result in
    subst P c.in_ok-commands.ensures.0 c.try_get_matches_from.ensures.kinds is_simple_pbx
