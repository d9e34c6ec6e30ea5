-- The kinds with which words are refused. clap's kinds come first, for words that are not a command line of the program. Then come the
-- kinds for an invalid number, for an unknown kind of findings, and for two words that exclude each other.
use Rattle.std.specs.Prelude.{ℕ, Bool, true, false, List, [], ◌∷◌, Option, Some, None, is_some, codes, if◌then◌else◌}
use Rattle.clap.specs.Faults.{fault_of}
use Rattle.clap.specs.Kinds.{Kinds, or_else}
use Rattle.clap.specs.Simple.{subcommand_of}
use Rattle.clap.specs.Walk.{Row, first_of}
use Rattle.clap.specs.declared.error.kind.ErrorKind.TheVariants.{ArgumentConflict, MissingRequiredArgument, ValueValidation}
use Rattle.dp_conf.specs.Words.{same_text}
use Rattle.dp_program.specs.Requests.{RequestOf}
use Rattle.dp_wide.specs.Times.{moment_of}
use Rattle.dp_wide_runs.specs.Kinds.{are_kinds}
use Rattle.dp_cli.specs.CommandLine.{pbx_app, asked_by, fault_in, has_threads, is_set, priority_in, threads_in}

-- an invalid value if there is no number
abbrev pub unless_number : Option ℕ → Kinds
unless_number None = ValueValidation ∷ []
unless_number (Some number) = []

-- the kinds for a word that must write a number, if the word is given
abbrev pub number_kinds : (List ℕ → Option ℕ) → Option (List ℕ) → Kinds
number_kinds number_in None = []
number_kinds number_in (Some word) = unless_number (number_in word)

-- a conflict if two words exclude each other
abbrev pub conflict_kinds : Bool → Kinds
conflict_kinds true = ArgumentConflict ∷ []
conflict_kinds false = []

-- the kinds for `run`, given whether it has `--asterisk`
abbrev pub run_kinds_over : List Row → Bool → Kinds
run_kinds_over words true = conflict_kinds (has_threads words)
run_kinds_over words false = number_kinds threads_in (first_of (codes "N") words)

-- the kinds for `run`
abbrev pub run_kinds : List Row → Kinds
run_kinds words = run_kinds_over words (is_set (codes "asterisk") words)

-- an invalid value unless all words are kinds of findings
abbrev pub unless_kinds : Bool → Kinds
unless_kinds true = []
unless_kinds false = ValueValidation ∷ []

-- the kinds for `audit`, given the words after `--only` and `--ignore`
abbrev pub audit_kinds_by : List Row → Option (List ℕ) → Option (List ℕ) → Kinds
audit_kinds_by words None None = []
audit_kinds_by words (Some text) None = unless_kinds (are_kinds (is_set (codes "asterisk") words) text)
audit_kinds_by words None (Some text) = unless_kinds (are_kinds (is_set (codes "asterisk") words) text)
audit_kinds_by words (Some wanted) (Some unwanted) = ArgumentConflict ∷ []

-- the kinds for `audit`
abbrev pub audit_kinds : List Row → Kinds
audit_kinds words = audit_kinds_by words (first_of (codes "KINDS") words) (first_of (codes "UNWANTED") words)

-- the kinds for a command: `run` has words that exclude each other, `match` a priority, `run` a number of threads, `audit` kinds of
-- findings, and `explain` the number or the name of a fault
abbrev pub command_kinds : List ℕ → List Row → Kinds
command_kinds name words =
    if same_text name (codes "check") then []
    else if same_text name (codes "list") then []
    else if same_text name (codes "match") then number_kinds priority_in (first_of (codes "PRIORITY") words)
    else if same_text name (codes "run") then run_kinds words
    else if same_text name (codes "debug") then []
    else if same_text name (codes "test") then []
    else if same_text name (codes "audit") then audit_kinds words
    else if same_text name (codes "diff") then []
    else if same_text name (codes "graph") then []
    else if same_text name (codes "reach") then []
    else if same_text name (codes "explain") then number_kinds fault_in (first_of (codes "CODE") words)
    else []

-- the same, also without a command
abbrev pub kinds_by : Option (List ℕ × List Row) → Kinds
kinds_by None = []
kinds_by (Some command) = command_kinds command.0 command.1

-- the kind of an invalid value if a word writes no moment
abbrev pub unless_moment : Bool → Kinds
unless_moment true = []
unless_moment false = ValueValidation ∷ []

-- the kinds of the word of `--clock`, given whether it stands beside `--asterisk`
abbrev pub moment_kinds : Bool → List ℕ → Kinds
moment_kinds true word = unless_moment (is_some (moment_of word))
moment_kinds false word = MissingRequiredArgument ∷ []

-- the same, where there may be no such word
abbrev pub clock_kinds : Bool → Option (List ℕ) → Kinds
clock_kinds is_wide None = []
clock_kinds is_wide (Some word) = moment_kinds is_wide word

-- the same of a command
abbrev pub clock_kinds_by : Option (List ℕ × List Row) → Kinds
clock_kinds_by None = []
clock_kinds_by (Some command) = clock_kinds (is_set (codes "asterisk") command.1) (first_of (codes "MOMENT") command.1)

-- a missing argument if the words are not a request, since a required word is missing
abbrev pub missing_kinds : Option RequestOf → Kinds
missing_kinds None = MissingRequiredArgument ∷ []
missing_kinds (Some asked) = []

-- the kinds for the command that clap has found
abbrev pub subcommand_kinds : Option (List ℕ × List Row) → Kinds
subcommand_kinds command = or_else (clock_kinds_by command) (or_else (kinds_by command) (missing_kinds (asked_by command)))

-- the kinds with which words are refused, of which the first is the program's own name; the list is empty if the words are a request
unfoldable pub refusals_of : List (List ℕ) → Kinds
refusals_of words = or_else (fault_of pbx_app words) (subcommand_kinds (subcommand_of pbx_app words))
