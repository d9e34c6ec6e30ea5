-- What the words of a command line ask for. clap's definitions, applied to the commands below, say which word belongs to which name of a
-- command.
use Rattle.std.specs.Prelude.{ℕ, Bool, true, false, ◌&&◌, String, string_bytes, List, [], ◌∷◌, Option, Some, None, is_some, nat_lt, map, codes, if◌then◌else◌}
use Rattle.std.specs.Option.{option_and_then, option_map, option_map_or}
use Rattle.std.specs.declared.alloc.Global.{Global}
use Rattle.clap.specs.Simple.{App, new_app, new_rule, on_top, with_rule, with_subcommand, subcommand_of}
use Rattle.clap.specs.Walk.{Row, Rule, all_of, first_of}
use Rattle.clap.specs.declared.builder.action.ArgAction.TheVariants.{Append, SetTrue}
use Rattle.dp_conf.specs.Words.{same_text}
use Rattle.dp_commands.specs.Script.{number_within}
use Rattle.dp_conf.specs.Numbers.{most_priority}
use Rattle.dp_program.specs.Entries.{fault_named, fault_numbered}
use Rattle.dp_program.specs.Requests.{OptionsOf, ReachDiffOf, RequestOf, joined, check, check_files, check_queue_files, check_both_files, check_queues, check_both, listing, listing_files, auditing, auditing_by, matching, matching_files, explaining, run, run_wide, debug, debug_wide, testing, comparing, comparing_files, comparing_reach, comparing_reach_files, drawing, drawing_files, reaching, reaching_files, DrawingOf, LookupOf, QuestionOf}
use Rattle.dp_program.specs.Texts.{OfRun}
use Rattle.dp_wide.specs.Times.{moment_of}
use Rattle.dp_wide_runs.specs.Kinds.{KindsTold, all, only, except, are_kinds}

-- a word that must be given
abbrev pub required_word : List ℕ → Rule
required_word name = record (new_rule name) { required = true }

-- words of which at least one must be given
abbrev pub required_words : List ℕ → Rule
required_words name = record (required_word name) { action = Some Append }

-- an optional word
abbrev pub free_word : List ℕ → Rule
free_word name = new_rule name

-- an optional word, with its default
abbrev pub word_or : List ℕ → List ℕ → Rule
word_or name default = record (new_rule name) { defaults = default ∷ [] }

-- an optional word, given after `--` and a name
abbrev pub named_word : List ℕ → List ℕ → Rule
named_word name long = record (new_rule name) { long = Some long }

-- a word that must be given, after `--` and a name
abbrev pub required_named_word : List ℕ → List ℕ → Rule
required_named_word name long = record (named_word name long) { required = true }

-- an optional flag, given as `--` and a name
abbrev pub flag : List ℕ → List ℕ → Rule
flag name long = record (named_word name long) { action = Some SetTrue }

-- the word for the file of a dialplan
abbrev pub file_word : Rule
file_word = required_word (codes "FILE")

-- a command with the flag `--explain`
abbrev pub with_explain : App → App
with_explain app = with_rule app (flag (codes "explain") (codes "explain"))

-- a command with the word for a queue file
abbrev pub with_queues : App → App
with_queues app = with_rule app (named_word (codes "QUEUES") (codes "queues"))

-- a command with the words for the optional files of a run: its queues and its second dialplan
abbrev pub with_more_files : App → App
with_more_files app =
    with_rule (with_queues app) (named_word (codes "DIALPLAN") (codes "reload"))

-- a command with the words for the files that every run has: its dialplan and its script
abbrev pub with_files : App → App
with_files app = with_rule (with_rule app file_word) (required_word (codes "SCRIPT"))

-- a command with the words of a look-up: the context, what was dialled, and the priority
abbrev pub with_lookup : App → App
with_lookup app =
    with_rule (with_rule (with_rule app (required_word (codes "CONTEXT"))) (required_word (codes "TEXT")))
    (word_or (codes "PRIORITY") (codes "1"))

-- a command with the flag `--asterisk`, for the wide table and for files with includes, and with the option `--clock`
abbrev pub with_asterisk : App → App
with_asterisk app = with_rule (with_rule app (flag (codes "asterisk") (codes "asterisk"))) (named_word (codes "MOMENT") (codes "clock"))

-- a command with the names of notes, for lines that are assumed to have no effect
abbrev pub with_assume : App → App
with_assume app = with_rule app (named_word (codes "NOTES") (codes "assume"))

-- a command with the flag `--json`, for output to other tools
abbrev pub with_json : App → App
with_json app = with_rule app (flag (codes "json") (codes "json"))

-- `check [--asterisk [--clock MOMENT]] [--queues QUEUES] [--json] [--explain] [FILE]`
abbrev pub check_app : App
check_app = with_explain (with_rule (with_json (with_queues (with_asterisk (new_app (codes "check"))))) (free_word (codes "FILE")))

-- `list [--asterisk [--clock MOMENT]] [--explain] FILE`
abbrev pub list_app : App
list_app = with_explain (with_rule (with_asterisk (new_app (codes "list"))) file_word)

-- `match [--asterisk [--clock MOMENT] [--assume NOTES]] [--all] [--json] [--explain] FILE CONTEXT TEXT [PRIORITY]`
abbrev pub match_app : App
match_app =
    with_explain (with_lookup (with_rule (with_json (with_rule (with_assume (with_asterisk (new_app (codes "match")))) (flag (codes "all") (codes "all"))))
    file_word))

-- `explain [--explain] CODE`
abbrev pub explain_app : App
explain_app = with_explain (with_rule (new_app (codes "explain")) (required_word (codes "CODE")))

-- a command with the flag `--verbose`, for more text above the lines of a run
abbrev pub with_verbose : App → App
with_verbose app = with_rule app (flag (codes "verbose") (codes "verbose"))

-- a command with the words that name kinds of findings: those to report, and those to leave out
abbrev pub with_kinds : App → App
with_kinds app =
    with_rule (with_rule app (named_word (codes "KINDS") (codes "only"))) (named_word (codes "UNWANTED") (codes "ignore"))

-- `audit [--asterisk [--clock MOMENT]] [--only KINDS] [--ignore UNWANTED] [--json] [--explain] FILE`
abbrev pub audit_app : App
audit_app = with_explain (with_rule (with_json (with_kinds (with_asterisk (new_app (codes "audit"))))) file_word)

-- a command with the word for a context where calls come in
abbrev pub with_from : App → App
with_from app = with_rule app (named_word (codes "CONTEXT") (codes "from"))

-- `diff [--asterisk [--clock MOMENT]] [--from CONTEXT] [--explain] OLD NEW`
abbrev pub diff_app : App
diff_app =
    with_explain (with_rule (with_rule (with_from (with_asterisk (new_app (codes "diff")))) (required_word (codes "OLD"))) (required_word (codes "NEW")))

-- `graph [--asterisk [--clock MOMENT]] [--queues QUEUES] [--from CONTEXT] [--explain] FILE`
abbrev pub graph_app : App
graph_app =
    with_explain (with_rule (with_from (with_queues (with_asterisk (new_app (codes "graph"))))) file_word)

-- `run [--asterisk [--clock MOMENT]] [--queues QUEUES] [--reload DIALPLAN] [--threads N] [--verbose] [--explain] FILE SCRIPT`
abbrev pub run_app : App
run_app =
    with_explain (with_files (with_verbose (with_rule (with_more_files (with_asterisk (new_app (codes "run")))) (named_word (codes "N") (codes "threads")))))

-- `debug [--asterisk [--clock MOMENT]] [--queues QUEUES] [--reload DIALPLAN] --break CONTEXT,EXTEN,PRIORITY [--verbose] [--explain] FILE SCRIPT`
abbrev pub debug_app : App
debug_app =
    with_explain (with_files (with_verbose (with_rule (with_more_files (with_asterisk (new_app (codes "debug"))))
    (required_named_word (codes "CONTEXT,EXTEN,PRIORITY") (codes "break")))))

-- a command with the flag `--graph`, for a picture in place of results
abbrev pub with_graph : App → App
with_graph app = with_rule app (flag (codes "graph") (codes "graph"))

-- `test [--trace] [--cover] [--graph] [--json] [--explain] FILE..`
abbrev pub test_app : App
test_app =
    with_explain (with_rule (with_json (with_graph (with_rule (with_rule (new_app (codes "test")) (flag (codes "trace") (codes "trace")))
    (flag (codes "cover") (codes "cover"))))) (required_words (codes "FILE")))

-- a command with the words for what may come in: the contexts at which calls do, and the bytes of extensions and of callers' numbers
abbrev pub with_outside : App → App
with_outside app =
    with_rule (with_rule (with_rule app (named_word (codes "CONTEXTS") (codes "start"))) (named_word (codes "BYTES") (codes "exten")))
    (named_word (codes "NUMBERS") (codes "caller"))

-- a command with the word for the bytes of what names are set to from outside
abbrev pub with_facts : App → App
with_facts app = with_rule app (named_word (codes "VALUES") (codes "facts"))

-- `reach [--asterisk [--clock MOMENT] [--assume NOTES]] [--queues QUEUES] [--start CONTEXTS] [--exten BYTES] [--caller NUMBERS] [--facts VALUES] [--to TARGET]
-- [--json] [--explain] FILE CONTEXT`
abbrev pub reach_app : App
reach_app =
    with_explain (with_rule (with_rule (with_json (with_rule (with_facts (with_outside (with_queues (with_assume (with_asterisk (new_app (codes "reach")))))))
    (named_word (codes "TARGET") (codes "to")))) file_word) (required_word (codes "CONTEXT")))

-- a command that prints its version for `--version` and `-V`
abbrev pub with_version : App → App
with_version app = on_top (λ shape. record shape { has_version = true }) app

-- the program without its commands
abbrev pub bare_app : App
bare_app = with_version (new_app (codes "pbx"))

-- the program's commands
abbrev pub pbx_app : App
pbx_app =
    with_subcommand (with_subcommand (with_subcommand (with_subcommand (with_subcommand (with_subcommand (with_subcommand (with_subcommand (with_subcommand
    (with_subcommand (with_subcommand bare_app check_app.top) list_app.top) match_app.top) run_app.top) debug_app.top) test_app.top) audit_app.top)
    diff_app.top) graph_app.top) reach_app.top) explain_app.top

-- the priority in a word: digits that write a number from 1 to the greatest priority
abbrev pub priority_in : List ℕ → Option ℕ
priority_in word = option_and_then (λ n. if nat_lt 0 n then Some n else None) (number_within most_priority word)

-- the greatest number of threads of a run
abbrev pub most_threads : ℕ
most_threads = 64

-- the number of threads in a word: digits that write a number from 1 to the greatest one
abbrev pub threads_in : List ℕ → Option ℕ
threads_in word = option_and_then (λ n. if nat_lt 0 n then Some n else None) (number_within most_threads word)

-- the greatest number that is read as the number of a fault
abbrev pub most_code : ℕ
most_code = 4294967295

-- the first value if there is one, else the second
abbrev pub or_next : Option ℕ → Option ℕ → Option ℕ
or_next None second = second
or_next (Some first) second = Some first

-- the fault whose number a word writes in digits, or else the one fault that has the word as its name
abbrev pub fault_in : List ℕ → Option ℕ
fault_in word = or_next (option_and_then fault_numbered (number_within most_code word)) (fault_named word)

-- whether a flag is given: its value is then `true`, and otherwise `false`
abbrev pub is_set : List ℕ → List Row → Bool
is_set name words = option_map_or (λ value. same_text value (codes "true")) (first_of name words) false

-- the request of `check`, given its dialplan and its queue file; None without both
abbrev pub check_request : Option (List ℕ) → Option (List ℕ) → Option RequestOf
check_request None None = None
check_request None (Some queues) = Some (check_queues queues)
check_request (Some file) None = Some (check file)
check_request (Some file) (Some queues) = Some (check_both file queues)

-- the request of `check --asterisk`, given its dialplan and its queue file; None without both
abbrev pub check_including : Option (List ℕ) → Option (List ℕ) → Option RequestOf
check_including None None = None
check_including None (Some queues) = Some (check_queue_files queues)
check_including (Some file) None = Some (check_files file)
check_including (Some file) (Some queues) = Some (check_both_files file queues)

-- the request of `check`, given its words and whether it has `--asterisk`
abbrev pub check_over : List Row → Bool → Option RequestOf
check_over words true = check_including (first_of (codes "FILE") words) (first_of (codes "QUEUES") words)
check_over words false = check_request (first_of (codes "FILE") words) (first_of (codes "QUEUES") words)

-- the request of `check`
abbrev pub check_asked : List Row → Option RequestOf
check_asked words = check_over words (is_set (codes "asterisk") words)

-- the request of `list` on a file, given whether it reads the files that the dialplan includes
abbrev pub list_of : Bool → List ℕ → RequestOf
list_of false file = listing file
list_of true file = listing_files file

-- the request of `list`
abbrev pub list_asked : List Row → Option RequestOf
list_asked words = option_map (list_of (is_set (codes "asterisk") words)) (first_of (codes "FILE") words)

-- the look-up at a priority that the words of `match` name
abbrev pub lookup_at : List Row → ℕ → Option LookupOf
lookup_at words priority =
    option_and_then (λ file. option_and_then (λ context. option_map
    (λ text. record { file = file; context = context; text = text; priority = priority })
    (first_of (codes "TEXT") words)) (first_of (codes "CONTEXT") words)) (first_of (codes "FILE") words)

-- the request of `match`, given whether it reads the files that the dialplan includes, its other words and the look-up
abbrev pub match_over : List Row → Bool → LookupOf → RequestOf
match_over words false lookup = matching lookup (is_set (codes "all") words)
match_over words true lookup = matching_files lookup (is_set (codes "all") words)

-- the request of `match` at a priority, given its other words
abbrev pub match_at : List Row → ℕ → Option RequestOf
match_at words priority = option_map (match_over words (is_set (codes "asterisk") words)) (lookup_at words priority)

-- the request of `match`
abbrev pub match_asked : List Row → Option RequestOf
match_asked words =
    option_and_then (λ word. option_and_then (match_at words) (priority_in word)) (first_of (codes "PRIORITY") words)

-- the request of `audit` on a file for all kinds of findings, given whether it uses the wide table
abbrev pub audit_all : Bool → List ℕ → RequestOf
audit_all false file = auditing file
audit_all true file = auditing_by file (record { is_wide = true; kinds = all })

-- the same for a choice of kinds
abbrev pub audit_over : Bool → KindsTold → List ℕ → RequestOf
audit_over is_wide all file = audit_all is_wide file
audit_over is_wide (only text) file = auditing_by file (record { is_wide = is_wide; kinds = only text })
audit_over is_wide (except text) file = auditing_by file (record { is_wide = is_wide; kinds = except text })

-- the request of `audit` for a choice of kinds, given its other words
abbrev pub audit_in : List Row → KindsTold → Option RequestOf
audit_in words kinds = option_map (audit_over (is_set (codes "asterisk") words) kinds) (first_of (codes "FILE") words)

-- the same, given the text that names the kinds; None if a word of the text is not a kind
abbrev pub audit_named : List Row → List ℕ → KindsTold → Option RequestOf
audit_named words text kinds = if are_kinds (is_set (codes "asterisk") words) text then audit_in words kinds else None

-- the request of `audit`, given the words after `--only` and `--ignore`, which exclude each other
abbrev pub audit_by : List Row → Option (List ℕ) → Option (List ℕ) → Option RequestOf
audit_by words None None = audit_in words all
audit_by words (Some text) None = audit_named words text (only text)
audit_by words None (Some text) = audit_named words text (except text)
audit_by words (Some wanted) (Some unwanted) = None

-- the request of `audit`
abbrev pub audit_asked : List Row → Option RequestOf
audit_asked words = audit_by words (first_of (codes "KINDS") words) (first_of (codes "UNWANTED") words)

-- the request of `explain`
abbrev pub explain_asked : List Row → Option RequestOf
explain_asked words = option_and_then (λ word. option_map explaining (fault_in word)) (first_of (codes "CODE") words)

-- the files of a run
abbrev pub run_paths : List Row → Option (OfRun (List ℕ))
run_paths words =
    option_and_then (λ file. option_map (λ script.
    record { plan = file; queues = first_of (codes "QUEUES") words; second_plan = first_of (codes "DIALPLAN") words; script = script })
    (first_of (codes "SCRIPT") words)) (first_of (codes "FILE") words)

-- the request of `run` with an optional number of threads, given its other words
abbrev pub run_in : List Row → Option ℕ → Option RequestOf
run_in words threads = option_map (λ paths. run paths threads (is_set (codes "verbose") words)) (run_paths words)

-- the request of `run` without `--asterisk`, given its other words and the word after `--threads`
abbrev pub run_by : List Row → Option (List ℕ) → Option RequestOf
run_by words None = run_in words None
run_by words (Some word) = option_and_then (λ threads. run_in words (Some threads)) (threads_in word)

-- whether a number of threads is given, which `run --asterisk` does not allow
abbrev pub has_threads : List Row → Bool
has_threads words = is_some (first_of (codes "N") words)

-- the request of `run --asterisk`, given whether it has a number of threads
abbrev pub run_wide_in : List Row → Bool → Option RequestOf
run_wide_in words true = None
run_wide_in words false = option_map (λ paths. run_wide paths (is_set (codes "verbose") words)) (run_paths words)

-- the request of `run`, given its words and whether it has `--asterisk`
abbrev pub run_over : List Row → Bool → Option RequestOf
run_over words true = run_wide_in words (has_threads words)
run_over words false = run_by words (first_of (codes "N") words)

-- the request of `run`
abbrev pub run_asked : List Row → Option RequestOf
run_asked words = run_over words (is_set (codes "asterisk") words)

-- the request of `debug` on the files of a run, given whether it uses the wide table
abbrev pub debug_of : Bool → OfRun (List ℕ) → List ℕ → Bool → RequestOf
debug_of false paths held is_verbose = debug paths held is_verbose
debug_of true paths held is_verbose = debug_wide paths held is_verbose

-- the request of `debug`
abbrev pub debug_asked : List Row → Option RequestOf
debug_asked words =
    option_and_then (λ paths. option_map (λ held. debug_of (is_set (codes "asterisk") words) paths held (is_set (codes "verbose") words))
    (first_of (codes "CONTEXT,EXTEN,PRIORITY") words)) (run_paths words)

-- the request of `test` on these files, given its other words
abbrev pub test_of : List Row → List (List ℕ) → RequestOf
test_of words files = testing files (is_set (codes "trace") words) (is_set (codes "cover") words) (is_set (codes "graph") words)

-- the request of `test`
abbrev pub test_asked : List Row → Option RequestOf
test_asked words = option_map (test_of words) (all_of (codes "FILE") words)

-- the bytes of what names are set to from outside, if no others are given: only with `--asterisk` is something set
abbrev pub usual_facts : List ℕ
usual_facts = codes "0-9A-Za-z_./ -"

-- the bytes that are given, or these
abbrev pub facts_by : Bool → Option (List ℕ) → Option (List ℕ)
facts_by is_wide (Some bytes) = Some bytes
facts_by true None = Some usual_facts
facts_by false None = None

abbrev pub facts_in : List Row → Option (List ℕ)
facts_in words = facts_by (is_set (codes "asterisk") words) (first_of (codes "VALUES") words)

-- the request of `diff` on two files, given whether it reads the files that the dialplans include
abbrev pub diff_of : Bool → List ℕ → List ℕ → RequestOf
diff_of false before after = comparing before after
diff_of true before after = comparing_files before after

-- the same for what a call reaches
abbrev pub reach_diff_of : Bool → ReachDiffOf → RequestOf
reach_diff_of false question = comparing_reach question
reach_diff_of true question = comparing_reach_files question

-- the question about what a call from a context reaches in two files, given the other words of `diff`
abbrev pub reach_diff_at : List Row → List ℕ → List ℕ → List ℕ → ReachDiffOf
reach_diff_at words before after from = record { before = before; after = after; from = from; facts = facts_in words }

-- the request of `diff` on two files, given its other words and the context where calls come in, if one is named
abbrev pub diff_by : List Row → List ℕ → List ℕ → Option (List ℕ) → RequestOf
diff_by words before after None = diff_of (is_set (codes "asterisk") words) before after
diff_by words before after (Some from) = reach_diff_of (is_set (codes "asterisk") words) (reach_diff_at words before after from)

abbrev pub diff_at : List Row → List ℕ → List ℕ → RequestOf
diff_at words before after = diff_by words before after (first_of (codes "CONTEXT") words)

-- the request of `diff`
abbrev pub diff_asked : List Row → Option RequestOf
diff_asked words = option_and_then (λ before. option_map (diff_at words before) (first_of (codes "NEW") words)) (first_of (codes "OLD") words)

-- what a picture shows of a file, given the other words of `graph`
abbrev pub drawing_at : List Row → List ℕ → DrawingOf
drawing_at words file =
    record { file = file; queues = first_of (codes "QUEUES") words; from = first_of (codes "CONTEXT") words; facts = facts_in words }

-- the request of `graph`, given whether it reads the files that the dialplan and its queues include
abbrev pub graph_of : Bool → DrawingOf → RequestOf
graph_of false question = drawing question
graph_of true question = drawing_files question

-- the request of `graph`
abbrev pub graph_asked : List Row → Option RequestOf
graph_asked words = option_map (λ file. graph_of (is_set (codes "asterisk") words) (drawing_at words file)) (first_of (codes "FILE") words)

-- the question of `reach` on a file and a context, given its other words
abbrev pub reach_at : List Row → List ℕ → List ℕ → QuestionOf
reach_at words file context = record {
  file = file;
  queues = first_of (codes "QUEUES") words;
  ask = record {
    context = context;
    target = first_of (codes "TARGET") words;
    starts = first_of (codes "CONTEXTS") words;
    exten = first_of (codes "BYTES") words;
    caller = first_of (codes "NUMBERS") words;
    facts = facts_in words;
  };
}

-- the request of `reach`, given whether it reads the files that the dialplan and its queues include
abbrev pub reach_of : Bool → QuestionOf → RequestOf
reach_of false question = reaching question
reach_of true question = reaching_files question

-- the request of `reach`
abbrev pub reach_asked : List Row → Option RequestOf
reach_asked words =
    option_and_then (λ file. option_map (λ context. reach_of (is_set (codes "asterisk") words) (reach_at words file context)) (first_of (codes "CONTEXT") words))
    (first_of (codes "FILE") words)

-- the request of the command with a name, given its words
abbrev pub command_asked : List ℕ → List Row → Option RequestOf
command_asked name words =
    if same_text name (codes "check") then check_asked words
    else if same_text name (codes "list") then list_asked words
    else if same_text name (codes "match") then match_asked words
    else if same_text name (codes "run") then run_asked words
    else if same_text name (codes "debug") then debug_asked words
    else if same_text name (codes "test") then test_asked words
    else if same_text name (codes "audit") then audit_asked words
    else if same_text name (codes "diff") then diff_asked words
    else if same_text name (codes "graph") then graph_asked words
    else if same_text name (codes "reach") then reach_asked words
    else if same_text name (codes "explain") then explain_asked words
    else None

-- the same, also without a command
abbrev pub asked_by : Option (List ℕ × List Row) → Option RequestOf
asked_by None = Some joined
asked_by (Some command) = command_asked command.0 command.1

-- the word of `--clock`, by the words of a command; without a command there is none
abbrev pub clock_by : Option (List ℕ × List Row) → Option (List ℕ)
clock_by None = None
clock_by (Some command) = first_of (codes "MOMENT") command.1

-- the word of `--assume`, by the words of a command; without a command there is none
abbrev pub assumed_by : Option (List ℕ × List Row) → Option (List ℕ)
assumed_by None = None
assumed_by (Some command) = first_of (codes "NOTES") command.1

-- whether a command takes the word of `--clock`: the word writes a moment and stands beside `--asterisk`
abbrev pub takes_clock : Bool → Option (List ℕ) → Bool
takes_clock is_wide None = true
takes_clock is_wide (Some word) = is_wide && is_some (moment_of word)

-- the same, by all the words of a command; without a command there is no such word
abbrev pub takes_clock_by : Option (List ℕ × List Row) → Bool
takes_clock_by None = true
takes_clock_by (Some command) = takes_clock (is_set (codes "asterisk") command.1) (first_of (codes "MOMENT") command.1)

-- what a command asks for, unless it does not take the word of `--clock`
abbrev pub request_of_command : Option (List ℕ × List Row) → Option RequestOf
request_of_command command = if takes_clock_by command then asked_by command else None

-- the words as bytes
abbrev pub texts : List (String Global) → List (List ℕ)
texts words = map string_bytes words

-- the request of a command line, given all its words, of which the first is the program's own name
unfoldable pub asked_of : List (List ℕ) → Option RequestOf
asked_of words = request_of_command (subcommand_of pbx_app words)

-- whether faults are explained, given the words of a command; without a command they are not
abbrev pub explains_by : Option (List ℕ × List Row) → Bool
explains_by None = false
explains_by (Some command) = is_set (codes "explain") command.1

-- whether the output is JSON, given the words of a command; without a command it is not
abbrev pub json_by : Option (List ℕ × List Row) → Bool
json_by None = false
json_by (Some command) = is_set (codes "json") command.1

-- the options of a command
abbrev pub options_by : Option (List ℕ × List Row) → OptionsOf
options_by command =
    record { explains = explains_by command; clock = clock_by command; assumed = assumed_by command; is_json = json_by command }

-- the same, given all words of a command line
unfoldable pub options_of : List (List ℕ) → OptionsOf
options_of words = options_by (subcommand_of pbx_app words)
