-- The kinds with which words are refused.
use Rattle.std.proofs.Common.{◌≡◌, ◌⊎◌, Bool, true, false, cond, List, ℕ, [], ◌∷◌, Option, Some, None, is_some, codes, inl, inr, refl, if◌then◌else◌}
use Rattle.std.specs.Option.{option_and_then, option_map}
use Rattle.clap.specs.Kinds.{IsAmong, Kinds, or_else}
use Rattle.clap.specs.Walk.{Row, first_of}
use Rattle.clap.specs.declared.error.kind.ErrorKind.{ErrorKind}
use Rattle.clap.specs.declared.error.kind.ErrorKind.TheVariants.{OutOfMemory}
use Rattle.dp_conf.specs.Words.{same_text}
use Rattle.dp_program.specs.Requests.{RequestOf, explaining}
use Rattle.dp_cli.specs.CommandLine.{asked_by, request_of_command, takes_clock, takes_clock_by, audit_asked, audit_by, audit_in, check_asked, command_asked, debug_asked, diff_asked, graph_asked, test_asked, explain_asked, fault_in, list_asked, match_asked, match_at, priority_in, reach_asked, run_asked, run_by, run_in, run_over, run_wide_in, is_set, has_threads, threads_in}
use Rattle.dp_wide.specs.Times.{moment_of}
use Rattle.dp_wide_runs.specs.Kinds.{all, only, except, are_kinds}
use Rattle.dp_cli.specs.Refusals.{audit_kinds_by, clock_kinds, clock_kinds_by, unless_moment, command_kinds, conflict_kinds, kinds_by, number_kinds, run_kinds_over, unless_kinds, unless_number}

-- one of the first kinds is one of all kinds
pub has_first : (kinds next : Kinds) (kind : ErrorKind) → (kind ≡ OutOfMemory) ⊎ IsAmong kind kinds → (kind ≡ OutOfMemory) ⊎ IsAmong kind (or_else kinds next)
has_first [] next kind (inl memory) = inl memory
has_first [] next kind (inr among) = absurd among
has_first (first ∷ kinds) next kind has = has

-- a word that was read as a number has no fault
unless_asked : {X : Type 0} (number : Option ℕ) (next : ℕ → Option X) → is_some (option_and_then next number) ≡ true → unless_number number ≡ []
unless_asked None next is = absurd cc
unless_asked (Some number) next is = refl

match_numbers : (words : List Row) (word : Option (List ℕ)) → is_some (option_and_then (λ word. option_and_then (match_at words) (priority_in word)) word) ≡ true
    → number_kinds priority_in word ≡ []
match_numbers words None is = refl
match_numbers words (Some word) is = unless_asked (priority_in word) (match_at words) is

-- the same if nothing else is needed
unless_mapped : {X : Type 0} (number : Option ℕ) (next : ℕ → X) → is_some (option_map next number) ≡ true → unless_number number ≡ []
unless_mapped None next is = absurd cc
unless_mapped (Some number) next is = refl

explain_numbers : (word : Option (List ℕ)) → is_some (option_and_then (λ word. option_map explaining (fault_in word)) word) ≡ true → number_kinds fault_in word ≡ []
explain_numbers None is = refl
explain_numbers (Some word) is = unless_mapped (fault_in word) explaining is

run_numbers : (words : List Row) (word : Option (List ℕ)) → is_some (run_by words word) ≡ true → number_kinds threads_in word ≡ []
run_numbers words None is = refl
run_numbers words (Some word) is = unless_asked (threads_in word) (λ threads. run_in words (Some threads)) is

wide_kinds : (words : List Row) (conflicts : Bool) → is_some (run_wide_in words conflicts) ≡ true → conflict_kinds conflicts ≡ []
wide_kinds words true is = absurd cc
wide_kinds words false is = refl

run_kinds_none : (words : List Row) (is_wide : Bool) → is_some (run_over words is_wide) ≡ true → run_kinds_over words is_wide ≡ []
run_kinds_none words true is = wide_kinds words (has_threads words) is
run_kinds_none words false is = run_numbers words (first_of (codes "N") words) is

named_kinds : (is_kinds : Bool) (request : Option RequestOf) → is_some (if is_kinds then request else None) ≡ true → unless_kinds is_kinds ≡ []
named_kinds true request is = refl
named_kinds false request is = absurd cc

audit_kinds_none : (words : List Row) (wanted unwanted : Option (List ℕ)) → is_some (audit_by words wanted unwanted) ≡ true → audit_kinds_by words wanted unwanted ≡ []
audit_kinds_none words None None is = refl
audit_kinds_none words (Some text) None is = named_kinds (are_kinds (is_set (codes "asterisk") words) text) (audit_in words (only text)) is
audit_kinds_none words None (Some text) is = named_kinds (are_kinds (is_set (codes "asterisk") words) text) (audit_in words (except text)) is
audit_kinds_none words (Some wanted) (Some unwanted) is = absurd cc

-- the same for a choice between two
either : (b : Bool) (first later : Option RequestOf) (kinds others : Kinds) → (is_some first ≡ true → kinds ≡ []) → (is_some later ≡ true → others ≡ [])
    → is_some (cond b first later) ≡ true → cond b kinds others ≡ []
either true first later kinds others is are some = is some
either false first later kinds others is are some = are some

command_numbers : (name : List ℕ) (words : List Row) → is_some (command_asked name words) ≡ true → command_kinds name words ≡ []
command_numbers name words =
    either (same_text name (codes "check")) (check_asked words) _ [] _ (λ some. refl)
    (either (same_text name (codes "list")) (list_asked words) _ [] _ (λ some. refl)
    (either (same_text name (codes "match")) (match_asked words) _ _ _ (match_numbers words (first_of (codes "PRIORITY") words))
    (either (same_text name (codes "run")) (run_asked words) _ _ _ (run_kinds_none words (is_set (codes "asterisk") words))
    (either (same_text name (codes "debug")) (debug_asked words) _ [] _ (λ some. refl)
    (either (same_text name (codes "test")) (test_asked words) _ [] _ (λ some. refl)
    (either (same_text name (codes "audit")) (audit_asked words) _ _ _ (audit_kinds_none words (first_of (codes "KINDS") words) (first_of (codes "UNWANTED") words))
    (either (same_text name (codes "diff")) (diff_asked words) _ [] _ (λ some. refl)
    (either (same_text name (codes "graph")) (graph_asked words) _ [] _ (λ some. refl)
    (either (same_text name (codes "reach")) (reach_asked words) _ [] _ (λ some. refl)
    (either (same_text name (codes "explain")) (explain_asked words) _ _ [] (explain_numbers (first_of (codes "CODE") words)) (λ some. refl)))))))))))

-- words that are a request have no number out of its range
pub asked_numbers : (command : Option (List ℕ × List Row)) → is_some (asked_by command) ≡ true → kinds_by command ≡ []
asked_numbers None is = refl
asked_numbers (Some command) is = command_numbers command.0 command.1 is

-- ---- the word of `--clock`

moment_none : (is_moment : Bool) → is_moment ≡ true → unless_moment is_moment ≡ []
moment_none true is = refl
moment_none false is = absurd cc

word_kinds_none : (is_wide : Bool) (word : Option (List ℕ)) → takes_clock is_wide word ≡ true → clock_kinds is_wide word ≡ []
word_kinds_none is_wide None is = refl
word_kinds_none true (Some word) is = moment_none (is_some (moment_of word)) is
word_kinds_none false (Some word) is = absurd cc

-- a command that takes the word does not refuse it
clock_kinds_none : (command : Option (List ℕ × List Row)) → takes_clock_by command ≡ true → clock_kinds_by command ≡ []
clock_kinds_none None is = refl
clock_kinds_none (Some command) is = word_kinds_none (is_set (codes "asterisk") command.1) (first_of (codes "MOMENT") command.1) is

takes : (b : Bool) (asked : Option RequestOf) → is_some (if b then asked else None) ≡ true → b ≡ true
takes true asked some = refl
takes false asked some = absurd cc

asks : (b : Bool) (asked : Option RequestOf) → is_some (if b then asked else None) ≡ true → is_some asked ≡ true
asks true asked some = some
asks false asked some = absurd cc

-- a command that asks for something has no refusal of its clock, and none of its numbers
pub request_clock : (command : Option (List ℕ × List Row)) → is_some (request_of_command command) ≡ true → clock_kinds_by command ≡ []
request_clock command some = clock_kinds_none command (takes (takes_clock_by command) (asked_by command) some)

pub request_numbers : (command : Option (List ℕ × List Row)) → is_some (request_of_command command) ≡ true → kinds_by command ≡ []
request_numbers command some = asked_numbers command (asks (takes_clock_by command) (asked_by command) some)

-- one of the later kinds is one of all where there are no first ones
pub has_later : (kinds next : Kinds) (kind : ErrorKind) → kinds ≡ [] → (kind ≡ OutOfMemory) ⊎ IsAmong kind next → (kind ≡ OutOfMemory) ⊎ IsAmong kind (or_else kinds next)
has_later [] next kind none has = has
has_later (first ∷ kinds) next kind none has = absurd cc

-- a refusal for which there is no kind is out of memory
pub none_left : (kinds : Kinds) (kind : ErrorKind) → kinds ≡ [] → (kind ≡ OutOfMemory) ⊎ IsAmong kind kinds → kind ≡ OutOfMemory
none_left [] kind none (inl memory) = memory
none_left [] kind none (inr among) = absurd among
none_left (first ∷ kinds) kind none has = absurd cc
