-- If no name has a group, no include has times and no context is a macro, the lines stay as they are.
use Rattle.std.proofs.Common.{◌≡◌, ℕ, zero, suc, ◌-◌, Bool, true, false, ◌||◌, List, [], ◌∷◌, ◌++◌, length, slice_get, Option, Some, None, Result, Ok, Err, codes, refl, ap, ◌∙◌, if◌then◌else◌}
use Rattle.std.proofs.lemmas.List.{append-nil}
use Rattle.std.specs.List.{flat_map, list_any, range_with_len}
use Rattle.std.specs.Option.{option_map_or}
use Rattle.dp_conf.specs.Changes.{changed_at}
use Rattle.dp_conf.specs.Cut.{cut_once}
use Rattle.dp_conf.specs.Lines.{LineOf, Header, Pair}
use Rattle.dp_conf.specs.Words.{same_word}
use Rattle.dp_files.specs.DialplanText.{text_of}
use Rattle.dp_files.specs.declared.source_line.MadeLine.{MadeLine}
use Rattle.dp_notices.specs.GroupNames.{any_grouped, extension_after, globals_of_lines, has_grouped, is_grouped, items_in, line_by, lines_after, name_notices, named_lines, naming_of, naming_of_cut, naming_of_same, notice_by, notice_in, notices_after, within_after}
use Rattle.dp_notices.specs.Loading.{faults_in_text}
use Rattle.dp_notices.specs.MacroEnds.{ends_at, ends_by, ends_in, ends_of, ends_of_context, faultless, is_macro, made_ends, with_ends, with_header}
use Rattle.dp_notices.specs.Preparation.{has_macro, has_macros, has_times, loads_macro}
use Rattle.dp_notices.specs.TimedIncludes.{is_timed, line_at, with_times, with_times_of}
use Rattle.dp_notices.specs.declared.group_names.GroupNaming.{GroupNaming}
use Rattle.dp_notices.specs.declared.group_names.GroupNaming.TheVariants.{Stands}
use Rattle.dp_notices.specs.declared.loading.NumberedNotice.{NumberedNotice}
use Rattle.dp_notices.specs.declared.macro_ends.AddedLine.{AddedLine}
use Rattle.dp_plan.specs.Contexts.{PlanContext}
use Rattle.dp_plan.specs.Loaded.{lines_loaded, plan_and_notes}
use Rattle.dp_plan.specs.Plan.{PlanOf}
use Rattle.dp_plan.specs.declared.fault.LoadFault.{LoadFault}
use Rattle.dp_plan.specs.declared.note.Note.{Note}
use Rattle.dp_vars.specs.Variables.{Named}
use Rattle.dp_wide.specs.declared.times.Moment.{Moment}

-- true is not false
impossible : true ≡ false → {P : Type 0} → P
impossible is = absurd (cc)

-- if an `or` is false, both of its parts are false
first_of : (a b : Bool) → (a || b) ≡ false → a ≡ false
first_of true b none = impossible none
first_of false b none = refl

rest_of : (a b : Bool) → (a || b) ≡ false → b ≡ false
rest_of true b none = impossible none
rest_of false b none = none

-- ---- names with groups

-- a pair stands if it is not a line `same` and its name has no group
stands_without : (naming : GroupNaming) (same is : Bool) → is ≡ false → (if same then naming_of_same None else (if is then naming else Stands)) ≡ Stands
stands_without naming true is none = refl
stands_without naming false true none = impossible none
stands_without naming false false none = refl

-- so does the line of an item, if the last extension before it is not left out
stands : (globals : Option Named) (within : Bool) (items : List LineOf) → has_grouped within items ≡ false → naming_of globals within None items ≡ Stands
stands globals within [] none = refl
stands globals within (Header line name ∷ items) none = refl
stands globals true (Pair line key value ∷ items) none =
    stands_without (naming_of_cut globals key value (cut_once 44 value)) (same_word key (codes "same")) (is_grouped key value) none
stands globals false (Pair line key value ∷ items) none = refl

-- and the extension after a line that stands is not left out
kept_by : (is : Bool) → (if is then notice_in Stands else None) ≡ None
kept_by true = refl
kept_by false = refl

no_extension_after : (items : List LineOf) → extension_after None Stands items ≡ None
no_extension_after [] = refl
no_extension_after (Header line name ∷ items) = refl
no_extension_after (Pair line key value ∷ items) = kept_by (same_word key (codes "exten"))

kept_after : (naming : GroupNaming) (items : List LineOf) → naming ≡ Stands → extension_after None naming items ≡ None
kept_after naming items is = ap (λ (n : GroupNaming). extension_after None n items) is ∙ no_extension_after items

-- if no name has a group, the lines stay as they are
lines_stand : (globals : Option Named) (within : Bool) (lines : List MadeLine) → any_grouped within lines ≡ false → lines_after globals within None lines ≡ lines
lines_stand globals within [] none = refl
lines_stand globals within (line ∷ lines) none =
    let one : naming_of globals within None (items_in line.text) ≡ Stands = stands globals within (items_in line.text) (first_of (has_grouped within (items_in line.text)) _ none) in
    let next : extension_after None (naming_of globals within None (items_in line.text)) (items_in line.text) ≡ None = kept_after (naming_of globals within None (items_in line.text)) (items_in line.text) one in
    let rest : lines_after globals (within_after within (items_in line.text)) None lines ≡ lines = lines_stand globals (within_after within (items_in line.text)) lines (rest_of (has_grouped within (items_in line.text)) _ none) in
    (λ i. line_by (one i) line ∷ lines_after globals (within_after within (items_in line.text)) (next i) lines) ∙ ap (λ (more : List MadeLine). line ∷ more) rest

-- and there are no notices on names
names_unnoticed : (globals : Option Named) (within : Bool) (lines : List MadeLine) → any_grouped within lines ≡ false → notices_after globals within None lines ≡ []
names_unnoticed globals within [] none = refl
names_unnoticed globals within (line ∷ lines) none =
    let one : naming_of globals within None (items_in line.text) ≡ Stands = stands globals within (items_in line.text) (first_of (has_grouped within (items_in line.text)) _ none) in
    let next : extension_after None (naming_of globals within None (items_in line.text)) (items_in line.text) ≡ None = kept_after (naming_of globals within None (items_in line.text)) (items_in line.text) one in
    let rest : notices_after globals (within_after within (items_in line.text)) None lines ≡ [] = names_unnoticed globals (within_after within (items_in line.text)) lines (rest_of (has_grouped within (items_in line.text)) _ none) in
    (λ i. notice_by (one i) line.source ++ notices_after globals (within_after within (items_in line.text)) (next i) lines) ∙ rest

-- the same for the lines of a text
pub names_stand : (lines : List MadeLine) → any_grouped false lines ≡ false → named_lines lines ≡ lines
unfolding named_lines
names_stand lines none = lines_stand (globals_of_lines lines) false lines none

pub no_name_notices : (lines : List MadeLine) → any_grouped false lines ≡ false → name_notices lines ≡ []
unfolding name_notices
no_name_notices lines none = names_unnoticed (globals_of_lines lines) false lines none

-- ---- includes with times

-- no fault is about an include with times
abbrev NoneTimed : List NumberedNotice → Type 0
NoneTimed faults = list_any (λ (fault : NumberedNotice). is_timed fault.notice) faults ≡ false

-- if the first fault is not about one, it changes nothing
untimed_after : (moment : Moment) (fault : NumberedNotice) (faults : List NumberedNotice) (lines : List MadeLine)
    → (NoneTimed faults → with_times_of moment faults lines ≡ lines) → (is : Bool)
    → (is || list_any (λ (other : NumberedNotice). is_timed other.notice) faults) ≡ false
    → with_times_of moment faults (if is then changed_at (line_at moment) (fault.line - 1) lines else lines) ≡ lines
untimed_after moment fault faults lines rest true none = impossible none
untimed_after moment fault faults lines rest false none = rest none

-- if no fault is about one, nothing changes
no_times_change_nothing : (moment : Moment) (faults : List NumberedNotice) (lines : List MadeLine) → NoneTimed faults → with_times_of moment faults lines ≡ lines
no_times_change_nothing moment [] lines none = refl
no_times_change_nothing moment (fault ∷ faults) lines none = untimed_after moment fault faults lines (no_times_change_nothing moment faults lines) (is_timed fault.notice) none

-- if no include has times, the lines stay as they are at any moment
pub times_stand : (clock : Option Moment) (lines : List MadeLine) → has_times lines ≡ false → with_times clock lines ≡ lines
unfolding with_times
times_stand None lines none = refl
times_stand (Some moment) lines none = no_times_change_nothing moment (faults_in_text (text_of lines)) lines none

-- without a moment, all lines stay as they are
pub no_clock : (lines : List MadeLine) → with_times None lines ≡ lines
unfolding with_times
no_clock lines = refl

-- ---- macros

-- a context that is not a macro has no ends
no_ends : (plan : PlanOf) (lines : List (List ℕ)) (number : ℕ) (context : PlanContext) (is : Bool) → is ≡ false
    → (if is then with_header context.name (ends_in plan lines number context) else []) ≡ []
no_ends plan lines number context true is = impossible is
no_ends plan lines number context false is = refl

-- the same for the context at a place
no_ends_at : (plan : PlanOf) (lines : List (List ℕ)) (number : ℕ) (contexts : List PlanContext) (place : ℕ) → has_macro contexts ≡ false
    → option_map_or (ends_of_context plan lines number) (slice_get contexts place) [] ≡ []
no_ends_at plan lines number [] place none = refl
no_ends_at plan lines number (context ∷ contexts) zero none =
    no_ends plan lines number context (is_macro context.name) (first_of (is_macro context.name) (has_macro contexts) none)
no_ends_at plan lines number (context ∷ contexts) (suc place) none =
    no_ends_at plan lines number contexts place (rest_of (is_macro context.name) (has_macro contexts) none)

-- if all lists are empty, they are empty together
all_empty : (f : ℕ → List AddedLine) → ((n : ℕ) → f n ≡ []) → (numbers : List ℕ) → flat_map f numbers ≡ []
all_empty f none [] = refl
all_empty f none (number ∷ numbers) = ap (λ (xs : List AddedLine). xs ++ flat_map f numbers) (none number) ∙ all_empty f none numbers

-- a dialplan without macros has no ends
no_ends_of : (plan : PlanOf) (lines : List (List ℕ)) → has_macro plan.contexts ≡ false → ends_of plan lines ≡ []
unfolding ends_of
no_ends_of plan lines none =
    all_empty (ends_at plan lines) (λ number. no_ends_at plan lines number plan.contexts number none) (range_with_len 0 (length plan.contexts))

-- the same for what a text loads as
no_ends_by : (read : Result (PlanOf × List Note) LoadFault) (lines : Result (List (List ℕ)) LoadFault) → loads_macro read ≡ false → ends_by read lines ≡ []
no_ends_by (Ok read) (Ok lines) none = no_ends_of read.0 lines none
no_ends_by (Ok read) (Err fault) none = refl
no_ends_by (Err fault) lines none = refl

-- if no context is a macro, no lines are added
pub macros_stand : (lines : List MadeLine) → has_macros lines ≡ false → with_ends lines ≡ lines
unfolding with_ends
macros_stand lines none =
    ap (λ (ends : List AddedLine). lines ++ made_ends (faultless lines) ends)
    (no_ends_by (plan_and_notes (text_of (faultless lines))) (lines_loaded (text_of (faultless lines))) none)
    ∙ append-nil lines
