-- Facts about each item of lines that are read.
use Rattle.std.proofs.Common.{◌≡◌, ℕ, Bool, true, false, cond, ◌==◌, List, [], ◌∷◌, ◌++◌, Option, Some, None, Result, Ok, Err, codes, refl}
use Rattle.std.specs.List.{AllByRecursion, list_any}
use Rattle.std.specs.Option.{option_or, unwrap_or, option_flatten, IfSome}
use Rattle.std.specs.Result.{IfOk}
use Rattle.dp_conf.specs.Lines.{LineOf, Header, Pair}
use Rattle.dp_conf.specs.Shallow.{is_too_deep}
use Rattle.dp_conf.specs.Words.{same_word}
use Rattle.dp_conf.proofs.LinesKnown.{IsHeader, IsPair, IsKnownLine}
use Rattle.dp_conf.proofs.TextLemmas.{each-append, none-any}
use Rattle.dp_pattern.specs.Name.{Meaning}
use Rattle.dp_plan.specs.EntryLine.{shallow_at, exten_entry, same_entry}
use Rattle.dp_plan.specs.History.{PlanHistory, latest, section_in, name_in, history_of}
use Rattle.dp_plan.specs.Items.{section_named, global_item, include_item, refused_key, other_item, entry_item, context_item, just, pair_item, line_item, items_after}
use Rattle.dp_plan.specs.Faults.{plan_fault}
use Rattle.dp_plan.specs.declared.entry.Entry.{Entry}
use Rattle.dp_plan.specs.declared.fault.Word.TheVariants.{IncludeTimes}
use Rattle.dp_plan.specs.declared.fault.PlanKind.{PlanKind}
use Rattle.dp_plan.specs.declared.fault.PlanKind.TheVariants.{LeftOut}
use Rattle.dp_plan.specs.declared.fault.LoadFault.{LoadFault}
use Rattle.dp_plan.specs.Item.{Item, Begins, Sets, Adds, Includes, Unknown}
use Rattle.dp_plan.specs.declared.section.Section.{Section}
use Rattle.dp_plan.specs.declared.section.Section.TheVariants.{General, Globals, Context}
use Rattle.dp_plan.proofs.PartsKnown.{IsValue, IsHeaderName, IsContextName, IsGlobal, IsEntry, IsIncluded}
use Rattle.dp_plan.proofs.EntryKnown.{then-known, one_line, shallow-known, IsLastName, exten_entry-known, same_entry-known}

abbrev pub IsFineSection : Section → Type 0
IsFineSection General = Unit {0}
IsFineSection Globals = Unit {0}
IsFineSection (Context name) = IsContextName name

-- facts about an item
abbrev pub IsFine : Item → Type 0
IsFine (Begins section) = IsFineSection section
IsFine (Sets global) = IsGlobal global
IsFine (Adds line context entry) = IsContextName context × IsEntry entry
IsFine (Includes line context name) = IsContextName context × IsIncluded name
IsFine (Unknown line) = Unit {0}

abbrev AreFine : List Item → Type 0
AreFine items = AllByRecursion IsFine items

-- ---- headers and pairs

header_name : (name : List ℕ) → IsHeader name → IsHeaderName name
header_name name h = record {
  some = record { first = h.first; rest = h.rest; is = h.is };
  trimmed = h.trimmed;
  no_end = h.no_end;
  one_line = one_line name h.bytes;
}

section-known : (name : List ℕ) → IsHeader name → IsFineSection (section_named name)
section-known name h = by (same_word name (codes "general")) refl (same_word name (codes "globals")) refl
  where
    by : (g : Bool) → same_word name (codes "general") ≡ g → (s : Bool) → same_word name (codes "globals") ≡ s → IsFineSection (cond g General (cond s Globals (Context name)))
    by true general s globals = tt
    by false general true globals = tt
    by false general false globals = record { header = header_name name h; no_general = general; no_globals = globals }

value-known : (key value : List ℕ) → IsPair key value → IsValue value
value-known key value pair = record { trimmed = pair.value_trimmed; one_line = one_line value pair.value_bytes }

global_item-known : (line : ℕ) (key value : List ℕ) → IsPair key value → IfOk (global_item line key value) IsFine
global_item-known line [] value pair = tt
global_item-known line (k ∷ key) value pair =
    then-known (λ (v : List ℕ). IsValue v × (is_too_deep v ≡ false)) IsFine (shallow_at line value) _
    (shallow-known IsValue line value (value-known (k ∷ key) value pair)) (λ shallow given. record {
      name = record {
        first = k;
        rest = key;
        is = refl;
        no_header = pair.begins.0;
        no_directive = pair.begins.1;
        trimmed = pair.key_trimmed;
        no_sign = pair.no_sign;
        one_line = one_line (k ∷ key) pair.key_bytes;
      };
      value = given.0;
      accepted = given.1;
    })

include_item-known : (line : ℕ) (context key value : List ℕ) → IsContextName context → IsPair key value → IfOk (include_item line context value) IsFine
include_item-known line context key value fine pair = by (list_any (λ b. b == 44) value) refl
  where
    by : (t : Bool) → list_any (λ b. b == 44) value ≡ t
        → IfOk (cond {A = Result Item LoadFault} t (Err (plan_fault line (LeftOut IncludeTimes))) (Ok (Includes line context value))) IsFine
    by true comma = tt
    by false comma = (fine, record { value = value-known key value pair; no_comma = none-any (λ b. b == 44) value comma })

other_item-known : (line : ℕ) (kind : Option PlanKind) → IfOk (other_item line kind) IsFine
other_item-known line None = tt
other_item-known line (Some kind) = tt

entry_item-known : (context : List ℕ) (line : ℕ) (read : Result Entry LoadFault) → IsContextName context → IfOk read IsEntry
    → IfOk (entry_item context line read) IsFine
entry_item-known context line (Err fault) fine entry = tt
entry_item-known context line (Ok made) fine entry = (fine, entry)

context_item-known : (history : PlanHistory) (context : List ℕ) (line : ℕ) (key value : List ℕ) → IsContextName context → IsLastName history.name
    → IsPair key value → IfOk (context_item history context line key value) IsFine
unfolding context_item
context_item-known history context line key value fine last pair =
    by (same_word key (codes "exten")) (same_word key (codes "same")) (same_word key (codes "include"))
  where
    extens : Result Entry LoadFault
    extens = exten_entry history line context value

    sames : Result Entry LoadFault
    sames = same_entry history line context value

    by : (s t u : Bool)
        → IfOk (cond {A = Result Item LoadFault} s (entry_item context line extens) (cond t (entry_item context line sames) (cond u (include_item line context value) (other_item line (refused_key key))))) IsFine
    by true t u = entry_item-known context line extens fine (exten_entry-known history line context value pair.value_bytes)
    by false true u = entry_item-known context line sames fine (same_entry-known history line context value last pair.value_bytes)
    by false false true = include_item-known line context key value fine pair
    by false false false = other_item-known line (refused_key key)

just-known : (read : Result Item LoadFault) → IfOk read IsFine → IfOk (just read) AreFine
just-known (Err fault) fine = tt
just-known (Ok x) fine = (fine, tt)

pair_item-known : (history : PlanHistory) (section : Section) (line : ℕ) (key value : List ℕ) → IsFineSection section → IsLastName history.name
    → IsPair key value → IfOk (pair_item history section line key value) AreFine
pair_item-known history General line key value fine last pair = tt
pair_item-known history Globals line key value fine last pair = just-known (global_item line key value) (global_item-known line key value pair)
pair_item-known history (Context name) line key value fine last pair =
    just-known (context_item history name line key value) (context_item-known history name line key value fine last pair)

line_item-known : (history : PlanHistory) (line : LineOf) → IsFineSection history.section → IsLastName history.name → IsKnownLine line
    → IfOk (line_item history line) AreFine
line_item-known history (Header line name) fine last known = (section-known name known, tt)
line_item-known history (Pair line key value) fine last known = pair_item-known history history.section line key value fine last known

-- ---- the lines before a line

latest-known : {Y : Type 0} (P : Y → Type 0) (f : Item → Option Y) → ((x : Item) → IsFine x → IfSome (f x) P) → (xs : List Item) → AreFine xs
    → IfSome (latest f xs) P
latest-known P f each [] fine = tt
latest-known {Y} P f each (x ∷ xs) fine = by (latest f xs) (f x) (latest-known P f each xs fine.1) (each x fine.0)
  where
    by : (o p : Option Y) → IfSome o P → IfSome p P → IfSome (option_or o p) P
    by None p later here = here
    by (Some y) p later here = later

section_in-known : (x : Item) → IsFine x → IfSome (section_in x) IsFineSection
section_in-known (Begins section) fine = fine
section_in-known (Sets global) fine = tt
section_in-known (Adds line context entry) fine = tt
section_in-known (Includes line context name) fine = tt
section_in-known (Unknown line) fine = tt

name_in-known : (x : Item) → IsFine x → IfSome (name_in x) IsLastName
name_in-known (Begins section) fine = tt
name_in-known (Sets global) fine = tt
name_in-known (Adds line context entry) fine = fine.1.name
name_in-known (Includes line context name) fine = tt
name_in-known (Unknown line) fine = tt

section-before : (before : List Item) → AreFine before → IsFineSection (history_of before).section
section-before before fine = by (latest section_in before) (latest-known IsFineSection section_in section_in-known before fine)
  where
    by : (o : Option Section) → IfSome o IsFineSection → IsFineSection (unwrap_or o General)
    by None known = tt
    by (Some section) known = known

name-before : (before : List Item) → AreFine before → IsLastName (history_of before).name
name-before before fine = by (latest name_in before) (latest-known IsLastName name_in name_in-known before fine)
  where
    by : (o : Option (Option Meaning)) → IfSome o IsLastName → IsLastName (option_flatten o)
    by None known = tt
    by (Some None) known = tt
    by (Some (Some name)) known = known

-- ---- all items

-- each item of lines that are read
pub items_after-known : (before : List Item) (lines : List LineOf) → AreFine before → AllByRecursion IsKnownLine lines
    → IfOk (items_after before lines) AreFine
items_after-known before [] fine known = tt
items_after-known before (line ∷ lines) fine known =
    then-known AreFine AreFine (line_item (history_of before) line) _
    (line_item-known (history_of before) line (section-before before fine) (name-before before fine) known.0) (λ xs x.
    then-known AreFine AreFine (items_after (before ++ xs) lines) (λ ys. Ok (xs ++ ys))
    (items_after-known (before ++ xs) lines (each-append IsFine before xs fine x) known.1) (λ ys y. each-append IsFine xs ys x y))
