-- The hints beside an answer about a dialplan that has no entry, or that lacks the context that was named.
use Rattle.std.specs.Prelude.{◌≡◌, ℕ, Bool, List, [], ◌++◌, ◌==◌, ◌&&◌, length, map, Option, Some, None, Result, Ok, Err, IfOk, codes, if◌then◌else◌}
use Rattle.std.specs.List.{flat_map, list_all}
use Rattle.dp_conf.specs.Answers.{◌>>=◌}
use Rattle.dp_plan.specs.Loaded.{plan_and_notes}
use Rattle.dp_plan.specs.Lookup.{number_of}
use Rattle.dp_plan.specs.Plan.{PlanOf}
use Rattle.dp_commands.specs.Run.{plan_fault}
use Rattle.dp_commands.specs.declared.fault.PbxFault.{PbxFault}
use Rattle.dp_program.specs.Nearest.{nearest_of}
use Rattle.dp_program.specs.Requests.{LookupOf}
use Rattle.dp_program.specs.declared.hints.ServedRequest.{ServedRequest}

-- whether no context has an entry or an include
abbrev pub is_bare : PlanOf → Bool
is_bare plan = list_all (λ context. length context.entries == 0 && length context.includes == 0) plan.contexts

-- what a dialplan lacks if no context has an entry or an include: contexts, or entries
abbrev pub lacking : PlanOf → List ℕ
lacking plan = if length plan.contexts == 0 then codes "context" else codes "entry"

-- the line that says that a file may not be a dialplan, given what the file lacks
abbrev pub bare_line : List ℕ → List ℕ → List ℕ
bare_line file lack = codes "pbx: " ++ file ++ codes " has no " ++ lack ++ codes ": is it a dialplan?\n"

-- the line that says that a file has no context with a name
abbrev pub unknown_context : List ℕ → List ℕ → List ℕ
unknown_context file name = codes "pbx: " ++ file ++ codes " has no context `" ++ name ++ codes "`\n"

-- the line of a similar name
abbrev pub near_line : List ℕ → List ℕ
near_line name = codes "  nearest: " ++ name ++ codes "\n"

-- the lines of the names nearest to that of a context, if they are asked for
abbrev pub near_lines : Bool → List ℕ → PlanOf → List ℕ
near_lines explains name plan = if explains then flat_map near_line (nearest_of name (map (λ context. context.name) plan.contexts)) else []

-- the hint on the name of a context in a file, given the context's number
abbrev pub name_told : List ℕ → List ℕ → Bool → PlanOf → Option ℕ → List ℕ
name_told file name explains plan (Some number) = []
name_told file name explains plan None = unknown_context file name ++ near_lines explains name plan

-- the hint on the context of a look-up, given the context's number
abbrev pub told_of : LookupOf → Bool → PlanOf → Option ℕ → List ℕ
told_of lookup explains plan number = name_told lookup.file lookup.context explains plan number

-- the hint on a dialplan that is audited
abbrev pub audit_hint : List ℕ → PlanOf → List ℕ
audit_hint file plan = if is_bare plan then bare_line file (lacking plan) else []

-- the hint on a dialplan in which an entry is looked up
abbrev pub match_hint : LookupOf → Bool → PlanOf → List ℕ
match_hint lookup explains plan =
    if is_bare plan then bare_line lookup.file (lacking plan) else told_of lookup explains plan (number_of plan lookup.context)

-- the hint on the dialplan that a text holds, or the text's fault
unfoldable pub audit_hint_of : List ℕ → List ℕ → Result (List ℕ) PbxFault
audit_hint_of file plan = plan_fault (plan_and_notes plan) >>= λ read. Ok (audit_hint file read.0)

unfoldable pub match_hint_of : LookupOf → Bool → List ℕ → Result (List ℕ) PbxFault
match_hint_of lookup explains plan = plan_fault (plan_and_notes plan) >>= λ read. Ok (match_hint lookup explains read.0)

-- a result without its hint
abbrev pub status_in : {F : Type 0} → Result ServedRequest F → Result ℕ F
status_in (Ok served) = Ok served.status
status_in (Err fault) = Err fault

-- the hint beside a result is this one
abbrev pub Tells : {F : Type 0} → Result (List ℕ) PbxFault → Result ServedRequest F → Type 0
Tells hint answered = IfOk answered (λ served. hint ≡ Ok served.hint.items)

-- a result has no hint
abbrev pub TellsNothing : {F : Type 0} → Result ServedRequest F → Type 0
TellsNothing answered = IfOk answered (λ served. served.hint.items ≡ [])
