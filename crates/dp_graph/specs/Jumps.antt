-- The arrows of an extension: where the jumps of its entries lead, and the ways out of the queues in which its entries let a caller wait. An
-- entry runs its own application or, with `ExecIf`, one of two others.
use Rattle.std.specs.Prelude.{ℕ, true, false, ◌&&◌, ◌==◌, List, [], ◌∷◌, ◌++◌, Option, Some, None, codes, if◌then◌else◌}
use Rattle.std.specs.List.{filter_map, find, flat_map}
use Rattle.std.specs.Option.{option_and_then, option_map, option_map_or, option_to_list}
use Rattle.dp_conf.specs.Levels.{arguments_of}
use Rattle.dp_conf.specs.Words.{same_text, same_word}
use Rattle.dp_pattern.specs.Spelling.{spelling}
use Rattle.dp_plan.specs.Extensions.{same_name}
use Rattle.dp_plan.specs.Lookup.{entry_at, number_of}
use Rattle.dp_plan.specs.Plan.{PlanOf}
use Rattle.dp_plan.specs.declared.entry.Entry.{Entry}
use Rattle.dp_plan.specs.declared.entry.EntryId.{EntryId}
use Rattle.dp_lookup.specs.FoundEntry.{found_entry}
use Rattle.dp_lookup.specs.SearchOrder.{search_order}
use Rattle.dp_audit.specs.Findings.{context_name}
use Rattle.dp_audit.specs.Loops.{priority_of}
use Rattle.dp_audit.specs.Targets.{PartsOf, exten_of, jump_of as plain_jump_of, part_or, parts_of, parts_stand, targets_in}
use Rattle.dp_audit.specs.declared.jump.Jump.{Jump}
use Rattle.dp_graph.specs.Arrows.{each_once}
use Rattle.dp_graph.specs.ExecIf.{CallOf, call_of, exec_if_calls}
use Rattle.dp_graph.specs.declared.arrow.Arrow.{Arrow}
use Rattle.dp_graph.specs.declared.arrow.ArrowKind.{ArrowKind}
use Rattle.dp_graph.specs.declared.arrow.ArrowKind.TheVariants.{Jump as ToExtension, Subroutine, WayOut}
use Rattle.dp_graph.specs.declared.arrow.Destination.{Destination}
use Rattle.dp_graph.specs.declared.arrow.Destination.TheVariants.{Extension, Context, Computed, Missing}
use Rattle.dp_graph.specs.declared.exit.QueueExit.{QueueExit}

-- ---- the targets of jumps

-- how the application with a name jumps, if it does: `GotoIfTime` chooses between two sides as `GotoIf` does
abbrev pub jump_of : List ℕ → Option Jump
jump_of name = if same_word name (codes "GotoIfTime") then Some (record { is_choice = true; is_subroutine = false }) else plain_jump_of name

abbrev pub kind_of : Jump → ArrowKind
kind_of jump = if jump.is_subroutine then Subroutine else ToExtension

-- the entry to which a target leads: the one that answers for its extension at its priority
abbrev pub target_entry : PlanOf → List ℕ → List ℕ → List ℕ → Option EntryId
target_entry plan context exten priority =
    option_and_then (found_entry plan (search_order plan context) exten) (priority_of plan context exten priority)

-- the extension of an entry that was found, unless the jump comes from that extension
abbrev pub if_other : EntryId → Entry → EntryId → Entry → Option Destination
if_other own entry id found =
    if id.context == own.context && same_name found.name entry.name then None else Some (Extension id.context (spelling found.name))

-- a target that is literal and leads nowhere
abbrev pub to_missing : List ℕ → Option Destination
to_missing target = Some (Missing target)

-- where a literal target leads, given the entry that answers, if one does
abbrev pub by_entry : PlanOf → EntryId → Entry → List ℕ → Option EntryId → Option Destination
by_entry plan own entry target None = to_missing target
by_entry plan own entry target (Some id) = option_and_then (if_other own entry id) (entry_at plan id)

-- where a target without an extension leads from a pattern, which only the call knows: to the call's extension in this context, or, without
-- a context, in its own
abbrev pub in_context : Entry → List ℕ → Option Destination
in_context entry [] = None
in_context entry (b ∷ bs) = Some (Computed entry.priority)

-- where a literal target leads, given its parts and the extension that they mean, if one is known
abbrev pub by_exten : PlanOf → List ℕ → EntryId → Entry → List ℕ → PartsOf → Option (List ℕ) → Option Destination
by_exten plan context own entry target parts None = in_context entry parts.context
by_exten plan context own entry target parts (Some exten) =
    by_entry plan own entry target (target_entry plan (part_or context parts.context) exten parts.priority)

-- where a literal target leads, given its parts; a target without one to three parts leads nowhere
abbrev pub by_parts : PlanOf → List ℕ → EntryId → Entry → List ℕ → Option PartsOf → Option Destination
by_parts plan context own entry target None = to_missing target
by_parts plan context own entry target (Some parts) = by_exten plan context own entry target parts (exten_of entry.name parts.exten)

-- where a target of an entry leads, unless it leads to the entry's own extension; a target that is not literal is computed
abbrev pub destination_of : PlanOf → List ℕ → EntryId → Entry → Jump → List ℕ → Option Destination
destination_of plan context own entry jump target =
    if parts_stand target (parts_of jump target) then by_parts plan context own entry target (parts_of jump target) else Some (Computed entry.priority)

-- ---- the arrows of an entry

abbrev pub arrow_to : ArrowKind → Destination → Arrow
arrow_to kind destination = record { kind = kind; destination = destination }

-- the arrow of a target of an entry
abbrev pub target_arrow : PlanOf → List ℕ → EntryId → Entry → Jump → List ℕ → Option Arrow
target_arrow plan context own entry jump target = option_map (arrow_to (kind_of jump)) (destination_of plan context own entry jump target)

-- the arrows of the targets in the arguments of an application that an entry may run, in their order, given how it jumps, if it does
abbrev pub jump_arrows : PlanOf → List ℕ → EntryId → Entry → List ℕ → Option Jump → List Arrow
jump_arrows plan context own entry arguments None = []
jump_arrows plan context own entry arguments (Some jump) = filter_map (target_arrow plan context own entry jump) (targets_in jump arguments)

-- the first of some arguments
abbrev pub first_of : List (List ℕ) → List ℕ
first_of [] = []
first_of (argument ∷ arguments) = argument

-- the name of the queue in the arguments of `Queue`
abbrev pub queue_in : List ℕ → List ℕ
queue_in arguments = first_of (arguments_of arguments)

-- where a queue lets a caller out: to a context, if the dialplan has it
abbrev pub exit_to : PlanOf → QueueExit → Destination
exit_to plan exit = option_map_or Context (number_of plan exit.context) (Missing exit.context)

abbrev pub exit_arrow : PlanOf → QueueExit → Arrow
exit_arrow plan exit = arrow_to WayOut (exit_to plan exit)

-- the first way out of the queue with a name
abbrev pub exit_of : List QueueExit → List ℕ → Option QueueExit
exit_of exits queue = find (λ exit. same_text exit.queue queue) exits

-- the arrows of the way out of the queue in which an application lets a caller wait
abbrev pub exit_arrows : PlanOf → List QueueExit → CallOf → List Arrow
exit_arrows plan exits call =
    if same_word call.name (codes "Queue")
    then option_to_list (option_map (exit_arrow plan) (exit_of exits (queue_in call.arguments)))
    else []

-- the arrows of an application that an entry may run
abbrev pub call_arrows : PlanOf → List QueueExit → List ℕ → EntryId → Entry → CallOf → List Arrow
call_arrows plan exits context own entry call =
    jump_arrows plan context own entry call.arguments (jump_of call.name) ++ exit_arrows plan exits call

-- the applications that an entry may run: those that an `ExecIf` names, and else its own
abbrev pub calls_of : Entry → List CallOf
calls_of entry =
    if same_word entry.application (codes "ExecIf") then exec_if_calls entry.arguments
    else call_of entry.application entry.arguments ∷ []

-- the arrows of an entry in a context with this name
abbrev pub entry_arrows : PlanOf → List QueueExit → List ℕ → EntryId → Entry → List Arrow
entry_arrows plan exits context own entry = flat_map (call_arrows plan exits context own entry) (calls_of entry)

-- the arrows of the entry with these numbers; none if there is no such entry
abbrev pub arrows_at : PlanOf → List QueueExit → EntryId → List Arrow
arrows_at plan exits id = option_map_or (entry_arrows plan exits (context_name plan id.context) id) (entry_at plan id) []

-- the arrows of an extension: those of its entries, each once
unfoldable pub arrows_of : PlanOf → List QueueExit → List EntryId → List Arrow
arrows_of plan exits ids = each_once (flat_map (arrows_at plan exits) ids)
