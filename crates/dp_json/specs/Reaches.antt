-- The objects of an answer to a question about phone calls that come in at a context.
use Rattle.std.specs.Prelude.{ℕ, ◌+◌, Bool, true, false, List, [], ◌∷◌, ◌++◌, length, map, Option, Some, None, unwrap_or, codes}
use Rattle.dp_answer.specs.Asks.{AskOf, usual_caller, usual_exten}
use Rattle.dp_answer.specs.declared.reach_answer.ReachAnswer.{ReachAnswer}
use Rattle.dp_answer.specs.declared.reach_answer.ReachFinding.{ReachFinding}
use Rattle.dp_answer.specs.declared.reach_answer.ReachFinding.TheVariants.{Contexts, Target}
use Rattle.dp_answer.specs.declared.reach_answer.ReachedContext.{ReachedContext}
use Rattle.dp_audit.specs.Findings.{context_name}
use Rattle.dp_json.specs.Entries.{context_field, entry_fields}
use Rattle.dp_json.specs.Joining.{joined_texts}
use Rattle.dp_json.specs.Objects.{Field, lines_text, number_field, text_field, type_field}
use Rattle.dp_plan.specs.Contexts.{PlanContext}
use Rattle.dp_plan.specs.Plan.{PlanOf}
use Rattle.dp_plan.specs.declared.entry.EntryId.{EntryId}

-- ---- what is assumed

-- the bytes of what names are set to from outside, if these are given
abbrev pub facts_fields : Option (List ℕ) → List Field
facts_fields None = []
facts_fields (Some facts) = text_field (codes "facts") facts ∷ []

-- where calls come in: the names of the contexts, if some are given
abbrev pub starts_text : Option (List ℕ) → List (List ℕ) → List ℕ
starts_text None starts = codes "every context"
starts_text (Some given) starts = joined_texts 32 starts

-- the bytes of extensions and of callers' numbers
unfoldable pub bytes_fields : AskOf → List Field
bytes_fields ask =
    text_field (codes "extensions") (unwrap_or ask.exten usual_exten) ∷ text_field (codes "callers") (unwrap_or ask.caller usual_caller) ∷ []

-- where calls come in
unfoldable pub starts_field : AskOf → List (List ℕ) → Field
starts_field ask starts = text_field (codes "starts") (starts_text ask.starts starts)

-- the object of what is assumed
abbrev pub assumed_object : AskOf → List (List ℕ) → List Field
assumed_object ask starts = type_field (codes "assumed") ∷ (bytes_fields ask ++ facts_fields ask.facts ++ starts_field ask starts ∷ [])

-- the object that says that no proof was found
abbrev pub no_proof_object : List Field
no_proof_object = type_field (codes "note") ∷ text_field (codes "kind") (codes "NoProof") ∷ []

-- the same, if none was found
abbrev pub proof_objects : Bool → List (List Field)
proof_objects true = []
proof_objects false = no_proof_object ∷ []

-- ---- entries and ways

-- the object of an entry that a call may run
abbrev pub entry_object : PlanOf → EntryId → List Field
entry_object plan id = type_field (codes "entry") ∷ entry_fields plan id

-- the object of a line on how a call gets to the context with a name
abbrev pub way_object : List ℕ → List ℕ → List Field
way_object context line = type_field (codes "way") ∷ context_field context ∷ text_field (codes "text") line ∷ []

-- the object of a further line
abbrev pub further_object : List ℕ → List Field
further_object line = type_field (codes "way") ∷ text_field (codes "text") line ∷ []

-- the objects of entries, in their order
abbrev pub entry_objects : PlanOf → List EntryId → List (List Field)
entry_objects plan ids = map (entry_object plan) ids

-- the objects of the lines on how a call gets to a context
abbrev pub way_objects : List ℕ → List (List ℕ) → List (List Field)
way_objects context lines = map (way_object context) lines

-- the objects of further lines
abbrev pub further_objects : List (List ℕ) → List (List Field)
further_objects lines = map further_object lines

-- the objects of what a call may run of the context with a number: its entries, and then how it gets there
abbrev pub context_objects : PlanOf → ℕ → ReachedContext → List (List Field)
context_objects plan number context =
    entry_objects plan context.entries.items
    ++ way_objects (context_name plan number) (map (λ line. line.items) context.way.items)

-- the same for contexts, of which the first has this number
abbrev pub contexts_objects : PlanOf → ℕ → List ReachedContext → List (List Field)
contexts_objects plan number [] = []
contexts_objects plan number (context ∷ contexts) = context_objects plan number context ++ contexts_objects plan (number + 1) contexts

-- ---- counts

-- how many entries a call may run, and how many there are
abbrev pub reached_entries : List ReachedContext → ℕ
reached_entries [] = 0
reached_entries (context ∷ contexts) = length context.entries.items + reached_entries contexts

abbrev pub all_entries : List PlanContext → ℕ
all_entries [] = 0
all_entries (context ∷ contexts) = length context.entries + all_entries contexts

-- one, if there are entries
abbrev pub one_if_any : List EntryId → ℕ
one_if_any [] = 0
one_if_any (id ∷ ids) = 1

-- in how many contexts there are entries that a call may run
abbrev pub reached_contexts : List ReachedContext → ℕ
reached_contexts [] = 0
reached_contexts (context ∷ contexts) = one_if_any context.entries.items + reached_contexts contexts

-- of the entries
unfoldable pub entries_counted : PlanOf → List ReachedContext → List Field
entries_counted plan contexts =
    number_field (codes "entries") (reached_entries contexts) ∷ number_field (codes "all_entries") (all_entries plan.contexts) ∷ []

-- of the contexts
unfoldable pub contexts_counted : PlanOf → List ReachedContext → List Field
contexts_counted plan contexts =
    number_field (codes "contexts") (reached_contexts contexts) ∷ number_field (codes "all_contexts") (length plan.contexts) ∷ []

-- the object of how many entries in how many contexts a call may run
abbrev pub reach_count_object : PlanOf → List ReachedContext → List Field
reach_count_object plan contexts = type_field (codes "count") ∷ (entries_counted plan contexts ++ contexts_counted plan contexts)

-- ---- answers

-- the word for whether a call may reach the target
abbrev pub reach_word : Bool → List ℕ
reach_word true = codes "MayReach"
reach_word false = codes "Unreachable"

-- the object of whether a call may reach the target
abbrev pub verdict_object : List ℕ → Bool → List Field
verdict_object target reached =
    type_field (codes "verdict") ∷ text_field (codes "kind") (reach_word reached) ∷ context_field target ∷ []

-- the objects of what is found, with further lines: of each context in the order of the dialplan, and how many there are at the end; or of
-- the target
abbrev pub finding_objects : PlanOf → Option (List ℕ) → ReachFinding → List (List ℕ) → List (List Field)
finding_objects plan target (Contexts contexts) lines =
    contexts_objects plan 0 contexts.items ++ further_objects lines ++ reach_count_object plan contexts.items ∷ []
finding_objects plan target (Target reached) lines = verdict_object (unwrap_or target []) reached ∷ further_objects lines

-- the objects of an answer to a question
abbrev pub reach_objects : PlanOf → AskOf → ReachAnswer → List (List Field)
reach_objects plan ask answer =
    assumed_object ask (map (λ name. name.items) answer.starts.items)
    ∷ (proof_objects answer.is_proved
    ++ finding_objects plan ask.target answer.finding (map (λ line. line.items) answer.tail.items))

-- the lines of an answer
abbrev pub reach_text : PlanOf → AskOf → ReachAnswer → List ℕ
reach_text plan ask answer = lines_text (reach_objects plan ask answer)

-- ---- how many lines there are

-- one for each entry that a call may run, and for each line on how it gets to a context
abbrev pub lines_on_contexts : List ReachedContext → ℕ
lines_on_contexts [] = 0
lines_on_contexts (context ∷ contexts) = length context.entries.items + length context.way.items + lines_on_contexts contexts

-- one for the counts, or for the target
abbrev pub lines_on_finding : ReachFinding → ℕ
lines_on_finding (Contexts contexts) = lines_on_contexts contexts.items + 1
lines_on_finding (Target reached) = 1

-- one, if no proof was found
abbrev pub lines_on_proof : Bool → ℕ
lines_on_proof true = 0
lines_on_proof false = 1

-- of an answer: one for what is assumed, and one for each further line
abbrev pub lines_on_answer : ReachAnswer → ℕ
lines_on_answer answer = 1 + lines_on_proof answer.is_proved + lines_on_finding answer.finding + length answer.tail.items
