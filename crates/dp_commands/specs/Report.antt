-- The reports on a dialplan: how it loads, its listing, and which entry answers a call.
use Rattle.std.specs.Prelude.{◌≡◌, ℕ, List, [], ◌∷◌, ◌++◌, length, sum, map, Option, None, Some, Result, Ok, Err, codes, decimal}
use Rattle.std.specs.Io.KnownBytes.{Appends}
use Rattle.std.specs.List.{flat_map}
use Rattle.dp_conf.specs.Answers.{◌>>=◌}
use Rattle.dp_conf.specs.Fronts.{AppendsFront}
use Rattle.dp_conf.specs.Lines.{parts_of}
use Rattle.dp_lister.specs.Listing.{listing}
use Rattle.dp_lookup.specs.FoundEntry.{found_entry}
use Rattle.dp_lookup.specs.SearchOrder.{search_order}
use Rattle.dp_plan.specs.Codes.{note_name}
use Rattle.dp_plan.specs.Contexts.{PlanContext}
use Rattle.dp_plan.specs.Loaded.{plan_and_notes}
use Rattle.dp_plan.specs.Plan.{PlanOf}
use Rattle.dp_plan.specs.declared.entry.EntryId.{EntryId}
use Rattle.dp_plan.specs.declared.note.Note.{Note}
use Rattle.dp_commands.specs.Explained.{file_line, line_among, line_text, note_sentence, sentence_text}
use Rattle.dp_commands.specs.Run.{plan_fault}
use Rattle.dp_commands.specs.Trace.{entry_text}
use Rattle.dp_commands.specs.declared.fault.Code.TheVariants.{WriteFailed}
use Rattle.dp_commands.specs.declared.fault.PbxFault.{PbxFault}
use Rattle.dp_commands.specs.declared.fault.PbxFault.TheVariants.{Coded, NoMemory}

-- the line of a note, `note LINE KIND`
abbrev pub note_line : Note → List ℕ
note_line note = codes "note " ++ decimal note.line ++ codes " " ++ note_name note.kind ++ 10 ∷ []

-- the total number of entries in the contexts
abbrev pub entries_in : List PlanContext → ℕ
entries_in contexts = sum (map (λ context. length context.entries) contexts)

-- the line for a dialplan that was loaded, `ok C contexts E entries`
abbrev pub counts_line : PlanOf → List ℕ
counts_line plan =
    codes "ok " ++ decimal (length plan.contexts) ++ codes " contexts " ++ decimal (entries_in plan.contexts) ++ codes " entries\n"

-- the report on a dialplan with notes: its notes, then its counts
abbrev pub check_text : PlanOf × List Note → List ℕ
check_text read = flat_map note_line read.1 ++ counts_line read.0

-- the report on the dialplan that a text holds, or the text's fault
unfoldable pub check_of : List ℕ → Result (List ℕ) PbxFault
check_of plan = plan_fault (plan_and_notes plan) >>= λ read. Ok (check_text read)

-- the line of a note followed by its explanation, given the path of the file and the lines of its text
abbrev pub explained_note : List ℕ → List (List ℕ) → Note → List ℕ
explained_note path lines note =
    note_line note ++ (line_text (file_line path note.line (line_among lines note.line)) ++ sentence_text (note_sentence note.kind))

-- the report on a dialplan with notes, each of them explained
abbrev pub explained_text : List ℕ → List (List ℕ) → PlanOf × List Note → List ℕ
explained_text path lines read = flat_map (explained_note path lines) read.1 ++ counts_line read.0

-- the report on the text of a file with its notes explained, or the text's fault
unfoldable pub check_explained_of : List ℕ → List ℕ → Result (List ℕ) PbxFault
check_explained_of path plan = plan_fault (plan_and_notes plan) >>= λ read. Ok (explained_text path (parts_of plan) read)

-- the canonical listing of the dialplan that a text holds, or the text's fault
unfoldable pub list_of : List ℕ → Result (List ℕ) PbxFault
list_of plan = plan_fault (plan_and_notes plan) >>= λ read. Ok (listing read.0)

-- the line of the entry that was found, `CONTEXT,NAME,PRIORITY APP`, or `none`
abbrev pub match_line : PlanOf → Option EntryId → List ℕ
match_line plan None = codes "none\n"
match_line plan (Some id) = entry_text plan id ++ 10 ∷ []

-- the entry that answers a dialled text at a priority, searched from a context
abbrev pub answering : PlanOf → List ℕ → List ℕ → ℕ → Option EntryId
answering plan context text priority = found_entry plan (search_order plan context) text priority

-- the line of the entry that answers, or the fault of the dialplan's text
unfoldable pub match_of : List ℕ → List ℕ → List ℕ → ℕ → Result (List ℕ) PbxFault
match_of plan context text priority =
    plan_fault (plan_and_notes plan) >>= λ read. Ok (match_line read.0 (answering read.0 context text priority))

-- the output and result of a report, given its text or a fault in its place: the whole text or, if a write fails, a prefix of it
abbrev pub Reports : Option (List ℕ) → Option (List ℕ) → Result (List ℕ) PbxFault → Result ℕ PbxFault → Type 0
Reports old new (Ok text) (Ok status) = Appends old new text × (status ≡ 0)
Reports old new (Ok text) (Err (Coded code line)) = AppendsFront old new text × (code ≡ WriteFailed) × (line ≡ None)
Reports old new (Ok text) (Err NoMemory) = Appends old new []
Reports old new (Err fault) (Ok status) = ⊥
Reports old new (Err fault) (Err (Coded code line)) = Appends old new [] × (fault ≡ Coded code line)
Reports old new (Err fault) (Err NoMemory) = Appends old new []
