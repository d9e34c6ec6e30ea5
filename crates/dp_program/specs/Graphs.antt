-- What is written about a dialplan as a picture, with the ways out of its queues.
use Rattle.std.specs.Prelude.{◌≡◌, ◌⊎◌, ℕ, Bool, ◌==◌, List, [], ◌∷◌, length, map, Option, Some, None, Result, Ok, Err, if◌then◌else◌}
use Rattle.std.specs.Io.KnownBytes.{Appends}
use Rattle.std.specs.List.{flat_map}
use Rattle.std.specs.Option.{option_map_or, option_to_list}
use Rattle.indexmap.specs.IndexSet.{insert_all}
use Rattle.dp_answer.specs.Asks.{AskOf}
use Rattle.dp_answer.specs.Reached.{AreReached}
use Rattle.dp_app.specs.Rows.{Meanings}
use Rattle.dp_audit.specs.Candidates.{same_id}
use Rattle.dp_conf.specs.Fronts.{AppendsFront}
use Rattle.dp_plan.specs.Plan.{PlanOf}
use Rattle.dp_plan.specs.declared.entry.EntryId.{EntryId}
use Rattle.dp_queue.specs.Queues.{QueueOf}
use Rattle.dp_commands.specs.Run.{LoadedFilesOf}
use Rattle.dp_commands.specs.declared.fault.Code.TheVariants.{WriteFailed}
use Rattle.dp_commands.specs.declared.fault.PbxFault.{PbxFault}
use Rattle.dp_commands.specs.declared.fault.PbxFault.TheVariants.{Coded, NoMemory}
use Rattle.dp_graph.specs.Picture.{picture_of}
use Rattle.dp_graph.specs.Printing.{text_of}
use Rattle.dp_graph.specs.Shading.{ShadingOf, Unshaded, ByCall}
use Rattle.dp_graph.specs.declared.exit.QueueExit.{QueueExit}
use Rattle.dp_program.specs.Files.{ByteSource}
use Rattle.dp_program.specs.Meanings.{wide_meanings}
use Rattle.dp_program.specs.PlanAndQueues.{OnFiles}
use Rattle.dp_program.specs.PlanQuestions.{OverIncluded}
use Rattle.dp_program.specs.Reaches.{told_of_name}
use Rattle.dp_program.specs.Requests.{DrawingOf}
use Rattle.dp_program.specs.declared.dialplans.PlanUse.TheVariants.{Report}
use Rattle.dp_program.specs.declared.fault_places.Faulted.{Faulted}
use Rattle.dp_program.specs.declared.hints.ServedRequest.{ServedRequest}

-- the way out of a queue with a name to a context; no context is none
abbrev pub exit_to : List ℕ → List ℕ → Option QueueExit
exit_to queue [] = None
exit_to queue (b ∷ bs) = Some (record { queue = queue; context = b ∷ bs })

abbrev pub exit_of : QueueOf → Option QueueExit
exit_of queue = exit_to queue.name queue.settings.context

abbrev pub exits_at : QueueOf → List QueueExit
exits_at queue = option_to_list (exit_of queue)

-- the ways out of queues
abbrev pub exits_of : List QueueOf → List QueueExit
exits_of queues = flat_map exits_at queues

-- what the fills of a picture say, given the entries that are filled, if any are
abbrev pub shading_of : Option (List EntryId) → ShadingOf
shading_of None = Unshaded
shading_of (Some entries) = ByCall entries

-- the picture of a dialplan, with the ways out of its queues, given the entries that are filled, if any are
unfoldable pub graph_text : LoadedFilesOf → Option (List EntryId) → List ℕ
graph_text files filled = text_of (picture_of files.plan (shading_of filled) (exits_of files.queues.queues))

-- ---- what is filled

-- the question about calls that come in at a context, whatever is dialled and wherever other calls come in, given the bytes of facts
abbrev pub ask_from : Option (List ℕ) → List ℕ → AskOf
ask_from facts context = record { context = context; target = None; starts = None; exten = None; caller = None; facts = facts }

-- the entries that such a call may run, each once
pub record Fills (meanings : Meanings) (files : LoadedFilesOf) (ask : AskOf) (filled : List EntryId) : Type 0 where
  pub entries : List EntryId
  pub reached : AreReached meanings files.plan (map (λ queue. queue.settings) files.queues.queues) ask entries
  pub once : filled ≡ insert_all same_id [] entries

-- the entries that are filled, if a context is named, given the bytes of facts
abbrev pub IsFilled : Meanings → LoadedFilesOf → Option (List ℕ) → Option (List ℕ) → Option (List EntryId) → Type 0
IsFilled meanings files facts None filled = filled ≡ None
IsFilled meanings files facts (Some context) None = ⊥
IsFilled meanings files facts (Some context) (Some filled) = Fills meanings files (ask_from facts context) filled

-- ---- what is written

-- the output and status of a text: the text or, if a write fails, a prefix of it
abbrev pub WritesText : Option (List ℕ) → Option (List ℕ) → List ℕ → Result ℕ PbxFault → Type 0
WritesText old new text (Ok status) = Appends old new text × (status ≡ 0)
WritesText old new text (Err (Coded code line)) = AppendsFront old new text × (code ≡ WriteFailed) × (line ≡ None)
WritesText old new text (Err NoMemory) = AppendsFront old new text

-- the hint on the context that is named
abbrev pub hint_of : DrawingOf → Bool → PlanOf → List ℕ
hint_of drawing explains plan = option_map_or (told_of_name drawing.file explains plan) drawing.from []

-- the status: 1 if there is a hint
abbrev pub status_of : List ℕ → ℕ
status_of hint = if length hint == 0 then 0 else 1

-- the whole picture was written
pub record DrawsWhole (meanings : Meanings) (drawing : DrawingOf) (explains : Bool) (files : LoadedFilesOf) (old new : Option (List ℕ)) (served : ServedRequest) : Type 0 where
  pub filled : Option (List EntryId)
  pub right : IsFilled meanings files drawing.facts drawing.from filled
  pub written : Appends old new (graph_text files filled)
  pub told : served.hint.items ≡ hint_of drawing explains files.plan
  pub status : served.status ≡ status_of served.hint.items

-- a prefix of the picture was written
pub record DrawsFront (meanings : Meanings) (drawing : DrawingOf) (files : LoadedFilesOf) (old new : Option (List ℕ)) : Type 0 where
  pub filled : Option (List EntryId)
  pub right : IsFilled meanings files drawing.facts drawing.from filled
  pub written : AppendsFront old new (graph_text files filled)

-- the output and result, given the contents of the files or the first fault
abbrev pub Draws : Meanings → DrawingOf → Bool → Result LoadedFilesOf PbxFault → Option (List ℕ) → Option (List ℕ) → Result ServedRequest PbxFault → Type 0
Draws meanings drawing explains (Ok files) old new (Ok served) = DrawsWhole meanings drawing explains files old new served
Draws meanings drawing explains (Ok files) old new (Err (Coded code line)) = DrawsFront meanings drawing files old new × (code ≡ WriteFailed) × (line ≡ None)
Draws meanings drawing explains (Ok files) old new (Err NoMemory) = Appends old new [] ⊎ DrawsFront meanings drawing files old new
Draws meanings drawing explains (Err fault) old new (Ok served) = ⊥
Draws meanings drawing explains (Err fault) old new (Err (Coded code line)) = Appends old new [] × (fault ≡ Coded code line)
Draws meanings drawing explains (Err fault) old new (Err NoMemory) = Appends old new []

-- the output and result for the files of a dialplan and of its queues, if there are some, and the place of its fault
abbrev pub GraphsFiles : Meanings → (List ℕ → ByteSource) → DrawingOf → Bool → Option (List ℕ) → Option (List ℕ) → Result ServedRequest Faulted → Type 0
GraphsFiles meanings files drawing explains old new answered =
    OnFiles (λ given. Draws meanings drawing explains given old new) files drawing.file drawing.queues answered

-- the same for the dialplan and the queues at these paths and the files that they include, over the wide table
abbrev pub GraphsIncluding : Option (List ℕ) → (List ℕ → ByteSource) → DrawingOf → Bool → Option (List ℕ) → Option (List ℕ) → Result ServedRequest Faulted → Type 0
GraphsIncluding clock files drawing explains old new answered =
    OverIncluded (λ files. GraphsFiles wide_meanings files drawing explains) Report clock files drawing.file drawing.queues old new answered
