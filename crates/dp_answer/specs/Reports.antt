-- The report on phone calls that come in at a context. It begins with the assumptions, then lists each entry that such a call may run, or
-- says of a context whether a call may run one of its entries. It also shows how a call gets there, but claims nothing of that.
use Rattle.std.specs.Prelude.{◌≡◌, ℕ, Bool, true, false, List, [], ◌∷◌, ◌++◌, length, slice_get, Option, Some, None, is_some, unwrap_or, codes, decimal, if◌then◌else◌}
use Rattle.std.specs.Global.{Vec}
use Rattle.std.specs.List.{flat_map, list_any, range_with_len}
use Rattle.std.specs.Option.{option_map_or}
use Rattle.dp_app.specs.Rows.{Meanings}
use Rattle.dp_answer.specs.Asks.{AskOf, is_lacking, outside_of, starts_of, usual_caller, usual_exten}
use Rattle.dp_closed.specs.Answers.{answers_in}
use Rattle.dp_pattern.specs.Spelling.{spelling}
use Rattle.dp_plan.specs.Lookup.{entry_at, number_of}
use Rattle.dp_plan.specs.Plan.{PlanOf}
use Rattle.dp_plan.specs.declared.entry.Entry.{Entry}
use Rattle.dp_plan.specs.declared.entry.EntryId.{EntryId}
use Rattle.dp_queue.specs.declared.settings.Settings.{Settings}
use Rattle.dp_reach.specs.Audits.{RunsOnly}

-- the name of the context with a number
abbrev pub name_at : PlanOf → ℕ → List ℕ
name_at plan number = option_map_or (λ context. context.name) (slice_get plan.contexts number) []

-- the number of entries of the context with a number
abbrev pub count_at : PlanOf → ℕ → ℕ
count_at plan number = option_map_or (λ context. length context.entries) (slice_get plan.contexts number) 0

-- an entry, `CONTEXT,NAME,PRIORITY APPLICATION(ARGUMENTS)`
abbrev pub entry_by : List ℕ → Option Entry → List ℕ
entry_by context None = []
entry_by context (Some entry) =
    context ++ codes "," ++ spelling entry.name ++ codes "," ++ decimal entry.priority ++ codes " " ++ entry.application ++ codes "("
    ++ entry.arguments ++ codes ")"

abbrev pub entry_text : PlanOf → EntryId → List ℕ
entry_text plan id = entry_by (name_at plan id.context) (entry_at plan id)

-- the numbers of an entry
abbrev pub id_at : ℕ → ℕ → EntryId
id_at context entry = record { context = context; entry = entry }

-- the line of an entry that is among the answers
abbrev pub line_of : PlanOf → (EntryId → Bool) → EntryId → List ℕ
line_of plan answers id = if answers id then entry_text plan id ++ 10 ∷ [] else []

-- the lines of the entries of the context with a number that are among the answers
abbrev pub lines_of : PlanOf → (EntryId → Bool) → ℕ → List ℕ
lines_of plan answers number = flat_map (λ entry. line_of plan answers (id_at number entry)) (range_with_len 0 (count_at plan number))

-- the name of a context where calls come in
abbrev pub start_text : List ℕ → List ℕ
start_text name = codes " " ++ name

-- where calls come in: at the given contexts, if there are any
abbrev pub entrances : Option (List ℕ) → List (List ℕ) → List ℕ
entrances None starts = codes " every context"
entrances (Some given) starts = flat_map start_text starts

-- a text followed by the given bytes, or else by the default ones
abbrev pub bytes_text : List ℕ → Option (List ℕ) → List ℕ → List ℕ
bytes_text text given usual = text ++ unwrap_or given usual

-- the bytes of what names are set to from outside, if these are given
abbrev pub facts_text : Option (List ℕ) → List ℕ
facts_text None = []
facts_text (Some given) = codes "}*, values from outside of {" ++ given

-- the assumptions: the bytes of extensions, of callers' numbers and of values from outside as given, and the contexts where calls come in
abbrev pub assumptions : AskOf → List (List ℕ) → List ℕ
assumptions ask starts =
    bytes_text (codes "assumed: extensions of {") ask.exten usual_exten
    ++ (bytes_text (codes "}*, callers' numbers of {") ask.caller usual_caller
    ++ (facts_text ask.facts
    ++ (codes "}*, calls come in at" ++ (entrances ask.starts starts ++ codes "\n"))))

-- the line that says that no proof was found, if there is none
abbrev pub no_proof_line : Bool → List ℕ
no_proof_line true = []
no_proof_line false = codes "no proof was found within the bounds: a call may run each entry\n"

-- the text before an answer; without a proof each entry is among the answers
abbrev pub head_text : PlanOf → AskOf → Option (List (Vec Bool)) → List ℕ
head_text plan ask marks = assumptions ask (starts_of plan ask) ++ no_proof_line (is_some marks)

-- the further text: for each context how a call gets there, and the text after the answer
pub record ToldText : Type 0 where
  pub chains : List (Vec ℕ)
  pub tail : List ℕ

-- how a call gets to the context with a number
abbrev pub chain_at : List (Vec ℕ) → ℕ → List ℕ
chain_at chains number = option_map_or (λ chain. chain.items) (slice_get chains number) []

-- all entries that a call may run, by context
abbrev pub all_lines : PlanOf → (EntryId → Bool) → List (Vec ℕ) → List ℕ
all_lines plan answers chains =
    flat_map (λ number. lines_of plan answers number ++ chain_at chains number) (range_with_len 0 (length plan.contexts))

-- whether an entry of the context with a number is among the answers
abbrev pub has_answer : PlanOf → (EntryId → Bool) → ℕ → Bool
has_answer plan answers number = list_any (λ entry. answers (id_at number entry)) (range_with_len 0 (count_at plan number))

-- whether an entry of the context with a name is among the answers
abbrev pub may_reach : PlanOf → (EntryId → Bool) → List ℕ → Bool
may_reach plan answers name = option_map_or (has_answer plan answers) (number_of plan name) false

-- the text on a context that a call may reach, or that it never reaches
abbrev pub verdict : List ℕ → Bool → List ℕ
verdict name true = codes "may reach: "
verdict name false = codes "unreachable: " ++ name ++ codes "\n"

-- the text of the answers, given the further text
abbrev pub answer_text : PlanOf → (EntryId → Bool) → Option (List ℕ) → ToldText → List ℕ
answer_text plan answers None told = all_lines plan answers told.chains ++ told.tail
answer_text plan answers (Some target) told = verdict target (may_reach plan answers target) ++ told.tail

-- the status: 1 if a call may reach the named context
abbrev pub status_by : Bool → ℕ
status_by true = 1
status_by false = 0

abbrev pub answer_status : PlanOf → (EntryId → Bool) → Option (List ℕ) → ℕ
answer_status plan answers None = 0
answer_status plan answers (Some target) = status_by (may_reach plan answers target)

-- a report: its text and its status
pub record ReportOf : Type 0 where
  pub text : List ℕ
  pub status : ℕ

-- a report is correct: it begins with the assumptions; a call that comes in at the context runs only entries among the answers, in each run
-- with these meanings of the dialplan with queues of these settings in which calls come in and names are set as the question says and no
-- other dialplan is loaded; and it reports these entries
pub record IsRight (meanings : Meanings) (plan : PlanOf) (settings : List Settings) (ask : AskOf) (report : ReportOf) : Type 0 where
  pub marks : Option (List (Vec Bool))
  pub runs : RunsOnly meanings (outside_of plan ask) ask.context plan settings (answers_in marks)
  pub told : ToldText
  pub text : report.text ≡ head_text plan ask marks ++ answer_text plan (answers_in marks) ask.target told
  pub status : report.status ≡ answer_status plan (answers_in marks) ask.target

-- the report for names that the dialplan lacks: empty, with status 1
abbrev pub nothing_told : ReportOf
nothing_told = record { text = []; status = 1 }

-- a report, given whether the dialplan lacks a name in the question
abbrev pub IsReportBy : Meanings → Bool → PlanOf → List Settings → AskOf → ReportOf → Type 0
IsReportBy meanings true plan settings ask report = report ≡ nothing_told
IsReportBy meanings false plan settings ask report = IsRight meanings plan settings ask report

abbrev pub IsReport : Meanings → PlanOf → List Settings → AskOf → ReportOf → Type 0
IsReport meanings plan settings ask report = IsReportBy meanings (is_lacking plan ask) plan settings ask report
