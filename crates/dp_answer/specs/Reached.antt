-- The entries that phone calls which come in at a context may run: the same that the report lists.
use Rattle.std.specs.Prelude.{◌≡◌, ℕ, Bool, true, false, List, [], filter, length, map}
use Rattle.std.specs.List.{flat_map, range_with_len}
use Rattle.dp_app.specs.Rows.{Meanings}
use Rattle.dp_answer.specs.Asks.{AskOf, is_lacking, outside_of}
use Rattle.dp_answer.specs.Reports.{count_at, id_at}
use Rattle.dp_plan.specs.Plan.{PlanOf}
use Rattle.dp_plan.specs.declared.entry.EntryId.{EntryId}
use Rattle.dp_queue.specs.declared.settings.Settings.{Settings}
use Rattle.dp_reach.specs.Audits.{RunsOnly}

-- the entries of the context with a number
abbrev pub ids_at : PlanOf → ℕ → List EntryId
ids_at plan number = map (id_at number) (range_with_len 0 (count_at plan number))

-- all entries, in the order of the dialplan
abbrev pub ids_of : PlanOf → List EntryId
ids_of plan = flat_map (ids_at plan) (range_with_len 0 (length plan.contexts))

-- the entries are right: a call that comes in at the context runs only answers, in each run with these meanings of the dialplan with queues
-- of these settings in which calls come in and names are set as the question says and no other dialplan is loaded; and the entries are the
-- answers, in the order of the dialplan
pub record AreRight (meanings : Meanings) (plan : PlanOf) (settings : List Settings) (ask : AskOf) (entries : List EntryId) : Type 0 where
  pub answers : EntryId → Bool
  pub runs : RunsOnly meanings (outside_of plan ask) ask.context plan settings answers
  pub listed : entries ≡ filter answers (ids_of plan)

-- the entries, given whether the dialplan lacks a name in the question: then there are none
abbrev pub AreReachedBy : Meanings → Bool → PlanOf → List Settings → AskOf → List EntryId → Type 0
AreReachedBy meanings true plan settings ask entries = entries ≡ []
AreReachedBy meanings false plan settings ask entries = AreRight meanings plan settings ask entries

abbrev pub AreReached : Meanings → PlanOf → List Settings → AskOf → List EntryId → Type 0
AreReached meanings plan settings ask entries = AreReachedBy meanings (is_lacking plan ask) plan settings ask entries
