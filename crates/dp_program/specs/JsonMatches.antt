-- The report of `match` as JSON: an object on a line of its own for each line that is printed otherwise.
use Rattle.std.specs.Prelude.{ℕ, Bool, true, false, List, ◌++◌, Result, Ok}
use Rattle.dp_conf.specs.Answers.{◌>>=◌}
use Rattle.dp_plan.specs.Loaded.{plan_and_notes}
use Rattle.dp_plan.specs.Plan.{PlanOf}
use Rattle.dp_commands.specs.Candidates.{answering_candidates}
use Rattle.dp_commands.specs.Report.{answering}
use Rattle.dp_commands.specs.Run.{plan_fault}
use Rattle.dp_commands.specs.declared.fault.PbxFault.{PbxFault}
use Rattle.dp_json.specs.Matches.{candidates_text, match_object}
use Rattle.dp_json.specs.Objects.{object_text}
use Rattle.dp_program.specs.Requests.{LookupOf}

-- the line of the entry that answers, or of none
abbrev pub answer_line : LookupOf → PlanOf → List ℕ
answer_line lookup plan = object_text (match_object plan (answering plan lookup.context lookup.text lookup.priority))

-- the lines of all extensions that match, in the order in which a look-up tries them
abbrev pub candidate_lines : LookupOf → PlanOf → List ℕ
candidate_lines lookup plan =
    candidates_text plan lookup.priority (answering_candidates plan lookup.context lookup.text lookup.priority)

-- the line of the entry that answers and, if all are asked for, those of all extensions that match
abbrev pub match_lines : LookupOf → Bool → PlanOf → List ℕ
match_lines lookup false plan = answer_line lookup plan
match_lines lookup true plan = answer_line lookup plan ++ candidate_lines lookup plan

-- the lines for the dialplan that a text holds, or the text's fault
unfoldable pub match_json_of : LookupOf → Bool → List ℕ → Result (List ℕ) PbxFault
match_json_of lookup all plan = plan_fault (plan_and_notes plan) >>= λ read. Ok (match_lines lookup all read.0)
