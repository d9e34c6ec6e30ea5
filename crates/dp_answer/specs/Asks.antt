-- The question on a dialplan about phone calls that come in at a context.
use Rattle.std.specs.Prelude.{ℕ, Bool, List, [], ◌∷◌, ◌++◌, Option, Some, None, is_none, codes, map}
use Rattle.std.specs.List.{list_any}
use Rattle.std.specs.Option.{option_map, option_map_or, unwrap_or}
use Rattle.dp_answer.specs.Ranges.{ranges}
use Rattle.dp_answer.specs.declared.ask.Ask.{Ask}
use Rattle.dp_conf.specs.Levels.{arguments_of}
use Rattle.dp_plan.specs.Lookup.{number_of}
use Rattle.dp_plan.specs.Plan.{PlanOf}
use Rattle.dp_reach.specs.Audits.{Outside}

-- the context, optionally one that a call from there must not reach, and optionally the contexts where calls come in and the bytes of
-- extensions, of callers' numbers and of what names are set to from outside
pub record AskOf : Type 0 where
  pub context : List ℕ
  pub target : Option (List ℕ)
  pub starts : Option (List ℕ)
  pub exten : Option (List ℕ)
  pub caller : Option (List ℕ)
  pub facts : Option (List ℕ)

abbrev pub ask_of : Ask → AskOf
ask_of ask = record {
  context = ask.context.now;
  target = option_map (λ text. text.now) ask.target;
  starts = option_map (λ text. text.now) ask.starts;
  exten = option_map (λ text. text.now) ask.exten;
  caller = option_map (λ text. text.now) ask.caller;
  facts = option_map (λ text. text.now) ask.facts;
}

-- the bytes of a dialled extension and of a caller's number by default; nothing is set from outside then
abbrev pub usual_exten : List ℕ
usual_exten = codes "0-9A-Za-z*#+_."

abbrev pub usual_caller : List ℕ
usual_caller = codes "0-9+"

abbrev pub usual_facts : List ℕ
usual_facts = []

-- the contexts where calls come in: that of the question and the given ones, separated by commas, else every context of the dialplan
abbrev pub starts_of : PlanOf → AskOf → List (List ℕ)
starts_of plan ask = option_map_or (λ starts. ask.context ∷ arguments_of starts) ask.starts (map (λ context. context.name) plan.contexts)

-- everything that may come in
abbrev pub outside_of : PlanOf → AskOf → Outside
outside_of plan ask = record {
  exten = ranges (unwrap_or ask.exten usual_exten);
  caller = ranges (unwrap_or ask.caller usual_caller);
  facts = ranges (unwrap_or ask.facts usual_facts);
  contexts = starts_of plan ask;
}

-- the names of contexts in the question
abbrev pub target_names : Option (List ℕ) → List (List ℕ)
target_names None = []
target_names (Some target) = target ∷ []

abbrev pub names_asked : PlanOf → AskOf → List (List ℕ)
names_asked plan ask = ask.context ∷ target_names ask.target ++ starts_of plan ask

-- whether the dialplan lacks a context with one of the names
abbrev pub is_lacking : PlanOf → AskOf → Bool
is_lacking plan ask = list_any (λ name. is_none (number_of plan name)) (names_asked plan ask)
