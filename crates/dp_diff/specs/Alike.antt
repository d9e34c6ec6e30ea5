-- Dialplans that answer alike.
use Rattle.std.specs.Prelude.{◌≡◌, ℕ, true, List, Option, None, Some, ⊤}
use Rattle.std.specs.List.{find}
use Rattle.dp_plan.specs.Plan.{PlanOf}
use Rattle.dp_plan.specs.Ranking.{shares_place}
use Rattle.dp_plan.specs.declared.entry.Entry.{Entry}
use Rattle.dp_diff.specs.Answering.{searched_entries}
use Rattle.dp_diff.specs.Differences.{does_same}

-- nothing answers both times, or entries that do the same
abbrev pub AnswersAlike : Option Entry → Option Entry → Type 0
AnswersAlike None None = ⊤
AnswersAlike None (Some b) = ⊥
AnswersAlike (Some a) None = ⊥
AnswersAlike (Some a) (Some b) = does_same a b ≡ true

-- the first entry through which a look-up in a context goes that has the name, by its meaning, and the priority of this one
abbrev pub first_in : PlanOf → List ℕ → Entry → Option Entry
first_in plan context place = find (shares_place place) (searched_entries plan context)

-- in each context, and at the name and priority of each entry, two dialplans answer alike
abbrev pub AnswerAlike : PlanOf → PlanOf → Type 0
AnswerAlike before after = (context : List ℕ) (place : Entry) → AnswersAlike (first_in before context place) (first_in after context place)
