-- The result of loading a text: a dialplan, its notes and the lines of its entries, or the first fault.
use Rattle.std.specs.Prelude.{◌≡◌, ℕ, ◌<◌, List, [], length, map, Result, Ok, EachIndex, slice_index}
use Rattle.dp_conf.specs.Answers.{◌>>=◌}
use Rattle.dp_conf.specs.Lines.{lines_of}
use Rattle.dp_plan.specs.Contexts.{PlanContext}
use Rattle.dp_plan.specs.Faults.{text_fault}
use Rattle.dp_plan.specs.Items.{items_after}
use Rattle.dp_plan.specs.Plan.{PlanOf, plan_of, notes_of, entry_lines_of}
use Rattle.dp_plan.specs.declared.fault.LoadFault.{LoadFault}
use Rattle.dp_plan.specs.declared.note.Note.{Note}

-- the dialplan of a text with its notes: faults of the text come before those of a context
unfoldable pub plan_and_notes : List ℕ → Result (PlanOf × List Note) LoadFault
plan_and_notes text =
    text_fault (lines_of text) >>= λ lines. items_after [] lines >>= λ items. Ok (plan_of items, notes_of items)

-- the lines of the entries of the dialplan of a text
unfoldable pub lines_loaded : List ℕ → Result (List (List ℕ)) LoadFault
lines_loaded text = text_fault (lines_of text) >>= λ lines. items_after [] lines >>= λ items. Ok (entry_lines_of items)

-- each context has as many lines as entries
abbrev pub HaveLines : List PlanContext → List (List ℕ) → Type 0
HaveLines contexts lines = map (λ ls. length ls) lines ≡ map (λ context. length context.entries) contexts

-- some text of bytes loads as the dialplan
pub record IsLoaded (plan : PlanOf) : Type 0 where
  pub text : List ℕ
  pub bytes : EachIndex text (λ k. slice_index text k < 256)
  pub notes : List Note
  pub loads : plan_and_notes text ≡ Ok (plan, notes)
