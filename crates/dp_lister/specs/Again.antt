-- Loading a listing.
use Rattle.std.specs.Prelude.{◌≡◌, ℕ, List, Ok}
use Rattle.std.specs.List.{All}
use Rattle.dp_plan.specs.Loaded.{plan_and_notes}
use Rattle.dp_plan.specs.Plan.{PlanOf}
use Rattle.dp_plan.specs.declared.note.Note.{Note}
use Rattle.dp_plan.specs.declared.note.NoteKind.TheVariants.{UnknownContext}

-- the text loads as the dialplan, with no notes except on includes of unknown contexts
pub record LoadsAs (plan : PlanOf) (text : List ℕ) : Type 0 where
  pub notes : List Note
  pub loads : plan_and_notes text ≡ Ok (plan, notes)
  pub unknown : All (λ note. note.kind ≡ UnknownContext) notes
