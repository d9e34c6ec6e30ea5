-- Where a digit leads a channel that waits in a queue.
use Rattle.std.proofs.Common.{◌≡◌, ℕ, Bool, true, false, if◌then◌else◌, List, [], ◌∷◌, Option, Some, None, refl, ap}
use Rattle.std.proofs.lemmas.Option.{same_Some}
use Rattle.dp_plan.specs.Plan.{PlanOf}
use Rattle.dp_app.specs.declared.place.Place.{Place}
use Rattle.dp_machine.specs.Channels.{ready_at}
use Rattle.dp_machine.specs.Events.{Own, take_event, way_out, without_caller}
use Rattle.dp_machine.specs.Found.{is_found}
use Rattle.dp_machine.specs.Targets.{if_found, place_of}
use Rattle.dp_machine.specs.declared.channel.Channel.{Channel}
use Rattle.dp_machine.specs.declared.shared_state.SharedState.{SharedState}

module _ (plan : PlanOf) (shared : SharedState) (number : ℕ) (c : Channel) (digit : ℕ) (context : List ℕ) where
  -- the result of the digit, given whether the context has it
  abbrev led_if : Bool → Own
  led_if found = if found then take_event (without_caller shared number) (ready_at c (place_of context (digit ∷ []) 1)) else take_event shared c

  -- if the context has the digit, the channel goes there
  pub way_out_there : (place : Place) → if_found plan (Some (place_of context (digit ∷ []) 1)) ≡ Some place
      → way_out plan shared number c digit context ≡ take_event (without_caller shared number) (ready_at c place)
  way_out_there place leads = by (is_found plan context (digit ∷ []) 1) leads where
    by : (found : Bool) → (if◌then◌else◌ {A = Option Place} found (Some (place_of context (digit ∷ []) 1)) None) ≡ Some place
        → led_if found ≡ take_event (without_caller shared number) (ready_at c place)
    by true leads = ap (λ to. take_event (without_caller shared number) (ready_at c to)) (same_Some (place_of context (digit ∷ []) 1) place leads)
    by false leads = absurd cc

  -- if it does not, the channel stays
  pub way_out_nowhere : if_found plan (Some (place_of context (digit ∷ []) 1)) ≡ None → way_out plan shared number c digit context ≡ take_event shared c
  way_out_nowhere leads = by (is_found plan context (digit ∷ []) 1) leads where
    by : (found : Bool) → (if◌then◌else◌ {A = Option Place} found (Some (place_of context (digit ∷ []) 1)) None) ≡ None → led_if found ≡ take_event shared c
    by true leads = absurd cc
    by false leads = refl
