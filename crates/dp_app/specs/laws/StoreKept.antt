-- What pushing or dropping a frame, and setting a name, keeps of a store.
use Rattle.std.specs.Prelude.{◌≡◌, ℕ, zero, suc, ◌-◌, Bool, true, false, List, [], ◌∷◌, Option, Some, None, length, map, refl}
use Rattle.std.proofs.Common.{ap, sym, ◌∙◌}
use Rattle.dp_vars.specs.Stores.{StoreFrame, StoreOf, changed_at, holder, set, set_in, set_local, with_frame, with_local, without_frame}
use Rattle.dp_vars.specs.Variables.{Named}
use Rattle.dp_vars.specs.declared.local.Local.{Local}
use Rattle.dp_app.specs.laws.Keeping.{store_kept, queues_kept}
use Rattle.dp_app.specs.Lawful.{KeepsStore, KeepsUntouched, places_of}
use Rattle.dp_app.specs.Cells.{CellOf}
use Rattle.dp_app.specs.declared.place.Place.{Place}
use Rattle.dp_app.specs.declared.touch.Touch.{Touch}

true_is_false : true ≡ false → ⊥
true_is_false e = cc

no_false : {X : Type 0} (b : Bool) → b ≡ true → b ≡ false → X
no_false true is h = absurd (true_is_false h)
no_false false is h = absurd (true_is_false (sym is))

-- a frame is pushed
pub pushed_kept : (touch : Touch) (store : StoreOf Place) (back : Place) (locals : List Local) → touch.frames ≡ true
    → KeepsStore touch store (with_frame store back locals)
pushed_kept touch store back locals touches =
    record {
      places = no_false touch.frames touches;
      variables = λ h. refl;
      locals = no_false touch.frames touches;
      names = no_false touch.frames touches;
    }

-- a frame is dropped
pub dropped_kept : (touch : Touch) (store : StoreOf Place) → touch.frames ≡ true → KeepsStore touch store (without_frame store)
dropped_kept touch store touches =
    record {
      places = no_false touch.frames touches;
      variables = λ h. refl;
      locals = no_false touch.frames touches;
      names = no_false touch.frames touches;
    }

-- setting a local does not change the places
changed-places : (name value : List ℕ) (place : ℕ) (frames : List (StoreFrame Place))
    → map (λ f. f.back) (changed_at (with_local name value) place frames) ≡ map (λ f. f.back) frames
changed-places name value place [] = refl
changed-places name value zero (f ∷ fs) = refl
changed-places name value (suc place) (f ∷ fs) = ap (λ rest. f.back ∷ rest) (changed-places name value place fs)

-- a store with the same places as one that keeps the law keeps it too, if variables are touched
kept_by : (touch : Touch) (before after changed : StoreOf Place) → touch.variables ≡ true → KeepsStore touch before after
    → places_of changed ≡ places_of after → KeepsStore touch before changed
kept_by touch before after changed touches kept places =
    record {
      places = λ h. places ∙ kept.places h;
      variables = no_false touch.variables touches;
      locals = λ h. no_false touch.variables touches;
      names = λ h. no_false touch.variables touches;
    }

-- a name is set
pub set_kept : (touch : Touch) (before after : StoreOf Place) (name value : List ℕ) → touch.variables ≡ true → KeepsStore touch before after
    → KeepsStore touch before (set after name value)
unfolding set
set_kept touch before after name value touches kept = by (holder name after.frames)
  where
    by : (o : Option ℕ) → KeepsStore touch before (set_in o after name value)
    by None = kept_by touch before after (set_in None after name value) touches kept refl
    by (Some place) = kept_by touch before after (set_in (Some place) after name value) touches kept
        (changed-places name value place after.frames)

-- a local is set
pub set_local_kept : (touch : Touch) (store : StoreOf Place) (name value : List ℕ) → touch.variables ≡ true → KeepsStore touch store (set_local store name value)
unfolding set_local
set_local_kept touch store name value touches =
    kept_by touch store store (set_local store name value) touches (store_kept touch store)
    (changed-places name value (length store.frames - 1) store.frames)

-- a cell in which only the store changes keeps the law if the store does
pub with_store_kept : (touch : Touch) (cell : CellOf) (store : StoreOf Place) → KeepsStore touch cell.store store
    → KeepsUntouched touch cell (record cell { store = store })
with_store_kept touch cell store kept = record {
  number = refl;
  place = refl;
  closing = refl;
  caller = λ h. refl;
  globals = λ h. refl;
  store = kept;
  queues = queues_kept touch cell.queues;
}

-- a cell in which only the globals change
pub with_globals_kept : (touch : Touch) (cell : CellOf) (globals : Named) → touch.globals ≡ true → KeepsUntouched touch cell (record cell { globals = globals })
with_globals_kept touch cell globals touches = record {
  number = refl;
  place = refl;
  closing = refl;
  caller = λ h. refl;
  globals = no_false touch.globals touches;
  store = store_kept touch cell.store;
  queues = queues_kept touch cell.queues;
}

-- a cell in which only the caller's number changes
pub with_caller_kept : (touch : Touch) (cell : CellOf) (caller : List ℕ) → touch.caller ≡ true → KeepsUntouched touch cell (record cell { caller = caller })
with_caller_kept touch cell caller touches = record {
  number = refl;
  place = refl;
  closing = refl;
  caller = no_false touch.caller touches;
  globals = λ h. refl;
  store = store_kept touch cell.store;
  queues = queues_kept touch cell.queues;
}
