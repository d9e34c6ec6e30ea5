-- The rows of `Set` and `MSet` keep the laws of rows with their touch: settings do not change the places to which frames return.
use Rattle.std.specs.Prelude.{◌≡◌, ℕ, true, false, List, [], ◌∷◌, fold, Option, Some, None, codes, refl}
use Rattle.std.proofs.Common.{◌∙◌}
use Rattle.dp_conf.specs.Cut.{cut_once}
use Rattle.dp_conf.specs.Levels.{arguments_of, parts_of}
use Rattle.dp_vars.specs.Functions.{SettingTarget, Variable, Global, Local, Caller, Nothing}
use Rattle.dp_vars.specs.Stores.{StoreOf, set, set_local}
use Rattle.dp_app.specs.Cells.{CellOf}
use Rattle.dp_app.specs.Lawful.{IsLawfulRow, KeepsUntouched, places_of}
use Rattle.dp_app.specs.declared.place.Place.{Place}
use Rattle.dp_app.specs.laws.Keeping.{going_lawful, queues_kept, store_kept}
use Rattle.dp_app.specs.laws.StoreKept.{set_kept, set_local_kept}
use Rattle.dp_flow.specs.Touches.{settable}
use Rattle.dp_wide.specs.Cells.{cell_name}
use Rattle.dp_wide.specs.Settings as spec
use Rattle.dp_wide.specs.Settings.{EffectOf, OneTarget, NameAndNumber, EmptyKey, EachName, Settable, bare_name, effect_of, settable_of, with_settable}

-- frames return to the same places
abbrev SamePlaces : Settable → Settable → Type 0
SamePlaces before after = places_of after.store ≡ places_of before.store

set_same : (store : StoreOf Place) (name value : List ℕ) → places_of (set store name value) ≡ places_of store
set_same store name value = (set_kept settable store store name value refl (store_kept settable store)).places refl

local_same : (store : StoreOf Place) (name value : List ℕ) → places_of (set_local store name value) ≡ places_of store
local_same store name value = (set_local_kept settable store name value refl).places refl

target_same : (s : Settable) (target : SettingTarget) (value : List ℕ) → SamePlaces s (spec.with_target s target value)
target_same s (Variable name) value = set_same s.store name value
target_same s (Global name) value = refl
target_same s (Local name) value = local_same s.store name value
target_same s Caller value = refl
target_same s Nothing value = refl

effect_same : (s : Settable) (name : List ℕ) (effect : EffectOf) (value : List ℕ) → SamePlaces s (spec.with_effect s name effect value)
effect_same s name (OneTarget target) value = target_same s target value
effect_same s name NameAndNumber value = set_same s.store (cell_name (codes "CALLERID") (codes "name")) (spec.caller_of value).name
effect_same s name (EmptyKey key) value = refl
effect_same s name (EachName names) value = set_same s.store name value

one_same : (s : Settable) (name value : List ℕ) → SamePlaces s (spec.with_one s name value)
one_same s name value = effect_same s (bare_name name) (effect_of (bare_name name)) value

each_same : (s : Settable) (names values : List (List ℕ)) → SamePlaces s (spec.with_each s names values)
each_same s [] values = refl
each_same s (name ∷ names) values =
    each_same (spec.with_one s name (spec.first_value values)) names (spec.later_values values)
    ∙ one_same s name (spec.first_value values)

setting_same : (s : Settable) (name : List ℕ) (effect : EffectOf) (value : List ℕ) → SamePlaces s (spec.with_setting s name effect value)
setting_same s name (OneTarget target) value = target_same s target value
setting_same s name NameAndNumber value = effect_same s name NameAndNumber value
setting_same s name (EmptyKey key) value = refl
setting_same s name (EachName names) value = each_same s (parts_of names) (parts_of value)

pair_same : (s : Settable) (o : Option (List ℕ × List ℕ)) → SamePlaces s (spec.with_pair s o)
pair_same s None = refl
pair_same s (Some cut) = setting_same s (bare_name cut.0) (effect_of (bare_name cut.0)) cut.1

texts_same : (s : Settable) (texts : List (List ℕ)) → SamePlaces s (fold spec.with_text s texts)
texts_same s [] = refl
texts_same s (text ∷ texts) = texts_same (spec.with_text s text) texts ∙ pair_same s (cut_once 61 text)

true_is_false : true ≡ false → ⊥
true_is_false e = cc

-- a cell with its settable parts after settings
settable_keeps : (cell : CellOf) (s : Settable) → SamePlaces (settable_of cell) s → KeepsUntouched settable cell (with_settable cell s)
settable_keeps cell s same = record {
  number = refl;
  place = refl;
  closing = refl;
  caller = λ h. absurd (true_is_false h);
  globals = λ h. absurd (true_is_false h);
  store = record {
    places = λ h. same;
    variables = λ h. absurd (true_is_false h);
    locals = λ h without. absurd (true_is_false without);
    names = λ h without. absurd (true_is_false without);
  };
  queues = queues_kept settable cell.queues;
}

-- the row of `Set`
pub set_lawful : IsLawfulRow settable spec.set_row
unfolding spec.set_row
set_lawful = going_lawful settable spec.set_row
    (λ arguments cell. settable_keeps cell (spec.with_text (settable_of cell) arguments) (pair_same (settable_of cell) (cut_once 61 arguments)))
    (λ arguments cell. refl) (λ arguments cell. tt)

-- the row of `MSet`
pub mset_lawful : IsLawfulRow settable spec.mset_row
unfolding spec.mset_row
mset_lawful = going_lawful settable spec.mset_row
    (λ arguments cell. settable_keeps cell (fold spec.with_text (settable_of cell) (arguments_of arguments))
    (texts_same (settable_of cell) (arguments_of arguments)))
    (λ arguments cell. refl) (λ arguments cell. tt)
