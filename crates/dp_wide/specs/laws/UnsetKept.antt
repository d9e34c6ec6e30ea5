-- What is kept of a store in which names have lost their values.
use Rattle.std.specs.Prelude.{◌≡◌, ℕ, Bool, true, false, List, [], ◌∷◌, map, refl}
use Rattle.std.proofs.Common.{ap, sym, ◌∙◌}
use Rattle.dp_vars.specs.Stores.{StoreFrame, StoreOf, set, unset, value_in, without_local}
use Rattle.dp_app.specs.Lawful.{KeepsStore}
use Rattle.dp_app.specs.laws.StoreKept.{set_kept}
use Rattle.dp_app.specs.declared.place.Place.{Place}
use Rattle.dp_app.specs.declared.touch.Touch.{Touch}
use Rattle.dp_wide.specs.Outside.{after_arguments, name_to_read, without_values}
use Rattle.dp_wide.specs.ReadNames.{read_names, with_listed}

true_is_false : true ≡ false → ⊥
true_is_false e = cc

-- no touch both changes a part and leaves it
no_false : {X : Type 0} (b : Bool) → b ≡ true → b ≡ false → X
no_false true is h = absurd (true_is_false h)
no_false false is h = absurd (true_is_false (sym is))

-- frames without a local return to the same places
places-without_local : (name : List ℕ) (frames : List (StoreFrame Place)) → map (λ f. f.back) (map (without_local name) frames) ≡ map (λ f. f.back) frames
places-without_local name [] = refl
places-without_local name (f ∷ fs) = ap (λ rest. f.back ∷ rest) (places-without_local name fs)

-- a name that loses its value changes the variables and the locals, but not the places of the frames
pub unset_kept : (touch : Touch) (before after : StoreOf Place) (name : List ℕ) → touch.variables ≡ true → KeepsStore touch before after
    → KeepsStore touch before (unset after name)
unfolding unset
unset_kept touch before after name touches kept = record {
  places = λ h. places-without_local name after.frames ∙ kept.places h;
  variables = no_false touch.variables touches;
  locals = λ h. no_false touch.variables touches;
  names = λ h. no_false touch.variables touches;
}

-- the same for several names that lose their values
pub without_values_kept : (touch : Touch) (before after : StoreOf Place) (names : List (List ℕ)) → touch.variables ≡ true → KeepsStore touch before after
    → KeepsStore touch before (without_values names after)
without_values_kept touch before after [] touches kept = kept
without_values_kept touch before after (name ∷ names) touches kept =
    without_values_kept touch before (unset after name) names touches (unset_kept touch before after name touches kept)

-- the same for a name for input, if the first argument is one
pub after_arguments_kept : (touch : Touch) (before after : StoreOf Place) (reads : Bool) (arguments : List ℕ) → touch.variables ≡ true
    → KeepsStore touch before after → KeepsStore touch before (after_arguments reads arguments after)
after_arguments_kept touch before after false arguments touches kept = kept
after_arguments_kept touch before after true arguments touches kept =
    unset_kept touch before (set after read_names value) (name_to_read arguments) touches
    (set_kept touch before after read_names value touches kept)
  where
    value : List ℕ
    value = with_listed (value_in after read_names) (name_to_read arguments)
