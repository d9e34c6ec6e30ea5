-- A name that sets several things sets nothing from outside.
use Rattle.std.proofs.Common.{◌≡◌, ◌≢◌, ℕ, List, refl}
use Rattle.dp_vars.specs.Functions.{Nothing}
use Rattle.dp_wide.specs.Settings.{EffectOf, OneTarget, NameAndNumber, EmptyKey, EachName, Settable, bare_name, effect_of, one_target, with_setting, with_target}
use Rattle.dp_wide.proofs.settings.effects.outside_sets_what_set_sets.Goals as goal

one_by : (before : Settable) (name value : List ℕ) (effect : EffectOf) → one_target effect ≢ Nothing
    → with_setting before name effect value ≡ with_target before (one_target effect) value
one_by before name value (OneTarget target) something = refl
one_by before name value NameAndNumber something = absurd (something refl)
one_by before name value (EmptyKey key) something = absurd (something refl)
one_by before name value (EachName names) something = absurd (something refl)

pub returns : goal.returns
returns c = λ before name value something. one_by before (bare_name name) value (effect_of (bare_name name)) something
