-- The values of names, given the maps in which they are looked up.
use Rattle.std.proofs.Common.{◌≡◌, ℕ, Bool, true, false, cond, List, [], ◌∷◌, ◌++◌, Option, Some, None, unwrap_or, map, refl, sym, ap, ◌∙◌}
use Rattle.std.specs.Prelude.{is_some}
use Rattle.std.specs.Option.{option_map, option_or}
use Rattle.std.specs.FinMap.{get}
use Rattle.std.specs.Map.{lookup}
use Rattle.dp_conf.specs.Words.{same_text}
use Rattle.dp_vars.specs.Sights.{ChannelView, given_by, given_names, given_value, channel_map}
use Rattle.dp_vars.specs.declared.value.GivenName.{GivenName}
use Rattle.dp_vars.specs.Variables.{Named, first_value, value_or_empty}
use Rattle.dp_vars.proofs.StoresLemmas.{first_value-append}
use Rattle.dp_vars.proofs.VariablesLemmas.{get-texts}

-- a look-up among values that are computed from the found ones
lookup-map : {X Y : Type 0} (value : X → Y) (test : List ℕ → Bool) (entries : List (List ℕ × X))
    → lookup test (map (λ e. (e.0, value e.1)) entries) ≡ option_map value (lookup test entries)
lookup-map value test [] = refl
lookup-map value test (e ∷ es) = by (test e.0) (lookup-map value test es)
  where
    by : (b : Bool) → lookup test (map (λ e. (e.0, value e.1)) es) ≡ option_map value (lookup test es)
        → cond b (Some (value e.1)) (lookup test (map (λ e. (e.0, value e.1)) es)) ≡ option_map value (cond b (Some e.1) (lookup test es))
    by true rest = refl
    by false rest = rest

-- the value that the channel gives to a name
get-channel_map : (channel : Option ChannelView) (name : List ℕ)
    → get (channel_map channel) name ≡ option_map (given_value channel) (lookup (same_text name) given_names)
get-channel_map channel name = get-texts name (given_by channel) ∙ lookup-map (given_value channel) (same_text name) given_names

module _ (channel : Option ChannelView) (stored : List Named) (globals : Named) (name : List ℕ) where
  -- a name that the channel gives
  pub value-given : (given : GivenName) → Some given ≡ lookup (same_text name) given_names
      → given_value channel given ≡ value_or_empty (channel_map channel ∷ (stored ++ globals ∷ [])) name
  value-given given is =
      ap (λ o. unwrap_or (option_or o (first_value (stored ++ globals ∷ []) name)) [])
      (ap (option_map (given_value channel)) is ∙ sym (get-channel_map channel name))

  -- it has a value
  pub set-given : (given : GivenName) → Some given ≡ lookup (same_text name) given_names
      → true ≡ is_some (first_value (channel_map channel ∷ (stored ++ globals ∷ [])) name)
  set-given given is =
      ap (λ o. is_some (option_or o (first_value (stored ++ globals ∷ []) name)))
      (ap (option_map (given_value channel)) is ∙ sym (get-channel_map channel name))

  -- any other name is looked up in the store and then among the globals
  first-not_given : None ≡ lookup (same_text name) given_names
      → option_or (first_value stored name) (first_value (globals ∷ []) name) ≡ first_value (channel_map channel ∷ (stored ++ globals ∷ [])) name
  first-not_given none =
      sym (first_value-append stored (globals ∷ []) name)
      ∙ ap (λ o. option_or o (first_value (stored ++ globals ∷ []) name))
      (ap (option_map (given_value channel)) none ∙ sym (get-channel_map channel name))

  not_given : None ≡ lookup (same_text name) given_names
      → unwrap_or (option_or (first_value stored name) (first_value (globals ∷ []) name)) [] ≡ value_or_empty (channel_map channel ∷ (stored ++ globals ∷ [])) name
  not_given none = ap (λ o. unwrap_or o []) (first-not_given none)

  pub set-stored : (value : List ℕ) → None ≡ lookup (same_text name) given_names → Some value ≡ first_value stored name
      → true ≡ is_some (first_value (channel_map channel ∷ (stored ++ globals ∷ [])) name)
  set-stored value none is = ap (λ o. is_some (option_or o (first_value (globals ∷ []) name))) is ∙ ap is_some (first-not_given none)

  pub set-global : (b : Bool) → None ≡ lookup (same_text name) given_names → None ≡ first_value stored name
      → b ≡ is_some (first_value (globals ∷ []) name) → b ≡ is_some (first_value (channel_map channel ∷ (stored ++ globals ∷ [])) name)
  set-global b none absent is =
      is ∙ (ap (λ o. is_some (option_or o (first_value (globals ∷ []) name))) absent ∙ ap is_some (first-not_given none))

  -- a name that the store has
  pub value-stored : (value : List ℕ) → None ≡ lookup (same_text name) given_names → Some value ≡ first_value stored name
      → value ≡ value_or_empty (channel_map channel ∷ (stored ++ globals ∷ [])) name
  value-stored value none is = ap (λ o. unwrap_or (option_or o (first_value (globals ∷ []) name)) []) is ∙ not_given none

  -- any other name is that of a global, or has no value
  pub value-global : (value : List ℕ) → None ≡ lookup (same_text name) given_names → None ≡ first_value stored name
      → value ≡ value_or_empty (globals ∷ []) name → value ≡ value_or_empty (channel_map channel ∷ (stored ++ globals ∷ [])) name
  value-global value none absent is =
      is ∙ ap (λ o. unwrap_or (option_or o (first_value (globals ∷ []) name)) []) absent ∙ not_given none

module _ (stored : List Named) (globals : Named) (name : List ℕ) where
  -- whatever the channel gives, a name that the store has
  pub held-stored : (value : List ℕ) → Some value ≡ first_value stored name → Some value ≡ first_value (stored ++ globals ∷ []) name
  held-stored value is = ap (λ o. option_or o (first_value (globals ∷ []) name)) is ∙ sym (first_value-append stored (globals ∷ []) name)

  -- any other name is that of a global, or nothing has set it
  pub held-global : (found : Option (List ℕ)) → None ≡ first_value stored name → found ≡ first_value (globals ∷ []) name
      → found ≡ first_value (stored ++ globals ∷ []) name
  held-global found absent is =
      is ∙ ap (λ o. option_or o (first_value (globals ∷ []) name)) absent ∙ sym (first_value-append stored (globals ∷ []) name)
