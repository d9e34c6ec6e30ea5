-- The variables of `Read`, given the maps in which their list is looked up.
use Rattle.std.proofs.Common.{◌≡◌, ℕ, Bool, List, [], ◌∷◌, ◌++◌, Option, Some, None, unwrap_or, refl, ap, ◌∙◌}
use Rattle.std.specs.Prelude.{is_some, if◌then◌else◌}
use Rattle.dp_vars.specs.Sights.{ChannelView, channel_map}
use Rattle.dp_vars.specs.Variables.{Named, first_value, value_or_empty}
use Rattle.dp_vars.proofs.ValuesLemmas.{set-global, set-stored, value-global, value-stored}
use Rattle.dp_wide.specs.ReadNames.{read_names}

-- a text, if there is one
abbrev some_if : Bool → List ℕ → Option (List ℕ)
some_if b text = if b then Some text else None

same_found : (found : Option (List ℕ)) → found ≡ some_if (is_some found) (unwrap_or found [])
same_found None = refl
same_found (Some text) = refl

module _ (channel : Option ChannelView) (stored : List Named) (globals : Named) where
  -- the store has the variable
  pub seen-stored : (text : List ℕ) → Some text ≡ first_value stored read_names
      → Some text ≡ (if is_some (first_value (channel_map channel ∷ (stored ++ globals ∷ [])) read_names)
      then Some (value_or_empty (channel_map channel ∷ (stored ++ globals ∷ [])) read_names) else None)
  seen-stored text is =
      ap (λ b. some_if b text) (set-stored channel stored globals read_names text refl is)
      ∙ ap (some_if (is_some (first_value (channel_map channel ∷ (stored ++ globals ∷ [])) read_names)))
      (value-stored channel stored globals read_names text refl is)

  -- the store does not have it
  pub seen-global : (found : Option (List ℕ)) → None ≡ first_value stored read_names → found ≡ first_value (globals ∷ []) read_names
      → found ≡ (if is_some (first_value (channel_map channel ∷ (stored ++ globals ∷ [])) read_names)
      then Some (value_or_empty (channel_map channel ∷ (stored ++ globals ∷ [])) read_names) else None)
  seen-global found absent is =
      same_found found
      ∙ ap (λ b. some_if b (unwrap_or found []))
      (set-global channel stored globals read_names (is_some found) refl absent (ap (λ (o : Option (List ℕ)). is_some o) is))
      ∙ ap (some_if (is_some (first_value (channel_map channel ∷ (stored ++ globals ∷ [])) read_names)))
      (value-global channel stored globals read_names (unwrap_or found []) refl absent (ap (λ o. unwrap_or o []) is))
