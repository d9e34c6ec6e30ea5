-- What the texts of a channel in the reach see is as claimed.
use Rattle.std.proofs.Common.{◌≡◌, ℕ, ◌-◌, Bool, true, false, cond, List, [], ◌∷◌, ◌++◌, map, reverse, length, Option, Some, None, if◌then◌else◌, unwrap_or, nat_eq, refl, sym, subst, codes}
use Rattle.std.proofs.lemmas.List.{reverse-append}
use Rattle.std.specs.Cmp.Lexicographic.{bytes_decides, pointwise}
use Rattle.std.specs.FinMap.{get}
use Rattle.std.specs.Fmt.{decimal}
use Rattle.std.specs.List.{AllByRecursion}
use Rattle.std.specs.Option.{option_and_then, option_or}
use Rattle.dp_conf.proofs.TextLemmas.{each-append}
use Rattle.dp_vars.proofs.VariablesLemmas.{get-texts}
use Rattle.dp_vars.specs.Sights.{channel_map, channel_name, given_by, local_seen}
use Rattle.dp_vars.specs.Stores.{StoreFrame, all_locals, innermost, local_in, searched_maps}
use Rattle.dp_vars.specs.Variables.{Named, first_value, value_or_empty}
use Rattle.dp_machine.specs.Seen.{sight_in, view_in}
use Rattle.dp_machine.specs.declared.channel.Channel.{Channel}
use Rattle.dp_machine.specs.declared.shared_state.SharedState.{SharedState}
use Rattle.dp_app.specs.declared.place.Place.{Place}
use Rattle.dp_pieces.specs.Bytes.{Bytes, IsPart, Within, digits}
use Rattle.dp_pieces.specs.Names.{IsWithin, Names, variable_pieces}
use Rattle.dp_pieces.specs.Pieces.{Fits, any_bytes_of, pieces_set}
use Rattle.dp_pieces.proofs.FitsLemmas.{fits-any_bytes_of}
use Rattle.dp_pieces.proofs.NumeralLemmas.{within-decimal}
use Rattle.dp_pieces.proofs.WithinLemmas.{within-append, within-more}
use Rattle.dp_reach.specs.Areas.{Area, IsIn, names_at}
use Rattle.dp_reach.specs.Closed.{HasMachineNames}
use Rattle.dp_reach.specs.Holding.{AreHeld, Claim, IsHeld, KeepsToClaim}
use Rattle.dp_reach.proofs.StoreLemmas.{each-get}

-- the first value of maps
module _ (names : Names) where
  within-held : (set : Bytes) (o : Option (List ℕ)) → IsHeld set o → Within set (unwrap_or o [])
  within-held set None held = tt
  within-held set (Some value) held = held

  pub held-first : (maps : List Named) (name : List ℕ) → AllByRecursion (AreHeld names) maps → IsHeld (names.bytes name) (first_value maps name)
  held-first [] name all = tt
  held-first (m ∷ ms) name all = by (get m name) (all.0 name) (held-first ms name all.1)
    where
      by : (o : Option (List ℕ)) → IsHeld (names.bytes name) o → IsHeld (names.bytes name) (first_value ms name) → IsHeld (names.bytes name) (option_or o (first_value ms name))
      by None here rest = rest
      by (Some value) here rest = here

  pub within-first : (maps : List Named) (name : List ℕ) → AllByRecursion (AreHeld names) maps → Within (names.bytes name) (value_or_empty maps name)
  within-first maps name all = within-held (names.bytes name) (first_value maps name) (held-first maps name all)

pub each-reverse : {X : Type 0} (P : X → Type 0) (xs : List X) → AllByRecursion P xs → AllByRecursion P (reverse xs)
each-reverse P [] all = tt
each-reverse P (x ∷ xs) all = subst (AllByRecursion P) (sym (reverse-append (x ∷ []) xs)) (each-append P (reverse xs) (x ∷ []) (each-reverse P xs all.1) (all.0, tt))

pub locals-held : (names : Names) (frames : List (StoreFrame Place)) → AllByRecursion (λ (frame : StoreFrame Place). AreHeld names frame.locals) frames
    → AllByRecursion (AreHeld names) (map (λ (frame : StoreFrame Place). frame.locals) frames)
locals-held names [] all = tt
locals-held names (frame ∷ frames) all = (all.0, locals-held names frames all.1)

module _ (claim : Claim) (named : HasMachineNames claim) (shared : SharedState) (number : ℕ) (c : Channel) (area : Area) (inside : IsIn area c.place) (exten : IsPart (pieces_set area.exten) claim.names.all)
    (context : IsPart (pieces_set area.context) claim.names.all) (kept : KeepsToClaim claim c.store) (globals : AreHeld claim.names shared.globals) (caller : Within claim.names.caller c.caller) where
  -- what a name has besides the channel's extension and context
  rest-held : (name : List ℕ) → IsHeld (claim.names.bytes name) (cond (pointwise nat_eq name (codes "PRIORITY")) (Some (decimal c.place.priority))
      (cond (pointwise nat_eq name (codes "CHANNEL")) (Some (channel_name number)) None))
  rest-held name =
      one (codes "PRIORITY") (decimal c.place.priority) _ (within-more digits _ named.priority (decimal c.place.priority) (within-decimal c.place.priority))
      (one (codes "CHANNEL") (channel_name number) _
      (within-append _ (codes "Channel/") (decimal number) named.channel (within-more digits _ named.number (decimal number) (within-decimal number))) tt)
    where
      one : (key value : List ℕ) (rest : Option (List ℕ)) → Within (claim.names.bytes key) value → IsHeld (claim.names.bytes name) rest
          → IsHeld (claim.names.bytes name) (cond (pointwise nat_eq name key) (Some value) rest)
      one key value rest is later = by (pointwise nat_eq name key) refl
        where
          by : (same : Bool) → pointwise nat_eq name key ≡ same → IsHeld (claim.names.bytes name) (cond same (Some value) rest)
          by true tied = subst (λ n. Within (claim.names.bytes n) value) (sym ((bytes_decides name key).0 tied)) is
          by false other = later

  stored-held : AllByRecursion (AreHeld claim.names) (searched_maps c.store)
  stored-held = each-append (AreHeld claim.names) (all_locals c.store.frames) (c.store.variables ∷ [])
      (locals-held claim.names (reverse c.store.frames) (each-reverse (λ (frame : StoreFrame Place). AreHeld claim.names frame.locals) c.store.frames kept.locals)) (kept.variables, tt)

  local-within : (name : List ℕ) → Within (claim.names.bytes name) (local_seen (Some c.store) name)
  local-within name = within-held claim.names (claim.names.bytes name) (local_in c.store name) (by (innermost c.store.frames) refl)
    where
      by : (o : Option (StoreFrame Place)) → innermost c.store.frames ≡ o → IsHeld (claim.names.bytes name) (option_and_then (λ frame. get frame.locals name) o)
      by None is = tt
      by (Some frame) is = each-get (λ (frame : StoreFrame Place). AreHeld claim.names frame.locals) c.store.frames (length c.store.frames - 1) frame kept.locals is name

  -- a variable
  variable-fits : (name : List ℕ) → Fits (variable_pieces (names_at claim.names area) name)
      (value_or_empty (channel_map (Some (view_in number c)) ∷ (searched_maps c.store ++ shared.globals ∷ [])) name)
  variable-fits name =
      subst (λ o. Fits (variable_pieces (names_at claim.names area) name) (unwrap_or (option_or o (first_value (searched_maps c.store ++ shared.globals ∷ []) name)) []))
      (sym (get-texts name (given_by (Some (view_in number c))))) (by (pointwise nat_eq name (codes "EXTEN")) (pointwise nat_eq name (codes "CONTEXT")) (rest-held name))
    where
      later : IsHeld (claim.names.bytes name) (first_value (searched_maps c.store ++ shared.globals ∷ []) name)
      later = held-first claim.names (searched_maps c.store ++ shared.globals ∷ []) name (each-append (AreHeld claim.names) (searched_maps c.store) (shared.globals ∷ []) stored-held (globals, tt))

      or : (o : Option (List ℕ)) → IsHeld (claim.names.bytes name) o → Within (claim.names.bytes name) (unwrap_or (option_or o (first_value (searched_maps c.store ++ shared.globals ∷ []) name)) [])
      or None is = within-held claim.names (claim.names.bytes name) (first_value (searched_maps c.store ++ shared.globals ∷ []) name) later
      or (Some value) is = is

      Rest : Option (List ℕ)
      Rest = cond (pointwise nat_eq name (codes "PRIORITY")) (Some (decimal c.place.priority)) (cond (pointwise nat_eq name (codes "CHANNEL")) (Some (channel_name number)) None)

      by : (a b : Bool) → IsHeld (claim.names.bytes name) Rest
          → Fits (if a then area.exten else if b then area.context else any_bytes_of (claim.names.bytes name))
          (unwrap_or (option_or (cond a (Some c.place.exten) (cond b (Some c.place.context) Rest)) (first_value (searched_maps c.store ++ shared.globals ∷ []) name)) [])
      by true b held = inside.exten
      by false true held = inside.context
      by false false held = fits-any_bytes_of (claim.names.bytes name) _ (or Rest held)

  -- what its texts see
  pub seen-channel : IsWithin (names_at claim.names area) (sight_in shared number c)
  seen-channel = record {
    variable = variable-fits;
    held = λ name. within-first claim.names (searched_maps c.store ++ shared.globals ∷ []) name
        (each-append (AreHeld claim.names) (searched_maps c.store) (shared.globals ∷ []) stored-held (globals, tt));
    global = λ name. within-first claim.names (shared.globals ∷ []) name (globals, tt);
    local = local-within;
    caller = caller;
    whole = record { bytes = named.whole.bytes; exten = exten; context = context; caller = named.whole.caller; digits = named.whole.digits };
  }
