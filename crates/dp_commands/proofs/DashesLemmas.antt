-- Dashes in a dialled text do not affect a look-up, nor what decides about the extensions that match.
use Rattle.std.proofs.Common.{◌≡◌, ℕ, Bool, false, ◌&&◌, ◌==◌, cond, List, [], ◌∷◌, map, Some, None, refl, ap}
use Rattle.std.specs.List.{filter_map, find, flat_map}
use Rattle.std.specs.Option.{option_map_or}
use Rattle.dp_audit.specs.Candidates.{by_priority, candidates_of, extensions, has_number, is_matched, candidate_of, matching_of, ranked_of}
use Rattle.dp_pattern.specs.Dashes.{without_dashes}
use Rattle.dp_pattern.specs.Walk.{classes_of, is_match, tail_of, walk_after}
use Rattle.dp_pattern.proofs.MeaningLemmas.{without_dashes-without_dashes}
use Rattle.dp_lookup.specs.FoundEntry.{found_by, found_entry}
use Rattle.dp_plan.specs.Lookup.{entry_at}
use Rattle.dp_plan.specs.Plan.{PlanOf}
use Rattle.dp_plan.specs.declared.entry.EntryId.{EntryId}

-- the same entry is found for the text without dashes
pub found_undashed : (plan : PlanOf) (order text : List ℕ) (priority : ℕ)
    → found_entry plan order (without_dashes text) priority ≡ found_entry plan order text priority
unfolding found_entry
found_undashed plan order text priority =
    ap (λ (digits : List ℕ). found_by plan (λ entry. is_match (tail_of entry.name) (walk_after (classes_of entry.name) digits) && entry.priority == priority) order)
    (without_dashes-without_dashes text)

module _ (plan : PlanOf) (text : List ℕ) (priority : ℕ) where
  -- the same names match the text without dashes
  matched_undashed : is_matched plan (without_dashes text) ≡ is_matched plan text
  matched_undashed =
      ap {B = EntryId → Bool}
      (λ (digits : List ℕ) (id : EntryId). option_map_or (λ entry. is_match (tail_of entry.name) (walk_after (classes_of entry.name) digits)) (entry_at plan id) false)
      (without_dashes-without_dashes text)

  matching_undashed : (extension : List EntryId) → matching_of plan (without_dashes text) priority extension ≡ matching_of plan text priority extension
  matching_undashed [] = refl
  matching_undashed (first ∷ ids) =
      ap (λ (t : Bool). cond t (Some (by_priority first (find (has_number plan priority) (first ∷ ids)))) None) (λ i. matched_undashed i first)

  -- the same extensions match it, and the same decides about each
  pub candidates_undashed : (order : List ℕ) → candidates_of plan order (without_dashes text) priority ≡ candidates_of plan order text priority
  unfolding candidates_of
  candidates_undashed order = λ i.
      map (candidate_of (found_undashed plan order text priority i))
      (flat_map (λ (number : ℕ). filter_map (λ (extension : List EntryId). matching_undashed extension i) (extensions plan (ranked_of plan number))) order)
