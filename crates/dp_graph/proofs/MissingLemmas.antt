-- A target of which an audit says that it leads nowhere leads nowhere in a picture.
use Rattle.std.proofs.Common.{◌≡◌, ℕ, Bool, true, false, cond, not, ◌&&◌, List, [], ◌∷◌, Option, Some, None, refl, ap}
use Rattle.std.specs.Prelude.{is_some, nat_le}
use Rattle.std.specs.Option.{option_and_then, option_map_or}
use Rattle.dp_conf.specs.Numbers.{most_priority, number_of}
use Rattle.dp_lookup.specs.FoundEntry.{found_entry, found_label}
use Rattle.dp_lookup.specs.SearchOrder.{search_order}
use Rattle.dp_plan.specs.Plan.{PlanOf}
use Rattle.dp_plan.specs.declared.entry.Entry.{Entry}
use Rattle.dp_plan.specs.declared.entry.EntryId.{EntryId}
use Rattle.dp_audit.specs.Finders.{answers, has_label}
use Rattle.dp_audit.specs.Loops.{priority_by}
use Rattle.dp_audit.specs.Targets.{PartsOf, exten_of, is_missing, leads, leads_by, part_or, parts_of, parts_stand, priority_leads}
use Rattle.dp_audit.specs.declared.jump.Jump.{Jump}
use Rattle.dp_graph.specs.Jumps.{by_entry, by_exten, by_parts, destination_of, target_entry, to_missing}
use Rattle.dp_graph.specs.declared.arrow.Destination.TheVariants.{Computed}

-- a test that fails
not_true_is_false : (t : Bool) → not t ≡ true → t ≡ false
not_true_is_false true e = absurd cc
not_true_is_false false e = refl

module _ (plan : PlanOf) (context exten : List ℕ) where
  -- the entry at a priority
  abbrev at : ℕ → Option EntryId
  at number = found_entry plan (search_order plan context) exten number

  -- nothing answers at the number
  none_at : (number : ℕ) → answers plan context exten number ≡ false → at number ≡ None
  unfolding answers
  none_at number e = by (at number) e where
    by : (o : Option EntryId) → is_some o ≡ false → o ≡ None
    by None e = refl
    by (Some id) e = absurd cc

  -- the number is no priority, or nothing answers there
  none_by_number : (number : ℕ) → (nat_le 1 number && nat_le number most_priority && answers plan context exten number) ≡ false
      → option_and_then at (cond (nat_le 1 number && nat_le number most_priority) (Some number) None) ≡ None
  none_by_number number e = by (nat_le 1 number) (nat_le number most_priority) e where
    by : (a b : Bool) → (a && b && answers plan context exten number) ≡ false → option_and_then at (cond (a && b) (Some number) None) ≡ None
    by false b e = refl
    by true false e = refl
    by true true e = none_at number e

  -- the label is not found
  none_by_label : (text : List ℕ) → has_label plan context exten text ≡ false → option_and_then at (found_label plan (search_order plan context) exten text) ≡ None
  unfolding has_label
  none_by_label text e = by (found_label plan (search_order plan context) exten text) e where
    by : (o : Option ℕ) → is_some o ≡ false → option_and_then at o ≡ None
    by None e = refl
    by (Some number) e = absurd cc

  -- the text names no priority at which an entry answers
  none_by_text : (text : List ℕ) → priority_leads plan context exten text ≡ false → target_entry plan context exten text ≡ None
  none_by_text [] e = refl
  none_by_text (b ∷ bs) e = by (number_of (b ∷ bs)) e where
    by : (o : Option ℕ) → leads_by plan context exten (b ∷ bs) o ≡ false → option_and_then at (priority_by plan context exten (b ∷ bs) o) ≡ None
    by None e = none_by_label (b ∷ bs) e
    by (Some number) e = none_by_number number e

module _ (plan : PlanOf) (context : List ℕ) (own : EntryId) (entry : Entry) (target : List ℕ) where
  -- the parts lead nowhere
  red_by_parts : (parts : Option PartsOf) → leads plan context entry.name parts ≡ false → by_parts plan context own entry target parts ≡ to_missing target
  red_by_parts None e = refl
  red_by_parts (Some parts) e = by (exten_of entry.name parts.exten) e where
    by : (o : Option (List ℕ)) → option_map_or (λ exten. priority_leads plan (part_or context parts.context) exten parts.priority) o true ≡ false → by_exten plan context own entry target parts o ≡ to_missing target
    by None e = absurd cc
    by (Some exten) e = ap (by_entry plan own entry target) (none_by_text plan (part_or context parts.context) exten parts.priority e)

  -- the target is literal, and leads nowhere
  pub red_by_target : (jump : Jump) → is_missing plan context entry.name jump target ≡ true → destination_of plan context own entry jump target ≡ to_missing target
  red_by_target jump e = by (parts_stand target (parts_of jump target)) e where
    by : (t : Bool) → (t && not (leads plan context entry.name (parts_of jump target))) ≡ true
        → cond t (by_parts plan context own entry target (parts_of jump target)) (Some (Computed entry.priority)) ≡ to_missing target
    by true e = red_by_parts (parts_of jump target) (not_true_is_false (leads plan context entry.name (parts_of jump target)) e)
    by false e = absurd cc

pub red_if_missing : (plan : PlanOf) (context : List ℕ) (own : EntryId) (entry : Entry) (jump : Jump) (target : List ℕ)
    → is_missing plan context entry.name jump target ≡ true → destination_of plan context own entry jump target ≡ to_missing target
red_if_missing plan context own entry jump target e = red_by_target plan context own entry target jump e
