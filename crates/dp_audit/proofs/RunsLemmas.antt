-- A call that meets an entry at home goes where its successor says.
use Rattle.std.proofs.Common.{◌≡◌, ℕ, zero, suc, ◌+◌, Bool, true, false, true≢false, ◌&&◌, ◌==◌, List, [], ◌∷◌, map, get_or, slice_get, Option, Some, None, IsSome, codes, option_and_then, option_map, if◌then◌else◌, MatchOption, refl, sym, ap, subst, ◌∙◌}
use Rattle.std.specs.Option.{option_map_or}
use Rattle.std.specs.Cmp.Lexicographic.{bytes_decides}
use Rattle.std.proofs.lemmas.Bool.{eqb-true}
use Rattle.std.proofs.lemmas.List.Quantifiers.{position-Some}
use Rattle.std.proofs.lemmas.Option.{none-some, same_Some, slice_get-get_or, slice_get-map, get_or_from_slice_get}
use Rattle.dp_conf.specs.Blanks.{trim}
use Rattle.dp_conf.specs.Numbers.{number_of as number_in}
use Rattle.dp_conf.specs.Words.{same_text, same_word}
use Rattle.dp_pattern.specs.Dashes.{without_dashes}
use Rattle.dp_pattern.specs.Matches.{Matches}
use Rattle.dp_pattern.specs.Name.{Meaning, Plain, Pattern}
use Rattle.dp_pattern.specs.Walk.{classes_of, is_match, tail_of, walk_after}
use Rattle.dp_pattern.proofs.MeaningLemmas.{without_dashes-without_dashes}
use Rattle.dp_lookup.specs.Found.{HasPriority, IsFound, NoneAsked}
use Rattle.dp_lookup.specs.FoundEntry.{found_by, found_entry, found_label, priority_at}
use Rattle.dp_lookup.specs.SearchOrder.{search_order}
use Rattle.dp_lookup.proofs.FoundLemmas.{found_entry-least}
use Rattle.dp_plan.specs.Contexts.{PlanContext}
use Rattle.dp_plan.specs.Lookup.{entry_at, number_of}
use Rattle.dp_plan.specs.Plan.{PlanOf, shares_label}
use Rattle.dp_plan.specs.declared.entry.Entry.{Entry}
use Rattle.dp_plan.specs.declared.entry.EntryId.{EntryId}
use Rattle.dp_audit.specs.Findings.{context_name}
use Rattle.dp_audit.specs.Loops.{IsLoop, after, goto, has_plain_name, if_home, is_of, is_plain, entry_after, entry_by_parts, entry_by_target, home_entry, priority_by, priority_of, successor, successor_by}
use Rattle.dp_audit.specs.Runs.{CallPlace, MeetsHome, place_entry, next_place, place_after, place_by_parts, place_by_target}
use Rattle.dp_audit.specs.Targets.{PartsOf, part_or, parts_of, parts_stand}
use Rattle.dp_audit.proofs.WalkLemmas.{returning, stepped}

-- ---- what is dialled, with dashes

module _ (plan : PlanOf) (a b : List ℕ) (same : without_dashes a ≡ without_dashes b) where
  entry_dashes : (order : List ℕ) (priority : ℕ) → found_entry plan order a priority ≡ found_entry plan order b priority
  unfolding found_entry
  entry_dashes order priority i =
      found_by plan (λ entry. is_match (tail_of entry.name) (walk_after (classes_of entry.name) (same i)) && entry.priority == priority) order

  label_dashes : (order label : List ℕ) → found_label plan order a label ≡ found_label plan order b label
  unfolding found_label
  label_dashes order label i =
      option_and_then (priority_at plan)
      (found_by plan (λ entry. is_match (tail_of entry.name) (walk_after (classes_of entry.name) (same i)) && shares_label entry.label (Some label)) order)

  home_dashes : (context : List ℕ) (priority : ℕ) → home_entry plan context a priority ≡ home_entry plan context b priority
  home_dashes context priority = ap (option_and_then (if_home plan context)) (entry_dashes (search_order plan context) priority)

  priority_dashes : (context text : List ℕ) → priority_of plan context a text ≡ priority_of plan context b text
  priority_dashes context [] = refl
  priority_dashes context (c ∷ text) = by (number_in (c ∷ text))
    where
      by : (o : Option ℕ) → priority_by plan context a (c ∷ text) o ≡ priority_by plan context b (c ∷ text) o
      by None = label_dashes (search_order plan context) (c ∷ text)
      by (Some number) = refl

part_dashes : (a b part : List ℕ) → without_dashes a ≡ without_dashes b → without_dashes (part_or a part) ≡ without_dashes (part_or b part)
part_dashes a b [] same = same
part_dashes a b (c ∷ part) same = refl

-- ---- the entry that is at home

-- the name of a context, given its number
module _ (plan : PlanOf) (name : List ℕ) (number : ℕ) (found : number_of plan name ≡ Some number) where
  abbrev names : List (List ℕ)
  names = map (λ (context : PlanContext). context.name) plan.contexts

  named_as : name ≡ context_name plan number
  named_as = by (slice_get plan.contexts number) refl
    where
      at : (o : Option PlanContext) → slice_get plan.contexts number ≡ o → slice_get names number ≡ option_map (λ (context : PlanContext). context.name) o
      at o is = slice_get-map (λ (context : PlanContext). context.name) plan.contexts number ∙ ap (option_map (λ (context : PlanContext). context.name)) is

      by : (o : Option PlanContext) → slice_get plan.contexts number ≡ o → name ≡ option_map_or (λ (context : PlanContext). context.name) (slice_get plan.contexts number) []
      by None is = absurd (none-some (get_or names number name)
          (sym (at None is) ∙ slice_get-get_or names number name (position-Some (same_text name) names number name found).0))
      by (Some context) is =
          let there : get_or names number name ≡ context.name = get_or_from_slice_get names number context.name name (at (Some context) is) in
          let same : same_text name context.name ≡ true =
          subst (λ (other : List ℕ). same_text name other ≡ true) there (position-Some (same_text name) names number name found).1 in
          (bytes_decides name context.name).0 same ∙ sym (ap (λ (o : Option PlanContext). option_map_or (λ (context : PlanContext). context.name) o []) is)

-- what is known if an entry is met at home
record AtHome (plan : PlanOf) (place : CallPlace) (id : EntryId) : Type 0 where
  found : place_entry plan place ≡ Some id
  number : number_of plan place.context ≡ Some id.context
  entry : Entry
  there : entry_at plan id ≡ Some entry
  text : List ℕ
  plain : entry.name ≡ Plain text

-- the parts of two tests
both_parts : (a b : Bool) → (a && b) ≡ true → (a ≡ true) × (b ≡ true)
both_parts true b both = (refl, both)
both_parts false b both = absurd cc

-- the number of the name of a context
number_is : (plan : PlanOf) (context : List ℕ) (id : EntryId) → is_of plan context id ≡ true → number_of plan context ≡ Some id.context
number_is plan context id of = by (number_of plan context) refl of
  where
    by : (o : Option ℕ) → number_of plan context ≡ o → option_map_or (λ number. number == id.context) o false ≡ true → number_of plan context ≡ Some id.context
    by None is of = absurd (true≢false (sym of))
    by (Some number) is of = is ∙ ap Some (eqb-true number id.context of)

-- an entry of a plain name
record PlainAt (plan : PlanOf) (id : EntryId) : Type 0 where
  entry : Entry
  there : entry_at plan id ≡ Some entry
  text : List ℕ
  plain : entry.name ≡ Plain text

plain_at : (plan : PlanOf) (id : EntryId) → has_plain_name plan id ≡ true → PlainAt plan id
plain_at plan id plain = by (entry_at plan id) refl plain
  where
    of_name : (entry : Entry) → entry_at plan id ≡ Some entry → (name : Meaning) → entry.name ≡ name → is_plain name ≡ true → PlainAt plan id
    of_name entry there (Plain text) is plain = record { entry = entry; there = there; text = text; plain = is }
    of_name entry there (Pattern classes tail) is plain = absurd (true≢false (sym plain))

    by : (o : Option Entry) → entry_at plan id ≡ o → option_map_or (λ entry. is_plain entry.name) o false ≡ true → PlainAt plan id
    by None is plain = absurd (true≢false (sym plain))
    by (Some entry) is plain = of_name entry is entry.name refl plain

at_home : (plan : PlanOf) (place : CallPlace) (id : EntryId) → MeetsHome plan place id → AtHome plan place id
at_home plan place id meets = by (place_entry plan place) refl meets
  where
    home : (other : EntryId) → place_entry plan place ≡ Some other → (b : Bool) → (is_of plan place.context other && has_plain_name plan other) ≡ b
        → (if b then Some other else None) ≡ Some id → AtHome plan place id
    home other found true is here =
        let same = same_Some other id here in
        let parts = both_parts (is_of plan place.context id) (has_plain_name plan id)
        (subst (λ (x : EntryId). (is_of plan place.context x && has_plain_name plan x) ≡ true) same is) in
        let plain = plain_at plan id parts.1 in
        record {
          found = found ∙ here;
          number = number_is plan place.context id parts.0;
          entry = plain.entry;
          there = plain.there;
          text = plain.text;
          plain = plain.plain;
        }
    home other found false is here = absurd (none-some id here)

    by : (o : Option EntryId) → place_entry plan place ≡ o → option_and_then (if_home plan place.context) o ≡ Some id → AtHome plan place id
    by None found here = absurd (none-some id here)
    by (Some other) found here = home other found (is_of plan place.context other && has_plain_name plan other) refl here

-- the entry that is met has the priority, and what was dialled is its name
record Fitting (place : CallPlace) (entry : Entry) : Type 0 where
  matching : Matches entry.name place.exten
  priority : entry.priority ≡ place.priority

fitting : (plan : PlanOf) (place : CallPlace) (id : EntryId) (entry : Entry) → place_entry plan place ≡ Some id → entry_at plan id ≡ Some entry → Fitting place entry
fitting plan place id entry met there =
    let order = search_order plan place.context in
    let found : IsFound plan order place.exten place.priority id =
    subst (λ (o : Option EntryId). MatchOption o (NoneAsked (HasPriority place.exten place.priority) plan order) (IsFound plan order place.exten place.priority)) met
    (found_entry-least plan order place.exten place.priority) in
    let same : found.entry ≡ entry = same_Some found.entry entry (sym found.least.stands.there ∙ there) in
    subst (λ (e : Entry). Fitting place e) same (record { matching = found.least.asked.matching; priority = found.least.asked.same })

plain_match : (name : Meaning) (text exten : List ℕ) → name ≡ Plain text → Matches name exten → without_dashes text ≡ without_dashes exten
unfolding Matches
plain_match name text exten plain matching =
    let same : Matches (Plain text) exten = subst (λ (n : Meaning). Matches n exten) plain matching in
    ap without_dashes (sym same) ∙ without_dashes-without_dashes exten

-- ---- one step

-- the next place, at which the next entry is met at home
record Goes (plan : PlanOf) (o : Option CallPlace) (next : EntryId) : Type 0 where
  place : CallPlace
  there : o ≡ Some place
  meets : MeetsHome plan place next

module _ (plan : PlanOf) (place : CallPlace) (text : List ℕ) (same : without_dashes text ≡ without_dashes place.exten) (next : EntryId) where
  goes_by_parts : (parts : PartsOf) → entry_by_parts plan place.context text parts ≡ Some next → Goes plan (place_by_parts plan place parts) next
  goes_by_parts parts here = by (priority_of plan context exten parts.priority) refl here
    where
      context : List ℕ
      context = part_or place.context parts.context

      exten : List ℕ
      exten = part_or text parts.exten

      dialled : List ℕ
      dialled = part_or place.exten parts.exten

      alike : without_dashes exten ≡ without_dashes dialled
      alike = part_dashes text place.exten parts.exten same

      by : (o : Option ℕ) → priority_of plan context exten parts.priority ≡ o → option_and_then (home_entry plan context exten) o ≡ Some next
          → Goes plan (place_by_parts plan place parts) next
      by None is here = absurd (none-some next here)
      by (Some priority) is here = record {
        place = record { context = context; exten = dialled; priority = priority };
        there =
            ap (option_map (λ (priority : ℕ). record { context = context; exten = dialled; priority = priority }))
            (sym (priority_dashes plan exten dialled alike context parts.priority) ∙ is);
        meets = sym (home_dashes plan exten dialled alike context priority) ∙ here;
      }

  goes_by_target : (target : List ℕ) → entry_by_target plan place.context text target ≡ Some next → Goes plan (place_by_target plan place target) next
  goes_by_target target here = by (parts_stand target (parts_of goto target)) (parts_of goto target) here
    where
      by : (b : Bool) (o : Option PartsOf) → (if b then option_and_then (entry_by_parts plan place.context text) o else None) ≡ Some next
          → Goes plan (if b then option_and_then (place_by_parts plan place) o else None) next
      by false o here = absurd (none-some next here)
      by true None here = absurd (none-some next here)
      by true (Some parts) here = goes_by_parts parts here

  goes_after : (onward : List ℕ → Bool) (entry : Entry) → entry.priority ≡ place.priority → entry_after onward plan place.context text entry ≡ Some next
      → Goes plan (place_after onward plan place entry) next
  goes_after onward entry priority here = by (same_word entry.application (codes "Goto")) (onward entry.application) here
    where
      by : (jumps goes_on : Bool) → (if jumps then entry_by_target plan place.context text (trim entry.arguments)
          else if goes_on then home_entry plan place.context text (entry.priority + 1) else None) ≡ Some next
          → Goes plan (if jumps then place_by_target plan place (trim entry.arguments)
          else if goes_on then Some (record place { priority = place.priority + 1 }) else None) next
      by true goes_on here = goes_by_target (trim entry.arguments) here
      by false false here = absurd (none-some next here)
      by false true here = record {
        place = record place { priority = place.priority + 1 };
        there = refl;
        meets =
            ap (λ (priority : ℕ). home_entry plan place.context place.exten (priority + 1)) (sym priority)
            ∙ (sym (home_dashes plan text place.exten same place.context (entry.priority + 1)) ∙ here);
      }

module _ (onward : List ℕ → Bool) (plan : PlanOf) where
  goes : (place : CallPlace) (id next : EntryId) → MeetsHome plan place id → successor onward plan id ≡ Some next → Goes plan (next_place onward plan place) next
  goes place id next meets here =
      let home = at_home plan place id meets in
      let fits = fitting plan place id home.entry home.found home.there in
      let same = plain_match home.entry.name home.text place.exten home.plain fits.matching in
      let by_entry : successor_by onward plan (context_name plan id.context) home.entry home.entry.name ≡ Some next =
      sym (ap (option_and_then (λ (entry : Entry). successor_by onward plan (context_name plan id.context) entry entry.name)) home.there) ∙ here in
      let by_text : entry_after onward plan (context_name plan id.context) home.text home.entry ≡ Some next =
      sym (ap (λ (name : Meaning). successor_by onward plan (context_name plan id.context) home.entry name) home.plain) ∙ by_entry in
      let by_place : entry_after onward plan place.context home.text home.entry ≡ Some next =
      subst (λ (context : List ℕ). entry_after onward plan context home.text home.entry ≡ Some next)
      (sym (named_as plan place.context id.context home.number)) by_text in
      let one = goes_after plan place home.text same next onward home.entry fits.priority by_place in
      record {
        place = one.place;
        there =
            ap (option_and_then (λ (id : EntryId). option_and_then (place_after onward plan place) (entry_at plan id))) home.found
            ∙ (ap (option_and_then (place_after onward plan place)) home.there ∙ one.there);
        meets = one.meets;
      }

  -- any number of steps
  record Runs (place : CallPlace) (count : ℕ) : Type 0 where
    last : CallPlace
    there : after (next_place onward plan) count place ≡ Some last

  runs : (count : ℕ) (place : CallPlace) (id end : EntryId) → MeetsHome plan place id → after (successor onward plan) count id ≡ Some end → Runs place count
  runs zero place id end meets here = record { last = place; there = refl }
  runs (suc count) place id end meets here =
      let one = stepped (successor onward plan) count id end here in
      let next = goes place id one.next meets one.there in
      let rest = runs count next.place one.next end next.meets one.leads in
      record { last = rest.last; there = ap (option_and_then (after (next_place onward plan) count)) next.there ∙ rest.there }

  -- a call that meets the first entry of a loop at home goes on for ever
  pub never_ends : (id : EntryId) → IsLoop onward plan id → (place : CallPlace) → MeetsHome plan place id → (count : ℕ) → IsSome (after (next_place onward plan) count place)
  never_ends id loop place meets count =
      let there = returning (successor onward plan) loop.count id loop.again count in
      let all = runs count place id there.end meets there.there in
      subst (λ (o : Option CallPlace). IsSome o) (sym all.there) refl
