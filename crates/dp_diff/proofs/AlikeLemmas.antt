-- Dialplans have no differences exactly if they answer alike.
use Rattle.std.proofs.Common.{◌≡◌, ℕ, Bool, true, false, true≢false, cond, not, ◌||◌, List, [], ◌∷◌, ◌++◌, filter, Option, Some, None, refl, sym, ap, subst, ◌∙◌}
use Rattle.std.specs.List.{find, flat_map, list_any}
use Rattle.std.specs.Option.{is_some, option_map_or}
use Rattle.std.specs.Cmp.Lexicographic.{bytes_decides}
use Rattle.std.proofs.lemmas.List.{append_assoc}
use Rattle.std.proofs.lemmas.List.Folds.{list_any-append}
use Rattle.dp_conf.specs.Words.{same_text}
use Rattle.dp_lookup.specs.FoundEntry.{entries_at}
use Rattle.dp_lookup.specs.SearchOrder.{visit}
use Rattle.dp_plan.specs.Plan.{PlanOf, kept_by, is_named}
use Rattle.dp_plan.specs.Ranking.{shares_place}
use Rattle.dp_plan.specs.declared.entry.Entry.{Entry}
use Rattle.dp_diff.specs.Alike.{AnswersAlike, AnswerAlike, first_in}
use Rattle.dp_diff.specs.Answering.{answering, has_place, searched_entries}
use Rattle.dp_diff.specs.Differences.{Difference, addition_at, change_at, contexts_of, differences, differences_between, differences_in, is_kept, names_of}
use Rattle.dp_diff.specs.steps.Places.{shares_place_equiv}
use Rattle.dp_diff.proofs.ContextsLemmas.{unnumbered_by_name}
use Rattle.dp_diff.proofs.UnchangedLemmas.{flat_map-none, found_itself, there_itself}

-- ---- equal places

module _ (e f : Entry) (same : shares_place e f ≡ true) where
  -- equal places are equal to the same ones, so the same is found at them
  at_equal : (x : Entry) → shares_place e x ≡ shares_place f x
  at_equal x = shares_place_equiv.congr e f x same

  find-equal : (xs : List Entry) → find (shares_place e) xs ≡ find (shares_place f) xs
  find-equal [] = refl
  find-equal (x ∷ xs) = λ i. cond (at_equal x i) (Some x) (find-equal xs i)

  has_place-equal : (xs : List Entry) → has_place xs e ≡ has_place xs f
  has_place-equal [] = refl
  has_place-equal (x ∷ xs) = λ i. at_equal x i || has_place-equal xs i

-- something is found exactly if its place is there
is_some-find : (p : Entry → Bool) (xs : List Entry) → is_some (find p xs) ≡ list_any p xs
is_some-find p [] = refl
is_some-find p (x ∷ xs) = by (is_some-find p xs) (p x) where
  by : is_some (find p xs) ≡ list_any p xs → (t : Bool) → is_some (cond t (Some x) (find p xs)) ≡ (t || list_any p xs)
  by later true = refl
  by later false = later

-- what is found among entries is found among those whose places were free
find-kept_by : (e : Entry) (before xs : List Entry) → has_place before e ≡ false → find (shares_place e) (kept_by has_place before xs) ≡ find (shares_place e) xs
find-kept_by e before [] free = refl
find-kept_by e before (x ∷ xs) free = by (find-kept_by e before xs free) (find-kept_by e (before ++ x ∷ []) xs) (has_place before x) refl (shares_place e x) refl where
  rest : List Entry
  rest = kept_by has_place (before ++ x ∷ []) xs

  first : Bool → Option Entry
  first t = cond t (Some x) (find (shares_place e) rest)

  by : find (shares_place e) (kept_by has_place before xs) ≡ find (shares_place e) xs
      → (has_place (before ++ x ∷ []) e ≡ false → find (shares_place e) rest ≡ find (shares_place e) xs)
      → (taken : Bool) → has_place before x ≡ taken → (same : Bool) → shares_place e x ≡ same
      → find (shares_place e) (cond taken (kept_by has_place before xs) (x ∷ rest)) ≡ cond same (Some x) (find (shares_place e) xs)
  by without with_it true taken true same = absurd (true≢false (sym taken ∙ (sym (has_place-equal e x same before) ∙ free)))
  by without with_it true taken false other = without
  by without with_it false alone true same = ap first same
  by without with_it false alone false other =
      let still_free : has_place (before ++ x ∷ []) e ≡ false =
      list_any-append (shares_place e) before (x ∷ []) ∙ (λ i. free i || (other i || false)) in
      ap first other ∙ with_it still_free

-- the first entry that answers is the first through which a look-up goes
find-answering : (plan : PlanOf) (context : List ℕ) (e : Entry) → find (shares_place e) (answering plan context) ≡ first_in plan context e
unfolding answering
find-answering plan context e = find-kept_by e [] (searched_entries plan context) refl

-- ---- one context

-- both parts of an empty list are empty
nothing_first : {X : Type 0} (xs ys : List X) → xs ++ ys ≡ [] → xs ≡ []
nothing_first [] ys none = refl
nothing_first (x ∷ xs) ys none = absurd cc

nothing_second : {X : Type 0} (xs ys : List X) → xs ++ ys ≡ [] → ys ≡ []
nothing_second [] ys none = none
nothing_second (x ∷ xs) ys none = absurd cc

-- an entry without a difference is kept
if_nothing : (t : Bool) (d : Difference) → cond t [] (d ∷ []) ≡ [] → t ≡ true
if_nothing true d none = refl
if_nothing false d none = absurd cc

-- an entry is kept exactly if what answers after it does the same
is_kept-alike : (f : Entry) (m : Option Entry) → is_kept f m ≡ true → AnswersAlike (Some f) m
is_kept-alike f None kept = absurd cc
is_kept-alike f (Some g) kept = kept

alike-is_kept : (f : Entry) (m : Option Entry) → AnswersAlike (Some f) m → is_kept f m ≡ true
alike-is_kept f None alike = absurd alike
alike-is_kept f (Some g) alike = alike

-- something answers both times
alike-is_some : (l m : Option Entry) → AnswersAlike l m → is_some m ≡ true → is_some l ≡ true
alike-is_some None None alike there = there
alike-is_some None (Some g) alike there = absurd alike
alike-is_some (Some f) m alike there = refl

module _ (context : List ℕ) where
  -- what is found before the change does the same after it, if nothing is changed
  kept_at : (after before : List Entry) → flat_map (change_at context after) before ≡ [] → (e f : Entry) → find (shares_place e) before ≡ Some f
      → (shares_place e f ≡ true) × (is_kept f (find (shares_place f) after) ≡ true)
  kept_at after [] none e f found = absurd cc
  kept_at after (x ∷ before) none e f found =
      by (kept_at after before (nothing_second (change_at context after x) (flat_map (change_at context after) before) none) e f)
      (if_nothing (is_kept x (find (shares_place x) after)) (record { context = context; before = Some x; after = find (shares_place x) after })
      (nothing_first (change_at context after x) (flat_map (change_at context after) before) none))
      (shares_place e x) refl found
    where
      Kept : Entry → Type 0
      Kept y = (shares_place e y ≡ true) × (is_kept y (find (shares_place y) after) ≡ true)

      by : (find (shares_place e) before ≡ Some f → Kept f) → is_kept x (find (shares_place x) after) ≡ true
          → (t : Bool) → shares_place e x ≡ t → cond t (Some x) (find (shares_place e) before) ≡ Some f → Kept f
      by later kept true same is = let this : x ≡ f = cc in subst Kept this (same, kept)
      by later kept false other is = later is

  -- what is found after the change was there before it, if nothing is added
  there_at : (before after : List Entry) → flat_map (addition_at context before) after ≡ [] → (e g : Entry) → find (shares_place e) after ≡ Some g
      → (shares_place e g ≡ true) × (has_place before g ≡ true)
  there_at before [] none e g found = absurd cc
  there_at before (x ∷ after) none e g found =
      by (there_at before after (nothing_second (addition_at context before x) (flat_map (addition_at context before) after) none) e g)
      (if_nothing (has_place before x) (record { context = context; before = None; after = Some x })
      (nothing_first (addition_at context before x) (flat_map (addition_at context before) after) none))
      (shares_place e x) refl found
    where
      There : Entry → Type 0
      There y = (shares_place e y ≡ true) × (has_place before y ≡ true)

      by : (find (shares_place e) after ≡ Some g → There g) → has_place before x ≡ true
          → (t : Bool) → shares_place e x ≡ t → cond t (Some x) (find (shares_place e) after) ≡ Some g → There g
      by later there true same is = let this : x ≡ g = cc in subst There this (same, there)
      by later there false other is = later is

  -- without differences, each place has entries that do the same
  alike_between : (before after : List Entry) → differences_between context before after ≡ [] → (e : Entry) → AnswersAlike (find (shares_place e) before) (find (shares_place e) after)
  alike_between before after none e = by (find (shares_place e) before) refl (find (shares_place e) after) refl where
    unchanged : flat_map (change_at context after) before ≡ []
    unchanged = nothing_first (flat_map (change_at context after) before) (flat_map (addition_at context before) after) none

    nothing_added : flat_map (addition_at context before) after ≡ []
    nothing_added = nothing_second (flat_map (change_at context after) before) (flat_map (addition_at context before) after) none

    by : (l : Option Entry) → find (shares_place e) before ≡ l → (m : Option Entry) → find (shares_place e) after ≡ m → AnswersAlike l m
    by None missing None missing_too = tt
    by None missing (Some g) found =
        let there = there_at before after nothing_added e g found in
        absurd (true≢false (sym there.1 ∙ (sym (has_place-equal e g there.0 before) ∙ (sym (is_some-find (shares_place e) before) ∙ ap is_some missing))))
    by (Some f) found m at =
        let kept = kept_at after before unchanged e f found in
        is_kept-alike f m (ap (is_kept f) (sym at ∙ find-equal e f kept.0 after) ∙ kept.1)

  -- nothing is changed, if each place has entries that do the same
  none_changed : (after before entries : List Entry) → ((e : Entry) → AnswersAlike (find (shares_place e) (before ++ kept_by has_place before entries)) (find (shares_place e) after))
      → flat_map (change_at context after) (kept_by has_place before entries) ≡ []
  none_changed after before [] alike = refl
  none_changed after before (e ∷ entries) alike = by (none_changed after before entries) (none_changed after (before ++ e ∷ []) entries) (has_place before e) refl alike where
    rest : List Entry
    rest = kept_by has_place (before ++ e ∷ []) entries

    kept : Bool → List Entry
    kept t = cond t (kept_by has_place before entries) (e ∷ rest)

    Alike : List Entry → Type 0
    Alike all = (x : Entry) → AnswersAlike (find (shares_place x) all) (find (shares_place x) after)

    by : (Alike (before ++ kept_by has_place before entries) → flat_map (change_at context after) (kept_by has_place before entries) ≡ [])
        → (Alike ((before ++ e ∷ []) ++ rest) → flat_map (change_at context after) rest ≡ [])
        → (t : Bool) → has_place before e ≡ t → Alike (before ++ kept t) → flat_map (change_at context after) (kept t) ≡ []
    by without with_it true taken each = without each
    by without with_it false free each =
        let P : Option Entry → Type 0 = λ l. AnswersAlike l (find (shares_place e) after) in
        let there = alike-is_kept e (find (shares_place e) after) (subst P (found_itself before rest e free) (each e)) in
        ap (λ t. cond t [] ((record { context = context; before = Some e; after = find (shares_place e) after }) ∷ []) ++ flat_map (change_at context after) rest) there
        ∙ with_it (subst Alike (sym (append_assoc before (e ∷ []) rest)) each)

  -- nothing is added, if each place has entries that do the same
  none_added : (before first after : List Entry) → ((e : Entry) → AnswersAlike (find (shares_place e) before) (find (shares_place e) (first ++ after)))
      → flat_map (addition_at context before) after ≡ []
  none_added before first [] alike = refl
  none_added before first (e ∷ after) alike =
      let Alike : List Entry → Type 0 = λ all. (x : Entry) → AnswersAlike (find (shares_place x) before) (find (shares_place x) all) in
      let there : has_place before e ≡ true =
      sym (is_some-find (shares_place e) before)
      ∙ alike-is_some (find (shares_place e) before) (find (shares_place e) (first ++ e ∷ after)) (alike e)
      (is_some-find (shares_place e) (first ++ e ∷ after) ∙ there_itself first after e) in
      ap (λ t. cond t [] ((record { context = context; before = None; after = Some e }) ∷ []) ++ flat_map (addition_at context before) after) there
      ∙ none_added before (first ++ e ∷ []) after (subst Alike (sym (append_assoc first (e ∷ []) after)) alike)

-- a context has no differences, if it answers alike
none_in : (before after : PlanOf) → AnswerAlike before after → (context : List ℕ) → differences_in before after context ≡ []
unfolding answering
none_in before after alike context =
    let L = kept_by has_place [] (searched_entries before context) in
    let M = kept_by has_place [] (searched_entries after context) in
    let each : (e : Entry) → AnswersAlike (find (shares_place e) L) (find (shares_place e) M) =
    λ e. subst (λ (l : Option Entry). AnswersAlike l (find (shares_place e) M)) (sym (find-kept_by e [] (searched_entries before context) refl))
    (subst (λ (m : Option Entry). AnswersAlike (first_in before context e) m) (sym (find-kept_by e [] (searched_entries after context) refl)) (alike context e)) in
    ap (λ (ds : List Difference). ds ++ flat_map (addition_at context L) M) (none_changed context M [] (searched_entries before context) each)
    ∙ none_added context L [] M each

-- there are no differences, if all contexts answer alike
pub none_if_alike : (before after : PlanOf) → AnswerAlike before after → differences before after ≡ []
unfolding differences
none_if_alike before after alike = flat_map-none (differences_in before after) (none_in before after alike) (contexts_of before after)

-- ---- all contexts

-- no differences in a context that is among those
none_among : (f : List ℕ → List Difference) (names : List (List ℕ)) → flat_map f names ≡ [] → (context : List ℕ) → list_any (same_text context) names ≡ true → f context ≡ []
none_among f [] none context there = absurd cc
none_among f (name ∷ names) none context there =
    by (none_among f names (nothing_second (f name) (flat_map f names) none) context) (same_text context name) refl there where
      by : (list_any (same_text context) names ≡ true → f context ≡ []) → (t : Bool) → same_text context name ≡ t → (t || list_any (same_text context) names) ≡ true → f context ≡ []
      by later true same is = ap f ((bytes_decides context name).0 same) ∙ nothing_first (f name) (flat_map f names) none
      by later false other is = later is

-- a name that passes a test is among those that pass it
pub among_filtered : (test : List ℕ → Bool) (context : List ℕ) → test context ≡ true → (names : List (List ℕ)) → list_any (same_text context) names ≡ true → list_any (same_text context) (filter test names) ≡ true
among_filtered test context passes [] there = there
among_filtered test context passes (name ∷ names) there =
    by (among_filtered test context passes names) (test name) refl (same_text context name) refl there where
      p : List ℕ → Bool
      p = same_text context

      by : (list_any p names ≡ true → list_any p (filter test names) ≡ true) → (s : Bool) → test name ≡ s → (t : Bool) → p name ≡ t → (t || list_any p names) ≡ true
          → list_any p (cond s (name ∷ filter test names) (filter test names)) ≡ true
      by later true kept true same is = ap (λ t. t || list_any p (filter test names)) same
      by later true kept false other is = ap (λ t. t || list_any p (filter test names)) other ∙ later is
      by later false left true same is = absurd (true≢false (sym passes ∙ (ap test ((bytes_decides context name).0 same) ∙ left)))
      by later false left false other is = later is

-- an unknown context has no entries
searched-unknown : (plan : PlanOf) (context : List ℕ) → is_named (names_of plan) context ≡ false → searched_entries plan context ≡ []
searched-unknown plan context unknown =
    ap (λ (number : Option ℕ). flat_map (entries_at plan) (option_map_or (visit plan []) number []))
    (unnumbered_by_name plan context unknown)

-- without differences, all contexts answer alike
pub alike_without : (before after : PlanOf) → differences before after ≡ [] → AnswerAlike before after
unfolding differences
alike_without before after none context place =
    by (is_named (names_of before) context) refl (is_named (names_of after) context) refl where
      Alike : Type 0
      Alike = AnswersAlike (first_in before context place) (first_in after context place)

      -- a context of one of them
      known : list_any (same_text context) (contexts_of before after) ≡ true → Alike
      known there =
          let each = alike_between context (answering before context) (answering after context)
          (none_among (differences_in before after) (contexts_of before after) none context there) place in
          subst (λ (l : Option Entry). AnswersAlike l (first_in after context place)) (find-answering before context place)
          (subst (λ (m : Option Entry). AnswersAlike (find (shares_place place) (answering before context)) m) (find-answering after context place) each)

      others : List (List ℕ)
      others = filter (λ name. not (is_named (names_of before) name)) (names_of after)

      split : list_any (same_text context) (contexts_of before after) ≡ (is_named (names_of before) context || list_any (same_text context) others)
      split = list_any-append (same_text context) (names_of before) others

      by : (s : Bool) → is_named (names_of before) context ≡ s → (t : Bool) → is_named (names_of after) context ≡ t → Alike
      by true there t is = known (split ∙ ap (λ s. s || list_any (same_text context) others) there)
      by false missing true there =
          known (split ∙ (ap (λ s. s || list_any (same_text context) others) missing
          ∙ among_filtered (λ name. not (is_named (names_of before) name)) context (ap not missing) (names_of after) there))
      by false missing false missing_too =
          let P : List Entry → Type 0 = λ xs. AnswersAlike (find (shares_place place) xs) (find (shares_place place) (searched_entries after context)) in
          let Q : List Entry → Type 0 = λ ys. AnswersAlike (find (shares_place place) []) (find (shares_place place) ys) in
          subst P (sym (searched-unknown before context missing)) (subst Q (sym (searched-unknown after context missing_too)) tt)
