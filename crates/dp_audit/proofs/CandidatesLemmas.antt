-- The extensions that match, cut from the ranked entries, and the one that answers.
use Rattle.std.proofs.Common.{◌≡◌, ℕ, zero, suc, ◌+◌, ◌-◌, ◌<◌, ◌≤◌, Bool, true, false, true≢false, cond, ◌&&◌, ◌==◌, eqb-true, eq-eqb, List, [], ◌∷◌, ◌++◌, length, take, drop, get_or, one-add, Option, Some, None, arith, refl, sym, ap, ◌∙◌}
use Rattle.std.specs.Prelude.{◌↔◌, IsTrue, map, slice_get, All}
use Rattle.std.specs.Cmp.Lexicographic.{bytes_decides}
use Rattle.std.specs.List.{cons_option, filter_map, find}
use Rattle.std.specs.Option.{option_and_then, option_map, option_map_or, option_or}
use Rattle.std.proofs.lemmas.Bool.Decides.{same_from_decides}
use Rattle.std.proofs.lemmas.List.Elements.{All-map}
use Rattle.std.proofs.lemmas.List.Concat.{flat_map-cons}
use Rattle.std.proofs.lemmas.List.Folds.{find-append}
use Rattle.dp_pattern.specs.Matches.{Matches}
use Rattle.dp_pattern.specs.Name.{Meaning, IsName, meaning_of}
use Rattle.dp_pattern.specs.Spelling.{spelling}
use Rattle.dp_pattern.proofs.SpellingLemmas.{spelled_again}
use Rattle.dp_pattern.proofs.WalkLemmas.{walk_decides_match}
use Rattle.dp_plan.specs.Contexts.{PlanContext, AreNamed}
use Rattle.dp_plan.specs.Extensions.{same_name}
use Rattle.dp_plan.specs.Lookup.{entry_at}
use Rattle.dp_plan.specs.Plan.{PlanOf}
use Rattle.dp_plan.specs.Ranking.{AreApart}
use Rattle.dp_plan.specs.declared.entry.Entry.{Entry}
use Rattle.dp_plan.specs.declared.entry.EntryId.{EntryId}
use Rattle.dp_lookup.specs.FoundEntry.{has_priority, matches_name, passes, found_by, found_entry}
use Rattle.dp_lookup.proofs.RankedLemmas.{first_is_least}
use Rattle.dp_audit.specs.Candidates.{have_one_name, to_first, extensions, first_size, is_matched, has_number, by_priority, matching_of, matching_in, ranked_of, all_matching, answer_of, same_id, candidate_of, answers, is_answer, IsOfAnswer}
use Rattle.dp_audit.specs.declared.candidate.Candidate.{Candidate}
use Rattle.dp_audit.specs.declared.candidate.Matching.{Matching}
use Rattle.dp_audit.specs.declared.candidate.Verdict.{Verdict}
use Rattle.dp_audit.specs.declared.candidate.Verdict.TheVariants.{Answers, LessSpecific, LaterContext, NoSuchPriority}
use Rattle.dp_audit.proofs.CandidatesOrder.{all_at, ranked_is_ranking}

-- a test that decides whether the text matches the entry's name
pub matched_at : (plan : PlanOf) (text : List ℕ) (id : EntryId) (entry : Entry) (r : Bool) → Some entry ≡ entry_at plan id → IsTrue r ↔ Matches entry.name text → r ≡ is_matched plan text id
matched_at plan text id entry r here decides =
    same_from_decides r (matches_name entry.name text) decides (walk_decides_match entry.name text)
    ∙ ap (λ o. option_map_or (λ (e : Entry). matches_name e.name text) o false) here

-- ---- the first extension

-- the size of the first extension at a place, given the place's name and the next
pub first_size-at : (plan : PlanOf) (ids : List EntryId) (place : ℕ) (d : EntryId) → suc place < length ids → first_size plan (drop place ids) ≡ cond (have_one_name plan (get_or ids place d) (get_or ids (suc place) d)) (1 + first_size plan (drop (suc place) ids)) 1
first_size-at plan [] place d within = absurd (omega (arith, within))
first_size-at plan (x ∷ []) place d within = absurd (omega (arith, within))
first_size-at plan (x ∷ y ∷ ids) zero d within = refl
first_size-at plan (x ∷ y ∷ ids) (suc place) d within = first_size-at plan (y ∷ ids) place d (omega (arith, within))

pub first_size-last : (plan : PlanOf) (ids : List EntryId) (place : ℕ) → suc place ≡ length ids → first_size plan (drop place ids) ≡ 1
first_size-last plan [] place last = absurd (omega (arith, last))
first_size-last plan (x ∷ []) zero last = refl
first_size-last plan (x ∷ y ∷ ids) zero last = absurd (omega (arith, last))
first_size-last plan (x ∷ []) (suc place) last = absurd (omega (arith, last))
first_size-last plan (x ∷ y ∷ ids) (suc place) last = first_size-last plan (y ∷ ids) place (omega (arith, last))

-- the first extension of the last entry ends where the entries end
pub first_size-whole : (plan : PlanOf) (ids : List EntryId) (place : ℕ) → place ≡ length ids - 1 → place + first_size plan (drop place ids) ≡ length ids
first_size-whole plan [] zero e = refl
first_size-whole plan [] (suc place) e = absurd (omega (arith, e))
first_size-whole plan (x ∷ ids) place e =
    let last : suc place ≡ length (x ∷ ids) = omega (arith, e) in
    omega (arith, e, first_size-last plan (x ∷ ids) place last)

-- the first extension is not empty, and no longer than all
pub first_size-some : (plan : PlanOf) (ids : List EntryId) → 0 < length ids → 0 < first_size plan ids
first_size-some plan [] some = absurd (omega (arith, some))
first_size-some plan (id ∷ []) some = omega arith
first_size-some plan (id ∷ next ∷ ids) some = by (have_one_name plan id next) where
  by : (t : Bool) → 0 < cond t (1 + first_size plan (next ∷ ids)) 1
  by true = omega arith
  by false = omega arith

pub first_size-most : (plan : PlanOf) (ids : List EntryId) → first_size plan ids ≤ length ids
first_size-most plan [] = omega arith
first_size-most plan (id ∷ []) = omega arith
first_size-most plan (id ∷ next ∷ ids) = by (have_one_name plan id next) (first_size-most plan (next ∷ ids)) where
  by : (t : Bool) → first_size plan (next ∷ ids) ≤ length (next ∷ ids) → cond t (1 + first_size plan (next ∷ ids)) 1 ≤ length (id ∷ next ∷ ids)
  by true rest = omega (arith, rest)
  by false rest = omega arith

-- the extensions are the first and those of the entries after it
pub extensions-split : (plan : PlanOf) (ids : List EntryId) → 0 < length ids → extensions plan ids ≡ take (first_size plan ids) ids ∷ extensions plan (drop (first_size plan ids) ids)
extensions-split plan [] some = absurd (omega (arith, some))
extensions-split plan (id ∷ []) some = refl
extensions-split plan (id ∷ next ∷ ids) some = by (have_one_name plan id next) (extensions-split plan (next ∷ ids) (omega arith)) where
  by : (t : Bool) → extensions plan (next ∷ ids) ≡ take (first_size plan (next ∷ ids)) (next ∷ ids) ∷ extensions plan (drop (first_size plan (next ∷ ids)) (next ∷ ids))
      → cond t (to_first id (extensions plan (next ∷ ids))) ((id ∷ []) ∷ extensions plan (next ∷ ids))
      ≡ take (cond t (1 + first_size plan (next ∷ ids)) 1) (id ∷ next ∷ ids) ∷ extensions plan (drop (cond t (1 + first_size plan (next ∷ ids)) 1) (id ∷ next ∷ ids))
  by true rest =
      ap (to_first id) rest
      ∙ (λ i. take (sym (one-add (first_size plan (next ∷ ids))) i) (id ∷ next ∷ ids) ∷ extensions plan (drop (sym (one-add (first_size plan (next ∷ ids))) i) (id ∷ next ∷ ids)))
  by false rest = refl

-- the extensions that match among ranked entries, given the first extension and the entries after it
pub matching_in-split : (plan : PlanOf) (text : List ℕ) (priority : ℕ) (ids extension after : List EntryId) → extensions plan ids ≡ extension ∷ extensions plan after → matching_in plan text priority ids ≡ cons_option (matching_of plan text priority extension) (matching_in plan text priority after)
matching_in-split plan text priority ids extension after split = ap (filter_map (matching_of plan text priority)) split

-- ---- the one that answers

module _ (plan : PlanOf) (text : List ℕ) (priority : ℕ) where
  abbrev test : EntryId → Bool
  test = passes plan (has_priority text priority)

  -- the entry that answers, among these extensions
  abbrev answer_in : List (List EntryId) → Option EntryId
  answer_in list = answer_of (filter_map (matching_of plan text priority) list)

  passes-both : (id : EntryId) → (is_matched plan text id && has_number plan priority id) ≡ test id
  passes-both id = by (entry_at plan id) where
    by : (o : Option Entry) → (option_map_or (λ (e : Entry). matches_name e.name text) o false && option_map_or (λ (e : Entry). e.priority == priority) o false) ≡ option_map_or (has_priority text priority) o false
    by None = refl
    by (Some entry) = refl

  -- an extension of one entry
  answer_in-single : (id : EntryId) (list : List (List EntryId)) → answer_in ((id ∷ []) ∷ list) ≡ cond (test id) (Some id) (answer_in list)
  answer_in-single id list = by (is_matched plan text id) (has_number plan priority id) ∙ ap (λ t. cond t (Some id) (answer_in list)) (passes-both id) where
    by : (m p : Bool) → answer_of (cons_option (cond m (Some (by_priority id (cond p (Some id) None))) None) (filter_map (matching_of plan text priority) list)) ≡ cond (m && p) (Some id) (answer_in list)
    by true true = refl
    by true false = refl
    by false p = refl

  -- an extension with one more entry at its front
  answer_in-more : (id next : EntryId) (ids : List EntryId) (list : List (List EntryId)) → is_matched plan text id ≡ is_matched plan text next → answer_in ((id ∷ next ∷ ids) ∷ list) ≡ cond (test id) (Some id) (answer_in ((next ∷ ids) ∷ list))
  answer_in-more id next ids list same =
      by (is_matched plan text id) (is_matched plan text next) same (has_number plan priority id) (find (has_number plan priority) (next ∷ ids))
      ∙ ap (λ t. cond t (Some id) (answer_in ((next ∷ ids) ∷ list))) (passes-both id)
    where
      rest : List Matching
      rest = filter_map (matching_of plan text priority) list

      by : (m n : Bool) → m ≡ n → (p : Bool) (found : Option EntryId)
          → answer_of (cons_option (cond m (Some (by_priority id (cond p (Some id) found))) None) (filter_map (matching_of plan text priority) list))
          ≡ cond (m && p) (Some id) (answer_of (cons_option (cond n (Some (by_priority next found)) None) (filter_map (matching_of plan text priority) list)))
      by true true e true found = refl
      by true true e false None = refl
      by true true e false (Some x) = refl
      by true false e p found = absurd cc
      by false true e p found = absurd cc
      by false false e p found = refl

  -- the first of the extensions begins with the first entry
  starts : (id : EntryId) (ids : List EntryId) → (more : List EntryId) × (others : List (List EntryId)) × (extensions plan (id ∷ ids) ≡ (id ∷ more) ∷ others)
  starts id [] = ([], [], refl)
  starts id (next ∷ ids) = by (have_one_name plan id next) (extensions plan (next ∷ ids)) where
    by : (t : Bool) (list : List (List EntryId)) → (more : List EntryId) × (others : List (List EntryId)) × (cond t (to_first id list) ((id ∷ []) ∷ list) ≡ (id ∷ more) ∷ others)
    by true [] = ([], [], refl)
    by true (extension ∷ list) = (extension, list, refl)
    by false list = ([], list, refl)

  -- each name is one that some text means
  module _ (named : (id : EntryId) (entry : Entry) → entry_at plan id ≡ Some entry → IsName entry.name) where
    one_meaning : (a b : Meaning) → IsName a → IsName b → same_name a b ≡ true → a ≡ b
    one_meaning a b named_a named_b same =
        let read_a = spelled_again a named_a in
        let read_b = spelled_again b named_b in
        let spelled = ap meaning_of ((bytes_decides (spelling a) (spelling b)).0 same) in
        cc

    -- entries with one name match alike
    matched_alike : (a b : EntryId) → have_one_name plan a b ≡ true → is_matched plan text a ≡ is_matched plan text b
    matched_alike a b same = by (entry_at plan a) refl (entry_at plan b) refl same where
      by : (o : Option Entry) → entry_at plan a ≡ o → (p : Option Entry) → entry_at plan b ≡ p → option_map_or (λ (x : Entry). option_map_or (λ (y : Entry). same_name x.name y.name) p false) o false ≡ true
          → option_map_or (λ (e : Entry). matches_name e.name text) o false ≡ option_map_or (λ (e : Entry). matches_name e.name text) p false
      by None here p there same = absurd (true≢false (sym same))
      by (Some x) here None there same = absurd (true≢false (sym same))
      by (Some x) here (Some y) there same = ap (λ name. matches_name name text) (one_meaning x.name y.name (named a x here) (named b y there) same)

    -- the one that answers is the first entry with the priority whose name matches
    answer_in-extensions : (ids : List EntryId) → answer_in (extensions plan ids) ≡ find test ids
    answer_in-extensions [] = refl
    answer_in-extensions (id ∷ []) = answer_in-single id []
    answer_in-extensions (id ∷ next ∷ ids) = by (have_one_name plan id next) refl (starts next ids) (answer_in-extensions (next ∷ ids)) where
      by : (t : Bool) → have_one_name plan id next ≡ t → (more : List EntryId) × (others : List (List EntryId)) × (extensions plan (next ∷ ids) ≡ (next ∷ more) ∷ others)
          → answer_in (extensions plan (next ∷ ids)) ≡ find test (next ∷ ids)
          → answer_in (cond t (to_first id (extensions plan (next ∷ ids))) ((id ∷ []) ∷ extensions plan (next ∷ ids))) ≡ cond (test id) (Some id) (find test (next ∷ ids))
      by true e (more, others, begins) rest =
          ap (λ list. answer_in (to_first id list)) begins
          ∙ (answer_in-more id next more others (matched_alike id next e)
          ∙ ap (cond (test id) (Some id)) (ap answer_in (sym begins) ∙ rest))
      by false e shape rest = answer_in-single id (extensions plan (next ∷ ids)) ∙ ap (cond (test id) (Some id)) rest

answer_of-append : (xs ys : List Matching) → answer_of (xs ++ ys) ≡ option_or (answer_of xs) (answer_of ys)
answer_of-append xs ys = ap (option_map (λ (m : Matching). m.id)) (find-append (λ (m : Matching). m.has_priority) xs ys) ∙ by (find (λ (m : Matching). m.has_priority) xs) where
  by : (o : Option Matching) → option_map (λ (m : Matching). m.id) (option_or o (find (λ (m : Matching). m.has_priority) ys)) ≡ option_or (option_map (λ (m : Matching). m.id) o) (answer_of ys)
  by None = refl
  by (Some m) = refl

module _ (plan : PlanOf) (named : All (λ (context : PlanContext). AreNamed context.entries) plan.contexts) (apart : All (λ (context : PlanContext). AreApart context.entries) plan.contexts) where
  named_at : (id : EntryId) (entry : Entry) → entry_at plan id ≡ Some entry → IsName entry.name
  named_at id entry there = by (slice_get plan.contexts id.context) refl there where
    by : (o : Option PlanContext) → slice_get plan.contexts id.context ≡ o → option_and_then (λ (c : PlanContext). slice_get c.entries id.entry) o ≡ Some entry → IsName entry.name
    by None here there = absurd cc
    by (Some context) here there = all_at (λ (e : Entry). IsName e.name) context.entries id.entry entry (all_at (λ (c : PlanContext). AreNamed c.entries) plan.contexts id.context context named here) there

  -- the one that answers, among the contexts of a search order, is what a look-up finds
  found-all_matching : (order text : List ℕ) (priority : ℕ) → answer_of (all_matching plan order text priority) ≡ found_by plan (has_priority text priority) order
  found-all_matching [] text priority = refl
  found-all_matching (number ∷ order) text priority =
      let here = matching_in plan text priority (ranked_of plan number) in
      let first = answer_in-extensions plan text priority named_at (ranked_of plan number) ∙ first_is_least plan (has_priority text priority) number (ranked_of plan number) (ranked_is_ranking plan apart number) in
      ap answer_of (flat_map-cons (λ (n : ℕ). matching_in plan text priority (ranked_of plan n)) number order)
      ∙ (answer_of-append here (all_matching plan order text priority)
      ∙ (λ i. option_or (first i) (found-all_matching order text priority i)))

  pub answer-found : (order text : List ℕ) (priority : ℕ) → answer_of (all_matching plan order text priority) ≡ found_entry plan order text priority
  unfolding found_entry
  answer-found order text priority = found-all_matching order text priority

-- ---- what decides

and_parts : (a b : Bool) → (a && b) ≡ true → (a ≡ true) × (b ≡ true)
and_parts true b e = (refl, e)
and_parts false b e = absurd cc

pub same_id-same : (a b : EntryId) → same_id a b ≡ true → a ≡ b
same_id-same a b e =
    let parts = and_parts (a.context == b.context) (a.entry == b.entry) e in
    let contexts = eqb-true a.context b.context parts.0 in
    let entries = eqb-true a.entry b.entry parts.1 in
    λ i. record { context = contexts i; entry = entries i }

pub same_id-itself : (a : EntryId) → same_id a a ≡ true
same_id-itself a = λ i. eq-eqb a.context a.context refl i && eq-eqb a.entry a.entry refl i

-- the first candidate that answers is that of the entry that answers
pub answer-candidate_of : (answer : Option EntryId) (list : List Matching) → answer_of list ≡ answer → option_map (λ (c : Candidate). c.id) (find answers (map (candidate_of answer) list)) ≡ answer
answer-candidate_of answer [] e = e
answer-candidate_of answer (m ∷ list) e = by (cond (option_map_or (λ (found : EntryId). found.context == m.id.context) answer false) LessSpecific LaterContext) m.has_priority (answer-candidate_of answer list) e where
  has_same : Some m.id ≡ answer → option_map_or (λ (found : EntryId). same_id found m.id) answer false ≡ true
  has_same e = ap (λ o. option_map_or (λ (found : EntryId). same_id found m.id) o false) (sym e) ∙ same_id-itself m.id

  by : (other : Verdict) (t : Bool) → (answer_of list ≡ answer → option_map (λ (c : Candidate). c.id) (find answers (map (candidate_of answer) list)) ≡ answer)
      → option_map (λ (m : Matching). m.id) (cond t (Some m) (find (λ (m : Matching). m.has_priority) list)) ≡ answer
      → option_map (λ (c : Candidate). c.id) (cond (is_answer (cond t (cond (option_map_or (λ (found : EntryId). same_id found m.id) answer false) Answers other) NoSuchPriority)) (Some (candidate_of answer m)) (find answers (map (candidate_of answer) list))) ≡ answer
  by other false rest e = rest e
  by other true rest e = ap (λ s. option_map (λ (c : Candidate). c.id) (cond (is_answer (cond s Answers other)) (Some (candidate_of answer m)) (find answers (map (candidate_of answer) list)))) (has_same e) ∙ e

-- only the entry that answers has this verdict
pub only-candidate_of : (answer : Option EntryId) (list : List Matching) → All (IsOfAnswer answer) (map (candidate_of answer) list)
only-candidate_of answer list = All-map (IsOfAnswer answer) (candidate_of answer) list (λ k d below. only answer (get_or list k d)) where
  differ : (t : Bool) → cond t LessSpecific LaterContext ≡ Answers → ⊥
  differ true e = absurd cc
  differ false e = absurd cc

  found_only : (found : EntryId) (m : Matching) (s c : Bool) → same_id found m.id ≡ s → cond s Answers (cond c LessSpecific LaterContext) ≡ Answers → Some found ≡ Some m.id
  found_only found m true c same e = ap Some (same_id-same found m.id same)
  found_only found m false c same e = absurd (differ c e)

  by : (answer : Option EntryId) (m : Matching) (t : Bool) → cond t (cond (option_map_or (λ (found : EntryId). same_id found m.id) answer false) Answers (cond (option_map_or (λ (found : EntryId). found.context == m.id.context) answer false) LessSpecific LaterContext)) NoSuchPriority ≡ Answers → answer ≡ Some m.id
  by answer m false e = absurd cc
  by None m true e = absurd cc
  by (Some found) m true e = found_only found m (same_id found m.id) (found.context == m.id.context) refl e

  only : (answer : Option EntryId) (m : Matching) → IsOfAnswer answer (candidate_of answer m)
  only answer m = λ e. by answer m m.has_priority e
