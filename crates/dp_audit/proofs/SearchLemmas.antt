-- The search for loops: what is known after one more walk, and at the end.
use Rattle.std.proofs.Common.{◌≡◌, ℕ, ◌<◌, ◌⊎◌, inl, inr, ◌↔◌, Bool, true, false, true≢false, List, [], ◌∷◌, if◌then◌else◌, Option, Some, None, option_and_then, arith, refl, sym, ap, subst, ◌∙◌}
use Rattle.std.specs.Prelude.{Contains}
use Rattle.std.specs.List.{range_with_len}
use Rattle.std.proofs.lemmas.Option.{none-some}
use Rattle.dp_lookup.specs.FoundEntry.{entries_at}
use Rattle.dp_lookup.specs.SearchOrder.{context_count}
use Rattle.dp_plan.specs.Lookup.{entry_at}
use Rattle.dp_plan.specs.Plan.{PlanOf}
use Rattle.dp_plan.specs.Ranking.{ids_of}
use Rattle.dp_plan.specs.declared.entry.Entry.{Entry}
use Rattle.dp_plan.specs.declared.entry.EntryId.{EntryId}
use Rattle.dp_audit.specs.Findings.{context_name}
use Rattle.dp_audit.specs.Loops.{IsLoop, ListsLoops, is_before, loop_of, successor, successor_by, loop_if, loops_by, loops_of_context}
use Rattle.dp_audit.specs.declared.loops.Loop.{Loop}
use Rattle.dp_audit.specs.steps.Marks.{Adds, AreSearched, HasRoom, Marks, Sees, if_unmarked, is_marked, mark_at, no_marks, with_mark}
use Rattle.dp_audit.specs.steps.Walks.{Closes, IsOpen, IsWalk}
use Rattle.dp_audit.proofs.FallThroughsLemmas.{Entered, context_there, element_cases, id_told, nothing_there, piece_of}
use Rattle.dp_audit.proofs.MarksLemmas.{mark_here, mark_kept, mark_only, mark_room, no_marks_room, none_marked, unmarked_left}
use Rattle.dp_audit.proofs.OrderOfFile.{is_before_one}
use Rattle.dp_audit.proofs.WalkLemmas.{closes_is_first, first_leads, searched_closed, searched_open}

-- ---- where a call goes

module _ (onward : List ℕ → Bool) (plan : PlanOf) where
  no_successor : (id : EntryId) → entry_at plan id ≡ None → successor onward plan id ≡ None
  no_successor id none =
      ap (option_and_then (λ (entry : Entry). successor_by onward plan (context_name plan id.context) entry entry.name)) none

  -- an entry from which a call goes on is one
  goes_from : (id next : EntryId) → successor onward plan id ≡ Some next → Entered plan id
  goes_from id next goes = by (entry_at plan id) refl
    where
      by : (o : Option Entry) → entry_at plan id ≡ o → Entered plan id
      by None is = absurd (none-some next (sym (no_successor id is) ∙ goes))
      by (Some entry) is = record { entry = entry; there = is }

  loop_there : (id : EntryId) → IsLoop onward plan id → Entered plan id
  loop_there id first =
      let leads = first_leads (successor onward plan) is_before id first in
      goes_from id leads.next leads.there

  marked_room : (marks : Marks) → HasRoom plan marks → (id : EntryId) → Entered plan id → is_marked (with_mark id marks) id ≡ true
  marked_room marks room id there = by (mark_at marks id) refl
    where
      by : (o : Option Bool) → mark_at marks id ≡ o → is_marked (with_mark id marks) id ≡ true
      by None is = absurd (none-some there.entry (sym (room id is) ∙ there.there))
      by (Some mark) is = mark_here id marks mark is

  -- ---- after a walk

  module _ (start : EntryId) (path : List EntryId) (end : Option EntryId) (old firsts new : Marks)
      (were : AreSearched onward plan old firsts) (walk : IsWalk (successor onward plan) start path end)
      (stop : if_unmarked new end ≡ None) (adds : Adds old path new) where
    stops : (id : EntryId) → end ≡ Some id → (is_marked new id ≡ true) ⊎ (successor onward plan id ≡ None)
    stops id is = elim (unmarked_left new id (ap (if_unmarked new) (sym is) ∙ stop)) [
      | inl here ↦ inl here
      | inr none ↦ inr (no_successor id (were.seen_room id (adds.room id none)))
    ]

    pub search_open : IsOpen path end → AreSearched onward plan new firsts
    search_open open_end = record {
      seen_room = λ id none. were.seen_room id (adds.room id none);
      firsts_room = were.firsts_room;
      searched = searched_open (successor onward plan) is_before (is_marked old) (is_marked firsts) (is_marked new) were.searched
          start path end walk adds.kept adds.taken adds.only stops open_end;
    }

    pub search_closed : (first : EntryId) → Closes is_before path end first → AreSearched onward plan new (with_mark first firsts)
    search_closed first closes =
        let loop = closes_is_first (successor onward plan) is_before start path end walk first closes in
        record {
          seen_room = λ id none. were.seen_room id (adds.room id none);
          firsts_room = λ id none. were.firsts_room id (mark_room first firsts id none);
          searched = searched_closed (successor onward plan) is_before (is_marked old) (is_marked firsts) (is_marked new) were.searched
              start path end walk adds.kept adds.taken adds.only stops is_before_one first closes (is_marked (with_mark first firsts))
              (λ id here. mark_kept first firsts id here) (marked_room firsts were.firsts_room first (loop_there first loop)) (λ id here. mark_only first firsts id here);
        }

    start_seen : (entry : Entry) → entry_at plan start ≡ Some entry → is_marked new start ≡ true
    start_seen entry there = by path walk adds
      where
        by : (path : List EntryId) → IsWalk (successor onward plan) start path end → Adds old path new → is_marked new start ≡ true
        by [] walk adds = elim (unmarked_left new start (ap (if_unmarked new) walk.last ∙ stop)) [
          | inl here ↦ here
          | inr none ↦ absurd (none-some entry (sym (were.seen_room start (adds.room start none)) ∙ there))
        ]
        by (id ∷ path) walk adds = adds.taken start (record { number = 0; late = omega arith; there = walk.each 0 (omega arith) })

    pub start_sees : Sees plan old new (λ id. id ≡ start)
    start_sees = record {
      kept = adds.kept;
      these = λ id entry there same. subst (λ (x : EntryId). is_marked new x ≡ true) (sym same)
          (start_seen entry (subst (λ (x : EntryId). entry_at plan x ≡ Some entry) same there));
    }

  -- ---- before all walks, and after them

  pub search_none : AreSearched onward plan (no_marks plan.contexts) (no_marks plan.contexts)
  search_none = record {
    seen_room = no_marks_room plan;
    firsts_room = no_marks_room plan;
    searched = record {
      closed = λ x y here there. absurd (true≢false (sym here ∙ none_marked plan x));
      sound = λ x here. absurd (true≢false (sym here ∙ none_marked plan x));
      complete = λ x here first. absurd (true≢false (sym here ∙ none_marked plan x));
    };
  }

  pub search_done : (old seen firsts : Marks) → AreSearched onward plan seen firsts → Sees plan old seen (λ id. id.context < context_count plan)
      → (id : EntryId) → (is_marked firsts id ≡ true) ↔ IsLoop onward plan id
  search_done old seen firsts are sees id = (
    are.searched.sound id,
    λ first. let there = loop_there id first in
        are.searched.complete id (sees.these id there.entry there.there (context_there plan id there.entry there.there)) first,
  )

-- ---- the list

-- an entry that is reported passes the test
told_passes : (test : EntryId → Bool) (other id : EntryId) → Contains (loop_if test other) (loop_of id) → test id ≡ true
told_passes test other id told = by (test other) refl told
  where
    by : (b : Bool) → test other ≡ b → Contains (if b then loop_of other ∷ [] else []) (loop_of id) → test id ≡ true
    by false is told = absurd (nothing_there (loop_of id) told)
    by true is told = elim (element_cases (loop_of other) [] (loop_of id) told) [
      | inl same ↦ subst (λ (x : EntryId). test x ≡ true) (ap (λ (told : Loop). told.first) same) is
      | inr later ↦ absurd (nothing_there (loop_of id) later)
    ]

-- the list has an entry of the dialplan exactly if it passes the test
told_decides : (test : EntryId → Bool) (plan : PlanOf) (id : EntryId) → (test id ≡ true → Entered plan id) → Contains (loops_by test plan) (loop_of id) ↔ (test id ≡ true)
told_decides test plan id entered = (
  λ told.
      let context = piece_of (loops_of_context test plan) (range_with_len 0 (context_count plan)) (loop_of id) told in
      let one = piece_of (loop_if test) (ids_of context.x (entries_at plan context.x)) (loop_of id) context.of in
      told_passes test one.x id one.of,
  λ passes. id_told plan (loop_if test) id (entered passes) (loop_of id)
      (subst (λ (b : Bool). Contains (if b then loop_of id ∷ [] else []) (loop_of id)) (sym passes) (0, omega arith, refl)),
)

-- the list has the first entry of each loop
pub listed_each : (onward : List ℕ → Bool) (plan : PlanOf) (loops : List Loop) → ListsLoops onward plan loops
    → (id : EntryId) → Contains loops (loop_of id) ↔ IsLoop onward plan id
listed_each onward plan loops lists id =
    let told = told_decides lists.test plan id (λ passes. loop_there onward plan id ((lists.decides id).0 passes)) in
    subst (λ (list : List Loop). Contains list (loop_of id) ↔ IsLoop onward plan id) (sym lists.listed)
    (λ among. (lists.decides id).0 (told.0 among), λ loop. told.1 ((lists.decides id).1 loop))
