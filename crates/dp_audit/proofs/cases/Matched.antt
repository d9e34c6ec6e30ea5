-- Extensions that match, and what decides about each, computed from the definitions themselves.
use Rattle.std.proofs.Common.{◌≡◌, ℕ, List, [], ◌∷◌, None, refl}
use Rattle.std.specs.Prelude.{codes}
use Rattle.dp_pattern.specs.Name.{Meaning, Plain, Pattern}
use Rattle.dp_pattern.specs.Order.{name_cmp}
use Rattle.dp_pattern.specs.Spelling.{spelling}
use Rattle.dp_pattern.specs.declared.tail.Tail.TheVariants.{End, Dot}
use Rattle.dp_plan.specs.Plan.{PlanOf}
use Rattle.dp_plan.specs.declared.entry.Entry.{Entry}
use Rattle.dp_plan.specs.declared.entry.EntryId.{EntryId}
use Rattle.dp_lookup.specs.FoundEntry.{found_entry}
use Rattle.dp_audit.specs.Candidates.{ranked_of, extensions, candidates_of}
use Rattle.dp_audit.specs.declared.candidate.Candidate.{Candidate}
use Rattle.dp_audit.specs.declared.candidate.Verdict.{Verdict}
use Rattle.dp_audit.specs.declared.candidate.Verdict.TheVariants.{Answers, LessSpecific, LaterContext, NoSuchPriority}

-- an entry with this name and priority
abbrev entry_of : Meaning → ℕ → Entry
entry_of name priority = record { name = name; priority = priority; label = None; application = codes "NoOp"; arguments = [] }

-- the entry with this number in the context with that one
abbrev id_of : ℕ → ℕ → EntryId
id_of context entry = record { context = context; entry = entry }

abbrev candidate_of : ℕ → ℕ → Verdict → Candidate
candidate_of context entry verdict = record { id = id_of context entry; verdict = verdict }

abbrev one_to_three : List ℕ
one_to_three = codes "123"

-- the first context has `_1[1-3][1-3]` and then `111`, whose priorities are in the wrong order; it includes the second, which has any name
-- of two characters or more
abbrev office : PlanOf
office = record {
  globals = [];
  contexts =
      (record {
        name = codes "phones";
        entries =
            entry_of (Pattern (codes "1" ∷ one_to_three ∷ one_to_three ∷ []) End) 1
            ∷ entry_of (Plain (codes "111")) 2
            ∷ entry_of (Plain (codes "111")) 1 ∷ [];
        includes = codes "rest" ∷ [];
      })
      ∷ (record {
        name = codes "rest";
        entries = entry_of (Pattern (one_to_three ∷ []) Dot) 1 ∷ entry_of (Pattern (one_to_three ∷ []) Dot) 2 ∷ [];
        includes = [];
      })
      ∷ [];
}

abbrev both_contexts : List ℕ
both_contexts = 0 ∷ 1 ∷ []

ranked-office : ranked_of office 0 ≡ id_of 0 2 ∷ id_of 0 1 ∷ id_of 0 0 ∷ []
unfolding ranked_of name_cmp
ranked-office = refl

ranked-unknown : ranked_of office 9 ≡ []
unfolding ranked_of
ranked-unknown = refl

extensions-office : extensions office (ranked_of office 0) ≡ (id_of 0 2 ∷ id_of 0 1 ∷ []) ∷ (id_of 0 0 ∷ []) ∷ []
unfolding ranked_of name_cmp spelling
extensions-office = refl

-- a plain name before a pattern, and a context before a later one
candidates-plain_first : candidates_of office both_contexts (codes "1-11") 1
    ≡ candidate_of 0 2 Answers ∷ candidate_of 0 0 LessSpecific ∷ candidate_of 1 0 LaterContext ∷ []
unfolding candidates_of found_entry ranked_of name_cmp spelling
candidates-plain_first = refl

-- a pattern that lacks the priority comes between them
candidates-lacking : candidates_of office both_contexts (codes "111") 2
    ≡ candidate_of 0 1 Answers ∷ candidate_of 0 0 NoSuchPriority ∷ candidate_of 1 1 LaterContext ∷ []
unfolding candidates_of found_entry ranked_of name_cmp spelling
candidates-lacking = refl

-- the first context lacks the priority, so a later one answers
candidates-later_answers : candidates_of office both_contexts (codes "123") 2
    ≡ candidate_of 0 0 NoSuchPriority ∷ candidate_of 1 1 Answers ∷ []
unfolding candidates_of found_entry ranked_of name_cmp spelling
candidates-later_answers = refl

-- an extension that lacks the priority is named by its entry of the lowest priority
candidates-none_has_it : candidates_of office both_contexts (codes "111") 3
    ≡ candidate_of 0 2 NoSuchPriority ∷ candidate_of 0 0 NoSuchPriority ∷ candidate_of 1 0 NoSuchPriority ∷ []
unfolding candidates_of found_entry ranked_of name_cmp spelling
candidates-none_has_it = refl

-- another order; a number without a context gives none
candidates-another_order : candidates_of office (9 ∷ 1 ∷ 0 ∷ []) (codes "123") 1
    ≡ candidate_of 1 0 Answers ∷ candidate_of 0 0 LaterContext ∷ []
unfolding candidates_of found_entry ranked_of name_cmp spelling
candidates-another_order = refl

candidates-no_name : candidates_of office both_contexts (codes "1") 1 ≡ []
unfolding candidates_of found_entry ranked_of name_cmp spelling
candidates-no_name = refl
