-- A table of places, into which entries are inserted in turn, has those that answer.
use Rattle.std.proofs.Common.{◌≡◌, Bool, true, false, cond, List, [], ◌∷◌, ◌++◌, sym, ◌∙◌}
use Rattle.std.proofs.lemmas.List.{append_assoc, append-nil}
use Rattle.std.proofs.lemmas.List.Sums.{fold-append}
use Rattle.indexmap.specs.IndexSet.{insert_all, insert_key}
use Rattle.dp_plan.specs.Plan.{kept_by}
use Rattle.dp_plan.specs.Ranking.{shares_place}
use Rattle.dp_plan.specs.declared.entry.Entry.{Entry}
use Rattle.dp_diff.specs.Answering.{has_place}

-- the places after those that were there before
inserted_after : (before entries : List Entry) → insert_all shares_place before entries ≡ before ++ kept_by has_place before entries
inserted_after before [] = sym (append-nil before)
inserted_after before (x ∷ xs) = by (inserted_after before xs) (inserted_after (before ++ x ∷ []) xs) (has_place before x) where
  by : insert_all shares_place before xs ≡ before ++ kept_by has_place before xs
      → insert_all shares_place (before ++ x ∷ []) xs ≡ (before ++ x ∷ []) ++ kept_by has_place (before ++ x ∷ []) xs
      → (taken : Bool) → insert_all shares_place (cond taken before (before ++ x ∷ [])) xs
      ≡ before ++ cond taken (kept_by has_place before xs) (x ∷ kept_by has_place (before ++ x ∷ []) xs)
  by without with_it true = without
  by without with_it false = with_it ∙ append_assoc before (x ∷ []) (kept_by has_place (before ++ x ∷ []) xs)

-- the places of entries, if there were none before
pub inserted_all : (entries : List Entry) → insert_all shares_place [] entries ≡ kept_by has_place [] entries
inserted_all entries = inserted_after [] entries

-- the places of more entries
pub inserted-append : (before first second : List Entry) → insert_all shares_place before (first ++ second) ≡ insert_all shares_place (insert_all shares_place before first) second
inserted-append before first second = fold-append (insert_key shares_place) before first second
