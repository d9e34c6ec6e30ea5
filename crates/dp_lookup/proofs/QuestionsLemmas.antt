-- The code's condition for an entry is the test of that condition.
use Rattle.std.proofs.Common.{◌≡◌, ℕ, Bool, true, false, ◌&&◌, ◌==◌, eq-eqb, List, Some, refl, sym, ap, ◌∙◌, Bor}
use Rattle.std.specs.Prelude.{◌↔◌, IsTrue}
use Rattle.std.specs.Cmp.Lexicographic.{bytes_decides}
use Rattle.std.proofs.lemmas.Bool.Decides.{same_from_decides}
use Rattle.dp_pattern.specs.GoesOn.{GoesOn}
use Rattle.dp_pattern.specs.Matches.{Matches}
use Rattle.dp_pattern.specs.Name.{IsName}
use Rattle.dp_pattern.proofs.GoesOnLemmas.{going_on}
use Rattle.dp_pattern.proofs.MeaningLemmas.{name_means}
use Rattle.dp_pattern.proofs.WalkLemmas.{walk_decides_match}
use Rattle.dp_plan.specs.Plan.{shares_label}
use Rattle.dp_plan.specs.declared.entry.Entry.{Entry}
use Rattle.dp_lookup.specs.FoundEntry.{matches_name, goes_on_from}
use Rattle.dp_lookup.specs.steps.Questions.{asks}
use Rattle.dp_lookup.specs.declared.look_up.LookUp.{LookUp}
use Rattle.dp_lookup.specs.declared.look_up.LookUp.TheVariants.{Priority, Label, More}

and_so : (m t : Bool) → t ≡ true → m ≡ (m && t)
and_so true t e = sym e
and_so false t e = refl

-- a test that decides whether the text matches an entry with the priority
pub asks-priority : (question : LookUp) (number : ℕ) (text : List ℕ) (entry : Entry) (r : Bool) → question ≡ Priority number → entry.priority ≡ number → IsTrue r ↔ Matches entry.name text → r ≡ asks question text entry
asks-priority question number text entry r is same decides =
    same_from_decides r (matches_name entry.name text) decides (walk_decides_match entry.name text)
    ∙ (and_so (matches_name entry.name text) (entry.priority == number) (eq-eqb entry.priority number same)
    ∙ ap (λ q. asks q text entry) (sym is))

-- the same for an entry with the label
pub asks-label : (question : LookUp) (label : Bor (List ℕ)) (text : List ℕ) (entry : Entry) (r : Bool) → question ≡ Label label → entry.label ≡ Some label.now → IsTrue r ↔ Matches entry.name text → r ≡ asks question text entry
asks-label question label text entry r is same decides =
    same_from_decides r (matches_name entry.name text) decides (walk_decides_match entry.name text)
    ∙ (and_so (matches_name entry.name text) (shares_label entry.label (Some label.now))
    (ap (λ own. shares_label own (Some label.now)) same ∙ (bytes_decides label.now label.now).1 refl)
    ∙ ap (λ q. asks q text entry) (sym is))

-- a test that decides whether the name of an entry of priority 1 goes on
pub asks-more : (question : LookUp) (text : List ℕ) (entry : Entry) (r : Bool) → question ≡ More → entry.priority ≡ 1 → IsName entry.name → IsTrue r ↔ GoesOn entry.name text → r ≡ asks question text entry
asks-more question text entry r is same named decides =
    same_from_decides r (goes_on_from entry.name text) decides (going_on entry.name text (name_means entry.name named))
    ∙ (and_so (goes_on_from entry.name text) (entry.priority == 1) (eq-eqb entry.priority 1 same)
    ∙ ap (λ q. asks q text entry) (sym is))
