-- What is kept of the lines so far is their history.
use Rattle.std.proofs.Common.{◌≡◌, ℕ, Bool, true, false, cond, ◌&&◌, List, [], ◌∷◌, Option, Some, None, refl, ap, ◌∙◌}
use Rattle.std.specs.Option.{option_or, unwrap_or}
use Rattle.std.specs.Cmp.{IsEquivalence}
use Rattle.std.specs.Cmp.Lexicographic.{nat_list_eq_equiv}
use Rattle.std.proofs.lemmas.Cmp.{on_equiv}
use Rattle.dp_conf.specs.Words.{same_text}
use Rattle.dp_files.proofs.LookupLemmas.{both_equiv, lookup-insert_entry}
use Rattle.dp_files.specs.ContextHistory.{Said, Counts, LineHistoryOf, nearest, number_in, extension_in, hint_in, label_in, number_with, history_of}
use Rattle.dp_files.specs.ContextLines.{all_made, line_reading}
use Rattle.dp_files.specs.ContextSteps.{after, all_made_after, label_key, number_of_label, same_label, with_label}
use Rattle.dp_files.specs.declared.extension.WrittenExtension.{WrittenExtension}
use Rattle.dp_files.specs.declared.history.ExtensionLabel.{ExtensionLabel}
use Rattle.dp_files.specs.declared.line_reading.LineResult.{LineResult}

-- ---- labels

-- being the same label is an equivalence
pub same_label_equiv : IsEquivalence same_label
same_label_equiv =
    both_equiv (on_equiv (λ (e : ExtensionLabel). e.spelling) nat_list_eq_equiv) (on_equiv (λ (e : ExtensionLabel). e.label) nat_list_eq_equiv)

or_if : {X : Type 0} (t : Bool) (x : X) (o : Option X) → cond t (Some x) o ≡ option_or (cond t (Some x) None) o
or_if true x o = refl
or_if false x o = refl

-- the number of a label after a line with a number was added
label_added : (labels : List (ExtensionLabel × ℕ)) (extension : WrittenExtension) (number : ℕ) (own : Option (List ℕ)) (name label : List ℕ)
    → number_of_label (with_label labels extension.spelling number own) name label ≡ option_or (number_with name label extension number own) (number_of_label labels name label)
label_added labels extension number None name label = refl
label_added labels extension number (Some own) name label =
    lookup-insert_entry same_label same_label_equiv labels (label_key extension.spelling own) number (label_key name label)
    ∙ or_if (same_text name extension.spelling && same_text label own) number (number_of_label labels name label)

-- the history with these values
abbrev history_by : Option ℕ → Option WrittenExtension → Bool → List (ExtensionLabel × ℕ) → LineHistoryOf
history_by number extension after_hint labels = record {
  number = number;
  extension = extension;
  is_after_hint = after_hint;
  label = number_of_label labels;
}

-- the history after a line with a number was added
pub history_after_number : (last : Option ℕ) (before : Option WrittenExtension) (hint : Bool) (labels new_labels : List (ExtensionLabel × ℕ)) (extension : WrittenExtension) (number : ℕ) (own : Option (List ℕ))
    → new_labels ≡ with_label labels extension.spelling number own
    → history_by (Some number) (Some extension) false new_labels ≡ after (history_by last before hint labels) (Counts extension number own)
history_after_number last before hint labels new_labels extension number own same =
    ap (history_by (Some number) (Some extension) false) same
    ∙ (λ i. record {
      number = Some number;
      extension = Some extension;
      is_after_hint = false;
      label = λ name label. label_added labels extension number own name label i;
    })

-- ---- one more line

hint_kept : (a b : Option Bool) → unwrap_or (option_or a b) false ≡ unwrap_or a (unwrap_or b false)
hint_kept None b = refl
hint_kept (Some x) b = refl

-- the history of the lines before and one more
pub history_of-more : (line : Said) (before : List Said) → history_of (line ∷ before) ≡ after (history_of before) line
history_of-more line before = λ i. record {
  number = option_or (number_in line) (nearest number_in before);
  extension = option_or (extension_in line) (nearest extension_in before);
  is_after_hint = hint_kept (hint_in line) (nearest hint_in before) i;
  label = λ name label. option_or (label_in name label line) (nearest (label_in name label) before);
}

-- the results of lines, given the lines before them, are their results given the history of those
pub made_by_history : (before : List Said) (lines : List (ℕ × List ℕ)) → all_made before lines ≡ all_made_after (history_of before) lines
made_by_history before [] = refl
made_by_history before (line ∷ lines) =
    let said = (line_reading (history_of before) line.1).said in
    ap (λ (rest : List (ℕ × LineResult)). (line.0, (line_reading (history_of before) line.1).made) ∷ rest)
    (made_by_history (said ∷ before) lines ∙ ap (λ (history : LineHistoryOf). all_made_after history lines) (history_of-more said before))
