-- An entry whose place or label is taken gets a note, and any other entry is added.
use Rattle.std.proofs.Common.{◌≡◌, ℕ, Bool, true, false, cond, List, ◌++◌, ◌∷◌, [], Option, Some, None, refl, ap, ◌∙◌, sym}
use Rattle.std.specs.Option.{option_to_list}
use Rattle.dp_conf.specs.Words.{same_text}
use Rattle.dp_plan.specs.Contexts.{with_entry}
use Rattle.dp_conf.specs.Changes.{changed_at}
use Rattle.dp_plan.specs.steps.Draft.{Drafted, slot_of, label_of, is_slot_taken, is_marked, double_kind, take_place, with_note, empty_context, with_context, with_addition, with_inclusion, with_entry_of, with_include_of, with_item}
use Rattle.dp_plan.specs.steps.Numbers.{with_number}
use Rattle.dp_plan.specs.steps.Table.{IsFirstAt, Table, number_in}
use Rattle.dp_plan.specs.Extensions.{extension_of}
use Rattle.dp_plan.specs.Item.{Adds, Includes}
use Rattle.dp_plan.specs.declared.entry.Entry.{Entry}
use Rattle.dp_plan.specs.declared.note.NoteKind.{NoteKind}
use Rattle.dp_plan.specs.declared.note.NoteKind.TheVariants.{DoublePriority, DoubleLabel}

-- the draft with the note, or the draft with the entry
abbrev pub noted_or : Drafted → ℕ → Drafted → Option NoteKind → Drafted
noted_or d line with_item None = with_item
noted_or d line with_item (Some kind) = with_note d line kind

-- the draft with the place and the label of the entry taken
abbrev with_claim : Drafted → ℕ → Entry → Drafted
with_claim d number entry = record d {
  taken = d.taken ++ slot_of number entry ∷ [];
  labels = d.labels ++ option_to_list (label_of number entry);
}

-- the draft with the place and the label of the entry taken, and the entry
abbrev with_both : Drafted → ℕ → ℕ → ℕ → Entry → Drafted
with_both d line place number entry = record (with_claim d number entry) {
  contexts = changed_at (with_entry entry) place d.contexts;
  numbers = changed_at (with_number number) place d.numbers;
  lines = changed_at (with_number line) place d.lines;
}

pub noted_addition : (d : Drafted) (line place number : ℕ) (entry : Entry) (kind : NoteKind) → double_kind d (slot_of number entry) (label_of number entry) ≡ Some kind
    → with_addition d line place number entry ≡ with_note (take_place d (slot_of number entry) (label_of number entry)) line kind
noted_addition d line place number entry kind e =
    by (is_slot_taken d (slot_of number entry)) (is_marked d (label_of number entry)) e where
      by : (p l : Bool) → cond p (Some DoublePriority) (cond l (Some DoubleLabel) None) ≡ Some kind
          → cond p (with_note d line DoublePriority) (cond l (with_note d line DoubleLabel) (with_both d line place number entry)) ≡ with_note (cond p d (cond l d (with_claim d number entry))) line kind
      by true l same = ap (noted_or d line d) same
      by false true same = ap (noted_or d line d) same
      by false false same = absurd cc

pub kept_addition : (d : Drafted) (line place number : ℕ) (entry : Entry) → double_kind d (slot_of number entry) (label_of number entry) ≡ None
    → with_addition d line place number entry ≡ record (take_place d (slot_of number entry) (label_of number entry)) {
      contexts = changed_at (with_entry entry) place (take_place d (slot_of number entry) (label_of number entry)).contexts;
      numbers = changed_at (with_number number) place (take_place d (slot_of number entry) (label_of number entry)).numbers;
      lines = changed_at (with_number line) place (take_place d (slot_of number entry) (label_of number entry)).lines;
    }
kept_addition d line place number entry e =
    by (is_slot_taken d (slot_of number entry)) (is_marked d (label_of number entry)) e where
      added_to : Drafted → Drafted
      added_to made = record made {
        contexts = changed_at (with_entry entry) place made.contexts;
        numbers = changed_at (with_number number) place made.numbers;
        lines = changed_at (with_number line) place made.lines;
      }

      by : (p l : Bool) → cond p (Some DoublePriority) (cond l (Some DoubleLabel) None) ≡ None
          → cond p (with_note d line DoublePriority) (cond l (with_note d line DoubleLabel) (with_both d line place number entry)) ≡ added_to (cond p d (cond l d (with_claim d number entry)))
      by true l same = absurd cc
      by false true same = absurd cc
      by false false same = refl

-- a context whose name is among the names exists already
opened_before : (d : Drafted) (context : List ℕ) (place : ℕ) → IsFirstAt (same_text context) d.names place → with_context d context ≡ d
opened_before d context place stands = ap (λ t. cond t d (record d {
  names = d.names ++ context ∷ [];
  contexts = d.contexts ++ empty_context context ∷ [];
  numbers = d.numbers ++ [] ∷ [];
  lines = d.lines ++ [] ∷ [];
})) stands.there

-- so an entry is added at its place, given the number of its extension
pub added_open : (d : Drafted) (table : Table) (line place number : ℕ) (context : List ℕ) (entry : Entry) → IsFirstAt (same_text context) d.names place → number ≡ number_in table (extension_of context entry.name)
    → with_item d table (Adds line context entry) ≡ with_addition d line place number entry
added_open d table line place number context entry stands is =
    ap (λ (o : Drafted). with_entry_of o line context (number_in table (extension_of context entry.name)) entry) (opened_before d context place stands)
    ∙ (λ i. with_addition d line (sym stands.at i) (sym is i) entry)

-- and so is an include
pub included_open : (d : Drafted) (table : Table) (line place : ℕ) (context name : List ℕ) → IsFirstAt (same_text context) d.names place
    → with_item d table (Includes line context name) ≡ with_inclusion d line place name
included_open d table line place context name stands =
    ap (λ (o : Drafted). with_include_of o line context name) (opened_before d context place stands)
    ∙ (λ i. with_inclusion d line (sym stands.at i) name)
