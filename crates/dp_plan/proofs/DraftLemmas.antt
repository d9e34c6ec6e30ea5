-- The draft made by the items, one after another, is the dialplan of all of them.
use Rattle.std.proofs.Common.{◌≡◌, ℕ, suc, ◌+◌, Bool, true, false, cond, not, ◌&&◌, ◌||◌, ◌==◌, List, [], ◌∷◌, ◌++◌, Option, Some, None, map, fold, get_or, refl, ap, subst, ◌∙◌, sym, arith}
use Rattle.std.specs.List.{AllByRecursion, IsDistinct, list_any, filter_map, filter, flat_map, cons_option, position_or_len}
use Rattle.std.specs.Option.{option_map, option_to_list}
use Rattle.std.specs.Cmp.{IsEquivalence}
use Rattle.std.specs.Cmp.Lexicographic.{nat_list_eq_equiv}
use Rattle.std.proofs.lemmas.List.{append-nil, map-append}
use Rattle.std.proofs.lemmas.List.Elements.{filter_map-append, filter-append}
use Rattle.std.proofs.lemmas.List.Folds.{list_any-append, list_any_none}
use Rattle.std.proofs.lemmas.List.Sums.{fold-append}
use Rattle.std.proofs.lemmas.Grind.{flat_map-append}
use Rattle.std.proofs.lemmas.Map.Keys.{IsDistinct-push}
use Rattle.std.proofs.Math.Bool.{and-false}
use Rattle.std.proofs.Math.Seq.{append_snoc}
use Rattle.dp_conf.specs.Answers.{each_after}
use Rattle.dp_conf.specs.Words.{same_text}
use Rattle.dp_conf.proofs.AnswersLemmas.{each_after-push, snoc_from}
use Rattle.dp_conf.proofs.TextLemmas.{each-append, each-weaker}
use Rattle.dp_plan.specs.Contexts.{PlanContext, with_entry, with_include}
use Rattle.dp_plan.specs.Extensions.{extension_of, same_extension}
use Rattle.dp_plan.specs.steps.Loading.{MadeOf, nothing_made, after_item}
use Rattle.dp_plan.specs.steps.Reader.{ItemReading, nothing_read, after}
use Rattle.dp_plan.specs.steps.Table.{number_in}
use Rattle.dp_plan.specs.Plan.{Addition, Inclusion, KeptLine, of_one_extension, shares_label, is_place_taken, is_label_taken, is_taken, is_named, kept_by, added_in, included_in, context_in, global_in, kept_in, names_in, context_of, entry_line, kept_line, kept_lines, context_lines, entry_note, include_note, note_of, notes_of}
use Rattle.dp_plan.specs.steps.Numbers.{with_number}
use Rattle.dp_plan.specs.steps.Places.{same_slot}
use Rattle.dp_conf.specs.Changes.{changed_at}
use Rattle.dp_plan.specs.steps.Draft.{Drafted, same_marked, slot_of, label_of, with_context, is_marked, with_note, place_of, with_entry_of, with_include_of, with_item, remark_notes}
use Rattle.indexmap.specs.IndexMap.{insert_entry}
use Rattle.dp_plan.specs.declared.extension.Extension.{Extension}
use Rattle.dp_plan.specs.declared.taken_places.Slot.{Slot}
use Rattle.dp_plan.specs.declared.label.Label.{Label}
use Rattle.dp_plan.specs.declared.entry.Entry.{Entry}
use Rattle.dp_plan.specs.declared.plan.GlobalVariable.{GlobalVariable}
use Rattle.dp_plan.specs.declared.note.Note.{Note}
use Rattle.dp_plan.specs.declared.remark.Remark.{Remark}
use Rattle.dp_plan.specs.declared.remark.Remark.TheVariants.{Noted, Asks}
use Rattle.dp_plan.specs.declared.note.NoteKind.TheVariants.{DoublePriority, DoubleLabel, UnknownKey}
use Rattle.dp_plan.specs.declared.section.Section.TheVariants.{General, Globals, Context}
use Rattle.dp_plan.specs.Item.{Item, Begins, Sets, Adds, Includes, Unknown}
use Rattle.dp_plan.proofs.HistoryLemmas.{reading_of}
use Rattle.dp_plan.proofs.PositionLemmas.{or_true, or_right}
use Rattle.dp_plan.proofs.TableLemmas.{is_known, known-kept, known-with_priority, number-kept, number-with_priority, same_number}

-- the list with one more element, unless that is taken
abbrev pub more_by : {X : Type 0} → (List X → X → Bool) → List X → Option X → List X
more_by taken kept None = kept
more_by taken kept (Some x) = kept ++ cond (taken kept x) [] (x ∷ [])

kept_by-push : {X : Type 0} (taken : List X → X → Bool) (before xs : List X) (x : X) → kept_by taken before (xs ++ x ∷ []) ≡ kept_by taken before xs ++ cond (taken (before ++ kept_by taken before xs) x) [] (x ∷ [])
kept_by-push {X} taken before [] x = ap (λ (b : List X). cond (taken b x) [] (x ∷ [])) (sym (append-nil before))
kept_by-push {X} taken before (y ∷ ys) x =
    elim (taken before y) as (λ t. cond t (kept_by taken before (ys ++ x ∷ [])) (y ∷ kept_by taken (before ++ y ∷ []) (ys ++ x ∷ [])) ≡ cond t (kept_by taken before ys) (y ∷ kept_by taken (before ++ y ∷ []) ys) ++ cond (taken (before ++ cond t (kept_by taken before ys) (y ∷ kept_by taken (before ++ y ∷ []) ys)) x) [] (x ∷ [])) [
      | true ↦ kept_by-push taken before ys x
      | false ↦
          ap (λ (later : List X). y ∷ later) (kept_by-push taken (before ++ y ∷ []) ys x)
          ∙ ap (λ (b : List X). (y ∷ kept_by taken (before ++ y ∷ []) ys) ++ cond (taken b x) [] (x ∷ [])) (append_snoc before y (kept_by taken (before ++ y ∷ []) ys))
    ]

kept_by-option : {X : Type 0} (taken : List X → X → Bool) (xs : List X) (o : Option X) → kept_by taken [] (xs ++ cons_option o []) ≡ more_by taken (kept_by taken [] xs) o
kept_by-option taken xs None = ap (kept_by taken []) (append-nil xs)
kept_by-option taken xs (Some x) = kept_by-push taken [] xs x

pub kept_by-filter_map : {X Y : Type 0} (taken : List Y → Y → Bool) (h : X → Option Y) (xs : List X) (x : X) → kept_by taken [] (filter_map h (xs ++ x ∷ [])) ≡ more_by taken (kept_by taken [] (filter_map h xs)) (h x)
kept_by-filter_map taken h xs x = ap (kept_by taken []) (filter_map-append h xs (x ∷ [])) ∙ kept_by-option taken (filter_map h xs) (h x)

-- the remark on an item, given the items before it
abbrev pub remark_of : List Item → Item → List Remark
remark_of before (Begins section) = []
remark_of before (Sets global) = []
remark_of before (Adds line context entry) =
    map Noted (entry_note line (kept_in before) (record { context = context; entry = entry }))
remark_of before (Includes line context name) = Asks line name ∷ []
remark_of before (Unknown line) = Noted (record { line = line; kind = UnknownKey }) ∷ []

-- the remarks on the items
abbrev pub remarks_in : List Item → List Remark
remarks_in items = flat_map (λ remarks. remarks) (each_after remark_of [] items)

-- the remark on one more item comes last
remarks_in-push : (items : List Item) (x : Item) → remarks_in (items ++ x ∷ []) ≡ remarks_in items ++ remark_of items x
remarks_in-push items x =
    ap (flat_map (λ (remarks : List Remark). remarks)) (each_after-push remark_of [] items x)
    ∙ (flat_map-append (λ (remarks : List Remark). remarks) (each_after remark_of [] items) (remark_of items x ∷ [])
    ∙ ap (λ (more : List Remark). flat_map (λ (remarks : List Remark). remarks) (each_after remark_of [] items) ++ more) (append-nil (remark_of items x)))

-- the line of one more item comes last
pub kept_lines-push : (items : List Item) (x : Item) → kept_lines (items ++ x ∷ []) ≡ kept_lines items ++ kept_line items x
kept_lines-push items x =
    ap (flat_map (λ (lines : List KeptLine). lines)) (each_after-push kept_line [] items x)
    ∙ (flat_map-append (λ (lines : List KeptLine). lines) (each_after kept_line [] items) (kept_line items x ∷ [])
    ∙ ap (λ (more : List KeptLine). flat_map (λ (lines : List KeptLine). lines) (each_after kept_line [] items) ++ more) (append-nil (kept_line items x)))

-- remarks that are notes give those notes
remark_notes-noted : (names : List (List ℕ)) (notes : List Note) → flat_map (remark_notes names) (map Noted notes) ≡ notes
remark_notes-noted names [] = refl
remark_notes-noted names (note ∷ notes) = ap (λ (ns : List Note). note ∷ ns) (remark_notes-noted names notes)

-- the remarks on an item give its notes
remark_notes-one : (names : List (List ℕ)) (before : List Item) (x : Item) → flat_map (remark_notes names) (remark_of before x) ≡ note_of names before x
remark_notes-one names before (Begins section) = refl
remark_notes-one names before (Sets global) = refl
remark_notes-one names before (Adds line context entry) = remark_notes-noted names (entry_note line (kept_in before) (record { context = context; entry = entry }))
remark_notes-one names before (Includes line context name) = append-nil (include_note line names name)
remark_notes-one names before (Unknown line) = refl

remark_notes-each : (names : List (List ℕ)) (before items : List Item) → flat_map (remark_notes names) (flat_map (λ remarks. remarks) (each_after remark_of before items)) ≡ flat_map (λ notes. notes) (each_after (note_of names) before items)
remark_notes-each names before [] = refl
remark_notes-each names before (x ∷ items) =
    flat_map-append (remark_notes names) (remark_of before x) (flat_map (λ remarks. remarks) (each_after remark_of (before ++ x ∷ []) items))
    ∙ (λ i. remark_notes-one names before x i ++ remark_notes-each names (before ++ x ∷ []) items i)

-- the remarks on the items give their notes
pub remark_notes-notes : (items : List Item) → flat_map (remark_notes (names_in items)) (remarks_in items) ≡ notes_of items
unfolding notes_of
remark_notes-notes items = remark_notes-each (names_in items) [] items

-- extensions with their priorities
abbrev pub Priorities : Type 0
Priorities = List (Extension × ℕ)

-- the extension of an addition, and its number
abbrev extension_in : Addition → Extension
extension_in a = extension_of a.context a.entry.name

abbrev number_of : Priorities → Addition → ℕ
number_of es a = number_in es (extension_in a)

-- the slot and the label of an addition
abbrev slot_in : Priorities → Addition → Slot
slot_in es a = slot_of (number_of es a) a.entry

abbrev label_in : Priorities → Addition → Option Label
label_in es a = label_of (number_of es a) a.entry

-- the numbers of the extensions of the entries kept in the context with a name
abbrev pub numbers_of : Priorities → List Addition → List ℕ → List ℕ
numbers_of es kept name = map (number_of es) (filter (λ a. same_text name a.context) kept)

-- the extension of each addition is in the table
abbrev pub IsKnown : Priorities → List Addition → Type 0
IsKnown es kept = AllByRecursion (λ a. is_known es (extension_in a) ≡ true) kept

-- a draft with these extensions, global variables, names, kept entries and their lines, includes, and remarks
abbrev pub draft_of_parts : Priorities → List GlobalVariable → List (List ℕ) → List Addition → List KeptLine → List Inclusion → List Remark → Drafted
draft_of_parts es globals names kept lines included remarks = record {
  globals = globals;
  names = names;
  contexts = map (context_of kept included) names;
  numbers = map (numbers_of es kept) names;
  lines = map (context_lines lines) names;
  taken = map (slot_in es) kept;
  labels = filter_map (label_in es) kept;
  remarks = remarks;
}

-- the draft of the items
abbrev pub drafted_in : List Item → Drafted
drafted_in items = draft_of_parts (reading_of items).extensions (filter_map global_in items) (names_in items) (kept_in items) (kept_lines items) (filter_map included_in items) (remarks_in items)

-- every context of a kept entry, of its line, and of an include, has its name among the names
abbrev pub IsAllNamed : List (List ℕ) → List Addition → List KeptLine → List Inclusion → Type 0
IsAllNamed names kept lines included =
    AllByRecursion (λ (a : Addition). is_named names a.context ≡ true) kept × AllByRecursion (λ (l : KeptLine). is_named names l.context ≡ true) lines
    × AllByRecursion (λ (k : Inclusion). is_named names k.context ≡ true) included

-- equal texts are in the same lists
is_named-same : (names : List (List ℕ)) (a b : List ℕ) → same_text a b ≡ true → is_named names a ≡ is_named names b
is_named-same [] a b e = refl
is_named-same (n ∷ names) a b e =
    ap (λ t. t || is_named names a) (nat_list_eq_equiv.congr a b n e) ∙ ap (λ t. same_text b n || t) (is_named-same names a b e)

-- a context without a name in the list has no elements
filter-absent : {X : Type 0} (name_of : X → List ℕ) (names : List (List ℕ)) (xs : List X) (name : List ℕ) → is_named names name ≡ false
    → AllByRecursion (λ x. is_named names (name_of x) ≡ true) xs → filter (λ x. same_text name (name_of x)) xs ≡ []
filter-absent name_of names [] name absent named = refl
filter-absent {X} name_of names (x ∷ xs) name absent named =
    by named.0 (filter-absent name_of names xs name absent named.1) (same_text name (name_of x)) refl
  where
    by : is_named names (name_of x) ≡ true → filter (λ y. same_text name (name_of y)) xs ≡ [] → (t : Bool) → same_text name (name_of x) ≡ t
        → cond t (x ∷ filter (λ y. same_text name (name_of y)) xs) (filter (λ y. same_text name (name_of y)) xs) ≡ []
    by there rest true e =
        let same = is_named-same names name (name_of x) e in
        absurd cc
    by there rest false e = rest

-- a longer list of names contains the names of a shorter one
is_named-append : (names more : List (List ℕ)) (name : List ℕ) → is_named names name ≡ true → is_named (names ++ more) name ≡ true
is_named-append names more name e = list_any-append (same_text name) names more ∙ or_true (is_named names name) (is_named more name) e

pub is_named-last : (names : List (List ℕ)) (name : List ℕ) → is_named (names ++ name ∷ []) name ≡ true
is_named-last names name =
    list_any-append (same_text name) names (name ∷ [])
    ∙ or_right (is_named names name) (same_text name name || false) (or_true (same_text name name) false (nat_list_eq_equiv.refl name))

-- a name that was added is in the list
is_named-more : (names : List (List ℕ)) (name : List ℕ) → is_named (more_by is_named names (Some name)) name ≡ true
is_named-more names name = by (is_named names name) refl where
  by : (t : Bool) → is_named names name ≡ t → is_named (names ++ cond t [] (name ∷ [])) name ≡ true
  by true e = is_named-append names [] name e
  by false e = is_named-last names name

-- with one more name all contexts are still named
IsAllNamed-more : (names : List (List ℕ)) (kept : List Addition) (lines : List KeptLine) (included : List Inclusion) (name : List ℕ)
    → IsAllNamed names kept lines included → IsAllNamed (more_by is_named names (Some name)) kept lines included
IsAllNamed-more names kept lines included name named =
    let more : List (List ℕ) = cond (is_named names name) [] (name ∷ []) in (
      each-weaker (λ (a : Addition). is_named names a.context ≡ true) (λ (a : Addition). is_named (names ++ more) a.context ≡ true)
          (λ a. is_named-append names more a.context) kept named.0,
      each-weaker (λ (l : KeptLine). is_named names l.context ≡ true) (λ (l : KeptLine). is_named (names ++ more) l.context ≡ true)
          (λ l. is_named-append names more l.context) lines named.1,
      each-weaker (λ (k : Inclusion). is_named names k.context ≡ true) (λ (k : Inclusion). is_named (names ++ more) k.context ≡ true)
          (λ k. is_named-append names more k.context) included named.2,
    )

-- with one more element they stay distinct, if an element equal to one of them is taken
pub distinct-more : {X : Type 0} {eq : X → X → Bool} → IsEquivalence eq → (taken : List X → X → Bool)
    → ((kept : List X) (x : X) → taken kept x ≡ false → list_any (eq x) kept ≡ false)
    → (kept : List X) (o : Option X) → IsDistinct eq kept → IsDistinct eq (more_by taken kept o)
distinct-more laws taken free kept None distinct = distinct
distinct-more {X} {eq} laws taken free kept (Some x) distinct = by (taken kept x) refl where
  by : (t : Bool) → taken kept x ≡ t → IsDistinct eq (kept ++ cond t [] (x ∷ []))
  by true e = subst (IsDistinct eq) (sym (append-nil kept)) distinct
  by false e = IsDistinct-push laws kept x distinct (free kept x e)

names-more : (names : List (List ℕ)) (o : Option (List ℕ)) → IsDistinct same_text names → IsDistinct same_text (more_by is_named names o)
names-more = distinct-more nat_list_eq_equiv is_named (λ names name e. e)

-- ---- contexts that begin

-- the draft with a context that is new or exists already
with_context-is : (es : Priorities) (globals : List GlobalVariable) (names : List (List ℕ)) (kept : List Addition) (lines : List KeptLine) (included : List Inclusion) (remarks : List Remark) (name : List ℕ) → IsAllNamed names kept lines included → with_context (draft_of_parts es globals names kept lines included remarks) name ≡ draft_of_parts es globals (more_by is_named names (Some name)) kept lines included remarks
with_context-is es globals names kept lines included remarks name named = by (is_named names name) refl where
  before : Drafted
  before = draft_of_parts es globals names kept lines included remarks

  by : (t : Bool) → is_named names name ≡ t → cond t before (record before { names = names ++ name ∷ []; contexts = map (context_of kept included) names ++ (record { name = name; entries = []; includes = [] }) ∷ []; numbers = map (numbers_of es kept) names ++ [] ∷ []; lines = map (context_lines lines) names ++ [] ∷ [] }) ≡ draft_of_parts es globals (names ++ cond t [] (name ∷ [])) kept lines included remarks
  by true e = rw (append-nil names) refl
  by false e = rw (
    map-append (context_of kept included) names (name ∷ []),
    map-append (numbers_of es kept) names (name ∷ []),
    map-append (context_lines lines) names (name ∷ []),
    filter-absent (λ (a : Addition). a.context) names kept name e named.0,
    filter-absent (λ (l : KeptLine). l.context) names lines name e named.1,
    filter-absent (λ (k : Inclusion). k.context) names included name e named.2,
  ) refl

-- ---- a context that is changed

-- contexts with other names are unchanged
map-others : {C : Type 0} (make made : List ℕ → C) (context : List ℕ) (names : List (List ℕ)) (name : List ℕ)
    → ((n : List ℕ) → same_text n context ≡ false → made n ≡ make n) → same_text name context ≡ true
    → AllByRecursion (λ n. same_text name n ≡ false) names → map made names ≡ map make names
map-others make made context [] name other e apart = refl
map-others make made context (n ∷ names) name other e apart =
    let not_this : same_text n context ≡ false = nat_list_eq_equiv.symm n context ∙ (sym (nat_list_eq_equiv.congr name context n e) ∙ apart.0) in
    λ i. other n not_this i ∷ map-others make made context names name other e apart.1 i

-- a change of the context with one name is a change at the place of the name
map-changed : {C : Type 0} (make made : List ℕ → C) (change : C → C) (context : List ℕ) (names : List (List ℕ))
    → ((n : List ℕ) → same_text n context ≡ true → made n ≡ change (make n)) → ((n : List ℕ) → same_text n context ≡ false → made n ≡ make n)
    → IsDistinct same_text names → map made names ≡ changed_at change (position_or_len (same_text context) names) (map make names)
unfolding IsDistinct
map-changed make made change context [] this other distinct = refl
map-changed {C} make made change context (n ∷ names) this other distinct =
    by (map-changed make made change context names this other distinct.1) (same_text context n) refl
  where
    by : map made names ≡ changed_at change (position_or_len (same_text context) names) (map make names) → (t : Bool) → same_text context n ≡ t
        → map made (n ∷ names) ≡ changed_at change (cond (not t) (1 + position_or_len (same_text context) names) 0) (map make (n ∷ names))
    by later true e =
        let same : same_text n context ≡ true = nat_list_eq_equiv.symm n context ∙ e in
        λ i. this n same i ∷ map-others make made context names n other same distinct.0 i
    by later false e =
        let next : suc (position_or_len (same_text context) names) ≡ 1 + position_or_len (same_text context) names = omega arith in
        (λ i. other n (nat_list_eq_equiv.symm n context ∙ e) i ∷ later i) ∙ ap (λ place. changed_at change place (map make (n ∷ names))) next

-- the parts of the elements with a name, with one more element
parts-push : {X Y : Type 0} (key : X → List ℕ) (part : X → Y) (xs : List X) (x : X) (name : List ℕ) (t : Bool) → same_text name (key x) ≡ t
    → map part (filter (λ y. same_text name (key y)) (xs ++ x ∷ [])) ≡ map part (filter (λ y. same_text name (key y)) xs) ++ map part (cond t (x ∷ []) [])
parts-push key part xs x name t e =
    ap (map part) (filter-append (λ y. same_text name (key y)) xs (x ∷ []) ∙ ap (λ u. filter (λ y. same_text name (key y)) xs ++ cond u (x ∷ []) []) e)
    ∙ map-append part (filter (λ y. same_text name (key y)) xs) (cond t (x ∷ []) [])

-- one more entry is added to the context with its name
contexts-entry : (kept : List Addition) (included : List Inclusion) (a : Addition) (names : List (List ℕ)) → IsDistinct same_text names
    → map (context_of (kept ++ a ∷ []) included) names ≡ changed_at (with_entry a.entry) (position_or_len (same_text a.context) names) (map (context_of kept included) names)
contexts-entry kept included a names distinct =
    map-changed (context_of kept included) (context_of (kept ++ a ∷ []) included) (with_entry a.entry) a.context names
    (λ n e. ap (with_entries n) (pushed n true e))
    (λ n e. ap (with_entries n) (pushed n false e ∙ append-nil (context_of kept included n).entries)) distinct
  where
    with_entries : List ℕ → List Entry → PlanContext
    with_entries name entries = record (context_of kept included name) { entries = entries }

    pushed : (n : List ℕ) (t : Bool) → same_text n a.context ≡ t
        → (context_of (kept ++ a ∷ []) included n).entries ≡ (context_of kept included n).entries ++ map (λ x. x.entry) (cond t (a ∷ []) [])
    pushed = parts-push (λ (x : Addition). x.context) (λ (x : Addition). x.entry) kept a

-- one more number is added to those of the context of its entry
numbers-entry : (es : Priorities) (kept : List Addition) (a : Addition) (names : List (List ℕ)) → IsDistinct same_text names
    → map (numbers_of es (kept ++ a ∷ [])) names ≡ changed_at (with_number (number_of es a)) (position_or_len (same_text a.context) names) (map (numbers_of es kept) names)
numbers-entry es kept a names distinct =
    map-changed (numbers_of es kept) (numbers_of es (kept ++ a ∷ [])) (with_number (number_of es a)) a.context names
    (λ n e. pushed n true e)
    (λ n e. pushed n false e ∙ append-nil (numbers_of es kept n)) distinct
  where
    pushed : (n : List ℕ) (t : Bool) → same_text n a.context ≡ t
        → numbers_of es (kept ++ a ∷ []) n ≡ numbers_of es kept n ++ map (number_of es) (cond t (a ∷ []) [])
    pushed = parts-push (λ (x : Addition). x.context) (number_of es) kept a

-- one more line is added to those of the context of its entry
lines-entry : (lines : List KeptLine) (l : KeptLine) (names : List (List ℕ)) → IsDistinct same_text names
    → map (context_lines (lines ++ l ∷ [])) names ≡ changed_at (with_number l.line) (position_or_len (same_text l.context) names) (map (context_lines lines) names)
lines-entry lines l names distinct =
    map-changed (context_lines lines) (context_lines (lines ++ l ∷ [])) (with_number l.line) l.context names
    (λ n e. pushed n true e)
    (λ n e. pushed n false e ∙ append-nil (context_lines lines n)) distinct
  where
    pushed : (n : List ℕ) (t : Bool) → same_text n l.context ≡ t
        → context_lines (lines ++ l ∷ []) n ≡ context_lines lines n ++ map (λ x. x.line) (cond t (l ∷ []) [])
    pushed = parts-push (λ (x : KeptLine). x.context) (λ (x : KeptLine). x.line) lines l

-- one more include is added to the context with its name
contexts-include : (kept : List Addition) (included : List Inclusion) (k : Inclusion) (names : List (List ℕ)) → IsDistinct same_text names
    → map (context_of kept (included ++ k ∷ [])) names ≡ changed_at (with_include k.name) (position_or_len (same_text k.context) names) (map (context_of kept included) names)
contexts-include kept included k names distinct =
    map-changed (context_of kept included) (context_of kept (included ++ k ∷ [])) (with_include k.name) k.context names
    (λ n e. ap (with_includes n) (pushed n true e))
    (λ n e. ap (with_includes n) (pushed n false e ∙ append-nil (context_of kept included n).includes)) distinct
  where
    with_includes : List ℕ → List (List ℕ) → PlanContext
    with_includes name includes = record (context_of kept included name) { includes = includes }

    pushed : (n : List ℕ) (t : Bool) → same_text n k.context ≡ t
        → (context_of kept (included ++ k ∷ []) n).includes ≡ (context_of kept included n).includes ++ map (λ x. x.name) (cond t (k ∷ []) [])
    pushed = parts-push (λ (x : Inclusion). x.context) (λ (x : Inclusion). x.name) included k

-- ---- taken places and labels

-- the taken places, given the slots and the kept entries
is_slot_taken-is : (es : Priorities) (kept : List Addition) (a : Addition) → is_known es (extension_in a) ≡ true → IsKnown es kept → list_any (same_slot (slot_in es a)) (map (slot_in es) kept) ≡ is_place_taken kept a
is_slot_taken-is es [] a known all = refl
is_slot_taken-is es (k ∷ kept) a known all =
    let same = same_number es (extension_in a) (extension_in k) known all.0 in
    let rest = is_slot_taken-is es kept a known all.1 in
    λ i. (same i && a.entry.priority == k.entry.priority) || rest i

-- whether a label is taken, given the labels and the kept entries
marked-some : (es : Priorities) (kept : List Addition) (a : Addition) (label : List ℕ) → is_known es (extension_in a) ≡ true → IsKnown es kept → list_any (same_marked (record { extension = number_of es a; label = label })) (filter_map (label_in es) kept) ≡ list_any (λ b. of_one_extension a b && shares_label (Some label) b.entry.label) kept
marked-some es [] a label known all = refl
marked-some es (k ∷ kept) a label known all =
    by k.entry.label (same_number es (extension_in a) (extension_in k) known all.0) (marked-some es kept a label known all.1) where
      by : (o : Option (List ℕ)) → (number_of es a == number_of es k) ≡ of_one_extension a k
          → list_any (same_marked (record { extension = number_of es a; label = label })) (filter_map (label_in es) kept) ≡ list_any (λ b. of_one_extension a b && shares_label (Some label) b.entry.label) kept
          → list_any (same_marked (record { extension = number_of es a; label = label })) (cons_option (option_map (λ l. record { extension = number_of es k; label = l }) o) (filter_map (label_in es) kept)) ≡ ((of_one_extension a k && shares_label (Some label) o) || list_any (λ b. of_one_extension a b && shares_label (Some label) b.entry.label) kept)
      by None same rest = rest ∙ ap (λ t. t || list_any (λ b. of_one_extension a b && shares_label (Some label) b.entry.label) kept) (sym (and-false (of_one_extension a k)))
      by (Some l) same rest = λ i. (same i && same_text label l) || rest i

is_marked-is : (es : Priorities) (d : Drafted) (kept : List Addition) (a : Addition) → is_known es (extension_in a) ≡ true → IsKnown es kept → d.labels ≡ filter_map (label_in es) kept → is_marked d (label_in es a) ≡ is_label_taken kept a
is_marked-is es d kept a known all labels = by a.entry.label where
  by : (o : Option (List ℕ)) → is_marked d (option_map (λ l. record { extension = number_of es a; label = l }) o) ≡ list_any (λ b. of_one_extension a b && shares_label o b.entry.label) kept
  by None = sym (list_any_none (λ (b : Addition). of_one_extension a b && false) kept (λ i b within. and-false (of_one_extension a (get_or kept i b))))
  by (Some l) = ap (λ (ls : List Label). list_any (same_marked (record { extension = number_of es a; label = l })) ls) labels ∙ marked-some es kept a l known all

list-cons : {X : Type 0} (o : Option X) → option_to_list o ≡ cons_option o []
list-cons None = refl
list-cons (Some x) = refl

-- ---- one more entry or include

with_addition-is : (es : Priorities) (globals : List GlobalVariable) (names : List (List ℕ)) (kept : List Addition) (lines : List KeptLine) (included : List Inclusion) (remarks : List Remark) (line : ℕ) (a : Addition) → IsDistinct same_text names → is_known es (extension_in a) ≡ true → IsKnown es kept → with_entry_of (draft_of_parts es globals names kept lines included remarks) line a.context (number_of es a) a.entry ≡ draft_of_parts es globals names (more_by is_taken kept (Some a)) (lines ++ entry_line line kept a) included (remarks ++ map Noted (entry_note line kept a))
with_addition-is es globals names kept lines included remarks line a distinct known all =
    (λ i. choose (is_slot_taken-is es kept a known all i) (is_marked-is es before kept a known all refl i)) ∙ by (is_place_taken kept a) (is_label_taken kept a) where
      before : Drafted
      before = draft_of_parts es globals names kept lines included remarks

      choose : Bool → Bool → Drafted
      choose p l = cond p (with_note before line DoublePriority) (cond l (with_note before line DoubleLabel) (record before {
        contexts = changed_at (with_entry a.entry) (place_of before a.context) before.contexts;
        numbers = changed_at (with_number (number_of es a)) (place_of before a.context) before.numbers;
        lines = changed_at (with_number line) (place_of before a.context) before.lines;
        taken = map (slot_in es) kept ++ slot_in es a ∷ [];
        labels = filter_map (label_in es) kept ++ option_to_list (label_in es a);
      }))

      remark : Bool → Bool → List Remark
      remark p l = map Noted (cond p ((record { line = line; kind = DoublePriority }) ∷ []) (cond l ((record { line = line; kind = DoubleLabel }) ∷ []) []))

      own : KeptLine
      own = record { context = a.context; line = line }

      by : (p l : Bool) → choose p l ≡ draft_of_parts es globals names (kept ++ cond (p || l) [] (a ∷ [])) (lines ++ cond (p || l) [] (own ∷ [])) included (remarks ++ remark p l)
      by true l = rw (append-nil kept, append-nil lines) refl
      by false true = rw (append-nil kept, append-nil lines) refl
      by false false = rw (
        contexts-entry kept included a names distinct,
        numbers-entry es kept a names distinct,
        lines-entry lines own names distinct,
        map-append (slot_in es) kept (a ∷ []),
        filter_map-append (label_in es) kept (a ∷ []),
        list-cons (label_in es a),
        append-nil remarks,
      ) refl

with_inclusion-is : (es : Priorities) (globals : List GlobalVariable) (names : List (List ℕ)) (kept : List Addition) (lines : List KeptLine) (included : List Inclusion) (remarks : List Remark) (line : ℕ) (k : Inclusion) → IsDistinct same_text names → with_include_of (draft_of_parts es globals names kept lines included remarks) line k.context k.name ≡ draft_of_parts es globals names kept lines (included ++ k ∷ []) (remarks ++ Asks line k.name ∷ [])
with_inclusion-is es globals names kept lines included remarks line k distinct = rw (contexts-include kept included k names distinct) refl

-- ---- one more item

-- the table after an item
abbrev priorities_after : ItemReading → Item → Priorities
priorities_after reading x = (after reading x).extensions

-- two functions that agree on each element give the same list
map-alike : {X Y : Type 0} (f g : X → Y) (xs : List X) → AllByRecursion (λ x. f x ≡ g x) xs → map f xs ≡ map g xs
map-alike f g [] alike = refl
map-alike f g (x ∷ xs) alike = λ i. alike.0 i ∷ map-alike f g xs alike.1 i

filter_map-alike : {X Y : Type 0} (f g : X → Option Y) (xs : List X) → AllByRecursion (λ x. f x ≡ g x) xs → filter_map f xs ≡ filter_map g xs
filter_map-alike f g [] alike = refl
filter_map-alike f g (x ∷ xs) alike = λ i. cons_option (alike.0 i) (filter_map-alike f g xs alike.1 i)

-- what holds of each element holds of those that pass a test
pub each-filtered : {X : Type 0} (P : X → Type 0) (test : X → Bool) (xs : List X) → AllByRecursion P xs → AllByRecursion P (filter test xs)
each-filtered P test [] all = tt
each-filtered {X} P test (x ∷ xs) all = by (each-filtered P test xs all.1) (test x) where
  by : AllByRecursion P (filter test xs) → (t : Bool) → AllByRecursion P (cond t (x ∷ filter test xs) (filter test xs))
  by rest true = (all.0, rest)
  by rest false = rest

-- a line of an extension does not change the draft of the kept entries
draft_of_parts-written : (es : Priorities) (e : Extension) (v : ℕ) (globals : List GlobalVariable) (names : List (List ℕ)) (kept : List Addition) (lines : List KeptLine) (included : List Inclusion) (remarks : List Remark) → IsKnown es kept → draft_of_parts es globals names kept lines included remarks ≡ draft_of_parts (insert_entry same_extension es e v) globals names kept lines included remarks
draft_of_parts-written es e v globals names kept lines included remarks all = λ i. record {
  globals = globals;
  names = names;
  contexts = map (context_of kept included) names;
  numbers = map (λ name. numbered name i) names;
  lines = map (context_lines lines) names;
  taken = map-alike (slot_in es) (slot_in es') kept (each-weaker known (λ a. slot_in es a ≡ slot_in es' a) (λ a there. ap (λ n. slot_of n a.entry) (same a there)) kept all) i;
  labels = filter_map-alike (label_in es) (label_in es') kept (each-weaker known (λ a. label_in es a ≡ label_in es' a) (λ a there. ap (λ n. label_of n a.entry) (same a there)) kept all) i;
  remarks = remarks;
} where
  es' : Priorities
  es' = insert_entry same_extension es e v

  known : Addition → Type 0
  known a = is_known es (extension_in a) ≡ true

  same : (a : Addition) → known a → number_of es a ≡ number_of es' a
  same a there = sym (number-kept es e v (extension_in a) there)

  numbered : (name : List ℕ) → numbers_of es kept name ≡ numbers_of es' kept name
  numbered name =
      let ours : List Addition = filter (λ a. same_text name a.context) kept in
      map-alike (number_of es) (number_of es') ours
      (each-weaker known (λ a. number_of es a ≡ number_of es' a) same ours (each-filtered known (λ a. same_text name a.context) kept all))

-- the extensions of the kept entries stay known
known-all : (es : Priorities) (e : Extension) (v : ℕ) (kept : List Addition) → IsKnown es kept → IsKnown (insert_entry same_extension es e v) kept
known-all es e v kept all =
    each-weaker (λ a. is_known es (extension_in a) ≡ true) (λ a. is_known (insert_entry same_extension es e v) (extension_in a) ≡ true) (λ a. known-kept es e v (extension_in a)) kept all

-- one more item, given the parts of the draft
with_item-is : (reading : ItemReading) (globals : List GlobalVariable) (names : List (List ℕ)) (kept : List Addition) (lines : List KeptLine) (included : List Inclusion) (remarks : List Remark) (x : Item) → IsAllNamed names kept lines included → IsDistinct same_text names → IsKnown reading.extensions kept
    → (before : List Item) → kept_in before ≡ kept
    → with_item (draft_of_parts reading.extensions globals names kept lines included remarks) reading.extensions x ≡ draft_of_parts (priorities_after reading x) (globals ++ cons_option (global_in x) []) (more_by is_named names (context_in x)) (more_by is_taken kept (added_in x)) (lines ++ kept_line before x) (included ++ cons_option (included_in x) []) (remarks ++ remark_of before x)
with_item-is reading globals names kept lines included remarks (Begins General) named distinct all before same =
    rw (append-nil globals, append-nil lines, append-nil included, append-nil remarks) refl
with_item-is reading globals names kept lines included remarks (Begins Globals) named distinct all before same =
    rw (append-nil globals, append-nil lines, append-nil included, append-nil remarks) refl
with_item-is reading globals names kept lines included remarks (Begins (Context name)) named distinct all before same =
    with_context-is reading.extensions globals names kept lines included remarks name named
    ∙ (λ i. draft_of_parts reading.extensions (sym (append-nil globals) i) (more_by is_named names (Some name)) kept (sym (append-nil lines) i) (sym (append-nil included) i) (sym (append-nil remarks) i))
with_item-is reading globals names kept lines included remarks (Sets global) named distinct all before same =
    λ i. draft_of_parts reading.extensions (globals ++ global ∷ []) names kept (sym (append-nil lines) i) (sym (append-nil included) i) (sym (append-nil remarks) i)
with_item-is reading globals names kept lines included remarks (Adds line context entry) named distinct all before same =
    let a : Addition = record { context = context; entry = entry } in
    let es = reading.extensions in
    let e = extension_in a in
    let es' = insert_entry same_extension es e entry.priority in
    let names' = more_by is_named names (Some context) in
    ap (λ (d : Drafted). with_entry_of d line context (number_in es e) entry) (with_context-is es globals names kept lines included remarks context named)
    ∙ (ap (λ (d : Drafted). with_entry_of d line context (number_in es e) entry) (draft_of_parts-written es e entry.priority globals names' kept lines included remarks all)
    ∙ (ap (λ number. with_entry_of (draft_of_parts es' globals names' kept lines included remarks) line context number entry) (sym (number-with_priority es e entry.priority))
    ∙ (with_addition-is es' globals names' kept lines included remarks line a (names-more names (Some context) distinct) (known-with_priority es e entry.priority) (known-all es e entry.priority kept all)
    ∙ (λ i. draft_of_parts es' (sym (append-nil globals) i) names' (more_by is_taken kept (Some a)) (lines ++ entry_line line (sym same i) a) (sym (append-nil included) i) (remarks ++ map Noted (entry_note line (sym same i) a))))))
with_item-is reading globals names kept lines included remarks (Includes line context name) named distinct all before same =
    let k : Inclusion = record { context = context; name = name } in
    let es = reading.extensions in
    ap (λ (d : Drafted). with_include_of d line context name) (with_context-is es globals names kept lines included remarks context named)
    ∙ (with_inclusion-is es globals (more_by is_named names (Some context)) kept lines included remarks line k (names-more names (Some context) distinct)
    ∙ (λ i. draft_of_parts es (sym (append-nil globals) i) (more_by is_named names (Some context)) kept (sym (append-nil lines) i) (included ++ k ∷ []) (remarks ++ Asks line name ∷ [])))
with_item-is reading globals names kept lines included remarks (Unknown line) named distinct all before same =
    λ i. draft_of_parts reading.extensions (sym (append-nil globals) i) names kept (sym (append-nil lines) i) (sym (append-nil included) i) (remarks ++ Noted (record { line = line; kind = UnknownKey }) ∷ [])

-- what items leave for the next line
pub reading-items : (made : MadeOf) (items : List Item) → (fold after_item made items).reading ≡ fold after made.reading items
reading-items made [] = refl
reading-items made (item ∷ items) = reading-items (after_item made item) items

-- the draft that the items make, and what stays true of its names and its extensions
pub record Makes (items : List Item) : Type 0 where
  pub draft : (fold after_item nothing_made items).draft ≡ drafted_in items
  pub known : IsKnown (reading_of items).extensions (kept_in items)
  pub named : IsAllNamed (names_in items) (kept_in items) (kept_lines items) (filter_map included_in items)
  pub distinct : IsDistinct same_text (names_in items)

-- what holds of each element holds with one more that is taken
each-more : {X : Type 0} (P : X → Type 0) (taken : List X → X → Bool) (kept : List X) (o : Option X)
    → AllByRecursion P kept → AllByRecursion P (cons_option o []) → AllByRecursion P (more_by taken kept o)
each-more P taken kept None all one = all
each-more {X} P taken kept (Some x) all one = each-append P kept (cond (taken kept x) [] (x ∷ [])) all (by (taken kept x))
  where
    by : (t : Bool) → AllByRecursion P (cond t [] (x ∷ []))
    by true = tt
    by false = one

-- with one more item all contexts are named
named-more : (before : List Item) (names : List (List ℕ)) (kept : List Addition) (lines : List KeptLine) (included : List Inclusion) (x : Item) → IsAllNamed names kept lines included
    → IsAllNamed (more_by is_named names (context_in x)) (more_by is_taken kept (added_in x)) (lines ++ kept_line before x) (included ++ cons_option (included_in x) [])
named-more items names kept lines included x named =
    let now : List (List ℕ) = more_by is_named names (context_in x) in
    let before : IsAllNamed now kept lines included = by (context_in x) in (
      each-more (λ (a : Addition). is_named now a.context ≡ true) is_taken kept (added_in x) before.0 (addition x),
      each-append (λ (l : KeptLine). is_named now l.context ≡ true) lines (kept_line items x) before.1 (line_of x),
      each-append (λ (k : Inclusion). is_named now k.context ≡ true) included (cons_option (included_in x) []) before.2 (inclusion x),
    )
  where
    by : (o : Option (List ℕ)) → IsAllNamed (more_by is_named names o) kept lines included
    by None = named
    by (Some name) = IsAllNamed-more names kept lines included name named

    addition : (x : Item) → AllByRecursion (λ (a : Addition). is_named (more_by is_named names (context_in x)) a.context ≡ true) (cons_option (added_in x) [])
    addition (Begins section) = tt
    addition (Sets global) = tt
    addition (Adds line context entry) = (is_named-more names context, tt)
    addition (Includes line context name) = tt
    addition (Unknown line) = tt

    named_line : (context : List ℕ) (line : ℕ) (t : Bool) → AllByRecursion (λ (l : KeptLine). is_named (more_by is_named names (Some context)) l.context ≡ true) (cond t [] ((record { context = context; line = line }) ∷ []))
    named_line context line true = tt
    named_line context line false = (is_named-more names context, tt)

    line_of : (x : Item) → AllByRecursion (λ (l : KeptLine). is_named (more_by is_named names (context_in x)) l.context ≡ true) (kept_line items x)
    line_of (Begins section) = tt
    line_of (Sets global) = tt
    line_of (Adds line context entry) = named_line context line (is_taken (kept_in items) (record { context = context; entry = entry }))
    line_of (Includes line context name) = tt
    line_of (Unknown line) = tt

    inclusion : (x : Item) → AllByRecursion (λ (k : Inclusion). is_named (more_by is_named names (context_in x)) k.context ≡ true) (cons_option (included_in x) [])
    inclusion (Begins section) = tt
    inclusion (Sets global) = tt
    inclusion (Adds line context entry) = tt
    inclusion (Includes line context name) = (is_named-more names context, tt)
    inclusion (Unknown line) = tt

-- the extensions of the kept entries with one more item are known
known-more : (reading : ItemReading) (kept : List Addition) (x : Item) → IsKnown reading.extensions kept
    → IsKnown (priorities_after reading x) (more_by is_taken kept (added_in x))
known-more reading kept (Begins section) all = all
known-more reading kept (Sets global) all = all
known-more reading kept (Adds line context entry) all =
    let a : Addition = record { context = context; entry = entry } in
    let es = reading.extensions in
    each-more (λ k. is_known (insert_entry same_extension es (extension_in a) entry.priority) (extension_in k) ≡ true) is_taken kept (Some a)
    (known-all es (extension_in a) entry.priority kept all) (known-with_priority es (extension_in a) entry.priority, tt)
known-more reading kept (Includes line context name) all = all
known-more reading kept (Unknown line) all = all

Makes-push : (items : List Item) (x : Item) → Makes items → Makes (items ++ x ∷ [])
Makes-push items x makes =
    let globals : filter_map global_in (items ++ x ∷ []) ≡ filter_map global_in items ++ cons_option (global_in x) [] = filter_map-append global_in items (x ∷ []) in
    let included : filter_map included_in (items ++ x ∷ []) ≡ filter_map included_in items ++ cons_option (included_in x) [] = filter_map-append included_in items (x ∷ []) in
    let names : names_in (items ++ x ∷ []) ≡ more_by is_named (names_in items) (context_in x) = kept_by-filter_map is_named context_in items x in
    let kept : kept_in (items ++ x ∷ []) ≡ more_by is_taken (kept_in items) (added_in x) = kept_by-filter_map is_taken added_in items x in
    let lines = kept_lines-push items x in
    let remarks = remarks_in-push items x in
    let reading : reading_of (items ++ x ∷ []) ≡ after (reading_of items) x = fold-append after nothing_read items (x ∷ []) in
    record {
      draft =
          ap (λ (made : MadeOf). made.draft) (fold-append after_item nothing_made items (x ∷ []))
          ∙ ((λ i. with_item (makes.draft i) (reading-items nothing_made items i).extensions x)
          ∙ (with_item-is (reading_of items) (filter_map global_in items) (names_in items) (kept_in items) (kept_lines items) (filter_map included_in items) (remarks_in items) x makes.named makes.distinct makes.known items refl
          ∙ (λ i. draft_of_parts (sym reading i).extensions (sym globals i) (sym names i) (sym kept i) (sym lines i) (sym included i) (sym remarks i))));
      known =
          rw (reading, kept) (known-more (reading_of items) (kept_in items) x makes.known);
      named =
          rw (names, kept, lines, included) (named-more items (names_in items) (kept_in items) (kept_lines items) (filter_map included_in items) x makes.named);
      distinct = rw names (names-more (names_in items) (context_in x) makes.distinct);
    }

distinct-none : IsDistinct same_text []
unfolding IsDistinct
distinct-none = tt

-- the items make their draft
pub Makes-all : (items : List Item) → Makes items
Makes-all items = snoc_from Makes Makes-push [] items (record { draft = refl; known = tt; named = (tt, tt, tt); distinct = distinct-none })

-- the names of the contexts are the names
pub names-contexts : (kept : List Addition) (included : List Inclusion) (names : List (List ℕ)) → map (λ (c : PlanContext). c.name) (map (context_of kept included) names) ≡ names
names-contexts kept included [] = refl
names-contexts kept included (n ∷ names) = ap (λ (ns : List (List ℕ)). n ∷ ns) (names-contexts kept included names)
