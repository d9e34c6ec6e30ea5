-- A text that is cut into pieces, and a label in one of them.
use Rattle.std.proofs.Common.{◌≡◌, ℕ, ◌+◌, ◌<◌, Bool, true, false, cond, not, ◌&&◌, ◌||◌, Bor, List, [], ◌∷◌, ◌++◌, Option, Some, None, length, map, ap, refl, subst, sym, ◌∙◌, arith, ltb, slice_get}
use Rattle.std.specs.Cmp.Lexicographic.{nat_list_eq_equiv}
use Rattle.std.specs.List.{after_first, before_first, list_any, onto_first, position, position_or_len, slice_split}
use Rattle.std.specs.Option.{option_and_then}
use Rattle.std.proofs.lemmas.Bool.{ltb-true, ltb-false}
use Rattle.std.proofs.lemmas.List.Elements.{All-from_get_or}
use Rattle.std.proofs.lemmas.List.Splits.{length-slice_split, slice_split_first, slice_split_none}
use Rattle.std.proofs.lemmas.List.Sums.{fails_before_first}
use Rattle.std.proofs.lemmas.Map.Keys.{any_passes_from_place}
use Rattle.dp_conf.specs.Blanks.{trim}
use Rattle.dp_conf.specs.Words.{same_text}
use Rattle.dp_plan.specs.Contexts.{PlanContext}
use Rattle.dp_plan.specs.Lookup.{entry_at}
use Rattle.dp_plan.specs.Plan.{PlanOf}
use Rattle.dp_plan.specs.declared.entry.Entry.{Entry}
use Rattle.dp_plan.specs.declared.entry.EntryId.{EntryId}
use Rattle.dp_audit.specs.Labels.{is_computing, is_unused, names_of, unused_by}
use Rattle.dp_audit.specs.Pieces.{StandsBetween, begins_cut, cuts, ends_cut, first_of, first_piece, holds, is_held, pieces}

-- the pieces of the remaining text
abbrev pub pieces_left : Option (Bor (List ℕ)) → List (List ℕ)
pieces_left None = []
pieces_left (Some text) = pieces text.now

-- a number that decreases as the text is read
abbrev pub left_len : Option (Bor (List ℕ)) → ℕ
left_len None = 0
left_len (Some text) = length text.now + 1

-- the pieces of the remaining text are still to be added to the earlier ones
abbrev pub Owes : List (List ℕ) → List (List ℕ) → List ℕ → Option (Bor (List ℕ)) → Type 0
Owes old now text left =
    (piece : List ℕ) → (list_any (same_text piece) now || list_any (same_text piece) (pieces_left left))
    ≡ (list_any (same_text piece) old || list_any (same_text piece) (pieces text))

-- the place of the first byte at which a text is cut, or its length
abbrev place_of : List ℕ → ℕ
place_of text = position_or_len cuts text

-- given the test whether there is one
abbrev found_by : List ℕ → Bool → Option ℕ
found_by text t = cond {A = Option ℕ} t (Some (place_of text)) None

-- if a text is not cut anywhere, it is its only piece
none_by : (text : List ℕ) (t : Bool) → ltb (place_of text) (length text) ≡ t → found_by text t ≡ None → slice_split cuts text ≡ text ∷ []
none_by text true l e = cc
none_by text false l e = slice_split_none cuts text (All-from_get_or (λ b. cuts b ≡ false) text 0 (λ i h. fails_before_first cuts text i 0 (omega (arith, ltb-false _ _ l))))

pub cut_none : (text : List ℕ) → position cuts text ≡ None → slice_split cuts text ≡ text ∷ []
cut_none text e = none_by text (ltb (place_of text) (length text)) refl e

same_place : (a b : ℕ) → (let found : Option ℕ = Some a in found ≡ Some b) → a ≡ b
same_place a b e = cc

some_by : (text : List ℕ) (at : ℕ) (t : Bool) → ltb (place_of text) (length text) ≡ t → found_by text t ≡ Some at →
    (place_of text ≡ at) × (slice_split cuts text ≡ before_first cuts text ∷ slice_split cuts (after_first cuts text))
some_by text at true l e = (same_place (place_of text) at e, slice_split_first cuts text 0 (ltb-true _ _ l))
some_by text at false l e = absurd cc

-- if a text is first cut at a place, the part before it is its first piece
pub cut_some : (text : List ℕ) (at : ℕ) → position cuts text ≡ Some at →
    (place_of text ≡ at) × (slice_split cuts text ≡ before_first cuts text ∷ slice_split cuts (after_first cuts text))
cut_some text at e = some_by text at (ltb (place_of text) (length text)) refl e

-- ---- a label in arguments

-- the texts after the first of some texts
abbrev later : List (List ℕ) → List (List ℕ)
later [] = []
later (part ∷ parts) = parts

-- one of the texts passes, without its blanks
abbrev passes : (List ℕ → Bool) → List (List ℕ) → Bool
passes test parts = list_any test (map trim parts)

first_onto : (x : ℕ) (parts : List (List ℕ)) → first_of (onto_first x parts) ≡ x ∷ first_of parts
first_onto x [] = refl
first_onto x (part ∷ parts) = refl

-- the first of the parts, given whether the byte before them cuts
first_by : (x : ℕ) (longer parts : List (List ℕ)) → first_of longer ≡ first_of parts → (t : Bool) →
    first_of (cond t ([] ∷ longer) (onto_first x longer)) ≡ first_of (cond t ([] ∷ parts) (onto_first x parts))
first_by x longer parts same true = refl
first_by x longer parts same false = first_onto x longer ∙ ap (λ part. x ∷ part) same ∙ sym (first_onto x parts)

-- the text after a cut does not change its first part
first_before : (label after : List ℕ) → begins_cut after ≡ true → first_of (slice_split cuts (label ++ after)) ≡ first_of (slice_split cuts label)
first_before [] [] begins = refl
first_before [] (b ∷ bs) begins = ap (λ t. first_of (cond t ([] ∷ slice_split cuts bs) (onto_first b (slice_split cuts bs)))) begins
first_before (x ∷ xs) after begins = first_by x (slice_split cuts (xs ++ after)) (slice_split cuts xs) (first_before xs after begins) (cuts x)

first_trimmed : (parts : List (List ℕ)) → 0 < length parts → first_of (map trim parts) ≡ trim (first_of parts)
first_trimmed [] some = absurd (omega arith)
first_trimmed (part ∷ parts) some = refl

some_part : (text : List ℕ) → 0 < length (slice_split cuts text)
some_part text = omega (arith, length-slice_split cuts text)

-- if the first passes, one does
passes_first : (test : List ℕ → Bool) (parts : List (List ℕ)) → 0 < length parts → test (trim (first_of parts)) ≡ true → passes test parts ≡ true
passes_first test [] some first = absurd (omega arith)
passes_first test (part ∷ parts) some first = ap (λ o. o || passes test parts) first

or_true : (b : Bool) → (b || true) ≡ true
or_true true = refl
or_true false = refl

-- if a later one passes, one does
passes_later : (test : List ℕ → Bool) (parts : List (List ℕ)) → passes test (later parts) ≡ true → passes test parts ≡ true
passes_later test [] held = held
passes_later test (part ∷ parts) held = ap (λ o. test (trim part) || o) held ∙ or_true (test (trim part))

later_onto : (test : List ℕ → Bool) (x : ℕ) (parts : List (List ℕ)) → passes test (later parts) ≡ true → passes test (later (onto_first x parts)) ≡ true
later_onto test x [] held = held
later_onto test x (part ∷ parts) held = held

later_by : (test : List ℕ → Bool) (x : ℕ) (parts : List (List ℕ)) → passes test (later parts) ≡ true → (t : Bool) →
    passes test (later (cond t ([] ∷ parts) (onto_first x parts))) ≡ true
later_by test x parts held true = passes_later test parts held
later_by test x parts held false = later_onto test x parts held

-- a part of a text is one of those after the first, if there is something before the text
passes_after : (test : List ℕ → Bool) (b : ℕ) (before text : List ℕ) → ends_cut (b ∷ before) ≡ true → passes test (slice_split cuts text) ≡ true →
    passes test (later (slice_split cuts (b ∷ before ++ text))) ≡ true
passes_after test b [] text ends held = ap (λ t. passes test (later (cond t ([] ∷ slice_split cuts text) (onto_first b (slice_split cuts text))))) ends ∙ held
passes_after test b (c ∷ bs) text ends held = later_by test b (slice_split cuts (c ∷ bs ++ text)) (passes_after test c bs text ends held) (cuts b)

passes_whole : (test : List ℕ → Bool) (before text : List ℕ) → ends_cut before ≡ true → passes test (slice_split cuts text) ≡ true →
    passes test (slice_split cuts (before ++ text)) ≡ true
passes_whole test [] text ends held = held
passes_whole test (b ∷ bs) text ends held = passes_later test (slice_split cuts (b ∷ bs ++ text)) (passes_after test b bs text ends held)

-- the first piece of a label in arguments is one of theirs
stands_held : (label arguments : List ℕ) → StandsBetween label arguments → list_any (same_text (first_piece label)) (pieces arguments) ≡ true
stands_held label arguments stands =
    let test = same_text (first_piece label) in
    let after = label ++ stands.after in
    let same : first_piece label ≡ trim (first_of (slice_split cuts after)) =
    first_trimmed (slice_split cuts label) (some_part label) ∙ ap trim (sym (first_before label stands.after stands.begins)) in
    let first : test (trim (first_of (slice_split cuts after))) ≡ true = subst (λ piece. test piece ≡ true) same (nat_list_eq_equiv.refl (first_piece label)) in
    ap (λ text. passes test (slice_split cuts text)) stands.whole
    ∙ passes_whole test stands.before after stands.ends (passes_first test (slice_split cuts after) (some_part after) first)

-- the entry of an application that the table lacks, with such arguments, has it
held_by : (known : List ℕ → Bool) (label : List ℕ) (other : Entry) → known other.application ≡ false → StandsBetween label other.arguments →
    holds known (first_piece label) other ≡ true
held_by known label other lacks stands =
    ap (λ o. not o && list_any (same_text (first_piece label)) (pieces other.arguments)) lacks ∙ stands_held label other.arguments stands

held_at : (known : List ℕ → Bool) (plan : PlanOf) (id : EntryId) (text : List ℕ) (other : Entry) → entry_at plan id ≡ Some other →
    holds known text other ≡ true → is_held known plan text ≡ true
held_at known plan id text other there held = by (slice_get plan.contexts id.context) refl there
  where
    by : (c : Option PlanContext) → slice_get plan.contexts id.context ≡ c →
        option_and_then (λ context. slice_get context.entries id.entry) c ≡ Some other → is_held known plan text ≡ true
    by None known_there there = absurd cc
    by (Some context) known_there there =
        any_passes_from_place (λ context. list_any (holds known text) context.entries) plan.contexts id.context context known_there
        (any_passes_from_place (holds known text) context.entries id.entry other there held)

not_both : (a b : Bool) → b ≡ true → (a && not b) ≡ false
not_both true b held = ap not held
not_both false b held = refl

-- such a label is not unused
pub never_unused : (known : List ℕ → Bool) (plan : PlanOf) (id : EntryId) (other entry : Entry) (label : List ℕ) →
    entry_at plan id ≡ Some other → known other.application ≡ false → StandsBetween label other.arguments → entry.label ≡ Some label →
    is_unused known plan entry ≡ false
unfolding is_unused
never_unused known plan id other entry label there lacks stands labelled =
    ap (unused_by known plan) labelled
    ∙ not_both (not (is_computing plan || list_any (same_text label) (names_of plan))) (is_held known plan (first_piece label))
    (held_at known plan id (first_piece label) other there (held_by known label other lacks stands))
