-- Each kept entry has its line.
use Rattle.std.proofs.Common.{◌≡◌, ℕ, suc, Bool, true, false, cond, List, [], ◌∷◌, ◌++◌, length, map, refl, ap, ◌∙◌, sym}
use Rattle.std.specs.List.{filter}
use Rattle.std.proofs.lemmas.List.{append-nil, map-append}
use Rattle.dp_conf.specs.Words.{same_text}
use Rattle.dp_conf.proofs.AnswersLemmas.{snoc_from}
use Rattle.dp_plan.specs.Loaded.{HaveLines}
use Rattle.dp_plan.specs.Plan.{Addition, Inclusion, KeptLine, is_taken, added_in, kept_in, context_of, kept_line, kept_lines, context_lines}
use Rattle.dp_plan.specs.Item.{Item, Begins, Sets, Adds, Includes, Unknown}
use Rattle.dp_plan.proofs.DraftLemmas.{more_by, kept_by-filter_map, kept_lines-push}

-- the contexts of lines, and those of additions
abbrev line_contexts : List KeptLine → List (List ℕ)
line_contexts = map (λ l. l.context)

abbrev added_contexts : List Addition → List (List ℕ)
added_contexts = map (λ a. a.context)

-- the lines of the kept entries have the contexts of these entries, in their order
abbrev AreAlike : List Item → Type 0
AreAlike items = line_contexts (kept_lines items) ≡ added_contexts (kept_in items)

alike-push : (items : List Item) (x : Item) → AreAlike items → AreAlike (items ++ x ∷ [])
alike-push items x alike =
    ap line_contexts (kept_lines-push items x)
    ∙ (map-append (λ (l : KeptLine). l.context) (kept_lines items) (kept_line items x)
    ∙ ((λ i. alike i ++ line_contexts (kept_line items x))
    ∙ (by x ∙ ap added_contexts (sym (kept_by-filter_map is_taken added_in items x)))))
  where
    kept : List Addition
    kept = kept_in items

    added : (a : Addition) (line : ℕ) (t : Bool) → added_contexts kept ++ line_contexts (cond t [] ((record { context = a.context; line = line }) ∷ [])) ≡ added_contexts (kept ++ cond t [] (a ∷ []))
    added a line true = append-nil (added_contexts kept) ∙ ap added_contexts (sym (append-nil kept))
    added a line false = sym (map-append (λ (b : Addition). b.context) kept (a ∷ []))

    by : (x : Item) → added_contexts kept ++ line_contexts (kept_line items x) ≡ added_contexts (more_by is_taken kept (added_in x))
    by (Begins section) = append-nil (added_contexts kept)
    by (Sets global) = append-nil (added_contexts kept)
    by (Adds line context entry) =
        let a : Addition = record { context = context; entry = entry } in
        added a line (is_taken kept a)
    by (Includes line context name) = append-nil (added_contexts kept)
    by (Unknown line) = append-nil (added_contexts kept)

alike-all : (items : List Item) → AreAlike items
alike-all items = snoc_from AreAlike alike-push [] items refl

-- the number of elements that pass a test depends only on the tested part
count-by : {X Y K : Type 0} (key : X → K) (part : X → Y) (test : K → Bool) (xs : List X) → length (map part (filter (λ x. test (key x)) xs)) ≡ length (filter test (map key xs))
count-by key part test [] = refl
count-by {X} {Y} key part test (x ∷ xs) = by (test (key x)) (count-by key part test xs)
  where
    passed : List X
    passed = filter (λ y. test (key y)) xs

    by : (t : Bool) → length (map part passed) ≡ length (filter test (map key xs)) → length (map part (cond t (x ∷ passed) passed)) ≡ length (cond t (key x ∷ filter test (map key xs)) (filter test (map key xs)))
    by true rest = ap suc rest
    by false rest = rest

-- a context has as many lines as entries
lines-context : (items : List Item) (included : List Inclusion) (name : List ℕ) → length (context_lines (kept_lines items) name) ≡ length (context_of (kept_in items) included name).entries
lines-context items included name =
    count-by (λ (l : KeptLine). l.context) (λ (l : KeptLine). l.line) (same_text name) (kept_lines items)
    ∙ (ap (λ (contexts : List (List ℕ)). length (filter (same_text name) contexts)) (alike-all items)
    ∙ sym (count-by (λ (a : Addition). a.context) (λ (a : Addition). a.entry) (same_text name) (kept_in items)))

pub contexts-lined : (items : List Item) (included : List Inclusion) (names : List (List ℕ)) → HaveLines (map (context_of (kept_in items) included) names) (map (context_lines (kept_lines items)) names)
contexts-lined items included [] = refl
contexts-lined items included (name ∷ names) = λ i. lines-context items included name i ∷ contexts-lined items included names i
