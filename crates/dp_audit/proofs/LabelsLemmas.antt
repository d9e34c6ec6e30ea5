-- The notes on targets, one after another.
use Rattle.std.proofs.Common.{◌≡◌, ℕ, suc, ◌+◌, ◌<◌, Bool, true, false, ◌||◌, List, [], ◌∷◌, ◌++◌, length, drop, get_or, ap, refl, sym, subst, ◌∙◌, add-one, drop-cons}
use Rattle.std.specs.List.{filter_map, flat_map, list_any}
use Rattle.std.proofs.lemmas.Grind.{flat_map-append}
use Rattle.std.proofs.lemmas.List.Elements.{filter_map-append}
use Rattle.std.proofs.lemmas.List.Folds.{list_any-append}
use Rattle.dp_conf.specs.Words.{same_text}
use Rattle.dp_plan.specs.Contexts.{PlanContext}
use Rattle.dp_plan.specs.declared.entry.Entry.{Entry}
use Rattle.dp_audit.specs.Labels.{Notes, NotesTexts, computes, entries_in, has_name, is_computed, named_in, names}
use Rattle.dp_audit.specs.declared.jump.Jump.{Jump}
use Rattle.dp_audit.specs.declared.labels.Named.{Named}

or_none : (a : Bool) → a ≡ (a || false)
or_none true = refl
or_none false = refl

or_assoc : (a b c : Bool) → ((a || b) || c) ≡ (a || (b || c))
or_assoc true b c = refl
or_assoc false b c = refl

-- the rest of a list from a place on, with the element there
drop_next : {X : Type 0} (xs : List X) (place : ℕ) (x : X) → place < length xs → get_or xs place x ≡ x → drop place xs ≡ x ∷ drop (place + 1) xs
drop_next xs place x within here =
    drop-cons xs place x within ∙ ap (λ y. y ∷ drop (suc place) xs) here ∙ ap (λ next. x ∷ drop next xs) (sym (add-one place))

-- no target
pub notes_none : (named : Named) → Notes named named false []
notes_none named = record {
  computing = or_none named.is_computing;
  names = λ label. or_none (has_name named label);
}

-- some targets, and then others
pub notes_both : (a b c : Named) (x y : Bool) (xs ys : List (List ℕ)) → Notes a b x xs → Notes b c y ys → Notes a c (x || y) (xs ++ ys)
notes_both a b c x y xs ys first second = record {
  computing = second.computing ∙ ap (λ o. o || y) first.computing ∙ or_assoc a.is_computing x y;
  names = λ label.
      second.names label
      ∙ ap (λ o. o || list_any (same_text label) ys) (first.names label)
      ∙ or_assoc (has_name a label) (list_any (same_text label) xs) (list_any (same_text label) ys)
      ∙ ap (λ o. has_name a label || o) (sym (list_any-append (same_text label) xs ys));
}

-- the targets of one list, and then those of another
pub notes_texts : (jump : Jump) (a b c : Named) (xs ys : List (List ℕ)) → NotesTexts jump a b xs → NotesTexts jump b c ys → NotesTexts jump a c (xs ++ ys)
notes_texts jump a b c xs ys first second =
    subst (λ named. Notes a c (list_any (is_computed jump) (xs ++ ys)) named) (sym (filter_map-append (named_in jump) xs ys))
    (subst (λ computed. Notes a c computed (filter_map (named_in jump) xs ++ filter_map (named_in jump) ys)) (sym (list_any-append (is_computed jump) xs ys))
    (notes_both a b c (list_any (is_computed jump) xs) (list_any (is_computed jump) ys) (filter_map (named_in jump) xs) (filter_map (named_in jump) ys) first second))

-- the names in the entries
abbrev NotesEntries : Named → Named → List Entry → Type 0
NotesEntries old new entries = Notes old new (list_any computes entries) (flat_map names entries)

-- an entry, and then those after it
pub notes_next : (now new last : Named) (entries : List Entry) (place : ℕ) (entry : Entry) → place < length entries → get_or entries place entry ≡ entry →
    Notes now new (computes entry) (names entry) → Notes new last (list_any computes (drop (place + 1) entries)) (flat_map names (drop (place + 1) entries)) →
    Notes now last (list_any computes (drop place entries)) (flat_map names (drop place entries))
notes_next now new last entries place entry within here noted rest =
    subst (NotesEntries now last) (sym (drop_next entries place entry within here))
    (notes_both now new last (computes entry) (list_any computes (drop (place + 1) entries)) (names entry) (flat_map names (drop (place + 1) entries)) noted rest)

-- a context, and then those after it
pub notes_next_context : (now new last : Named) (contexts : List PlanContext) (place : ℕ) (context : PlanContext) →
    place < length contexts → get_or contexts place context ≡ context →
    Notes now new (list_any computes context.entries) (flat_map names context.entries) →
    Notes new last (list_any computes (entries_in (drop (place + 1) contexts))) (flat_map names (entries_in (drop (place + 1) contexts))) →
    Notes now last (list_any computes (entries_in (drop place contexts))) (flat_map names (entries_in (drop place contexts)))
notes_next_context now new last contexts place context within here noted rest =
    let after = entries_in (drop (place + 1) contexts) in
    subst (λ left. NotesEntries now last (entries_in left)) (sym (drop_next contexts place context within here))
    (transport2 now last context.entries after
    (notes_both now new last (list_any computes context.entries) (list_any computes after) (flat_map names context.entries) (flat_map names after) noted rest))
  where
    transport2 : (now last : Named) (xs ys : List Entry) → Notes now last (list_any computes xs || list_any computes ys) (flat_map names xs ++ flat_map names ys) → NotesEntries now last (xs ++ ys)
    transport2 now last xs ys both =
        subst (λ named. Notes now last (list_any computes (xs ++ ys)) named) (sym (flat_map-append names xs ys))
        (subst (λ computed. Notes now last computed (flat_map names xs ++ flat_map names ys)) (sym (list_any-append computes xs ys)) both)
