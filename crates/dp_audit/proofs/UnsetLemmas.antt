-- Names that are noted one after another.
use Rattle.std.proofs.Common.{◌≡◌, ℕ, suc, ◌+◌, ◌<◌, ◌≤◌, ◌||◌, List, [], ◌∷◌, ◌++◌, length, drop, get_or, map, filter, not, append_assoc, ap, sym, subst, ◌∙◌, add-one, drop-cons, arith}
use Rattle.std.specs.List.{flat_map, list_any}
use Rattle.std.proofs.Math.Bool.{or_assoc, or-false}
use Rattle.std.specs.Option.{option_to_list}
use Rattle.std.proofs.lemmas.List.{drop_all, map-append}
use Rattle.std.proofs.lemmas.List.Elements.{filter-append}
use Rattle.std.proofs.lemmas.List.Folds.{list_any-append}
use Rattle.std.proofs.lemmas.List.FromFn.{map-range_with_len_more}
use Rattle.dp_conf.specs.Words.{same_text}
use Rattle.dp_plan.specs.Plan.{PlanOf}
use Rattle.dp_plan.specs.declared.entry.Entry.{Entry}
use Rattle.dp_audit.specs.Unset.{Adds, AreSet, argument_name, argument_names, has_set, is_given, lacks, name_after, names_read, unset_names}
use Rattle.dp_audit.specs.declared.finding.Finding.{Finding}
use Rattle.dp_audit.specs.declared.unset_variables.SetNames.{SetNames}

-- no name
pub adds_none : (noted : SetNames) → Adds noted noted []
adds_none noted name = sym (or-false (has_set noted name))

-- some names, and then others
pub adds_both : (a b c : SetNames) (xs ys : List (List ℕ)) → Adds a b xs → Adds b c ys → Adds a c (xs ++ ys)
adds_both a b c xs ys first second name =
    second name ∙ ap (λ o. o || list_any (same_text name) ys) (first name)
    ∙ or_assoc (has_set a name) (list_any (same_text name) xs) (list_any (same_text name) ys)
    ∙ ap (λ o. has_set a name || o) (sym (list_any-append (same_text name) xs ys))

-- the rest of a list from a place on, with the element there
drop_next : {X : Type 0} (xs : List X) (place : ℕ) (x : X) → place < length xs → get_or xs place x ≡ x → drop place xs ≡ x ∷ drop (place + 1) xs
drop_next xs place x within here =
    drop-cons xs place x within ∙ ap (λ y. y ∷ drop (suc place) xs) here ∙ ap (λ next. x ∷ drop next xs) (sym (add-one place))

-- what one element of a list sets, and then what those after it set
pub adds_next : {X : Type 0} (f : X → List (List ℕ)) (now new last : SetNames) (xs : List X) (place : ℕ) (x : X) → place < length xs →
    get_or xs place x ≡ x → Adds now new (f x) → Adds new last (flat_map f (drop (place + 1) xs)) → Adds now last (flat_map f (drop place xs))
adds_next f now new last xs place x within here noted rest =
    subst (λ left. Adds now last (flat_map f left)) (sym (drop_next xs place x within here))
    (adds_both now new last (f x) (flat_map f (drop (place + 1) xs)) noted rest)

-- nothing is left
pub adds_end : {X : Type 0} (f : X → List (List ℕ)) (now : SetNames) (xs : List X) (place : ℕ) → length xs ≤ place → Adds now now (flat_map f (drop place xs))
adds_end f now xs place past = subst (λ left. Adds now now (flat_map f left)) (sym (drop_all place xs past)) (adds_none now)

-- the name of one more argument
pub adds_argument : (a b c : SetNames) (count : ℕ) → Adds a b (argument_names count) → Adds b c (argument_name (count + 1) ∷ []) → Adds a c (argument_names (count + 1))
adds_argument a b c count before one =
    subst (Adds a c) (sym (map-range_with_len_more argument_name 1 count (count + 1) (omega arith)))
    (adds_both a b c (argument_names count) (argument_name (count + 1) ∷ []) before one)

-- what is not noted is what nothing sets
pub lacks_are_unset : (plan : PlanOf) (noted : SetNames) (entry : Entry) → AreSet plan noted →
    filter (lacks noted) (names_read entry.arguments) ≡ unset_names plan entry
unfolding unset_names
lacks_are_unset plan noted entry are = λ i. filter (λ name. not (is_given name || are name i)) (names_read entry.arguments)

-- the names that a text reads and that are not noted, after the one that a byte opens
pub names_next : (noted : SetNames) (found : List ℕ → Finding) (before : List Finding) (byte : ℕ) (after : List ℕ) →
    (before ++ map found (filter (lacks noted) (option_to_list (name_after byte after)))) ++ map found (filter (lacks noted) (names_read after))
    ≡ before ++ map found (filter (lacks noted) (names_read (byte ∷ after)))
unfolding names_read
names_next noted found before byte after =
    append_assoc before (map found (filter (lacks noted) (option_to_list (name_after byte after)))) (map found (filter (lacks noted) (names_read after)))
    ∙ ap (λ found_here. before ++ found_here)
    (sym (map-append found (filter (lacks noted) (option_to_list (name_after byte after))) (filter (lacks noted) (names_read after)))
    ∙ ap (map found) (sym (filter-append (lacks noted) (option_to_list (name_after byte after)) (names_read after))))
