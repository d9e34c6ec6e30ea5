-- Names that are recorded one after another.
use Rattle.std.proofs.Common.{◌≡◌, ℕ, suc, ◌+◌, ◌<◌, ◌≤◌, ◌||◌, List, [], ◌∷◌, ◌++◌, length, drop, get_or, false, ap, sym, subst, ◌∙◌, add-one, drop-cons}
use Rattle.std.specs.List.{flat_map, list_any}
use Rattle.std.specs.Option.{option_to_list}
use Rattle.std.proofs.Math.Bool.{or_assoc, or-false}
use Rattle.std.proofs.lemmas.List.{drop_all}
use Rattle.std.proofs.lemmas.List.Folds.{list_any-append}
use Rattle.dp_conf.specs.Words.{same_text}
use Rattle.dp_plan.specs.Plan.{PlanOf}
use Rattle.dp_wide_runs.specs.Mentions.{Adds, AreMentioned, has_name, is_mentioned, name_at, names_after, names_mentioned}
use Rattle.dp_wide_runs.specs.declared.mentions.Mentions.{Mentions}

-- no name
pub adds_none : (noted : Mentions) → Adds noted noted []
adds_none noted name = sym (or-false (has_name noted name))

-- some names, and then others
pub adds_both : (a b c : Mentions) (xs ys : List (List ℕ)) → Adds a b xs → Adds b c ys → Adds a c (xs ++ ys)
adds_both a b c xs ys first second name =
    second name ∙ ap (λ o. o || list_any (same_text name) ys) (first name)
    ∙ or_assoc (has_name a name) (list_any (same_text name) xs) (list_any (same_text name) ys)
    ∙ ap (λ o. has_name a name || o) (sym (list_any-append (same_text name) xs ys))

-- the rest of a list from a place on, with the element there
drop_next : {X : Type 0} (xs : List X) (place : ℕ) (x : X) → place < length xs → get_or xs place x ≡ x → drop place xs ≡ x ∷ drop (place + 1) xs
drop_next xs place x within here =
    drop-cons xs place x within ∙ ap (λ y. y ∷ drop (suc place) xs) here ∙ ap (λ next. x ∷ drop next xs) (sym (add-one place))

-- what one element of a list mentions, and then what those after it mention
pub adds_next : {X : Type 0} (f : X → List (List ℕ)) (now new last : Mentions) (xs : List X) (place : ℕ) (x : X) → place < length xs →
    get_or xs place x ≡ x → Adds now new (f x) → Adds new last (flat_map f (drop (place + 1) xs)) → Adds now last (flat_map f (drop place xs))
adds_next f now new last xs place x within here noted rest =
    subst (λ left. Adds now last (flat_map f left)) (sym (drop_next xs place x within here))
    (adds_both now new last (f x) (flat_map f (drop (place + 1) xs)) noted rest)

-- nothing is left
pub adds_end : {X : Type 0} (f : X → List (List ℕ)) (now : Mentions) (xs : List X) (place : ℕ) → length xs ≤ place → Adds now now (flat_map f (drop place xs))
adds_end f now xs place past = subst (λ left. Adds now now (flat_map f left)) (sym (drop_all place xs past)) (adds_none now)

-- the name that begins a text, and then those after its first byte
pub names_next : (now new last : Mentions) (before byte : ℕ) (after : List ℕ) → Adds now new (option_to_list (name_at before (byte ∷ after)))
    → Adds new last (names_after byte after) → Adds now last (names_after before (byte ∷ after))
unfolding names_after
names_next now new last before byte after = adds_both now new last (option_to_list (name_at before (byte ∷ after))) (names_after byte after)

pub names_end : (now : Mentions) (before : ℕ) → Adds now now (names_after before [])
unfolding names_after
names_end now before = adds_none now

-- all names of a dialplan, after none
pub all_mentioned : (plan : PlanOf) (empty noted : Mentions) → empty.names.keys ≡ [] → Adds empty noted (names_mentioned plan) → AreMentioned plan noted
unfolding is_mentioned
all_mentioned plan empty noted none adds name = adds name ∙ ap (λ keys. list_any (same_text name) keys || list_any (same_text name) (names_mentioned plan)) none
