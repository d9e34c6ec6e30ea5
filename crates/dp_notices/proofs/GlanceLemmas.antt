-- Contents that say nothing to a pass over lines for names with groups.
use Rattle.std.proofs.Common.{◌≡◌, ℕ, Bool, true, false, not, ◌&&◌, ◌||◌, cond, eqb, List, [], ◌∷◌, Option, Some, None, Err, refl, ap, sym, ◌∙◌}
use Rattle.std.specs.List.{AllByRecursion, list_any}
use Rattle.std.specs.Option.{is_some}
use Rattle.dp_conf.specs.Blanks.{trim}
use Rattle.dp_conf.specs.Cut.{begins_with, cut_once}
use Rattle.dp_conf.specs.Groups.{kind_of, opening}
use Rattle.dp_conf.specs.Lines.{after_sign, header_of, item_of, pair_of}
use Rattle.dp_conf.specs.declared.fault.LineKind.TheVariants.{Directive}
use Rattle.dp_conf.specs.declared.groups.GroupKind.{GroupKind}
use Rattle.dp_conf.proofs.TextLemmas.{Avoids, cut_once-is, each-cut_front, each-cut_rest, each-trim, none-any}
use Rattle.dp_files.specs.ContextHistory.{has_group}
use Rattle.dp_notices.specs.GroupNames.{has_grouped, has_name, is_grouped, items_of, name_in, within_after}

-- without a `$` no group opens
opens_none : (b : ℕ) (bs : List ℕ) → eqb b 36 ≡ false → is_some (opening b bs) ≡ false
opens_none b [] other = refl
opens_none b (next ∷ bs) other = ap (λ t. is_some (cond {A = Option GroupKind} t (kind_of next) None)) other

no_group : (text : List ℕ) → Avoids 36 text → has_group text ≡ false
no_group [] none = refl
no_group (b ∷ bs) none = ap (λ t. t || has_group bs) (opens_none b bs none.0) ∙ no_group bs none.1

-- nor is there one in the name that a value has
no_name : (value : List ℕ) (cut : Option (List ℕ × List ℕ)) → cut_once 44 value ≡ cut → Avoids 36 value → Avoids 36 (name_in value cut)
no_name value None is none = none
no_name value (Some cut) is none =
    each-trim (λ b. eqb b 36 ≡ false) cut.0 (each-cut_front (λ b. eqb b 36 ≡ false) 44 value cut.0 cut.1 (cut_once-is 44 value cut.0 cut.1 is) none)

-- the sign keeps the bytes after it
after_sign-each : (text : List ℕ) → Avoids 36 text → Avoids 36 (after_sign text)
after_sign-each [] none = none
after_sign-each (b ∷ bs) none = by (eqb b 62)
  where
    by : (t : Bool) → Avoids 36 (cond t bs (b ∷ bs))
    by true = none.1
    by false = none

-- a pair without a `$` has no name with a group
second_false : (a b : Bool) → b ≡ false → (a && b) ≡ false
second_false true b e = e
second_false false b e = refl

pair_ungrouped : (within : Bool) (content : List ℕ) (cut : Option (List ℕ × List ℕ)) → cut_once 61 content ≡ cut → Avoids 36 content
    → has_grouped within (items_of (pair_of 0 cut)) ≡ false
pair_ungrouped within content None is none = refl
pair_ungrouped within content (Some cut) is none =
    let value = trim (after_sign cut.1) in
    let rest = each-cut_rest (λ b. eqb b 36 ≡ false) 61 content cut.0 cut.1 (cut_once-is 61 content cut.0 cut.1 is) none in
    let kept : Avoids 36 value = each-trim (λ b. eqb b 36 ≡ false) (after_sign cut.1) (after_sign-each cut.1 rest) in
    let name = no_group (name_in value (cut_once 44 value)) (no_name value (cut_once 44 value) refl kept) in
    second_false within (is_grouped (trim cut.0) value) (second_false (has_name (trim cut.0)) (has_group (name_in value (cut_once 44 value))) name)

pair_within : (within : Bool) (cut : Option (List ℕ × List ℕ)) → within_after within (items_of (pair_of 0 cut)) ≡ within
pair_within within None = refl
pair_within within (Some cut) = refl

-- the item of a content that does not begin with `[`
item_ungrouped : (within : Bool) (b : ℕ) (bs : List ℕ) (opens directive : Bool) → opens ≡ false → Avoids 36 (b ∷ bs)
    → has_grouped within (items_of (cond opens (header_of 0 (cut_once 93 bs)) (cond directive (Err Directive) (pair_of 0 (cut_once 61 (b ∷ bs)))))) ≡ false
item_ungrouped within b bs true directive opens none = absurd cc
item_ungrouped within b bs false true opens none = refl
item_ungrouped within b bs false false opens none = pair_ungrouped within (b ∷ bs) (cut_once 61 (b ∷ bs)) refl none

item_within : (within : Bool) (b : ℕ) (bs : List ℕ) (opens directive : Bool) → opens ≡ false
    → within_after within (items_of (cond opens (header_of 0 (cut_once 93 bs)) (cond directive (Err Directive) (pair_of 0 (cut_once 61 (b ∷ bs)))))) ≡ within
item_within within b bs true directive opens = absurd cc
item_within within b bs false true opens = refl
item_within within b bs false false opens = pair_within within (cut_once 61 (b ∷ bs))

-- a content without a `$` that is not a header has no name with a group
no_group_in_name : (within : Bool) (content : List ℕ) → begins_with 91 content ≡ false → list_any (λ b. eqb b 36) content ≡ false
    → has_grouped within (items_of (item_of true 0 content)) ≡ false
no_group_in_name within [] begins none = refl
no_group_in_name within (b ∷ bs) begins none = item_ungrouped within b bs (eqb b 91) (eqb b 35) begins (none-any (λ x. eqb x 36) (b ∷ bs) none)

-- and the lines after one that is not a header belong to a context if the line does
no_header_changes_nothing : (within : Bool) (content : List ℕ) → begins_with 91 content ≡ false → within_after within (items_of (item_of true 0 content)) ≡ within
no_header_changes_nothing within [] begins = refl
no_header_changes_nothing within (b ∷ bs) begins = item_within within b bs (eqb b 91) (eqb b 35) begins

-- a content that is passed is not a header, and has no `$`
both_false : (a b : Bool) → (not a && not b) ≡ true → (a ≡ false) × (b ≡ false)
both_false true b e = absurd cc
both_false false true e = absurd cc
both_false false false e = (refl, refl)

-- so it has no name with a group
pub passed_ungrouped : (within passed : Bool) (content : List ℕ) → passed ≡ (not (begins_with 91 content) && not (list_any (λ b. eqb b 36) content)) → passed ≡ true
    → false ≡ has_grouped within (items_of (item_of true 0 content))
passed_ungrouped within passed content is true_now =
    let both = both_false (begins_with 91 content) (list_any (λ b. eqb b 36) content) (sym is ∙ true_now) in
    sym (no_group_in_name within content both.0 both.1)

-- and the lines after it belong to a context if it does
pub passed_within : (within passed : Bool) (content : List ℕ) → passed ≡ (not (begins_with 91 content) && not (list_any (λ b. eqb b 36) content)) → passed ≡ true
    → within ≡ within_after within (items_of (item_of true 0 content))
passed_within within passed content is true_now =
    sym (no_header_changes_nothing within content (both_false (begins_with 91 content) (list_any (λ b. eqb b 36) content) (sym is ∙ true_now)).0)
