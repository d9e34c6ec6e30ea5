-- A text in which no group opens is its own expansion.
use Rattle.std.proofs.Common.{◌≡◌, ℕ, false, ◌||◌, ◌&&◌, not, if◌then◌else◌, List, [], ◌∷◌, Option, Some, None, refl, ap, ◌∙◌}
use Rattle.std.specs.Option.{is_some, option_or}
use Rattle.dp_conf.specs.declared.groups.GroupKind.{GroupKind}
use Rattle.dp_conf.specs.Groups.{Reading, Over, Plain, opening}
use Rattle.dp_conf.specs.GroupsRead.{Last, mark_of, with_byte, with_mark, levels, first_level, reading_of}
use Rattle.dp_vars.specs.Openings.{has_opening}
use Rattle.dp_vars.specs.Functions.{FunctionTable}
use Rattle.dp_vars.specs.Sights.{Sight}
use Rattle.dp_vars.specs.Unknown.{any_text, first_unknown, unknown_in_groups, unknown_of}
use Rattle.dp_vars.specs.Values.{expansion_of_with, expansion_with}

-- only plain bytes
plain : List ℕ → Reading
plain [] = Over
plain (b ∷ bs) = Plain b (plain bs)

-- a byte that opens nothing
levels-byte : (b : ℕ) (bs : List ℕ) (o : Option GroupKind) → is_some o || has_opening bs ≡ false
    → (has_opening bs ≡ false → levels bs [] 0 ≡ Last (plain bs)) → with_mark (mark_of o b) (levels bs) 1 [] ≡ Last (plain (b ∷ bs))
unfolding plain
levels-byte b bs None none after = ap (with_byte b) (after none)
levels-byte b bs (Some kind) none after = absurd cc

-- the levels of a text in which no group opens
levels-plain : (text : List ℕ) → has_opening text ≡ false → levels text [] 0 ≡ Last (plain text)
unfolding plain levels has_opening
levels-plain [] none = refl
levels-plain (b ∷ bs) none = levels-byte b bs (opening b bs) none (levels-plain bs)

expansion_of-plain : (functions : FunctionTable) (sight : Sight) (text : List ℕ) → expansion_of_with functions sight (plain text) ≡ text
unfolding plain expansion_of_with
expansion_of-plain functions sight [] = refl
expansion_of-plain functions sight (b ∷ bs) = ap (λ rest. b ∷ rest) (expansion_of-plain functions sight bs)

-- such a text is its own expansion
pub expansion-same : (functions : FunctionTable) (sight : Sight) (text : List ℕ) → has_opening text ≡ false → expansion_with functions sight text ≡ text
unfolding reading_of
expansion-same functions sight text none = ap (λ levels. expansion_of_with functions sight (first_level levels)) (levels-plain text none) ∙ expansion_of-plain functions sight text

unknown_of-plain : (functions : FunctionTable) (sight : Sight) (text : List ℕ) → unknown_of functions sight (plain text) ≡ []
unfolding plain unknown_of
unknown_of-plain functions sight [] = refl
unknown_of-plain functions sight (b ∷ bs) = unknown_of-plain functions sight bs

-- and everything in it is known
pub unknown-none : (functions : FunctionTable) (sight : Sight) (text : List ℕ) → has_opening text ≡ false → first_unknown functions sight text ≡ None
unfolding reading_of
unknown-none functions sight text none =
    ap (λ opens. option_or (if opens && not (functions.reads text) then Some text else None) (unknown_in_groups functions sight text)) none
    ∙ ap (λ levels. any_text (unknown_of functions sight (first_level levels))) (levels-plain text none) ∙ ap any_text (unknown_of-plain functions sight text)
