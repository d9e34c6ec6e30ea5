-- The sections that the words of a header name.
use Rattle.std.proofs.Common.{◌≡◌, ℕ, Bool, true, false, cond, eqb, List, [], ◌∷◌, ◌++◌, Option, Some, None, Result, Ok, Err, refl, ap, sym, ◌∙◌, append_assoc}
use Rattle.std.specs.List.{list_any}
use Rattle.std.specs.Prelude.{is_ok}
use Rattle.std.proofs.lemmas.Bool.{false≢true}
use Rattle.dp_conf.specs.Changes.{changed_at}
use Rattle.dp_conf.specs.Cut.{cut_once}
use Rattle.dp_conf.specs.Lines.{LineOf, header_of, item_of, pair_of}
use Rattle.dp_conf.specs.declared.fault.LineKind.{LineKind}
use Rattle.dp_conf.specs.declared.fault.LineKind.TheVariants.{Directive}
use Rattle.dp_conf.proofs.TextLemmas.{any-none, cut_once-none}
use Rattle.std.specs.Option.{option_and_then, option_map}
use Rattle.dp_files.specs.Sections.{SectionsSoFar, after_item, place_of, places_of, with_lines}
use Rattle.dp_files.specs.declared.sections.SourceSection.{SourceSection}

-- places with one more in front
places_with_one_more : (found : List ℕ) (place : ℕ) (o : Option (List ℕ))
    → option_map (λ places. (found ++ place ∷ []) ++ places) o ≡ option_map (λ places. found ++ places) (option_map (λ places. place ∷ places) o)
places_with_one_more found place None = refl
places_with_one_more found place (Some places) = ap Some (append_assoc found (place ∷ []) places)

-- if the first name has a section, its place comes first
pub places_of-found : (sections : List SourceSection) (found : List ℕ) (name : List ℕ) (names : List (List ℕ)) (place : ℕ) → Some place ≡ place_of sections name
    → option_map (λ places. (found ++ place ∷ []) ++ places) (places_of sections names) ≡ option_map (λ places. found ++ places) (places_of sections (name ∷ names))
places_of-found sections found name names place e =
    places_with_one_more found place (places_of sections names)
    ∙ ap (λ (o : Option ℕ). option_map (λ places. found ++ places) (option_and_then (λ p. option_map (λ places. p ∷ places) (places_of sections names)) o)) e

-- if the first name has none, there is no result
pub places_of-missing : (sections : List SourceSection) (found : List ℕ) (name : List ℕ) (names : List (List ℕ)) → None ≡ place_of sections name
    → None ≡ option_map (λ places. found ++ places) (places_of sections (name ∷ names))
places_of-missing sections found name names e =
    ap (λ (o : Option ℕ). option_map (λ places. found ++ places) (option_and_then (λ p. option_map (λ places. p ∷ places) (places_of sections names)) o)) e

-- ---- pairs

-- a pair that was cut is a pair
pair_ok : (content : List ℕ) (cut : Option (List ℕ × List ℕ)) → cut_once 61 content ≡ cut → list_any (λ b. eqb b 61) content ≡ true → is_ok (pair_of 0 cut) ≡ true
pair_ok content None none has = absurd (false≢true (sym (any-none (λ b. eqb b 61) content (cut_once-none 61 content none)) ∙ has))
pair_ok content (Some cut) is has = refl

-- a content that begins with neither `[` nor `#`, and has a `=`, is a pair
item_ok : (b : ℕ) (bs : List ℕ) → eqb b 91 ≡ false → eqb b 35 ≡ false → list_any (λ x. eqb x 61) (b ∷ bs) ≡ true → is_ok (item_of true 0 (b ∷ bs)) ≡ true
item_ok b bs no_header no_directive has = by (eqb b 91) (eqb b 35) no_header no_directive
  where
    by : (opens directive : Bool) → opens ≡ false → directive ≡ false
        → is_ok (cond opens (header_of 0 (cut_once 93 bs)) (cond directive (Err Directive) (pair_of 0 (cut_once 61 (b ∷ bs))))) ≡ true
    by true directive no_header no_directive = absurd cc
    by false true no_header no_directive = absurd cc
    by false false no_header no_directive = pair_ok (b ∷ bs) (cut_once 61 (b ∷ bs)) refl has

-- the same for a content whose first byte is known
pub item_ok_at : (content : List ℕ) (b : ℕ) (bs : List ℕ) → content ≡ b ∷ bs → eqb b 91 ≡ false → eqb b 35 ≡ false → list_any (λ x. eqb x 61) content ≡ true
    → is_ok (item_of true 0 content) ≡ true
item_ok_at content b bs is no_header no_directive has =
    ap (λ (text : List ℕ). is_ok (item_of true 0 text)) is
    ∙ item_ok b bs no_header no_directive (ap (λ (text : List ℕ). list_any (λ x. eqb x 61) text) (sym is) ∙ has)

-- a line with an item is kept in the open section
pub after_item-ok : (place current : ℕ) (item : Result (List LineOf) LineKind) (so_far : SectionsSoFar) → is_ok item ≡ true
    → after_item place current item so_far ≡ record so_far { sections = changed_at (with_lines (place ∷ [])) current so_far.sections }
unfolding after_item
after_item-ok place current (Ok items) so_far ok = refl
after_item-ok place current (Err kind) so_far ok = absurd cc
