-- The bytes of the parts of a text that is cut.
use Rattle.std.proofs.Common.{◌≡◌, ℕ, Bool, true, false, ◌==◌, List, [], ◌∷◌, ◌++◌, Option, Some, None, refl, subst, if◌then◌else◌}
use Rattle.std.specs.Option.{option_and_then, option_map_or}
use Rattle.dp_conf.proofs.TextLemmas.{cut_once-is, each-append, each-front, each-rest}
use Rattle.dp_conf.specs.Blanks.{trim}
use Rattle.dp_conf.specs.Cut.{before_last, cut_once}
use Rattle.dp_conf.specs.Levels.{cut_after, cut_outside}
use Rattle.dp_flow.specs.Conditions.{chosen_by, chosen_side, holds, present_by, side_of, taken_side}
use Rattle.dp_pieces.specs.Bytes.{Bytes, Within}
use Rattle.dp_pieces.proofs.WithinLemmas.{within-trim}
use Rattle.dp_wide.specs.Fields.{first_argument, other_arguments}
use Rattle.dp_wide.specs.Sides.{if_value}

-- the bytes of both parts, if there is a cut, and of a text, if there is one
abbrev pub AreWithin : Bytes → Option (List ℕ × List ℕ) → Type 0
AreWithin set None = Unit {0}
AreWithin set (Some cut) = Within set cut.0 × Within set cut.1

abbrev pub IsWithinIfAny : Bytes → Option (List ℕ) → Type 0
IsWithinIfAny set None = Unit {0}
IsWithinIfAny set (Some text) = Within set text

module _ (set : Bytes) where
  -- a text that is cut at a byte
  pub within-cut_once : (byte : ℕ) (text : List ℕ) → Within set text → AreWithin set (cut_once byte text)
  within-cut_once byte text is = by (cut_once byte text) refl
    where
      by : (cut : Option (List ℕ × List ℕ)) → cut_once byte text ≡ cut → AreWithin set cut
      by None from = tt
      by (Some cut) from =
          let whole : Within set (cut.0 ++ byte ∷ cut.1) = subst (Within set) (cut_once-is byte text cut.0 cut.1 from).whole is in
          (each-front (λ b. set b ≡ true) cut.0 (byte ∷ cut.1) whole, (each-rest (λ b. set b ≡ true) cut.0 (byte ∷ cut.1) whole).1)

  -- a text that is cut at a byte outside parentheses
  within-cut_after : (cuts : List ℕ → ℕ → Bool) (before text : List ℕ) → Within set before → Within set text → AreWithin set (cut_after cuts before text)
  within-cut_after cuts before [] front is = tt
  within-cut_after cuts before (b ∷ text) front is =
      by (cuts before b) (within-cut_after cuts (before ++ b ∷ []) text (each-append (λ x. set x ≡ true) before (b ∷ []) front (is.0, tt)) is.1)
    where
      by : (here : Bool) → AreWithin set (cut_after cuts (before ++ b ∷ []) text)
          → AreWithin set (if here then Some (before, text) else cut_after cuts (before ++ b ∷ []) text)
      by true later = (front, is.1)
      by false later = later

  pub within-cut_outside : (byte : ℕ) (text : List ℕ) → Within set text → AreWithin set (cut_outside byte text)
  unfolding cut_outside
  within-cut_outside byte text is = within-cut_after _ [] text tt is

  -- the text before the last such byte
  pub within-before_last : (byte : ℕ) (text : List ℕ) → Within set text → IsWithinIfAny set (before_last byte text)
  within-before_last byte [] is = tt
  within-before_last byte (b ∷ text) is = by (before_last byte text) (within-before_last byte text is.1)
    where
      here : (same : Bool) → IsWithinIfAny set (if same then Some [] else None)
      here true = tt
      here false = tt

      by : (o : Option (List ℕ)) → IsWithinIfAny set o → IsWithinIfAny set (option_map_or (λ front. Some (b ∷ front)) o (if b == byte then Some [] else None))
      by None later = here (b == byte)
      by (Some front) later = (is.0, later)

  -- the first argument, and the others
  pub within-first_argument : (text : List ℕ) → Within set text → Within set (first_argument text)
  within-first_argument text is = by (cut_outside 44 text) (within-cut_outside 44 text is)
    where
      by : (cut : Option (List ℕ × List ℕ)) → AreWithin set cut → Within set (option_map_or (λ parts. parts.0) cut text)
      by None parts = is
      by (Some cut) parts = parts.0

  pub within-other_arguments : (text : List ℕ) → Within set text → Within set (other_arguments text)
  within-other_arguments text is = by (cut_outside 44 text) (within-cut_outside 44 text is)
    where
      by : (cut : Option (List ℕ × List ℕ)) → AreWithin set cut → Within set (option_map_or (λ parts. parts.1) cut [])
      by None parts = tt
      by (Some cut) parts = parts.1

  -- a side of a choice
  within-present : (side bare : List ℕ) → Within set side → IsWithinIfAny set (present_by side bare)
  within-present side [] is = tt
  within-present side (b ∷ bs) is = is

  within-side : (is_first : Bool) (sides : List ℕ) (cut : Option (List ℕ × List ℕ)) → Within set sides → AreWithin set cut → IsWithinIfAny set (side_of is_first sides cut)
  within-side true sides None is parts = is
  within-side false sides None is parts = tt
  within-side true sides (Some cut) is parts = parts.0
  within-side false sides (Some cut) is parts = parts.1

  within-taken : (is_first : Bool) (sides : List ℕ) → Within set sides → IsWithinIfAny set (taken_side is_first sides)
  within-taken is_first sides is =
      by (side_of is_first sides (cut_outside 58 sides)) (within-side is_first sides (cut_outside 58 sides) is (within-cut_outside 58 sides is))
    where
      by : (side : Option (List ℕ)) → IsWithinIfAny set side → IsWithinIfAny set (option_and_then (λ side. present_by side (trim side)) side)
      by None within = tt
      by (Some side) within = within-present side (trim side) within

  within-chosen : (argument : List ℕ) → Within set argument → IsWithinIfAny set (chosen_side argument)
  unfolding chosen_side
  within-chosen argument is = by (cut_once 63 argument) (within-cut_once 63 argument is)
    where
      by : (cut : Option (List ℕ × List ℕ)) → AreWithin set cut → IsWithinIfAny set (chosen_by cut)
      by None parts = tt
      by (Some cut) parts = within-taken (holds cut.0) cut.1 parts.1

  pub within-if : (argument : List ℕ) → Within set argument → Within set (if_value argument)
  within-if argument is = by (chosen_side argument) (within-chosen argument is)
    where
      by : (side : Option (List ℕ)) → IsWithinIfAny set side → Within set (option_map_or trim side [])
      by None within = tt
      by (Some side) within = within-trim set side within
