-- The bytes of texts that are cut into fields and joined, or reduced to some of their bytes.
use Rattle.std.proofs.Common.{◌≡◌, ℕ, ◌+◌, Bool, true, false, ◌==◌, ◌&&◌, List, [], ◌∷◌, Option, Some, None, drop, filter, map, if◌then◌else◌}
use Rattle.std.specs.List.{AllByRecursion, enumerate_from, join_with_byte, onto_first, slice_split}
use Rattle.std.specs.Option.{option_map_or}
use Rattle.dp_conf.specs.Cut.{begins_with, cut_once}
use Rattle.dp_pieces.specs.Bytes.{Bytes, Within}
use Rattle.dp_pieces.proofs.WithinLemmas.{within-append}
use Rattle.dp_wide.specs.Fields.{begins_escaped, first_argument, other_arguments, way_of}
use Rattle.dp_wide.specs.TextFunctions.{filter_value}
use Rattle.dp_wide.specs.Texts.{are_ranges, chosen_from, cut_fields, delimiter_of, is_chosen, kept_of, parts_of}
use Rattle.dp_wide_pieces.proofs.CutLemmas.{AreWithin, within-cut_once, within-first_argument}

-- what holds of each element holds of those that a test keeps
each-kept : {X : Type 0} (P : X → Type 0) (test : X → Bool) (xs : List X) → AllByRecursion P xs → AllByRecursion P (filter test xs)
each-kept P test [] all = tt
each-kept P test (x ∷ xs) all = by (test x) (each-kept P test xs all.1)
  where
    by : (keeps : Bool) → AllByRecursion P (filter test xs) → AllByRecursion P (if keeps then x ∷ filter test xs else filter test xs)
    by true rest = (all.0, rest)
    by false rest = rest

module _ (set : Bytes) where
  -- each part of a text that is cut
  within-onto_first : (b : ℕ) (parts : List (List ℕ)) → set b ≡ true → AllByRecursion (Within set) parts → AllByRecursion (Within set) (onto_first b parts)
  within-onto_first b [] is all = ((is, tt), tt)
  within-onto_first b (part ∷ parts) is all = ((is, all.0), all.1)

  within-parts : (cuts : ℕ → Bool) (text : List ℕ) → Within set text → AllByRecursion (Within set) (slice_split cuts text)
  within-parts cuts [] is = (tt, tt)
  within-parts cuts (b ∷ text) is = by (cuts b) (within-parts cuts text is.1)
    where
      by : (here : Bool) → AllByRecursion (Within set) (slice_split cuts text)
          → AllByRecursion (Within set) (if here then [] ∷ slice_split cuts text else onto_first b (slice_split cuts text))
      by true rest = (tt, rest)
      by false rest = within-onto_first b (slice_split cuts text) is.0 rest

  -- the parts that are chosen, with a byte between them
  numbered : (number : ℕ) (parts : List (List ℕ)) → AllByRecursion (Within set) parts → AllByRecursion (λ (field : ℕ × List ℕ). Within set field.1) (enumerate_from number parts)
  numbered number [] all = tt
  numbered number (part ∷ parts) all = (all.0, numbered (number + 1) parts all.1)

  values-of : (fields : List (ℕ × List ℕ)) → AllByRecursion (λ (field : ℕ × List ℕ). Within set field.1) fields → AllByRecursion (Within set) (map (λ field. field.1) fields)
  values-of [] all = tt
  values-of (field ∷ fields) all = (all.0, values-of fields all.1)

  within-join : (mark : ℕ) (parts : List (List ℕ)) → set mark ≡ true → AllByRecursion (Within set) parts → Within set (join_with_byte mark parts)
  within-join mark [] is all = tt
  within-join mark (part ∷ []) is all = all.0
  within-join mark (part ∷ next ∷ parts) is all = within-append set part (mark ∷ join_with_byte mark (next ∷ parts)) all.0 (is, within-join mark (next ∷ parts) is all.1)

  -- the chosen fields of a value
  pub within-cut : (value : List ℕ) (delimiter : ℕ) (fields : List ℕ) → Within set value → set delimiter ≡ true → Within set (cut_fields value delimiter fields)
  unfolding cut_fields
  within-cut value delimiter fields is has = by (are_ranges fields)
    where
      by : (valid : Bool) → Within set (if valid then join_with_byte delimiter (chosen_from 1 fields (parts_of delimiter value)) else [])
      by true =
          within-join delimiter (chosen_from 1 fields (parts_of delimiter value)) has
          (values-of (filter (λ field. is_chosen fields field.0) (enumerate_from 1 (parts_of delimiter value)))
          (each-kept (λ (field : ℕ × List ℕ). Within set field.1) (λ field. is_chosen fields field.0) (enumerate_from 1 (parts_of delimiter value))
          (numbered 1 (parts_of delimiter value) (within-parts (λ byte. byte == delimiter) value is))))
      by false = tt

  -- the delimiter is a byte of its text, a comma or a minus
  module _ (comma : set 44 ≡ true) (minus : set 45 ≡ true) where
    has-delimiter : (text : List ℕ) → Within set text → set (delimiter_of text) ≡ true
    has-delimiter [] is = minus
    has-delimiter (b ∷ bs) is = by (b == 92 && begins_with 44 bs)
      where
        by : (escaped : Bool) → set (if escaped then 44 else b) ≡ true
        by true = comma
        by false = is.0

    pub has-way : (arguments : List ℕ) → Within set arguments → set (way_of arguments).0 ≡ true
    has-way arguments is = by (begins_escaped arguments)
      where
        by : (escaped : Bool) → set (let way : ℕ × List ℕ = if escaped then (44, other_arguments (drop 2 arguments)) else (delimiter_of (first_argument arguments), other_arguments arguments) in way.0) ≡ true
        by true = comma
        by false = has-delimiter (first_argument arguments) (within-first_argument set arguments is)

  -- the bytes of a text that are in another set
  pub within-filter : (argument : List ℕ) → Within set argument → Within set (filter_value argument)
  within-filter argument is = by (cut_once 44 argument) (within-cut_once set 44 argument is)
    where
      by : (parts : Option (List ℕ × List ℕ)) → AreWithin set parts → Within set (option_map_or (λ parts. kept_of parts.0 parts.1) parts [])
      by None within = tt
      by (Some parts) within = each-kept (λ b. set b ≡ true) _ parts.1 within.1
