-- Parts of texts whose bytes are in a set.
use Rattle.std.proofs.Common.{◌≡◌, ℕ, ◌-◌, Bool, true, false, ◌||◌, ◌==◌, List, [], ◌∷◌, ◌++◌, length, take, drop, eq-eqb, refl, if◌then◌else◌}
use Rattle.dp_conf.specs.Blanks.{is_blank, trim, trim_end, trim_start, before_kept}
use Rattle.dp_conf.proofs.TextLemmas.{each-append, each-drop, each-take, each-weaker}
use Rattle.dp_vars.specs.Parts.{part, start_of, end_of}
use Rattle.dp_vars.specs.declared.part.Selection.{Selection}
use Rattle.dp_vars.specs.declared.part.Selection.TheVariants.{Whole, Part, Nothing}
use Rattle.dp_pieces.specs.Bytes.{Bytes, IsPart, Within, either}
use Rattle.dp_pieces.specs.Pieces.{bytes_in}

-- a test that holds, or another
pub either-left : (a b : Bool) → a ≡ true → (a || b) ≡ true
either-left true b e = refl
either-left false b e = (cc)

pub either-right : (a b : Bool) → b ≡ true → (a || b) ≡ true
either-right true b e = refl
either-right false b e = e

-- a larger set
pub within-more : (a b : Bytes) → IsPart a b → (text : List ℕ) → Within a text → Within b text
within-more a b part text is = each-weaker (λ x. a x ≡ true) (λ x. b x ≡ true) part text is

-- each set is a part of both together
pub part-left : (a b : Bytes) → IsPart a (either a b)
part-left a b byte is = either-left (a byte) (b byte) is

pub part-right : (a b : Bytes) → IsPart b (either a b)
part-right a b byte is = either-right (a byte) (b byte) is

-- a set with every byte
pub within-all : (a : Bytes) → ((byte : ℕ) → a byte ≡ true) → (text : List ℕ) → Within a text
within-all a all [] = tt
within-all a all (b ∷ bs) = (all b, within-all a all bs)

-- a text has only its own bytes
pub within-own : (text : List ℕ) → Within (bytes_in text) text
within-own [] = tt
within-own (b ∷ bs) =
    (either-left (b == b) (bytes_in bs b) (eq-eqb b b refl), within-more (bytes_in bs) (bytes_in (b ∷ bs)) (λ byte is. either-right (b == byte) (bytes_in bs byte) is) bs (within-own bs))

module _ (set : Bytes) where
  pub within-append : (xs ys : List ℕ) → Within set xs → Within set ys → Within set (xs ++ ys)
  within-append xs ys a b = each-append (λ x. set x ≡ true) xs ys a b

  pub within-take : (n : ℕ) (xs : List ℕ) → Within set xs → Within set (take n xs)
  within-take n xs a = each-take (λ x. set x ≡ true) n xs a

  pub within-drop : (n : ℕ) (xs : List ℕ) → Within set xs → Within set (drop n xs)
  within-drop n xs a = each-drop (λ x. set x ≡ true) n xs a

  -- a part of a value
  pub within-part : (asked : Selection) (value : List ℕ) → Within set value → Within set (part asked value)
  within-part Whole value is = is
  within-part (Part offset size) value is =
      within-take (end_of size (start_of offset (length value)) (length value) - start_of offset (length value)) (drop (start_of offset (length value)) value)
      (within-drop (start_of offset (length value)) value is)
  within-part Nothing value is = tt

  -- the blanks at the ends are cut off
  pub within-trim_start : (text : List ℕ) → Within set text → Within set (trim_start text)
  within-trim_start [] is = tt
  within-trim_start (b ∷ bs) is = by (is_blank b) (within-trim_start bs is.1)
    where
      by : (blank : Bool) → Within set (trim_start bs) → Within set (if blank then trim_start bs else b ∷ bs)
      by true rest = rest
      by false rest = is

  pub within-trim_end : (text : List ℕ) → Within set text → Within set (trim_end text)
  within-trim_end [] is = tt
  within-trim_end (b ∷ bs) is = kept (trim_end bs) (within-trim_end bs is.1)
    where
      by : (blank : Bool) → Within set (if blank then [] else b ∷ [])
      by true = tt
      by false = (is.0, tt)

      kept : (rest : List ℕ) → Within set rest → Within set (before_kept b rest)
      kept [] more = by (is_blank b)
      kept (k ∷ rest) more = (is.0, more)

  pub within-trim : (text : List ℕ) → Within set text → Within set (trim text)
  within-trim text is = within-trim_end (trim_start text) (within-trim_start text is)
