-- The order of names, which says which of two matching names is more specific.
use Rattle.std.specs.Prelude.{◌≡◌, ℕ, ◌↔◌, List, [], ◌∷◌, length}
use Rattle.std.specs.declared.cmp.Ordering.{Ordering}
use Rattle.std.specs.declared.cmp.Ordering.TheVariants.{Less, Equal, Greater}
use Rattle.std.specs.Ordering.{ordering_then, nat_cmp}
use Rattle.std.specs.Cmp.{IsTotalOrder}
use Rattle.std.specs.Cmp.Lexicographic.{slice_cmp}
use Rattle.dp_pattern.specs.Name.{Meaning, Plain, Pattern}
use Rattle.dp_pattern.specs.declared.tail.Tail.{Tail}
use Rattle.dp_pattern.specs.declared.tail.Tail.TheVariants.{End, Dot, Bang}

-- fewer members come first, and classes of equal size are ordered by their members in byte order
abbrev pub class_cmp : List ℕ → List ℕ → Ordering
class_cmp xs ys = ordering_then (nat_cmp (length xs) (length ys)) (slice_cmp nat_cmp xs ys)

-- the end comes first, then `.`, then `!`
abbrev pub tail_cmp : Tail → Tail → Ordering
tail_cmp End End = Equal
tail_cmp End Dot = Less
tail_cmp End Bang = Less
tail_cmp Dot End = Greater
tail_cmp Dot Dot = Equal
tail_cmp Dot Bang = Less
tail_cmp Bang End = Greater
tail_cmp Bang Dot = Greater
tail_cmp Bang Bang = Equal

-- a class comes between the end and the wildcards
abbrev pub tail_cmp_class : Tail → Ordering
tail_cmp_class End = Less
tail_cmp_class Dot = Greater
tail_cmp_class Bang = Greater

abbrev pub class_cmp_tail : Tail → Ordering
class_cmp_tail End = Greater
class_cmp_tail Dot = Less
class_cmp_tail Bang = Less

-- the order of two patterns by the first place where they differ
abbrev pub pattern_cmp : List (List ℕ) → Tail → List (List ℕ) → Tail → Ordering
pattern_cmp [] s [] t = tail_cmp s t
pattern_cmp [] s (d ∷ ds) t = tail_cmp_class s
pattern_cmp (c ∷ cs) s [] t = class_cmp_tail t
pattern_cmp (c ∷ cs) s (d ∷ ds) t = ordering_then (class_cmp c d) (pattern_cmp cs s ds t)

-- plain names come first, in the order of their bytes
unfoldable pub name_cmp : Meaning → Meaning → Ordering
name_cmp (Plain x) (Plain y) = slice_cmp nat_cmp x y
name_cmp (Plain x) (Pattern ds t) = Less
name_cmp (Pattern cs s) (Plain y) = Greater
name_cmp (Pattern cs s) (Pattern ds t) = pattern_cmp cs s ds t

-- the orders of names and of classes are total, and only equal meanings and equal classes are equal in them
pub record OrdersNames : Type 0 where
  pub total : IsTotalOrder name_cmp
  pub same : (m n : Meaning) → (name_cmp m n ≡ Equal) ↔ (m ≡ n)
  pub classes_total : IsTotalOrder class_cmp
  pub same_class : (xs ys : List ℕ) → (class_cmp xs ys ≡ Equal) ↔ (xs ≡ ys)
