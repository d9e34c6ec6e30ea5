-- The members of the class of a set.
use Rattle.std.proofs.Common.{◌≡◌, ℕ, ◌<◌, Bool, true, false, cond, ◌||◌, List, [], ◌∷◌, length, Option, Some, None, Ok, eqb-true, true≢false, refl, sym, ap, ◌∙◌, subst, arith}
use Rattle.std.specs.List.{AllByRecursion, list_any}
use Rattle.std.proofs.lemmas.Bool.Decides.{nat_tests}
use Rattle.dp_pattern.specs.Classes.{class_by}
use Rattle.dp_pattern.specs.Dashes.{is_dash}
use Rattle.dp_pattern.specs.Name.{is_bad, is_end, is_range, items_of, item_fault, or_else, first_fault, lists, class_of_set, unless_fault}
use Rattle.dp_pattern.specs.declared.class.SetItem.{SetItem}
use Rattle.dp_pattern.specs.declared.class.SetItem.TheVariants.{One, Range}
use Rattle.dp_pattern.specs.declared.fault.NameFault.{NameFault}
use Rattle.dp_pattern.specs.declared.fault.NameFault.TheVariants.{BadByte, BadRange}
use Rattle.dp_pattern.proofs.NameLemmas.{IsMember, IsListed, IsClass}

-- an item made from the bytes of a set
abbrev pub IsItem : SetItem → Type 0
IsItem (One a) = IsListed a
IsItem (Range from to) = IsListed from

-- a set of three bytes or more, given the second of them
pub items_of-range : (a b c : ℕ) (bytes : List ℕ) → is_dash b ≡ true → items_of (a ∷ b ∷ c ∷ bytes) ≡ Range a c ∷ items_of bytes
items_of-range a b c bytes e = ap (λ (t : Bool). elim t as (λ _. List SetItem) [ true ↦ Range a c ∷ items_of bytes | false ↦ One a ∷ items_of (b ∷ c ∷ bytes) ]) e

pub items_of-one : (a b c : ℕ) (bytes : List ℕ) → is_dash b ≡ false → items_of (a ∷ b ∷ c ∷ bytes) ≡ One a ∷ items_of (b ∷ c ∷ bytes)
items_of-one a b c bytes e = ap (λ (t : Bool). elim t as (λ _. List SetItem) [ true ↦ Range a c ∷ items_of bytes | false ↦ One a ∷ items_of (b ∷ c ∷ bytes) ]) e

items_of-each : (bytes : List ℕ) → AllByRecursion IsListed bytes → AllByRecursion IsItem (items_of bytes)
items_of-each [] each = tt
items_of-each (a ∷ []) each = (each.0, tt)
items_of-each (a ∷ b ∷ []) each = (each.0, (each.1.0, tt))
items_of-each (a ∷ b ∷ c ∷ bytes) each = by_test (items_of-each bytes each.1.1.1) (items_of-each (b ∷ c ∷ bytes) each.1) (is_dash b) refl
  where
    by_test : AllByRecursion IsItem (items_of bytes) → AllByRecursion IsItem (items_of (b ∷ c ∷ bytes)) → (t : Bool) → is_dash b ≡ t → AllByRecursion IsItem (items_of (a ∷ b ∷ c ∷ bytes))
    by_test after next true e = subst (AllByRecursion IsItem) (sym (items_of-range a b c bytes e)) (each.0, after)
    by_test after next false e = subst (AllByRecursion IsItem) (sym (items_of-one a b c bytes e)) (each.0, next)

items_of-some : (b : ℕ) (bytes : List ℕ) → 0 < length (items_of (b ∷ bytes))
items_of-some a [] = omega arith
items_of-some a (b ∷ []) = omega arith
items_of-some a (b ∷ c ∷ bytes) = by_test (is_dash b) refl
  where
    by_test : (t : Bool) → is_dash b ≡ t → 0 < length (items_of (a ∷ b ∷ c ∷ bytes))
    by_test true e = rw (items_of-range a b c bytes e) (omega arith)
    by_test false e = rw (items_of-one a b c bytes e) (omega arith)

-- the bytes that an item without a fault lists
listed_fine : (item : SetItem) → IsItem item → item_fault item ≡ None → (b : ℕ) → lists b item ≡ true → IsMember b × (is_end b ≡ false)
listed_fine (One a) stands fine b h = by_tests (is_dash a) refl (is_bad a) refl fine
  where
    same : a ≡ b
    same = eqb-true a b h

    by_tests : (dash : Bool) → is_dash a ≡ dash → (bad : Bool) → is_bad a ≡ bad → cond dash (Some BadRange) (cond bad (Some BadByte) None) ≡ None → IsMember b × (is_end b ≡ false)
    by_tests true d bad f e = absurd cc
    by_tests false d true f e = absurd cc
    by_tests false d false f e =
        ((ap is_dash (sym same) ∙ d, ap is_bad (sym same) ∙ f), ap is_end (sym same) ∙ stands.1)
listed_fine (Range from to) stands fine b h = by_test (is_range from to) refl fine
  where
    by_test : (t : Bool) → is_range from to ≡ t → cond t None (Some BadRange) ≡ None → IsMember b × (is_end b ≡ false)
    by_test true e f = ((grind (arith, nat_tests), grind (arith, nat_tests)), grind (arith, nat_tests))
    by_test false e f = absurd cc

first_listed : (item : SetItem) → IsItem item → item_fault item ≡ None → (b : ℕ) × (b < 256) × (lists b item ≡ true)
first_listed (One a) stands fine = (a, stands.0, grind (arith, nat_tests))
first_listed (Range from to) stands fine = by_test (is_range from to) refl fine
  where
    by_test : (t : Bool) → is_range from to ≡ t → cond t None (Some BadRange) ≡ None → (b : ℕ) × (b < 256) × (lists b (Range from to) ≡ true)
    by_test true e f = (from, stands.0, grind (arith, nat_tests))
    by_test false e f = absurd cc

pub fault_of_first : (fault : Option NameFault) (faults : Option NameFault) → or_else fault faults ≡ None → (fault ≡ None) × (faults ≡ None)
fault_of_first None faults e = (refl, e)
fault_of_first (Some fault) faults e = absurd cc

or_true : (x y : Bool) (P : Type 0) → (x || y) ≡ true → (x ≡ true → P) → (y ≡ true → P) → P
or_true true y P e f g = f refl
or_true false y P e f g = g e

all_fine : (items : List SetItem) → AllByRecursion IsItem items → first_fault items ≡ None → (b : ℕ) → list_any (lists b) items ≡ true → IsMember b × (is_end b ≡ false)
all_fine [] each fine b h = absurd (true≢false (sym h))
all_fine (item ∷ items) each fine b h =
    let faults = fault_of_first (item_fault item) (first_fault items) fine in
    or_true (lists b item) (list_any (lists b) items) (IsMember b × (is_end b ≡ false)) h (listed_fine item each.0 faults.0 b) (all_fine items each.1 faults.1 b)

class_of_items-class : (items : List SetItem) → 0 < length items → AllByRecursion IsItem items → first_fault items ≡ None → IsClass (class_by (λ b. list_any (lists b) items))
class_of_items-class [] some each fine = absurd (omega arith)
class_of_items-class (item ∷ items) some each fine =
    let faults = fault_of_first (item_fault item) (first_fault items) fine in
    let first = first_listed item each.0 faults.0 in
    record {
      test = λ b. list_any (lists b) (item ∷ items);
      listed = refl;
      first = first.0;
      below = first.1;
      passes = ap (λ t. t || list_any (lists first.0) items) first.2;
      fine = λ b _ h. (all_fine (item ∷ items) each fine b h).0;
      alone = λ h. absurd (true≢false ((all_fine (item ∷ items) each fine 93 h).1));
    }

-- the class that a set lists
pub class_of_set-class : (bytes : List ℕ) → AllByRecursion IsListed bytes → (class : List ℕ) → class_of_set bytes ≡ Ok class → IsClass class
class_of_set-class [] each class e = absurd cc
class_of_set-class (b ∷ bytes) each class e = by_fault (first_fault (items_of (b ∷ bytes))) refl e
  where
    members : List ℕ
    members = class_by (λ x. list_any (lists x) (items_of (b ∷ bytes)))

    by_fault : (fault : Option NameFault) → first_fault (items_of (b ∷ bytes)) ≡ fault → unless_fault fault members ≡ Ok class → IsClass class
    by_fault None fine e =
        let same : members ≡ class = cc in
        subst IsClass same (class_of_items-class (items_of (b ∷ bytes)) (items_of-some b bytes) (items_of-each (b ∷ bytes) each) fine)
    by_fault (Some fault) refused e = absurd cc
