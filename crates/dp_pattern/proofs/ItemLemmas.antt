-- A set that is read item by item.
use Rattle.std.proofs.Common.{◌≡◌, ℕ, ◌<◌, Bool, true, false, ◌||◌, List, [], ◌∷◌, Some, None, Result, Ok, Err, refl, sym, ap, ◌∙◌}
use Rattle.std.specs.List.{list_any}
use Rattle.dp_pattern.specs.Classes.{class_by}
use Rattle.dp_pattern.specs.Name.{item_fault, first_fault, or_else, unless_fault, lists}
use Rattle.dp_pattern.specs.declared.class.SetItem.{SetItem}
use Rattle.dp_pattern.specs.declared.fault.NameFault.{NameFault}
use Rattle.dp_pattern.proofs.ClassLemmas.{class_by-same}

-- the bytes that pass a test and those that the items list, unless an item is faulty
abbrev pub class_with : (ℕ → Bool) → List SetItem → Result (List ℕ) NameFault
class_with p items = unless_fault (first_fault items) (class_by (λ b. p b || list_any (lists b) items))

pub class_with-same : (p q : ℕ → Bool) (items : List SetItem) → ((b : ℕ) → b < 256 → p b ≡ q b) → class_with p items ≡ class_with q items
class_with-same p q items same =
    ap (unless_fault (first_fault items)) (class_by-same _ _ (λ b below. ap (λ t. t || list_any (lists b) items) (same b below)))

or_assoc : (x y z : Bool) → ((x || y) || z) ≡ (x || (y || z))
or_assoc true y z = refl
or_assoc false y z = refl

or-false : (x : Bool) → (x || false) ≡ x
or-false true = refl
or-false false = refl

-- an item that is accepted
pub class_with-more : (p q : ℕ → Bool) (item : SetItem) (items : List SetItem) → item_fault item ≡ None → ((b : ℕ) → b < 256 → q b ≡ (p b || lists b item)) → class_with q items ≡ class_with p (item ∷ items)
class_with-more p q item items fine taken =
    ap (unless_fault (first_fault items)) (class_by-same _ _ (λ b below. ap (λ t. t || list_any (lists b) items) (taken b below) ∙ or_assoc (p b) (lists b item) (list_any (lists b) items)))
    ∙ ap (λ f. unless_fault (or_else f (first_fault items)) (class_by (λ b. p b || list_any (lists b) (item ∷ items)))) (sym fine)

-- an item that is refused
pub class_with-fault : (p : ℕ → Bool) (item : SetItem) (items : List SetItem) (fault : NameFault) → item_fault item ≡ Some fault → class_with p (item ∷ items) ≡ Err fault
class_with-fault p item items fault refused =
    ap (λ f. unless_fault (or_else f (first_fault items)) (class_by (λ b. p b || list_any (lists b) (item ∷ items)))) refused

-- no item is left
pub class_with-done : (p : ℕ → Bool) → class_with p [] ≡ Ok (class_by p)
class_with-done p = ap Ok (class_by-same _ p (λ b _. or-false (p b)))
