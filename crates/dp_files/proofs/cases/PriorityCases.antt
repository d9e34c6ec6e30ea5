-- Priorities, computed from their definition.
use Rattle.std.proofs.Common.{◌≡◌, ℕ, List, None, Some, Option, codes, refl}
use Rattle.dp_files.specs.Priorities.{BaseOf, Number, Next, Same, Label, Hint, Counted, WrittenPriorityOf, written_of, label_within, priority_of}

-- a base with this added number, and no label
counts : BaseOf → Option ℕ → Option WrittenPriorityOf
counts base more = Some (record { written = Counted base more; label = None })

-- a base without an added number, and with a label
named : BaseOf → List ℕ → Option WrittenPriorityOf
named base label = Some (record { written = Counted base None; label = Some label })

number : priority_of (codes "010") ≡ counts (Number 10) None
unfolding counts priority_of written_of
number = refl

labelled : priority_of (codes "1 ( start )") ≡ named (Number 1) (codes "start")
unfolding named priority_of written_of label_within
labelled = refl

next : priority_of (codes "n") ≡ counts Next None
unfolding counts priority_of written_of
next = refl

next_in_capitals : priority_of (codes "NEXT(a)") ≡ named Next (codes "a")
unfolding named priority_of written_of label_within
next_in_capitals = refl

same : priority_of (codes "s") ≡ counts Same None
unfolding counts priority_of written_of
same = refl

same_in_words : priority_of (codes "Same+2") ≡ counts Same (Some 2)
unfolding counts priority_of written_of
same_in_words = refl

added : priority_of (codes "n + 101") ≡ counts Next (Some 101)
unfolding counts priority_of written_of
added = refl

added_to_number : priority_of (codes "1+1") ≡ counts (Number 1) (Some 1)
unfolding counts priority_of written_of
added_to_number = refl

label : priority_of (codes "busy") ≡ counts (Label (codes "busy")) None
unfolding counts priority_of written_of
label = refl

added_to_label : priority_of (codes "busy+1(next)") ≡ Some (record { written = Counted (Label (codes "busy")) (Some 1); label = Some (codes "next") })
unfolding priority_of written_of label_within
added_to_label = refl

hint : priority_of (codes "Hint") ≡ Some (record { written = Hint; label = None })
unfolding priority_of written_of
hint = refl

zero : priority_of (codes "0") ≡ None
unfolding priority_of written_of
zero = refl

too_great : priority_of (codes "2147483648") ≡ None
unfolding priority_of written_of
too_great = refl

greatest : priority_of (codes "2147483647") ≡ counts (Number 2147483647) None
unfolding counts priority_of written_of
greatest = refl

no_number_added : priority_of (codes "n+x") ≡ None
unfolding priority_of written_of
no_number_added = refl

empty_label : priority_of (codes "1()") ≡ None
unfolding priority_of written_of label_within
empty_label = refl

open_label : priority_of (codes "1(a") ≡ None
unfolding priority_of written_of label_within
open_label = refl
