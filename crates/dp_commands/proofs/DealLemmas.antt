-- Items that are dealt to seats in turn.
use Rattle.std.proofs.Common.{rules, ◌≡◌, ℕ, ◌+◌, ◌%◌, ◌==◌, ◌≤◌, ◌<◌, Bool, true, false, List, [], ◌∷◌, ◌++◌, length, take, drop, get_or, zero, suc, refl, sym, ap, ◌∙◌, arith, if◌then◌else◌, All}
use Rattle.std.proofs.lemmas.Bool.Decides.{nat_tests}
use Rattle.std.proofs.lemmas.List.{append-nil, take_more, take-append-drop, length-append, length-map}
use Rattle.std.proofs.lemmas.Nat.{mod_below}
use Rattle.std.proofs.Math.Seq.{take-append_seam}
use Rattle.dp_board.specs.Difference.{told_from, told_of, told_to}
use Rattle.dp_board.specs.declared.seat_call.SeatCall.{SeatCall}
use Rattle.dp_board.specs.declared.entry.Entry.{Entry}
use Rattle.dp_machine.specs.declared.event.Event.{Event}
use Rattle.dp_commands.specs.Threads.{dealt_from, items_of_seat, events_told}

-- one item before a seat's items, given whether it is the seat's
items_of_seat-before : {X : Type 0} (own : Bool) (x : X) (all front after : List X) → all ≡ front ++ after → (if own then x ∷ all else all) ≡ (if own then x ∷ front else front) ++ after
items_of_seat-before {X} true x all front after parted = ap (λ (l : List X). x ∷ l) parted
items_of_seat-before false x all front after parted = parted

-- a seat's items of two lists, one after the other
pub dealt_from-append : {X : Type 0} (count seat at : ℕ) (xs ys : List X) → dealt_from count seat at (xs ++ ys) ≡ dealt_from count seat at xs ++ dealt_from count seat (at + length xs) ys
dealt_from-append count seat at [] ys = ap (λ n. dealt_from count seat n ys) (omega arith)
dealt_from-append count seat at (x ∷ xs) ys =
    items_of_seat-before (at % count == seat) x (dealt_from count seat (at + 1) (xs ++ ys)) (dealt_from count seat (at + 1) xs) (dealt_from count seat (at + length (x ∷ xs)) ys)
    (dealt_from-append count seat (at + 1) xs ys ∙ ap (λ n. dealt_from count seat (at + 1) xs ++ dealt_from count seat n ys) (omega arith))

-- one more item, given whether it is the seat's
items_of_seat-more : {X : Type 0} (count seat i : ℕ) (xs : List X) (x : X) → i < length xs → get_or xs i x ≡ x → items_of_seat count seat (take (i + 1) xs) ≡ items_of_seat count seat (take i xs) ++ (if i % count == seat then x ∷ [] else [])
items_of_seat-more {X} count seat i xs x within there =
    ap (items_of_seat count seat) (take_more xs i x within ∙ ap (λ (y : X). take i xs ++ y ∷ []) there)
    ∙ (dealt_from-append count seat 0 (take i xs) (x ∷ [])
    ∙ ap (λ n. items_of_seat count seat (take i xs) ++ (if n % count == seat then x ∷ [] else [])) (search (rules, within)))

-- one more item that is the seat's
pub items_of_seat-own : {X : Type 0} (count seat i : ℕ) (xs : List X) (x : X) → i < length xs → get_or xs i x ≡ x → (i % count == seat) ≡ true → items_of_seat count seat (take (i + 1) xs) ≡ items_of_seat count seat (take i xs) ++ x ∷ []
items_of_seat-own {X} count seat i xs x within there own =
    items_of_seat-more count seat i xs x within there ∙ ap (λ (b : Bool). items_of_seat count seat (take i xs) ++ (if b then x ∷ [] else [])) own

-- one more item that is another seat's
pub items_of_seat-other : {X : Type 0} (count seat i : ℕ) (xs : List X) (x : X) → i < length xs → get_or xs i x ≡ x → (i % count == seat) ≡ false → items_of_seat count seat (take (i + 1) xs) ≡ items_of_seat count seat (take i xs)
items_of_seat-other {X} count seat i xs x within there other =
    items_of_seat-more count seat i xs x within there
    ∙ (ap (λ (b : Bool). items_of_seat count seat (take i xs) ++ (if b then x ∷ [] else [])) other ∙ append-nil (items_of_seat count seat (take i xs)))

-- a seat's items of the start of a list are the start of its items
pub items_of_seat-front : {X : Type 0} (count seat i : ℕ) (xs : List X) → items_of_seat count seat (take i xs) ≡ take (length (items_of_seat count seat (take i xs))) (items_of_seat count seat xs)
items_of_seat-front {X} count seat i xs =
    let front = items_of_seat count seat (take i xs) in
    let after = dealt_from count seat (0 + length (take i xs)) (drop i xs) in
    let whole : items_of_seat count seat xs ≡ front ++ after = ap (items_of_seat count seat) (sym (take-append-drop i xs)) ∙ dealt_from-append count seat 0 (take i xs) (drop i xs) in
    sym (ap (take (length front)) whole ∙ take-append_seam front after)

-- there is an item at a place
item_at : {X : Type 0} (xs : List X) (i : ℕ) → i < length xs → (x : X) × (get_or xs i x ≡ x)
item_at [] i within = absurd (omega (arith, within))
item_at (x ∷ xs) zero within = (x, refl)
item_at (x ∷ xs) (suc i) within = item_at xs i (omega (arith, within))

-- the number of a seat's items, given whether the next item is the seat's
pub own-more : (i count seat : ℕ) (xs : List Event) → i < length xs → (i % count == seat) ≡ true → length (items_of_seat count seat (take (i + 1) xs)) ≡ length (items_of_seat count seat (take i xs)) + 1
own-more i count seat xs within own =
    let at : (x : Event) × (get_or xs i x ≡ x) = item_at xs i within in
    ap length (items_of_seat-own count seat i xs at.0 within at.1 own) ∙ length-append (items_of_seat count seat (take i xs)) (at.0 ∷ [])

-- one more item that is another seat's, whatever it is
pub items_of_seat-passed : (count seat i : ℕ) (xs : List Event) → i < length xs → (i % count == seat) ≡ false → items_of_seat count seat (take (i + 1) xs) ≡ items_of_seat count seat (take i xs)
items_of_seat-passed count seat i xs within other =
    let at : (x : Event) × (get_or xs i x ≡ x) = item_at xs i within in
    items_of_seat-other count seat i xs at.0 within at.1 other

pub other-more : (i count seat : ℕ) (xs : List Event) → i < length xs → (i % count == seat) ≡ false → length (items_of_seat count seat (take (i + 1) xs)) ≡ length (items_of_seat count seat (take i xs))
other-more i count seat xs within other = ap length (items_of_seat-passed count seat i xs within other)

-- the sum of a function over the numbers below this one
abbrev sum_below : ℕ → (ℕ → ℕ) → ℕ
sum_below zero f = 0
sum_below (suc n) f = sum_below n f + f n

-- functions with equal values have equal sums
sum_below-same : (n : ℕ) (f g : ℕ → ℕ) → ((k : ℕ) → k < n → f k ≡ g k) → sum_below n f ≡ sum_below n g
sum_below-same zero f g same = refl
sum_below-same (suc n) f g same = omega (arith, sum_below-same n f g (λ k lt. same k (omega (arith, lt))), same n (omega arith))

-- a sum of sums
sum_below-plus : (n : ℕ) (f g : ℕ → ℕ) → sum_below n (λ k. f k + g k) ≡ sum_below n f + sum_below n g
sum_below-plus zero f g = refl
sum_below-plus (suc n) f g = omega (arith, sum_below-plus n f g)

sum_below-nothing : (n : ℕ) → sum_below n (λ k. 0) ≡ 0
sum_below-nothing zero = refl
sum_below-nothing (suc n) = omega (arith, sum_below-nothing n)

-- 1 if two numbers are the same, else 0
abbrev one_if : Bool → ℕ
one_if b = if b then 1 else 0

one-other : (x n : ℕ) → n < x → one_if (x == n) ≡ 0
one-other x n lt = grind (arith, nat_tests)

one-same : (x n : ℕ) → x ≡ n → one_if (x == n) ≡ 1
one-same x n e = grind (arith, nat_tests)

-- no number below equals a number that is not below
sum_below-above : (n x : ℕ) → n ≤ x → sum_below n (λ k. one_if (x == k)) ≡ 0
sum_below-above zero x above = refl
sum_below-above (suc n) x above = omega (arith, sum_below-above n x (omega (arith, above)), one-other x n (omega (arith, above)))

one-below : (x n : ℕ) → x < n → one_if (x == n) ≡ 0
one-below x n lt = grind (arith, nat_tests)

-- exactly one number below equals a given number that is below
one-more : (n x sum : ℕ) (b : Bool) → (x == n) ≡ b → x < suc n → (x < n → sum ≡ 1) → (n ≤ x → sum ≡ 0) → sum + one_if b ≡ 1
one-more n x sum true is lt below above = let same : x ≡ n = grind (arith, nat_tests) in omega (arith, above (omega arith))
one-more n x sum false is lt below above = let other : x < n = grind (arith, nat_tests) in omega (arith, below other)

sum_below-one : (n x : ℕ) → x < n → sum_below n (λ k. one_if (x == k)) ≡ 1
sum_below-one zero x lt = absurd (omega (arith, lt))
sum_below-one (suc n) x lt = one-more n x (sum_below n (λ k. one_if (x == k))) (x == n) refl lt (sum_below-one n x) (sum_below-above n x)

-- one item at the front adds one if it is the seat's
length-before : {X : Type 0} (own : Bool) (x : X) (all : List X) → length (if own then x ∷ all else all) ≡ one_if own + length all
length-before true x all = omega arith
length-before false x all = omega arith

-- every item is dealt to exactly one seat
dealt_from-shared : {X : Type 0} (count at : ℕ) (xs : List X) → 0 < count → sum_below count (λ seat. length (dealt_from count seat at xs)) ≡ length xs
dealt_from-shared count at [] some = sum_below-nothing count
dealt_from-shared count at (x ∷ xs) some =
    sum_below-same count (λ seat. length (dealt_from count seat at (x ∷ xs))) (λ seat. one_if (at % count == seat) + length (dealt_from count seat (at + 1) xs)) (λ seat lt. length-before (at % count == seat) x (dealt_from count seat (at + 1) xs))
    ∙ (sum_below-plus count (λ seat. one_if (at % count == seat)) (λ seat. length (dealt_from count seat (at + 1) xs))
    ∙ omega (arith, sum_below-one count (at % count) (mod_below at count some), dealt_from-shared count (at + 1) xs some))

-- every entry belongs to exactly one seat
told_from-shared : (count place : ℕ) (entries : List Entry) → All (λ entry. entry.seat < count) entries → sum_below count (λ seat. length (told_from seat place entries)) ≡ length entries
told_from-shared count place [] seated = sum_below-nothing count
told_from-shared count place (entry ∷ entries) seated =
    sum_below-same count (λ seat. length (told_from seat place (entry ∷ entries))) (λ seat. one_if (entry.seat == seat) + length (told_from seat (place + 1) entries)) (λ seat lt. length-before (entry.seat == seat) (told_of place entry) (told_from seat (place + 1) entries))
    ∙ (sum_below-plus count (λ seat. one_if (entry.seat == seat)) (λ seat. length (told_from seat (place + 1) entries))
    ∙ omega (arith, sum_below-one count entry.seat (seated 0 entry (omega arith)), told_from-shared count (place + 1) entries (λ k d lt. seated (suc k) d (omega (arith, lt)))))

-- if each seat's entries are the events that are dealt to it, there are as many entries as events
pub calls-items_of_seat : (count : ℕ) (events : List Event) (entries : List Entry) → 0 < count → All (λ entry. entry.seat < count) entries →
    ((seat : ℕ) → seat < count → events_told (told_to seat entries) ≡ items_of_seat count seat events) → length entries ≡ length events
calls-items_of_seat count events entries some seated in_turn =
    sym (told_from-shared count 0 entries seated)
    ∙ (sum_below-same count (λ seat. length (told_to seat entries)) (λ seat. length (items_of_seat count seat events))
    (λ seat lt. sym (length-map (told_to seat entries) (λ (it : SeatCall). it.event)) ∙ ap length (in_turn seat lt))
    ∙ dealt_from-shared count 0 events some)
