-- Marks of seats, one after another.
use Rattle.std.proofs.Common.{zero, suc, ◌≡◌, ℕ, ◌+◌, ◌<◌, ◌≤◌, ◌||◌, ◌==◌, Bool, true, false, List, [], ◌∷◌, ◌++◌, length, get_or, set, replicate, if◌then◌else◌, refl, sym, ap, subst, ◌∙◌, arith, true≢false}
use Rattle.std.proofs.Math.Bool.{or-false}
use Rattle.std.proofs.lemmas.Bool.{eqb-true, eq-eqb}
use Rattle.std.proofs.lemmas.List.{get_or-set_same, get_or-set_other}
use Rattle.std.proofs.lemmas.List.Folds.{list_any-append, sum_by-replicate}
use Rattle.std.proofs.lemmas.List.Sums.{sum_by-set}
use Rattle.dp_board.specs.steps.Presence.{is_marked, unmarked_in, MarksSeats, AllMarked, IsLeastUnmarked}
use Rattle.dp_board.specs.Settled.{has_seat, AllPresent, IsLeastAbsent}
use Rattle.dp_board.specs.Sittings.{SeatSitting}

-- one more seat
has_seat-push : (seats : List SeatSitting) (seat : SeatSitting) (number : ℕ) (b : Bool) → (seat.number == number) ≡ b → has_seat (seats ++ seat ∷ []) number ≡ (has_seat seats number || b)
has_seat-push seats seat number b is =
    list_any-append (λ (s : SeatSitting). s.number == number) seats (seat ∷ [])
    ∙ ap (λ c. has_seat seats number || c) (or-false (seat.number == number) ∙ is)

or_true : (a h : Bool) → (a || (h || true)) ≡ true
or_true true h = refl
or_true false true = refl
or_true false false = refl

-- the mark of one number
pub MarksSeats-more : (old now new : List Bool) (seats : List SeatSitting) (seat : SeatSitting) → length now ≡ length old → MarksSeats old seats now → seat.number < length old → new ≡ set now seat.number true → MarksSeats old (seats ++ seat ∷ []) new
MarksSeats-more old now new seats seat len before within set_is number lt = by (seat.number == number) refl where
  by : (b : Bool) → (seat.number == number) ≡ b → is_marked new number ≡ (is_marked old number || has_seat (seats ++ seat ∷ []) number)
  by true same =
      ap (λ xs. get_or xs number false) set_is
      ∙ (subst (λ k. get_or (set now seat.number true) k false ≡ true) (eqb-true seat.number number same) (get_or-set_same now seat.number true false (omega (arith, within, len)))
      ∙ sym (ap (λ h. is_marked old number || h) (has_seat-push seats seat number true same) ∙ or_true (is_marked old number) (has_seat seats number)))
  by false other =
      ap (λ xs. get_or xs number false) set_is
      ∙ (get_or-set_other now seat.number number true false (λ e. true≢false (sym (eq-eqb seat.number number (sym e)) ∙ other))
      ∙ (before number lt ∙ ap (λ h. is_marked old number || h) (sym (has_seat-push seats seat number false other ∙ or-false (has_seat seats number)))))

at_most_one : (b : Bool) → (if b then 0 else 1) ≤ 1
at_most_one true = omega arith
at_most_one false = omega arith

-- one number below has no mark
pub unmarked-set : (now new : List Bool) (number : ℕ) → number < length now → new ≡ set now number true → unmarked_in now ≤ unmarked_in new + 1
unmarked-set now new number within set_is =
    let sums = sum_by-set (λ (b : Bool). if b then 0 else 1) now number true false within in
    omega (arith, ap unmarked_in set_is, sums, at_most_one (get_or now number false))

-- a table without marks
get_or-fresh : (count number : ℕ) → get_or (replicate count false) number false ≡ false
get_or-fresh zero number = refl
get_or-fresh (suc count) zero = refl
get_or-fresh (suc count) (suc number) = get_or-fresh count number

length-fresh : (count : ℕ) → length (replicate count false) ≡ count
length-fresh zero = refl
length-fresh (suc count) = ap (λ n. suc n) (length-fresh count)

-- in a table without marks before, the marks are the seats
marks-fresh : (old present : List Bool) (count : ℕ) (seats : List SeatSitting) → old ≡ replicate count false → MarksSeats old seats present → (number : ℕ) → number < count → is_marked present number ≡ has_seat seats number
marks-fresh old present count seats fresh marks number lt =
    marks number (omega (arith, lt, ap length fresh, length-fresh count))
    ∙ ap (λ b. b || has_seat seats number) (ap (λ xs. get_or xs number false) fresh ∙ get_or-fresh count number)

pub present-all : (old present : List Bool) (count : ℕ) (seats : List SeatSitting) → old ≡ replicate count false → length present ≡ length old → MarksSeats old seats present → AllMarked present → AllPresent count seats
present-all old present count seats fresh len marks all number lt =
    sym (marks-fresh old present count seats fresh marks number lt)
    ∙ all number (omega (arith, lt, len, ap length fresh, length-fresh count))

pub enough-seats : (old present : List Bool) (count size : ℕ) → old ≡ replicate count false → unmarked_in old ≤ unmarked_in present + size → unmarked_in present ≡ 0 → count ≤ size
enough-seats old present count size fresh more none =
    omega (arith, more, none, ap unmarked_in fresh, sum_by-replicate (λ (b : Bool). if b then 0 else 1) count false)

pub present-least : (old present : List Bool) (count number : ℕ) (seats : List SeatSitting) → old ≡ replicate count false → length present ≡ length old → MarksSeats old seats present → IsLeastUnmarked present number → IsLeastAbsent count seats number
present-least old present count number seats fresh len marks found =
    let within : number < count = omega (arith, found.within, len, ap length fresh, length-fresh count) in
    record {
      within = within;
      absent = sym (marks-fresh old present count seats fresh marks number within) ∙ found.unmarked;
      least = λ lower lt. sym (marks-fresh old present count seats fresh marks lower (omega (arith, lt, within))) ∙ found.least lower lt;
    }
