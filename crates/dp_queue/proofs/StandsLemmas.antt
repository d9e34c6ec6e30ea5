-- The place of a channel in a waiting list.
use Rattle.std.proofs.Common.{◌≡◌, ℕ, zero, suc, ◌+◌, ◌<◌, ◌≤◌, ◌==◌, Bool, true, false, List, [], ◌∷◌, Some, sym, ap, ◌∙◌, arith, if◌then◌else◌, slice_get}
use Rattle.std.proofs.lemmas.Option.{same_Some}
use Rattle.std.specs.List.{position}
use Rattle.std.specs.Option.{option_map}
use Rattle.dp_queue.specs.Joining.{times_in, times_waiting}
use Rattle.dp_queue.specs.Queues.{QueueOf}
use Rattle.dp_queue.specs.steps.Seats.{stands_at}
use Rattle.dp_queue.proofs.PlacesLemmas.{position-cons}

-- a channel is in the list of one queue no more often than in all lists
pub times-of : (qs : List QueueOf) (c k : ℕ) (q : QueueOf) → slice_get qs k ≡ Some q → times_in c q.waiting ≤ times_waiting qs c
times-of [] c k q e = absurd (cc)
times-of (p ∷ qs) c zero q e =
    let same : times_in c p.waiting ≡ times_in c q.waiting = ap (λ (r : QueueOf). times_in c r.waiting) (same_Some p q e) in omega (arith, same)
times-of (p ∷ qs) c (suc k) q e = omega (arith, times-of qs c k q e)

-- a channel at a place is counted
stands-count : (c : ℕ) (xs : List ℕ) (k : ℕ) → stands_at c xs k ≡ true → 0 < times_in c xs
stands-count c [] k stands = absurd (cc)
stands-count c (x ∷ xs) zero stands =
    let one : ◌≡◌ {A = ℕ} (if x == c then 1 else 0) 1 = ap (λ (b : Bool). if b then 1 else 0) stands in omega (arith, one)
stands-count c (x ∷ xs) (suc k) stands = omega (arith, stands-count c xs k stands)

-- a place with the channel is its place, if it is the only one
pub position-stands : (c : ℕ) (xs : List ℕ) (k : ℕ) → times_in c xs ≤ 1 → stands_at c xs k ≡ true → Some k ≡ position (λ d. d == c) xs
position-stands c [] k once stands = absurd (cc)
position-stands c (x ∷ xs) zero once stands =
    sym (position-cons (λ d. d == c) x xs ∙ ap (λ (b : Bool). if b then Some 0 else option_map suc (position (λ d. d == c) xs)) stands)
position-stands c (x ∷ xs) (suc k) once stands =
    by (x == c) once (λ less. position-stands c xs k less stands) ∙ sym (position-cons (λ d. d == c) x xs)
  where
    by : (b : Bool) → (if b then 1 else 0) + times_in c xs ≤ 1 → (times_in c xs ≤ 1 → Some k ≡ position (λ d. d == c) xs)
        → Some (suc k) ≡ (if b then Some 0 else option_map suc (position (λ d. d == c) xs))
    by true once rest = absurd (omega (arith, once, stands-count c xs k stands))
    by false once rest = ap (option_map suc) (rest (omega (arith, once)))
