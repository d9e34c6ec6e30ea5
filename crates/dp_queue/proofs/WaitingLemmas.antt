-- The queue in which a channel waits, after a change of the queues.
use Rattle.std.proofs.Common.{◌≡◌, ℕ, zero, suc, ◌+◌, ◌<◌, ◌≤◌, ◌==◌, Bool, true, false, ◌||◌, List, [], ◌∷◌, ◌++◌, map, Option, Some, None, refl, sym, length, ap, ◌∙◌, arith, if◌then◌else◌, slice_get}
use Rattle.std.proofs.lemmas.Option.{same_Some}
use Rattle.std.specs.Option.{option_map}
use Rattle.std.specs.List.{list_any}
use Rattle.dp_conf.specs.Changes.{changed_at}
use Rattle.dp_queue.specs.Changes.{without}
use Rattle.dp_queue.specs.Joining.{has_caller, waits_in, times_in, times_waiting, with_caller, without_caller}
use Rattle.dp_queue.specs.Queues.{QueueOf}
use borrow.Author.Tests.{eqb-true}

-- a channel in a list is counted
pub any-count : (c : ℕ) (xs : List ℕ) → list_any (λ d. d == c) xs ≡ true → 0 < times_in c xs
any-count c [] found = absurd (cc)
any-count c (x ∷ xs) found = by (x == c) (any-count c xs) found
  where
    by : (b : Bool) → (list_any (λ d. d == c) xs ≡ true → 0 < times_in c xs)
        → (b || list_any (λ d. d == c) xs) ≡ true → 0 < (if b then 1 else 0) + times_in c xs
    by true rest found = omega arith
    by false rest found = omega (arith, rest found)

-- a channel that is not in it is not counted
pub any-none : (c : ℕ) (xs : List ℕ) → list_any (λ d. d == c) xs ≡ false → times_in c xs ≡ 0
any-none c [] none = refl
any-none c (x ∷ xs) none = by (x == c) (any-none c xs) none
  where
    by : (b : Bool) → (list_any (λ d. d == c) xs ≡ false → times_in c xs ≡ 0)
        → (b || list_any (λ d. d == c) xs) ≡ false → (if b then 1 else 0) + times_in c xs ≡ 0
    by true rest none = absurd (cc)
    by false rest none = omega (arith, rest none)

-- one more at the end
pub any-push : (d c : ℕ) (xs : List ℕ) → list_any (λ e. e == d) (xs ++ c ∷ []) ≡ (list_any (λ e. e == d) xs || c == d)
any-push d c [] = by (c == d)
  where
    by : (b : Bool) → (b || false) ≡ b
    by true = refl
    by false = refl
any-push d c (x ∷ xs) = ap (λ (b : Bool). x == d || b) (any-push d c xs) ∙ by (x == d) (list_any (λ e. e == d) xs) (c == d)
  where
    by : (a b e : Bool) → (a || (b || e)) ≡ ((a || b) || e)
    by true b e = refl
    by false b e = refl

pub count-push : (d c : ℕ) (xs : List ℕ) → times_in d (xs ++ c ∷ []) ≡ times_in d xs + (if c == d then 1 else 0)
count-push d c [] = omega arith
count-push d c (x ∷ xs) =
    let rest : times_in d (xs ++ c ∷ []) ≡ times_in d xs + (if c == d then 1 else 0) = count-push d c xs in
    omega (arith, rest)

-- without the first, every other channel is still there
pub any-without_other : (d c : ℕ) (xs : List ℕ) → (c == d) ≡ false → list_any (λ e. e == d) (without (λ e. e == c) xs) ≡ list_any (λ e. e == d) xs
any-without_other d c [] other = refl
any-without_other d c (x ∷ xs) other = by (x == c) refl (any-without_other d c xs other)
  where
    by : (b : Bool) → (x == c) ≡ b → list_any (λ e. e == d) (without (λ e. e == c) xs) ≡ list_any (λ e. e == d) xs
        → list_any (λ e. e == d) (if b then xs else x ∷ without (λ e. e == c) xs) ≡ (x == d || list_any (λ e. e == d) xs)
    by true same rest = ap (λ (b : Bool). b || list_any (λ e. e == d) xs) (sym (ap (λ y. y == d) (eqb-true x c same) ∙ other))
    by false same rest = ap (λ (b : Bool). x == d || b) rest

pub count-without : (d c : ℕ) (xs : List ℕ) → times_in d (without (λ e. e == c) xs) ≤ times_in d xs
count-without d c [] = omega arith
count-without d c (x ∷ xs) = by (x == c) (count-without d c xs)
  where
    by : (b : Bool) → times_in d (without (λ e. e == c) xs) ≤ times_in d xs
        → times_in d (if b then xs else x ∷ without (λ e. e == c) xs) ≤ (if x == d then 1 else 0) + times_in d xs
    by true rest = omega arith
    by false rest = omega (arith, rest)

-- without the only place where it is, the channel is gone
pub any-without_same : (c : ℕ) (xs : List ℕ) → times_in c xs ≤ 1 → list_any (λ e. e == c) (without (λ e. e == c) xs) ≡ false
any-without_same c [] once = refl
any-without_same c (x ∷ xs) once = by (x == c) refl (any-without_same c xs) once
  where
    gone : (b : Bool) → (b ≡ true → 0 < times_in c xs) → times_in c xs ≡ 0 → b ≡ false
    gone true counted none = absurd (omega (arith, counted refl, none))
    gone false counted none = refl

    by : (b : Bool) → (x == c) ≡ b → (times_in c xs ≤ 1 → list_any (λ e. e == c) (without (λ e. e == c) xs) ≡ false)
        → (if b then 1 else 0) + times_in c xs ≤ 1 → list_any (λ e. e == c) (if b then xs else x ∷ without (λ e. e == c) xs) ≡ false
    by true same rest once = gone (list_any (λ e. e == c) xs) (any-count c xs) (omega (arith, once))
    by false same rest once = ap (λ (b : Bool). b || list_any (λ e. e == c) (without (λ e. e == c) xs)) same ∙ rest (omega (arith, once))

-- the cases of a first queue and of the others
none_parts : (b : Bool) (o : Option ℕ) → (if b then Some 0 else option_map suc o) ≡ None → (b ≡ false) × (o ≡ None)
none_parts true o e = absurd (cc)
none_parts false None e = (refl, refl)
none_parts false (Some k) e = absurd (cc)

first_part : (b : Bool) (o : Option ℕ) → (if b then Some 0 else option_map suc o) ≡ Some 0 → b ≡ true
first_part true o e = refl
first_part false None e = absurd (cc)
first_part false (Some k) e = absurd (omega (arith, same_Some (suc k) 0 e))

later_parts : (b : Bool) (o : Option ℕ) (k : ℕ) → (if b then Some 0 else option_map suc o) ≡ Some (suc k) → (b ≡ false) × (o ≡ Some k)
later_parts true o k e = absurd (omega (arith, same_Some 0 (suc k) e))
later_parts false None k e = absurd (cc)
later_parts false (Some j) k e = let same : j ≡ k = omega (arith, same_Some (suc j) (suc k) e) in (refl, ap Some same)

-- a channel that waits nowhere is not counted
pub times-none : (qs : List QueueOf) (c : ℕ) → waits_in qs c ≡ None → times_waiting qs c ≡ 0
times-none [] c e = refl
times-none (q ∷ qs) c e =
    let parts : (has_caller c q ≡ false) × (waits_in qs c ≡ None) = none_parts (has_caller c q) (waits_in qs c) e in
    omega (arith, any-none c q.waiting parts.0, times-none qs c parts.1)

-- a channel that is not counted waits nowhere
pub waits_in-none : (qs : List QueueOf) (c : ℕ) → times_waiting qs c ≡ 0 → waits_in qs c ≡ None
waits_in-none [] c none = refl
waits_in-none (q ∷ qs) c none = by (has_caller c q) (any-count c q.waiting) (waits_in-none qs c (omega (arith, none)))
  where
    by : (b : Bool) → (b ≡ true → 0 < times_in c q.waiting) → waits_in qs c ≡ None
        → (if b then Some 0 else option_map suc (waits_in qs c)) ≡ None
    by true counted rest = absurd (omega (arith, counted refl, none))
    by false counted rest = ap (option_map suc) rest

-- a channel waits in one of the queues
pub waits_in-within : (qs : List QueueOf) (c k : ℕ) → waits_in qs c ≡ Some k → k < length qs
waits_in-within [] c k e = absurd (cc)
waits_in-within (q ∷ qs) c zero e = omega arith
waits_in-within (q ∷ qs) c (suc k) e =
    let rest : k < length qs = waits_in-within qs c k (later_parts (has_caller c q) (waits_in qs c) k e).1 in omega (arith, rest)

-- a channel joins the queue with a number
pub waits_in-joined : (qs : List QueueOf) (c k d : ℕ) → k < length qs → waits_in qs c ≡ None
    → waits_in (changed_at (with_caller c) k qs) d ≡ (if c == d then Some k else waits_in qs d)
waits_in-joined [] c k d within e = absurd (omega (arith, within))
waits_in-joined (q ∷ qs) c zero d within e =
    ap (λ (b : Bool). if b then Some 0 else option_map suc (waits_in qs d)) (any-push d c q.waiting)
    ∙ by (has_caller d q) (c == d) (option_map suc (waits_in qs d))
  where
    by : (a b : Bool) (o : Option ℕ) → (if (a || b) then Some 0 else o) ≡ (if b then Some 0 else (if a then Some 0 else o))
    by true true o = refl
    by true false o = refl
    by false true o = refl
    by false false o = refl
waits_in-joined (q ∷ qs) c (suc k) d within e =
    let parts : (has_caller c q ≡ false) × (waits_in qs c ≡ None) = none_parts (has_caller c q) (waits_in qs c) e in
    by (c == d) refl parts.0 (waits_in-joined qs c k d (omega (arith, within)) parts.1)
  where
    by : (b : Bool) → (c == d) ≡ b → has_caller c q ≡ false → waits_in (changed_at (with_caller c) k qs) d ≡ (if b then Some k else waits_in qs d)
        → (if has_caller d q then Some 0 else option_map suc (waits_in (changed_at (with_caller c) k qs) d))
        ≡ (if b then Some (suc k) else (if has_caller d q then Some 0 else option_map suc (waits_in qs d)))
    by true same absent rest =
        ap (λ (b : Bool). if b then Some 0 else option_map suc (waits_in (changed_at (with_caller c) k qs) d))
        (ap (λ x. has_caller x q) (sym (eqb-true c d same)) ∙ absent)
        ∙ ap (option_map suc) rest
    by false same absent rest = ap (λ o. if has_caller d q then Some 0 else option_map suc o) rest

pub times-joined : (qs : List QueueOf) (c k d : ℕ) → k < length qs
    → times_waiting (changed_at (with_caller c) k qs) d ≡ times_waiting qs d + (if c == d then 1 else 0)
times-joined [] c k d within = absurd (omega (arith, within))
times-joined (q ∷ qs) c zero d within = omega (arith, count-push d c q.waiting)
times-joined (q ∷ qs) c (suc k) d within = omega (arith, times-joined qs c k d (omega (arith, within)))

-- a channel leaves the queue in which it waits
pub waits_in-left : (qs : List QueueOf) (c k d : ℕ) → times_waiting qs c ≤ 1 → waits_in qs c ≡ Some k
    → waits_in (changed_at (without_caller c) k qs) d ≡ (if c == d then None else waits_in qs d)
waits_in-left [] c k d once e = absurd (cc)
waits_in-left (q ∷ qs) c zero d once e =
    let here : has_caller c q ≡ true = first_part (has_caller c q) (waits_in qs c) e in
    let counted : 0 < times_in c q.waiting = any-count c q.waiting here in
    by (c == d) refl
    (any-without_same c q.waiting (omega (arith, once)))
    (waits_in-none qs c (omega (arith, once, counted)))
  where
    by : (b : Bool) → (c == d) ≡ b → list_any (λ x. x == c) (without (λ x. x == c) q.waiting) ≡ false → waits_in qs c ≡ None
        → (if list_any (λ x. x == d) (without (λ x. x == c) q.waiting) then Some 0 else option_map suc (waits_in qs d))
        ≡ (if b then None else (if has_caller d q then Some 0 else option_map suc (waits_in qs d)))
    by true same gone rest =
        let is : c ≡ d = eqb-true c d same in
        ap (λ (b : Bool). if b then Some 0 else option_map suc (waits_in qs d)) (ap (λ y. list_any (λ x. x == y) (without (λ x. x == c) q.waiting)) (sym is) ∙ gone)
        ∙ ap (λ y. option_map suc (waits_in qs y)) (sym is) ∙ ap (option_map suc) rest
    by false other gone rest =
        ap (λ (b : Bool). if b then Some 0 else option_map suc (waits_in qs d)) (any-without_other d c q.waiting other)
waits_in-left (q ∷ qs) c (suc k) d once e =
    let parts : (has_caller c q ≡ false) × (waits_in qs c ≡ Some k) = later_parts (has_caller c q) (waits_in qs c) k e in
    by (c == d) refl parts.0 (waits_in-left qs c k d (omega (arith, once)) parts.1)
  where
    by : (b : Bool) → (c == d) ≡ b → has_caller c q ≡ false → waits_in (changed_at (without_caller c) k qs) d ≡ (if b then None else waits_in qs d)
        → (if has_caller d q then Some 0 else option_map suc (waits_in (changed_at (without_caller c) k qs) d))
        ≡ (if b then None else (if has_caller d q then Some 0 else option_map suc (waits_in qs d)))
    by true same absent rest =
        ap (λ (b : Bool). if b then Some 0 else option_map suc (waits_in (changed_at (without_caller c) k qs) d))
        (ap (λ x. has_caller x q) (sym (eqb-true c d same)) ∙ absent)
        ∙ ap (option_map suc) rest
    by false same absent rest = ap (λ o. if has_caller d q then Some 0 else option_map suc o) rest

pub times-left : (qs : List QueueOf) (c k d : ℕ) → times_waiting (changed_at (without_caller c) k qs) d ≤ times_waiting qs d
times-left [] c k d = omega arith
times-left (q ∷ qs) c zero d = omega (arith, count-without d c q.waiting)
times-left (q ∷ qs) c (suc k) d = omega (arith, times-left qs c k d)

-- a channel in the list of a queue is counted
pub times-at : (qs : List QueueOf) (c k : ℕ) (q : QueueOf) → slice_get qs k ≡ Some q → has_caller c q ≡ true → 0 < times_waiting qs c
times-at [] c k q e found = absurd (cc)
times-at (p ∷ qs) c zero q e found =
    let here : has_caller c p ≡ true = ap (has_caller c) (same_Some p q e) ∙ found in omega (arith, any-count c p.waiting here)
times-at (p ∷ qs) c (suc k) q e found = omega (arith, times-at qs c k q e found)

-- and waits in that queue
pub waits_in-at : (qs : List QueueOf) (c k : ℕ) (q : QueueOf) → times_waiting qs c ≤ 1 → slice_get qs k ≡ Some q → has_caller c q ≡ true
    → waits_in qs c ≡ Some k
waits_in-at [] c k q once e found = absurd (cc)
waits_in-at (p ∷ qs) c zero q once e found =
    ap (λ (b : Bool). if b then Some 0 else option_map suc (waits_in qs c)) (ap (has_caller c) (same_Some p q e) ∙ found)
waits_in-at (p ∷ qs) c (suc k) q once e found =
    by (has_caller c p) (any-count c p.waiting) (waits_in-at qs c k q (omega (arith, once)) e found)
  where
    by : (b : Bool) → (b ≡ true → 0 < times_in c p.waiting) → waits_in qs c ≡ Some k
        → (if b then Some 0 else option_map suc (waits_in qs c)) ≡ Some (suc k)
    by true counted rest = absurd (omega (arith, counted refl, once, times-at qs c k q e found))
    by false counted rest = ap (option_map suc) rest

-- the same for the waiting lists alone
lines_in : List (List ℕ) → ℕ → Option ℕ
lines_in [] c = None
lines_in (line ∷ lines) c = if list_any (λ d. d == c) line then Some 0 else option_map suc (lines_in lines c)

times_in_lines : List (List ℕ) → ℕ → ℕ
times_in_lines [] c = 0
times_in_lines (line ∷ lines) c = times_in c line + times_in_lines lines c

-- the waiting lists
abbrev pub lines : List QueueOf → List (List ℕ)
lines qs = map (λ q. q.waiting) qs

waits_in-lines : (qs : List QueueOf) (c : ℕ) → waits_in qs c ≡ lines_in (lines qs) c
unfolding lines_in
waits_in-lines [] c = refl
waits_in-lines (q ∷ qs) c = ap (λ o. if has_caller c q then Some 0 else option_map suc o) (waits_in-lines qs c)

times-lines : (qs : List QueueOf) (c : ℕ) → times_waiting qs c ≡ times_in_lines (lines qs) c
unfolding times_in_lines
times-lines [] c = refl
times-lines (q ∷ qs) c = ap (λ n. times_in c q.waiting + n) (times-lines qs c)

-- if the waiting lists are as before, channels wait as before
pub waits_in-same : (ps qs : List QueueOf) (c : ℕ) → lines ps ≡ lines qs → waits_in ps c ≡ waits_in qs c
waits_in-same ps qs c same = waits_in-lines ps c ∙ ap (λ ls. lines_in ls c) same ∙ sym (waits_in-lines qs c)

pub times-same : (ps qs : List QueueOf) (c : ℕ) → lines ps ≡ lines qs → times_waiting ps c ≡ times_waiting qs c
times-same ps qs c same = times-lines ps c ∙ ap (λ ls. times_in_lines ls c) same ∙ sym (times-lines qs c)

-- a change that keeps the waiting list of a queue keeps them all
pub lines-changed_at : (change : QueueOf → QueueOf) (k : ℕ) (qs : List QueueOf) → ((q : QueueOf) → (change q).waiting ≡ q.waiting)
    → lines (changed_at change k qs) ≡ lines qs
lines-changed_at change k [] keeps = refl
lines-changed_at change zero (q ∷ qs) keeps = ap (λ line. line ∷ lines qs) (keeps q)
lines-changed_at change (suc k) (q ∷ qs) keeps = ap (λ (ls : List (List ℕ)). q.waiting ∷ ls) (lines-changed_at change k qs keeps)

pub lines-map : (change : QueueOf → QueueOf) (qs : List QueueOf) → ((q : QueueOf) → (change q).waiting ≡ q.waiting) → lines (map change qs) ≡ lines qs
lines-map change [] keeps = refl
lines-map change (q ∷ qs) keeps = (λ i. keeps q i ∷ lines-map change qs keeps i)
