-- The walk through a dialplan's contexts.
use Rattle.std.proofs.Common.{◌≡◌, ◌≢◌, ℕ, zero, suc, ◌+◌, ◌<◌, ◌≤◌, Bool, true, false, not, ◌&&◌, ◌||◌, eqb, cond, true≢false, subst, List, [], ◌∷◌, ◌++◌, length, drop, set, get_or, Some, None, inl, inr, arith, refl, sym, ap, ◌∙◌, add-one, append_assoc, drop-cons, length-append, length-set}
use Rattle.std.specs.Prelude.{nat_lt, fold, map, slice_get, unwrap_or}
use Rattle.std.proofs.lemmas.Bool.{eqb-true, lt-ltb, ltb-true, cases_eq}
use Rattle.std.proofs.lemmas.List.{append-nil, drop_all}
use Rattle.std.proofs.lemmas.List.Elements.{All-push}
use Rattle.std.proofs.lemmas.List.Sums.{fold-append}
use Rattle.std.proofs.lemmas.Option.{slice_get-get_or, same_Some}
use Rattle.dp_plan.specs.Lookup.{includes_at, number_of}
use Rattle.dp_plan.specs.Plan.{PlanOf}
use Rattle.dp_lookup.specs.SearchOrder.{context_count, has, is_open, link_of, links_at, visit}
use Rattle.dp_lookup.specs.steps.Filling.{IsMarked, links_left, pending, unseen_weight, one, link_count, work, IsFilling}
use Rattle.dp_lookup.specs.declared.visit.ContextVisit.{ContextVisit}
use Rattle.dp_lookup.proofs.SeenLemmas.{has-push_itself, has-push_other, unseen-push}
use Rattle.dp_lookup.proofs.VisitLemmas.{visit-equation, closed}

-- ---- marks

get-set_same : (xs : List Bool) (i : ℕ) (x y : Bool) → slice_get (set xs i x) i ≡ Some y → y ≡ x
get-set_same [] i x y e = absurd cc
get-set_same (z ∷ xs) zero x y e = cc
get-set_same (z ∷ xs) (suc i) x y e = get-set_same xs i x y e

get-set_other : (xs : List Bool) (i k : ℕ) (x : Bool) → k ≢ i → slice_get (set xs i x) k ≡ slice_get xs k
get-set_other [] i k x other = refl
get-set_other (z ∷ xs) zero zero x other = absurd (other refl)
get-set_other (z ∷ xs) zero (suc k) x other = refl
get-set_other (z ∷ xs) (suc i) zero x other = refl
get-set_other (z ∷ xs) (suc i) (suc k) x other = get-set_other xs i k x (omega arith)

get-set : (xs : List Bool) (i : ℕ) (x : Bool) → i < length xs → slice_get (set xs i x) i ≡ Some x
get-set [] i x within = absurd (omega arith)
get-set (z ∷ xs) zero x within = refl
get-set (z ∷ xs) (suc i) x within = get-set xs i x (omega arith)

-- the mark of a number says whether the order contains it
pub mark_says : (order : List ℕ) (marks : List Bool) (number : ℕ) (b : Bool) → IsMarked order marks → number < length marks → get_or marks number false ≡ b → has order number ≡ b
mark_says order marks number b marked within e =
    same_Some (has order number) b (sym (marked number within) ∙ (slice_get-get_or marks number false within ∙ ap Some e))

has-drop : (order : List ℕ) (i k : ℕ) → i < length order → has (drop i order) k ≡ (eqb (get_or order i 0) k || has (drop (i + 1) order) k)
has-drop order i k within = rw (add-one, drop-cons order i 0) refl

skip : (a b : Bool) → a ≡ false → (a || b) ≡ true → b ≡ true
skip true b e h = absurd cc
skip false b e h = h

ne_eqb : (a k : ℕ) → k ≢ a → (b : Bool) → eqb a k ≡ b → b ≡ false
ne_eqb a k other true e = absurd (other (sym (eqb-true a k e)))
ne_eqb a k other false e = refl

-- a mark that is cleared
pub unmark_step : (order : List ℕ) (i : ℕ) (marks : List Bool) → i < length order → ((k : ℕ) → slice_get marks k ≡ Some true → has (drop i order) k ≡ true) → (k : ℕ) → slice_get (set marks (get_or order i 0) false) k ≡ Some true → has (drop (i + 1) order) k ≡ true
unmark_step order i marks within before k marked = elim (cases_eq k (get_or order i 0)) [
  | inl same ↦ absurd (true≢false (get-set_same marks (get_or order i 0) false true (ap (λ j. slice_get (set marks (get_or order i 0) false) j) (sym same) ∙ marked)))
  | inr other ↦ skip (eqb (get_or order i 0) k) (has (drop (i + 1) order) k) (ne_eqb (get_or order i 0) k other (eqb (get_or order i 0) k) refl)
      (sym (has-drop order i k within) ∙ before k (sym (get-set_other marks (get_or order i 0) k false other) ∙ marked))
]

-- if all marks are those of an empty rest of the order, none is set
pub no_marks_are_set : (order : List ℕ) (i : ℕ) (marks : List Bool) → length order ≤ i → ((k : ℕ) → slice_get marks k ≡ Some true → has (drop i order) k ≡ true) → IsMarked [] marks
no_marks_are_set order i marks ended before k within = by_mark (get_or marks k false) (slice_get-get_or marks k false within)
  where
    by_mark : (b : Bool) → slice_get marks k ≡ Some b → slice_get marks k ≡ Some false
    by_mark true e = absurd (true≢false (sym (before k e) ∙ ap (λ left. has left k) (drop_all i order ended)))
    by_mark false e = e

-- ---- remaining includes

pub pending-push : (plan : PlanOf) (frames : List ContextVisit) (frame : ContextVisit) → pending plan (frames ++ frame ∷ []) ≡ links_left plan frame ++ pending plan frames
pending-push plan [] frame = sym (append-nil (links_left plan frame))
pending-push plan (f ∷ frames) frame =
    ap (λ links. links ++ links_left plan f) (pending-push plan frames frame) ∙ append_assoc (links_left plan frame) (pending plan frames) (links_left plan f)

drop-map_suc : {A B : Type 0} (f : A → B) (xs : List A) (k : ℕ) (x : A) → slice_get xs k ≡ Some x → drop k (map f xs) ≡ f x ∷ drop (suc k) (map f xs)
drop-map_suc f [] k x e = absurd cc
drop-map_suc f (y ∷ xs) zero x e = let same : y ≡ x = cc in ap (λ z. f z ∷ map f xs) same
drop-map_suc f (y ∷ xs) (suc k) x e = drop-map_suc f xs k x e

drop-map_some : {A B : Type 0} (f : A → B) (xs : List A) (k : ℕ) (x : A) → slice_get xs k ≡ Some x → drop k (map f xs) ≡ f x ∷ drop (k + 1) (map f xs)
drop-map_some f xs k x e = drop-map_suc f xs k x e ∙ ap (λ j. f x ∷ drop j (map f xs)) (sym (add-one k))

drop-map_none : {A B : Type 0} (f : A → B) (xs : List A) (k : ℕ) → slice_get xs k ≡ None → drop k (map f xs) ≡ []
drop-map_none f [] zero e = refl
drop-map_none f [] (suc k) e = refl
drop-map_none f (y ∷ xs) zero e = absurd cc
drop-map_none f (y ∷ xs) (suc k) e = drop-map_none f xs k e

-- the next include of the last context
pub next_some : (plan : PlanOf) (frames rest : List ContextVisit) (frame : ContextVisit) (name : List ℕ) → frames ≡ rest ++ frame ∷ [] → slice_get (includes_at plan frame.context) frame.next ≡ Some name → pending plan frames ≡ link_of plan name ∷ pending plan (rest ++ (record { context = frame.context; next = frame.next + 1 }) ∷ [])
next_some plan frames rest frame name is_last here =
    ap (pending plan) is_last
    ∙ (pending-push plan rest frame
    ∙ (ap (λ links. links ++ pending plan rest) (drop-map_some (link_of plan) (includes_at plan frame.context) frame.next name here)
    ∙ ap (λ links. link_of plan name ∷ links) (sym (pending-push plan rest (record { context = frame.context; next = frame.next + 1 })))))

-- the last context has no include left
pub next_none : (plan : PlanOf) (frames rest : List ContextVisit) (frame : ContextVisit) → frames ≡ rest ++ frame ∷ [] → slice_get (includes_at plan frame.context) frame.next ≡ None → pending plan frames ≡ pending plan rest
next_none plan frames rest frame is_last ended =
    ap (pending plan) is_last
    ∙ (pending-push plan rest frame
    ∙ ap (λ links. links ++ pending plan rest) (drop-map_none (link_of plan) (includes_at plan frame.context) frame.next ended))

-- ---- a context that is entered

open_now : (plan : PlanOf) (order : List ℕ) (number : ℕ) → number < context_count plan → has order number ≡ false → is_open plan order number ≡ true
open_now plan order number within new = rw (lt-ltb number (context_count plan) within, new) refl

and-false : (b : Bool) → (b && false) ≡ false
and-false true = refl
and-false false = refl

pub visit-seen : (plan : PlanOf) (order : List ℕ) (number : ℕ) → has order number ≡ true → visit plan order number ≡ order
visit-seen plan order number seen =
    visit-equation plan order number ∙ closed plan (visit plan) order number (ap (λ b. nat_lt number (context_count plan) && not b) seen ∙ and-false (nat_lt number (context_count plan)))

visit-new : (plan : PlanOf) (order : List ℕ) (number : ℕ) → number < context_count plan → has order number ≡ false → visit plan order number ≡ fold (visit plan) (order ++ number ∷ []) (links_at plan number)
visit-new plan order number within new =
    visit-equation plan order number ∙ ap (λ b. cond b (fold (visit plan) (order ++ number ∷ []) (links_at plan number)) order) (open_now plan order number within new)

abbrev first_frame : ℕ → ContextVisit
first_frame number = record { context = number; next = 0 }

pub visited-enter : (plan : PlanOf) (order : List ℕ) (frames : List ContextVisit) (number : ℕ) → number < context_count plan → has order number ≡ false → fold (visit plan) (order ++ number ∷ []) (pending plan (frames ++ first_frame number ∷ [])) ≡ fold (visit plan) (visit plan order number) (pending plan frames)
visited-enter plan order frames number within new =
    ap (fold (visit plan) (order ++ number ∷ [])) (pending-push plan frames (first_frame number))
    ∙ (fold-append (visit plan) (order ++ number ∷ []) (links_at plan number) (pending plan frames)
    ∙ ap (λ s. fold (visit plan) s (pending plan frames)) (sym (visit-new plan order number within new)))

pub work-enter : (plan : PlanOf) (order : List ℕ) (frames : List ContextVisit) (number : ℕ) → number < context_count plan → has order number ≡ false → work plan (order ++ number ∷ []) (frames ++ first_frame number ∷ []) ≡ work plan order frames
work-enter plan order frames number within new =
    let seen = unseen-push (link_count plan) (context_count plan) order number within new in
    let added = ap length (pending-push plan frames (first_frame number)) in
    let parts = length-append (links_at plan number) (pending plan frames) in
    omega (arith, seen, added, parts)

-- an order without every context has room for one more
pub room_left : (plan : PlanOf) (order : List ℕ) (marks : List Bool) (frames : List ContextVisit) (number : ℕ) → IsFilling plan order marks frames → number < context_count plan → has order number ≡ false → length order < context_count plan
room_left plan order marks frames number filling within new =
    let seen = unseen-push one (context_count plan) order number within new in
    let counted = filling.counted in
    omega (arith, seen, counted)

marked-enter : (order : List ℕ) (marks : List Bool) (number : ℕ) → IsMarked order marks → number < length marks → IsMarked (order ++ number ∷ []) (set marks number true)
marked-enter order marks number marked within k below = elim (cases_eq k number) [
  | inl same ↦ ap (slice_get (set marks number true)) same ∙ (get-set marks number true within ∙ ap Some (sym (ap (has (order ++ number ∷ [])) same ∙ has-push_itself order number)))
  | inr other ↦ get-set_other marks number k true other ∙ (marked k (omega (arith, below, length-set marks number true)) ∙ ap Some (sym (has-push_other order number k (λ e. other (sym e)))))
]

pub filling-enter : (plan : PlanOf) (order : List ℕ) (marks : List Bool) (frames : List ContextVisit) (number : ℕ) → IsFilling plan order marks frames → number < context_count plan → number < length marks → has order number ≡ false → IsFilling plan (order ++ number ∷ []) (set marks number true) (frames ++ first_frame number ∷ [])
filling-enter plan order marks frames number filling within in_marks new = record {
  marked = marked-enter order marks number filling.marked in_marks;
  counted =
      let seen = unseen-push one (context_count plan) order number within new in
      let counted = filling.counted in
      let longer = length-append order (number ∷ []) in
      omega (arith, seen, counted, longer);
  short =
      let short = filling.short in
      let longer = length-append order (number ∷ []) in
      let deeper = length-append frames (first_frame number ∷ []) in
      omega (arith, short, longer, deeper);
  within = All-push (λ c. c < context_count plan) order number filling.within within;
}

-- nothing has been seen at first
pub unseen-nil : (bound : ℕ) → unseen_weight one bound [] ≡ bound
unseen-nil zero = refl
unseen-nil (suc bound) = let rest = unseen-nil bound in omega (arith, rest)

pub filling-empty : (plan : PlanOf) (order : List ℕ) (marks : List Bool) (frames : List ContextVisit) → order ≡ [] → frames ≡ [] → IsMarked [] marks → IsFilling plan order marks frames
filling-empty plan order marks frames no_order no_frames marked = subst (λ (o : List ℕ). IsFilling plan o marks frames) (sym no_order) (subst (λ (f : List ContextVisit). IsFilling plan [] marks f) (sym no_frames) empty)
  where
    empty : IsFilling plan [] marks []
    empty = record {
      marked = marked;
      counted = let all = unseen-nil (context_count plan) in omega (arith, all);
      short = omega arith;
      within = λ k d below. absurd (omega (arith, below));
    }

-- fewer contexts in progress
pub filling-fewer : (plan : PlanOf) (order : List ℕ) (marks : List Bool) (frames fewer : List ContextVisit) → IsFilling plan order marks frames → length fewer ≤ length frames → IsFilling plan order marks fewer
filling-fewer plan order marks frames fewer filling few = record {
  marked = filling.marked;
  counted = filling.counted;
  short = let short = filling.short in omega (arith, short, few);
  within = filling.within;
}

-- ---- an include without a context

nothing_open : (plan : PlanOf) (order : List ℕ) → is_open plan order (context_count plan) ≡ false
nothing_open plan order = ap (λ b. b && not (has order (context_count plan))) (not_below (context_count plan) (nat_lt (context_count plan) (context_count plan)) refl)
  where
    not_below : (n : ℕ) (b : Bool) → nat_lt n n ≡ b → b ≡ false
    not_below n true e = let below = ltb-true n n e in absurd (omega (arith, below))
    not_below n false e = refl

-- an include without a context is skipped
pub past_unknown : (plan : PlanOf) (order before after : List ℕ) (name : List ℕ) → before ≡ link_of plan name ∷ after → number_of plan name ≡ None → fold (visit plan) order after ≡ fold (visit plan) order before
past_unknown plan order before after name next unknown =
    let link : link_of plan name ≡ context_count plan = ap (λ o. unwrap_or o (context_count plan)) unknown in
    let stays : visit plan order (link_of plan name) ≡ order = ap (visit plan order) link ∙ (visit-equation plan order (context_count plan) ∙ closed plan (visit plan) order (context_count plan) (nothing_open plan order)) in
    ap (λ s. fold (visit plan) s after) (sym stays) ∙ ap (fold (visit plan) order) (sym next)
