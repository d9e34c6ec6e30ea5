-- Marks by the numbers of contexts and entries.
use Rattle.std.proofs.Common.{◌≡◌, ℕ, zero, suc, ◌<◌, ◌≤◌, ◌==◌, ◌&&◌, ◌||◌, Bool, true, false, List, [], ◌∷◌, ◌++◌, append-nil, drop, get_or, length, map, replicate, set, slice_get, unwrap_or, refl, sym, ap, ◌∙◌, arith}
use Rattle.std.proofs.lemmas.List.{drop_all}
use Rattle.std.specs.Prelude.{is_some}
use Rattle.std.specs.Global.{Vec}
use Rattle.std.specs.Option.{option_and_then}
use Rattle.dp_conf.specs.Changes.{changed_at}
use Rattle.dp_closed.specs.Answers.{has_place, is_same, is_marked}
use Rattle.dp_plan.specs.Contexts.{PlanContext}
use Rattle.dp_plan.specs.Lookup.{entry_at}
use Rattle.dp_plan.specs.Plan.{PlanOf}
use Rattle.dp_plan.specs.declared.entry.Entry.{Entry}
use Rattle.dp_plan.specs.declared.entry.EntryId.{EntryId}

-- a number after another is not zero
not-none : (e : ℕ) → (suc e == zero) ≡ false
not-none e = grind arith

none-first : (e : ℕ) → (zero == suc e) ≡ false
none-first e = grind arith

-- two numbers are the same if their successors are
eq-more : (a b : ℕ) → (suc a == suc b) ≡ (a == b)
eq-more a b = grind arith

-- nothing is added
none-more : (a : Bool) → false ≡ ((a && false) || false)
none-more true = refl
none-more false = refl

-- one more mark in a row
row-mark : (bits : List Bool) (at e : ℕ) → unwrap_or (slice_get (changed_at (λ mark. true) at bits) e) false
    ≡ ((e == at && is_some (slice_get bits at)) || unwrap_or (slice_get bits e) false)
row-mark [] at e = none-more (e == at)
row-mark (bit ∷ bits) zero zero = refl
row-mark (bit ∷ bits) zero (suc e) = ap (λ here. (here && true) || unwrap_or (slice_get bits e) false) (sym (not-none e))
row-mark (bit ∷ bits) (suc at) zero = ap (λ here. (here && is_some (slice_get bits at)) || bit) (sym (none-first at))
row-mark (bit ∷ bits) (suc at) (suc e) =
    row-mark bits at e ∙ ap (λ here. (here && is_some (slice_get bits at)) || unwrap_or (slice_get bits e) false) (sym (eq-more e at))

-- a row keeps its places
row-places : (bits : List Bool) (at e : ℕ) → is_some (slice_get (changed_at (λ mark. true) at bits) e) ≡ is_some (slice_get bits e)
row-places [] at e = refl
row-places (bit ∷ bits) zero zero = refl
row-places (bit ∷ bits) zero (suc e) = refl
row-places (bit ∷ bits) (suc at) zero = refl
row-places (bit ∷ bits) (suc at) (suc e) = row-places bits at e

-- the marks after one more, if its context has a row
pub more-mark : (marks : List (Vec Bool)) (id other : EntryId) (row new : Vec Bool) → id.context < length marks → row ≡ get_or marks id.context row
    → new.items ≡ changed_at (λ mark. true) id.entry row.items
    → is_marked (set marks id.context new) other ≡ ((is_same other id && has_place marks id) || is_marked marks other)
more-mark marks id other row new within here is = by marks id.context other.context within here
  where
    by : (marks : List (Vec Bool)) (c o : ℕ) → c < length marks → row ≡ get_or marks c row
        → unwrap_or (option_and_then (λ (r : Vec Bool). slice_get r.items other.entry) (slice_get (set marks c new) o)) false
        ≡ (((o == c && other.entry == id.entry) && is_some (option_and_then (λ (r : Vec Bool). slice_get r.items id.entry) (slice_get marks c)))
        || unwrap_or (option_and_then (λ (r : Vec Bool). slice_get r.items other.entry) (slice_get marks o)) false)
    by [] c o within here = absurd (omega (arith, within))
    by (first ∷ rest) zero zero within here =
        ap (λ bits. unwrap_or (slice_get bits other.entry) false) is
        ∙ (row-mark row.items id.entry other.entry
        ∙ ap (λ (r : Vec Bool). (other.entry == id.entry && is_some (slice_get r.items id.entry)) || unwrap_or (slice_get r.items other.entry) false) here)
    by (first ∷ rest) zero (suc o) within here =
        ap (λ same. ((same && other.entry == id.entry) && is_some (slice_get first.items id.entry))
        || unwrap_or (option_and_then (λ (r : Vec Bool). slice_get r.items other.entry) (slice_get rest o)) false) (sym (not-none o))
    by (first ∷ rest) (suc c) zero within here =
        ap (λ same. ((same && other.entry == id.entry) && is_some (option_and_then (λ (r : Vec Bool). slice_get r.items id.entry) (slice_get rest c)))
        || unwrap_or (slice_get first.items other.entry) false) (sym (none-first c))
    by (first ∷ rest) (suc c) (suc o) within here =
        by rest c o (omega (arith, within)) here
        ∙ ap (λ same. ((same && other.entry == id.entry) && is_some (option_and_then (λ (r : Vec Bool). slice_get r.items id.entry) (slice_get rest c)))
        || unwrap_or (option_and_then (λ (r : Vec Bool). slice_get r.items other.entry) (slice_get rest o)) false) (sym (eq-more o c))

-- the places stay
pub same-places : (marks : List (Vec Bool)) (id other : EntryId) (row new : Vec Bool) → id.context < length marks → row ≡ get_or marks id.context row
    → new.items ≡ changed_at (λ mark. true) id.entry row.items
    → has_place (set marks id.context new) other ≡ has_place marks other
same-places marks id other row new within here is = by marks id.context other.context within here
  where
    by : (marks : List (Vec Bool)) (c o : ℕ) → c < length marks → row ≡ get_or marks c row
        → is_some (option_and_then (λ (r : Vec Bool). slice_get r.items other.entry) (slice_get (set marks c new) o))
        ≡ is_some (option_and_then (λ (r : Vec Bool). slice_get r.items other.entry) (slice_get marks o))
    by [] c o within here = absurd (omega (arith, within))
    by (first ∷ rest) zero zero within here =
        ap (λ bits. is_some (slice_get bits other.entry)) is
        ∙ (row-places row.items id.entry other.entry ∙ ap (λ (r : Vec Bool). is_some (slice_get r.items other.entry)) here)
    by (first ∷ rest) zero (suc o) within here = refl
    by (first ∷ rest) (suc c) zero within here = refl
    by (first ∷ rest) (suc c) (suc o) within here = by rest c o (omega (arith, within)) here

-- the marks of a row
abbrev pub bits_of : Vec Bool → List Bool
bits_of row = row.items

-- a row without marks for the entries of a context
abbrev pub empty_row : PlanContext → List Bool
empty_row context = replicate (length context.entries) false

unmarked-row : (count e : ℕ) → unwrap_or (slice_get (replicate count false) e) false ≡ false
unmarked-row zero e = refl
unmarked-row (suc count) zero = refl
unmarked-row (suc count) (suc e) = unmarked-row count e

places-row : (entries : List Entry) (e : ℕ) → is_some (slice_get (replicate (length entries) false) e) ≡ is_some (slice_get entries e)
places-row [] e = refl
places-row (entry ∷ entries) zero = refl
places-row (entry ∷ entries) (suc e) = places-row entries e

-- no context is left
pub all-rows : (contexts : List PlanContext) (rows : List (List Bool)) (at : ℕ) → length contexts ≤ at
    → rows ++ map empty_row (drop at contexts) ≡ map empty_row contexts → rows ≡ map empty_row contexts
all-rows contexts rows at past are = sym (append-nil rows) ∙ (ap (λ cs. rows ++ map empty_row cs) (sym (drop_all at contexts past)) ∙ are)

-- no entry is marked in rows without marks
pub none-is_marked : (contexts : List PlanContext) (marks : List (Vec Bool)) → map bits_of marks ≡ map empty_row contexts
    → (id : EntryId) → is_marked marks id ≡ false
none-is_marked contexts marks are id = by contexts marks id.context are
  where
    by : (contexts : List PlanContext) (marks : List (Vec Bool)) (c : ℕ) → map bits_of marks ≡ map empty_row contexts
        → unwrap_or (option_and_then (λ (row : Vec Bool). slice_get row.items id.entry) (slice_get marks c)) false ≡ false
    by contexts [] c are = refl
    by [] (row ∷ marks) c are = absurd cc
    by (context ∷ contexts) (row ∷ marks) zero are =
        let same : row.items ≡ empty_row context = cc in
        ap (λ bits. unwrap_or (slice_get bits id.entry) false) same ∙ unmarked-row (length context.entries) id.entry
    by (context ∷ contexts) (row ∷ marks) (suc c) are = by contexts marks c cc

-- they have a place for each entry
pub places-are : (plan : PlanOf) (marks : List (Vec Bool)) → map bits_of marks ≡ map empty_row plan.contexts
    → (id : EntryId) → has_place marks id ≡ is_some (entry_at plan id)
places-are plan marks are id = by plan.contexts marks id.context are
  where
    by : (contexts : List PlanContext) (marks : List (Vec Bool)) (c : ℕ) → map bits_of marks ≡ map empty_row contexts
        → is_some (option_and_then (λ (row : Vec Bool). slice_get row.items id.entry) (slice_get marks c))
        ≡ is_some (option_and_then (λ (context : PlanContext). slice_get context.entries id.entry) (slice_get contexts c))
    by [] [] c are = refl
    by (context ∷ contexts) [] c are = absurd cc
    by [] (row ∷ marks) c are = absurd cc
    by (context ∷ contexts) (row ∷ marks) zero are =
        let same : row.items ≡ empty_row context = cc in
        ap (λ bits. is_some (slice_get bits id.entry)) same ∙ places-row context.entries id.entry
    by (context ∷ contexts) (row ∷ marks) (suc c) are = by contexts marks c cc
