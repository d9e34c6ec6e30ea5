-- Names with their bindings.
use Rattle.std.proofs.Common.{◌≡◌, ◌≤◌, ◌+◌, ℕ, zero, suc, Bool, true, false, cond, eqb, List, [], ◌∷◌, Option, Some, None, refl, sym, ap, ◌∙◌, nat_eq, not, length, get_or, set, take, ◌-◌, subst, ◌++◌, unwrap_or, arith, Result, Ok, Err}
use Rattle.std.specs.List.{position_or_len}
use Rattle.std.specs.Result.{OnErr}
use Rattle.std.specs.Ordering.{nat_cmp}
use Rattle.std.specs.Cmp.Lexicographic.{slice_cmp, pointwise, texts_ties, nat_list_cmp_total, bytes_decides}
use Rattle.std.specs.FinMap.{get, get-empty, get-insert, get-remove, same_map, nat_cmp-IsAntisymmetric, slice_cmp-IsAntisymmetric}
use Rattle.std.specs.BTreeMap.{insert_entry}
use Rattle.std.specs.Map.{lookup, remove_entry}
use Rattle.std.specs.Option.{option_map}
use Rattle.std.proofs.lemmas.List.{length-append, map-append}
use Rattle.std.proofs.Math.Seq.{take-append_seam}
use Rattle.dp_vars.proofs.VariablesLemmas.{apart, has_bytes, lookup-inserted, lookup-removed, cond_shadows, conds_swap}
use Rattle.dp_vars.specs.steps.Bindings.{find, without_binding_at}
use Rattle.dp_vars.specs.Stores.{slot, with_name}
use Rattle.dp_vars.specs.steps.Tables.{AreNumbered, Entries, map_at, names_of, put_value, stack_of, unbound_at, with_stack}
use Rattle.dp_vars.specs.Variables.{Named, by_bytes, in_order}
use Rattle.dp_vars.specs.declared.binding_stack.Binding.{Binding}
use Rattle.dp_vars.proofs.NamesLemmas.{distinct-but_last, distinct-none, distinct-push, last-new, length-names, new_of, position_none, slot-cons, slot-push}

-- maps with the same values are the same
pub same_named : (m n : Named) → ((q : List ℕ) → get m q ≡ get n q) → m ≡ n
same_named m n same = same_map nat_list_cmp_total (slice_cmp-IsAntisymmetric nat_cmp-IsAntisymmetric) m n same

-- the value that is put is found, and each other as before
pub get-put_value : (m : Named) (name : List ℕ) (o : Option (List ℕ)) (q : List ℕ)
    → get (put_value m name o) q ≡ cond (pointwise nat_eq q name) o (get m q)
get-put_value m name None q = get-remove nat_list_cmp_total m name q ∙ ap (λ b. cond b None (get m q)) (sym (texts_ties q name))
get-put_value m name (Some value) q =
    get-insert nat_list_cmp_total m name value q ∙ ap (λ b. cond b (Some value) (get m q)) (sym (texts_ties q name))

-- the value of a name at a depth
pub get-map_at : (depth : ℕ) (entries : Entries) (q : List ℕ) → get (map_at depth entries) q ≡ find depth (stack_of entries q)
get-map_at depth [] q = get-empty (slice_cmp nat_cmp) q
get-map_at depth (e ∷ es) q =
    get-put_value (map_at depth es) e.0 (find depth e.1) q
    ∙ ap (cond (pointwise nat_eq q e.0) (find depth e.1)) (get-map_at depth es q)
    ∙ by (pointwise nat_eq q e.0)
  where
    by : (b : Bool) → cond b (find depth e.1) (find depth (stack_of es q)) ≡ find depth (cond b e.1 (stack_of es q))
    by true = refl
    by false = refl

-- the name has these bindings, and each other name the same as before
pub stack_of-with_stack : (q : List ℕ) (entries : Entries) (name : List ℕ) (bs : List Binding)
    → stack_of (with_stack entries name bs) q ≡ cond (pointwise nat_eq q name) bs (stack_of entries q)
stack_of-with_stack q [] name bs = refl
stack_of-with_stack q (e ∷ es) name bs = by (pointwise nat_eq name e.0) refl (stack_of-with_stack q es name bs)
  where
    by : (b : Bool) → pointwise nat_eq name e.0 ≡ b
        → stack_of (with_stack es name bs) q ≡ cond (pointwise nat_eq q name) bs (stack_of es q)
        → stack_of (cond b ((e.0, bs) ∷ es) (e ∷ with_stack es name bs)) q
        ≡ cond (pointwise nat_eq q name) bs (cond (pointwise nat_eq q e.0) e.1 (stack_of es q))
    by true same rest =
        ap (λ n. cond (pointwise nat_eq q n) bs (stack_of es q)) (sym ((bytes_decides name e.0).0 same))
        ∙ cond_shadows (pointwise nat_eq q name) bs e.1 (stack_of es q)
        ∙ ap (λ n. cond (pointwise nat_eq q name) bs (cond (pointwise nat_eq q n) e.1 (stack_of es q))) ((bytes_decides name e.0).0 same)
    by false other rest =
        ap (cond (pointwise nat_eq q e.0) e.1) rest
        ∙ conds_swap (pointwise nat_eq q name) (pointwise nat_eq q e.0) bs e.1 (stack_of es q) (apart q name e.0 other)

-- a new name is added at the end
pub names-with_stack : (entries : Entries) (name : List ℕ) (bs : List Binding) → names_of (with_stack entries name bs) ≡ with_name (names_of entries) name
names-with_stack [] name bs = refl
names-with_stack (e ∷ es) name bs = by (pointwise nat_eq name e.0) (names-with_stack es name bs)
  where
    by : (b : Bool) → names_of (with_stack es name bs) ≡ with_name (names_of es) name
        → names_of (cond b ((e.0, bs) ∷ es) (e ∷ with_stack es name bs)) ≡ cond b (e.0 ∷ names_of es) (e.0 ∷ with_name (names_of es) name)
    by true rest = refl
    by false rest = ap (λ ns. e.0 ∷ ns) rest

-- a name without a number has no bindings
pub stack_of-new : (entries : Entries) (name : List ℕ) → position_or_len (pointwise nat_eq name) (names_of entries) ≡ length (names_of entries) → stack_of entries name ≡ []
stack_of-new [] name is = refl
stack_of-new (e ∷ es) name is = by (pointwise nat_eq name e.0) is (stack_of-new es name)
  where
    by : (b : Bool) → cond (not b) (1 + position_or_len (pointwise nat_eq name) (names_of es)) 0 ≡ suc (length (names_of es))
        → (position_or_len (pointwise nat_eq name) (names_of es) ≡ length (names_of es) → stack_of es name ≡ [])
        → cond b e.1 (stack_of es name) ≡ []
    by true is rest = absurd (omega arith)
    by false is rest = rest (omega arith)

cond_get : (c : Bool) (m n : Named) (q : List ℕ) → get (cond c m n) q ≡ cond c (get m q) (get n q)
cond_get true m n q = refl
cond_get false m n q = refl

cond_same : {X : Type 0} (c : Bool) (x : X) → x ≡ cond c x x
cond_same true x = refl
cond_same false x = refl

-- bindings with another value at one depth put that value at that depth
pub map_at-with_stack : (entries : Entries) (name : List ℕ) (bs : List Binding) (depth : ℕ) (o : Option (List ℕ))
    → ((e : ℕ) → find e bs ≡ cond (eqb depth e) o (find e (stack_of entries name))) → (e : ℕ)
    → map_at e (with_stack entries name bs) ≡ cond (eqb depth e) (put_value (map_at e entries) name o) (map_at e entries)
map_at-with_stack entries name bs depth o finds e = same_named _ _ (λ q.
    get-map_at e (with_stack entries name bs) q ∙ ap (find e) (stack_of-with_stack q entries name bs)
    ∙ by q (pointwise nat_eq q name) refl
    ∙ (λ i. cond (eqb depth e) (cond (pointwise nat_eq q name) o (sym (get-map_at e entries q) i)) (sym (get-map_at e entries q) i))
    ∙ ap (λ g. cond (eqb depth e) g (get (map_at e entries) q)) (sym (get-put_value (map_at e entries) name o q))
    ∙ sym (cond_get (eqb depth e) (put_value (map_at e entries) name o) (map_at e entries) q))
  where
    by : (q : List ℕ) (b : Bool) → pointwise nat_eq q name ≡ b
        → find e (cond b bs (stack_of entries q)) ≡ cond (eqb depth e) (cond b o (find e (stack_of entries q))) (find e (stack_of entries q))
    by q true same = finds e ∙ ap (λ n. cond (eqb depth e) o (find e (stack_of entries n))) (sym ((bytes_decides q name).0 same))
    by q false other = cond_same (eqb depth e) (find e (stack_of entries q))

-- what holds at a name, and still holds with one more entry before it, holds of the name and its number
pub at_number : (name : List ℕ) (P : Entries → ℕ → Type 0)
    → ((x : List ℕ × List Binding) (es : Entries) → pointwise nat_eq name x.0 ≡ true → P (x ∷ es) 0)
    → ((x : List ℕ × List Binding) (es : Entries) (number : ℕ) → pointwise nat_eq name x.0 ≡ false → P es number → P (x ∷ es) (suc number))
    → (es : Entries) (number : ℕ) → slot (names_of es) name ≡ Some number → P es number
at_number name P here further [] number is = (cc)
at_number name P here further (x ∷ es) number is =
    by (pointwise nat_eq name x.0) (slot (names_of es) name) refl number (sym (slot-cons x.0 (names_of es) name) ∙ is)
    (at_number name P here further es)
  where
    first : (number : ℕ) → Some 0 ≡ Some number → 0 ≡ number
    first number is = (cc)

    next : (m number : ℕ) → Some (suc m) ≡ Some number → suc m ≡ number
    next m number is = (cc)

    by : (b : Bool) (o : Option ℕ) → pointwise nat_eq name x.0 ≡ b → (number : ℕ)
        → cond b (Some 0) (option_map (λ m. suc m) o) ≡ Some number
        → ((m : ℕ) → o ≡ Some m → P es m) → P (x ∷ es) number
    by true o tied number is rest = subst (P (x ∷ es)) (first number is) (here x es tied)
    by false None other number is rest = (cc)
    by false (Some m) other number is rest = subst (P (x ∷ es)) (next m number is) (further x es m other (rest m refl))

-- writing at the number of a name writes for the name
pub set_at_number : (es : Entries) (name : List ℕ) (number : ℕ) (e : List ℕ × List Binding) (bs : List Binding)
    → slot (names_of es) name ≡ Some number → e ≡ get_or es number e → set es number (e.0, bs) ≡ with_stack es name bs
set_at_number es name number e bs is =
    at_number name (λ es number. e ≡ get_or es number e → set es number (e.0, bs) ≡ with_stack es name bs)
    (λ x es tied at. ap (λ y. (y.0, bs) ∷ es) at ∙ ap (λ b. cond b ((x.0, bs) ∷ es) (x ∷ with_stack es name bs)) (sym tied))
    (λ x es number other rest at.
    ap (λ more. x ∷ more) (rest at) ∙ ap (λ b. cond b ((x.0, bs) ∷ es) (x ∷ with_stack es name bs)) (sym other))
    es number is

-- the entry at the number of a name is found for the name
pub entry_at_number : (es : Entries) (name : List ℕ) (number : ℕ) (e : List ℕ × List Binding) → slot (names_of es) name ≡ Some number
    → e ≡ get_or es number e → lookup (pointwise nat_eq name) es ≡ Some e.1
entry_at_number es name number e is =
    at_number name (λ es number. e ≡ get_or es number e → lookup (pointwise nat_eq name) es ≡ Some e.1)
    (λ x es tied at. ap (λ b. cond b (Some x.1) (lookup (pointwise nat_eq name) es)) tied ∙ ap (λ y. Some y.1) (sym at))
    (λ x es number other rest at. ap (λ b. cond b (Some x.1) (lookup (pointwise nat_eq name) es)) other ∙ rest at)
    es number is

-- a name without a number is not found
pub not_found : (es : Entries) (name : List ℕ) → slot (names_of es) name ≡ None → lookup (pointwise nat_eq name) es ≡ None
not_found [] name is = refl
not_found (x ∷ es) name is =
    let new = new_of x.0 (names_of es) name is in
    ap (λ b. cond b (Some x.1) (lookup (pointwise nat_eq name) es)) new.0 ∙ not_found es name new.1

-- other bindings at a number do not change the names
pub names-set : (es : Entries) (number : ℕ) (e : List ℕ × List Binding) (bs : List Binding) → e ≡ get_or es number e
    → names_of (set es number (e.0, bs)) ≡ names_of es
names-set [] number e bs at = refl
names-set (x ∷ es) zero e bs at = ap (λ y. y.0 ∷ names_of es) at
names-set (x ∷ es) (suc number) e bs at = ap (λ ns. x.0 ∷ ns) (names-set es number e bs at)

found_stack : (entries : Entries) (name : List ℕ) → stack_of entries name ≡ unwrap_or (lookup (pointwise nat_eq name) entries) []
found_stack [] name = refl
found_stack (e ∷ es) name = by (pointwise nat_eq name e.0) (found_stack es name)
  where
    by : (b : Bool) → stack_of es name ≡ unwrap_or (lookup (pointwise nat_eq name) es) []
        → cond b e.1 (stack_of es name) ≡ unwrap_or (cond b (Some e.1) (lookup (pointwise nat_eq name) es)) []
    by true rest = refl
    by false rest = rest

-- the bindings that are found for a name
pub stack_of-lookup : (entries : Entries) (name : List ℕ) (o : Option (List Binding)) → o ≡ lookup (pointwise nat_eq name) entries → stack_of entries name ≡ unwrap_or o []
stack_of-lookup entries name o is = found_stack entries name ∙ ap (λ r. unwrap_or r []) (sym is)

-- removing a binding at a number
unbound_at-set : (depth : ℕ) (es : Entries) (number : ℕ) (e : List ℕ × List Binding) → e ≡ get_or es number e
    → set es number (e.0, without_binding_at depth e.1) ≡ unbound_at depth es number
unbound_at-set depth [] number e at = refl
unbound_at-set depth (x ∷ es) zero e at = ap (λ y. (y.0, without_binding_at depth y.1) ∷ es) at
unbound_at-set depth (x ∷ es) (suc number) e at = ap (λ more. x ∷ more) (unbound_at-set depth es number e at)

-- an entry at a number, as its name and its bindings
module _ (es : Entries) (number : ℕ) (x : List ℕ × List Binding) (own : List ℕ) (old : List Binding)
    (same : (own, old) ≡ x) (at : x ≡ get_or es number x) where
  here : (own, old) ≡ get_or es number (own, old)
  here = subst (λ y. y ≡ get_or es number y) (sym same) at

  -- a look-up of its name finds these bindings
  pub found-at : (name : List ℕ) → slot (names_of es) name ≡ Some number → lookup (pointwise nat_eq name) es ≡ Some old
  found-at name is = entry_at_number es name number (own, old) is here

  -- other bindings at the number are other bindings for its name
  pub written-at : (name : List ℕ) (bs : List Binding) → slot (names_of es) name ≡ Some number
      → set es number (own, bs) ≡ with_stack es name bs
  written-at name bs is = set_at_number es name number (own, old) bs is here

  -- and the names have their numbers as before
  pub numbered-at : (numbers : List (List ℕ × ℕ)) (bs : List Binding) → AreNumbered numbers (names_of es)
      → AreNumbered numbers (names_of (set es number (own, bs)))
  numbered-at numbers bs are = subst (AreNumbered numbers) (sym (names-set es number (own, old) bs here)) are

  -- a change at the number of a name changes the bindings of the name
  pub changed-at : (seen : Entries) → es ≡ seen → (name : List ℕ) (change : List Binding → List Binding) (bs : List Binding)
      → slot (names_of seen) name ≡ Some number → bs ≡ change old
      → set es number (own, bs) ≡ with_stack seen name (change (stack_of seen name))
  changed-at seen view name change bs is made =
      let known : slot (names_of es) name ≡ Some number = ap (λ entries. slot (names_of entries) name) view ∙ is in
      let stack : stack_of es name ≡ old = stack_of-lookup es name (Some old) (sym (found-at name known)) in
      written-at name bs known
      ∙ ap (with_stack es name) (made ∙ ap change (sym stack))
      ∙ ap (λ entries. with_stack entries name (change (stack_of entries name))) view

  -- removing a binding at the number
  pub unbound-at : (seen : Entries) → es ≡ seen → (depth : ℕ) (bs : List Binding) → bs ≡ without_binding_at depth old
      → set es number (own, bs) ≡ unbound_at depth seen number
  unbound-at seen view depth bs made =
      ap (λ bs. set es number (own, bs)) made ∙ unbound_at-set depth es number (own, old) here
      ∙ ap (λ entries. unbound_at depth entries number) view

-- a new name is added at the end
pub with_stack-new : (es : Entries) (name : List ℕ) (bs : List Binding) → slot (names_of es) name ≡ None
    → with_stack es name bs ≡ es ++ (name, bs) ∷ []
with_stack-new [] name bs is = refl
with_stack-new (x ∷ es) name bs is =
    let new = new_of x.0 (names_of es) name is in
    ap (λ b. cond b ((x.0, bs) ∷ es) (x ∷ with_stack es name bs)) new.0 ∙ ap (λ more. x ∷ more) (with_stack-new es name bs new.1)

-- without a new name, which goes after the others, they are left
pub without-new : (es : Entries) (name : List ℕ) (bs : List Binding) → slot (names_of es) name ≡ None
    → take (length (with_stack es name bs) - 1) (with_stack es name bs) ≡ es
without-new es name bs is =
    let last : List (List ℕ × List Binding) = (name, bs) ∷ [] in
    let count : length (es ++ last) - 1 ≡ length es = omega (arith, length-append es last) in
    ap (λ all. take (length all - 1) all) (with_stack-new es name bs is)
    ∙ ap (λ n. take n (es ++ last)) count
    ∙ take-append_seam es last

-- numbers of no names
pub numbered-none : AreNumbered [] []
numbered-none = record { slots = λ name. refl; distinct = distinct-none }

module _ {K : Type 0} (bytes : K → List ℕ) where
  -- adding a new name at the end, and its number
  pub numbered-push : (numbers : List (K × ℕ)) (names : List (List ℕ)) (key : K) → AreNumbered (by_bytes bytes numbers) names
      → slot names (bytes key) ≡ None
      → AreNumbered (by_bytes bytes (insert_entry (in_order bytes) numbers key (length names))) (names ++ bytes key ∷ [])
  numbered-push numbers names key are new = record {
    slots = λ q.
        lookup-inserted bytes q numbers key (length names)
        ∙ ap (cond (pointwise nat_eq q (bytes key)) (Some (length names))) (are.slots q)
        ∙ sym (slot-push names (bytes key) q new);
    distinct = distinct-push names (bytes key) new are.distinct;
  }

  -- the names without the last, and the numbers without that of the last
  pub numbered-pop : (numbers : List (K × ℕ)) (names : List (List ℕ)) (name : List ℕ)
      → AreNumbered (by_bytes bytes numbers) (names ++ name ∷ [])
      → lookup (has_bytes bytes name) (remove_entry (has_bytes bytes name) numbers) ≡ None
      → AreNumbered (by_bytes bytes (remove_entry (has_bytes bytes name) numbers)) names
  numbered-pop numbers names name are gone = record {
    slots = λ q.
        lookup-removed bytes q name numbers gone
        ∙ ap (cond (pointwise nat_eq q name) None) (are.slots q ∙ slot-push names name q new)
        ∙ by q (pointwise nat_eq q name) refl;
    distinct = distinct-but_last names name are.distinct;
  }
    where
      new : slot names name ≡ None
      new = last-new names name are.distinct

      by : (q : List ℕ) (b : Bool) → pointwise nat_eq q name ≡ b → cond b None (cond b (Some (length names)) (slot names q)) ≡ slot names q
      by q true tied = sym (ap (slot names) ((bytes_decides q name).0 tied) ∙ new)
      by q false other = refl

-- a key for a new name
module _ {K : Type 0} (bytes : K → List ℕ) (numbers : List (K × ℕ)) (inside seen : Entries) (key : K) (name : List ℕ)
    (are : AreNumbered (by_bytes bytes numbers) (names_of inside)) (view : inside ≡ seen) (same : bytes key ≡ name)
    (new : slot (names_of seen) name ≡ None) where
  is-new : slot (names_of inside) (bytes key) ≡ None
  is-new = (λ i. slot (names_of (view i)) (same i)) ∙ new

  -- bindings that are added at the end belong to the name, and the map with the key has the numbers of the names
  pub added : (after : List (K × ℕ)) (es fs : Entries) (number : ℕ) (own : List ℕ) (bs made : List Binding)
      → es ≡ inside → number ≡ length es → after ≡ insert_entry (in_order bytes) numbers key number → own ≡ name → bs ≡ made → fs ≡ es ++ (own, bs) ∷ []
      → AreNumbered (by_bytes bytes after) (names_of fs) × (fs ≡ with_stack seen name made)
  added after es fs number own bs made held many put named stack is =
      let count : length (names_of inside) ≡ number =
      length-names (λ (e : List ℕ × List Binding). e.0) inside ∙ ap length (sym held) ∙ sym many in
      let at : fs ≡ inside ++ (bytes key, made) ∷ [] = is ∙ (λ i. held i ++ ((named ∙ sym same) i, stack i) ∷ []) in
      let names : names_of inside ++ bytes key ∷ [] ≡ names_of fs =
      sym (map-append (λ e. e.0) inside ((bytes key, made) ∷ [])) ∙ ap names_of (sym at) in (
        subst (AreNumbered (by_bytes bytes after)) names
            (subst (λ ns. AreNumbered (by_bytes bytes ns) (names_of inside ++ bytes key ∷ []))
            (ap (insert_entry (in_order bytes) numbers key) count ∙ sym put)
            (numbered-push bytes numbers (names_of inside) key are is-new)),
        at ∙ sym (with_stack-new inside (bytes key) made is-new) ∙ (λ i. with_stack (view i) (same i) made),
      )

-- there is nothing at a number that no name has
pub unbound_at-beyond : (depth : ℕ) (entries : Entries) (number : ℕ) → length entries ≤ number → unbound_at depth entries number ≡ entries
unbound_at-beyond depth [] number beyond = refl
unbound_at-beyond depth (e ∷ es) zero beyond = absurd (omega arith)
unbound_at-beyond depth (e ∷ es) (suc number) beyond = ap (λ more. e ∷ more) (unbound_at-beyond depth es number (omega arith))

-- an unknown name has no bindings
pub stack_of-unknown : (entries : Entries) (name : List ℕ) → slot (names_of entries) name ≡ None → stack_of entries name ≡ []
stack_of-unknown entries name is = stack_of-new entries name (position_none (pointwise nat_eq name) (names_of entries) is)

-- so a change gives the same as for no bindings
pub changed-new : (seen : Entries) (name : List ℕ) (change : List Binding → List Binding) → slot (names_of seen) name ≡ None
    → with_stack seen name (change []) ≡ with_stack seen name (change (stack_of seen name))
changed-new seen name change is = ap (λ bs. with_stack seen name (change bs)) (sym (stack_of-unknown seen name is))

-- a consequence of any outcome
pub on_err : {T E P : Type 0} (r : Result T E) → P → OnErr r P
on_err (Ok x) p = tt
on_err (Err e) p = p
