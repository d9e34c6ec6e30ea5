-- What a reader keeps of the lines so far is the history of their items.
use Rattle.std.proofs.Common.{◌≡◌, ℕ, Bool, true, false, cond, ◌&&◌, List, [], ◌∷◌, ◌++◌, Option, Some, None, fold, refl, ap, ◌∙◌, sym}
use Rattle.std.specs.Option.{option_or, unwrap_or, option_flatten}
use Rattle.std.specs.Map.{lookup}
use Rattle.std.specs.Cmp.{IsEquivalence}
use Rattle.std.specs.Cmp.Lexicographic.{nat_list_eq_equiv}
use Rattle.std.proofs.lemmas.Cmp.{on_equiv}
use Rattle.std.proofs.lemmas.List.Sums.{fold-append}
use Rattle.indexmap.specs.IndexMap.{insert_entry}
use Rattle.dp_conf.proofs.AnswersLemmas.{snoc_from}
use Rattle.dp_pattern.specs.Name.{Meaning}
use Rattle.dp_plan.specs.Extensions.{extension_of, same_extension}
use Rattle.dp_plan.specs.History.{PlanHistory, latest, section_in, name_in, priority_in, history_of}
use Rattle.dp_plan.specs.steps.Reader.{ItemReading, nothing_read, after, last_priority, history_in}
use Rattle.dp_plan.specs.declared.extension.Extension.{Extension}
use Rattle.dp_plan.specs.declared.section.Section.TheVariants.{General}
use Rattle.dp_plan.specs.Item.{Item, Begins, Sets, Adds, Includes, Unknown}

-- ---- values found first

or_none : {X : Type 0} (o : Option X) → option_or o None ≡ o
or_none None = refl
or_none (Some x) = refl

or_or : {X : Type 0} (a b c : Option X) → option_or (option_or a b) c ≡ option_or a (option_or b c)
or_or None b c = refl
or_or (Some x) b c = refl

-- the last value, with one more element
pub latest-push : {X Y : Type 0} (f : X → Option Y) (xs : List X) (x : X) → latest f (xs ++ x ∷ []) ≡ option_or (f x) (latest f xs)
latest-push f [] x = sym (or_none (f x))
latest-push f (y ∷ ys) x = ap (λ (o : Option _). option_or o (f y)) (latest-push f ys x) ∙ or_or (f x) (latest f ys) (f y)

-- ---- keys that are equal

and_left : (a b : Bool) → (a && b) ≡ true → a ≡ true
and_left true b e = refl
and_left false b e = absurd cc

and_right : (a b : Bool) → (a && b) ≡ true → b ≡ true
and_right true b e = e
and_right false b e = absurd cc

-- equality in two ways at once is an equivalence if each is
pub both_equiv : {X : Type 0} {E F : X → X → Bool} → IsEquivalence E → IsEquivalence F → IsEquivalence (λ x y. E x y && F x y)
both_equiv {X} {E} {F} first second = record {
  refl = λ x i. first.refl x i && second.refl x i;
  symm = λ x y i. first.symm x y i && second.symm x y i;
  congr = λ x y z e i. first.congr x y z (and_left (E x y) (F x y) e) i && second.congr x y z (and_right (E x y) (F x y) e) i;
}

-- being the same extension is an equivalence
pub same_extension_equiv : IsEquivalence same_extension
same_extension_equiv =
    both_equiv (on_equiv (λ (e : Extension). e.context) nat_list_eq_equiv) (on_equiv (λ (e : Extension). e.spelling) nat_list_eq_equiv)

-- ---- a map with one entry changed

cond_twice : {X : Type 0} (t : Bool) (x y z : X) → cond t x z ≡ cond t x (cond t y z)
cond_twice true x y z = refl
cond_twice false x y z = refl

cond_apart : {X : Type 0} (s t : Bool) (x y z : X) → (s ≡ true → t ≡ false) → cond t x (cond s y z) ≡ cond s y (cond t x z)
cond_apart true true x y z apart = let no = apart refl in absurd cc
cond_apart true false x y z apart = refl
cond_apart false t x y z apart = refl

-- the value of a key after another value was written
pub lookup-insert_entry : {K V : Type 0} (eq : K → K → Bool) → IsEquivalence eq → (es : List (K × V)) (k : K) (v : V) (q : K) → lookup (eq q) (insert_entry eq es k v) ≡ cond (eq q k) (Some v) (lookup (eq q) es)
lookup-insert_entry eq laws [] k v q = refl
lookup-insert_entry {K} {V} eq laws (e ∷ es) k v q = by (lookup-insert_entry eq laws es k v q) (eq k e.0) refl where
  by : lookup (eq q) (insert_entry eq es k v) ≡ cond (eq q k) (Some v) (lookup (eq q) es) → (t : Bool) → eq k e.0 ≡ t → lookup (eq q) (cond t ((e.0, v) ∷ es) (e ∷ insert_entry eq es k v)) ≡ cond (eq q k) (Some v) (cond (eq q e.0) (Some e.1) (lookup (eq q) es))
  by later true same =
      let as_key : eq q k ≡ eq q e.0 = laws.symm q k ∙ (laws.congr k e.0 q same ∙ laws.symm e.0 q) in
      cond_twice (eq q e.0) (Some v) (Some e.1) (lookup (eq q) es)
      ∙ ap (λ t. cond t (Some v) (cond (eq q e.0) (Some e.1) (lookup (eq q) es))) (sym as_key)
  by later false other =
      let apart : eq q k ≡ true → eq q e.0 ≡ false = λ s. laws.congr q k e.0 s ∙ other in
      ap (λ (o : Option V). cond (eq q e.0) (Some e.1) o) later
      ∙ cond_apart (eq q k) (eq q e.0) (Some e.1) (Some v) (lookup (eq q) es) apart

-- ---- the history

-- the history of some items and one more
abbrev history_and : List Item → Item → PlanHistory
history_and items x = record {
  section = unwrap_or (option_or (section_in x) (latest section_in items)) General;
  name = option_flatten (option_or (name_in x) (latest name_in items));
  priority = λ context name. option_or (priority_in context name x) (latest (priority_in context name) items);
}

history_of-push : (items : List Item) (x : Item) → history_of (items ++ x ∷ []) ≡ history_and items x
history_of-push items x = λ i. record {
  section = unwrap_or (latest-push section_in items x i) General;
  name = option_flatten (latest-push name_in items x i);
  priority = λ context name. latest-push (priority_in context name) items x i;
}

or_if : {X : Type 0} (t : Bool) (x : X) (o : Option X) → cond t (Some x) o ≡ option_or (cond t (Some x) None) o
or_if true x o = refl
or_if false x o = refl

-- the reading after one more item represents the history with it
history_in-after : (reading : ItemReading) (items : List Item) (x : Item) → history_in reading ≡ history_of items → history_in (after reading x) ≡ history_and items x
history_in-after reading items (Begins section) same = λ i. record { section = section; name = None; priority = (same i).priority }
history_in-after reading items (Sets global) same = same
history_in-after reading items (Adds line context entry) same =
    let written : (c : List ℕ) (name : Meaning) → last_priority (after reading (Adds line context entry)).extensions c name ≡ option_or (priority_in c name (Adds line context entry)) (last_priority reading.extensions c name) = λ c name.
    lookup-insert_entry same_extension same_extension_equiv reading.extensions (extension_of context entry.name) entry.priority (extension_of c name)
    ∙ or_if (same_extension (extension_of c name) (extension_of context entry.name)) entry.priority (last_priority reading.extensions c name) in
    (λ i. record { section = reading.section; name = Some entry.name; priority = λ c name. written c name i })
    ∙ (λ i. record { section = (same i).section; name = Some entry.name; priority = λ c name. option_or (priority_in c name (Adds line context entry)) ((same i).priority c name) })
history_in-after reading items (Includes line context name) same = same
history_in-after reading items (Unknown line) same = same

-- the reading of some items
abbrev pub reading_of : List Item → ItemReading
reading_of items = fold after nothing_read items

history_kept-push : (items : List Item) (x : Item) → history_in (reading_of items) ≡ history_of items → history_in (reading_of (items ++ x ∷ [])) ≡ history_of (items ++ x ∷ [])
history_kept-push items x same =
    ap history_in (fold-append after nothing_read items (x ∷ []))
    ∙ (history_in-after (reading_of items) items x same ∙ sym (history_of-push items x))

-- the reading of some items represents their history
pub history_kept : (items : List Item) → history_in (reading_of items) ≡ history_of items
history_kept items = snoc_from (λ xs. history_in (reading_of xs) ≡ history_of xs) history_kept-push [] items refl
