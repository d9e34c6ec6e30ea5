-- The items of a dialplan give the dialplan again, with no notes except on includes of unknown contexts.
use Rattle.std.proofs.Common.{◌≡◌, ℕ, ◌+◌, Bool, true, false, cond, ◌&&◌, ◌||◌, List, [], ◌∷◌, ◌++◌, map, Option, Some, None, Ok, refl, ap, ap₂, ◌∙◌, ◌==◌, sym, subst, append_assoc, append-nil}
use Rattle.std.specs.List.{AllByRecursion, list_any, filter, filter_map, cons_option, flat_map}
use Rattle.std.specs.Cmp.Lexicographic.{nat_list_eq_equiv}
use Rattle.std.proofs.Math.Seq.{append_snoc}
use Rattle.std.proofs.lemmas.List.Elements.{filter_map-append, filter-append}
use Rattle.std.proofs.lemmas.List.Folds.{list_any-append}
use Rattle.dp_conf.specs.Answers.{each_after}
use Rattle.dp_conf.specs.Lines.{LineOf, lines_of}
use Rattle.dp_conf.specs.Words.{same_text}
use Rattle.dp_conf.proofs.TextLemmas.{each-append, either-false}
use Rattle.dp_plan.specs.Contexts.{PlanContext}
use Rattle.dp_plan.specs.Extensions.{same_name}
use Rattle.dp_plan.specs.Items.{items_after}
use Rattle.dp_plan.specs.Loaded.{plan_and_notes}
use Rattle.dp_plan.specs.Plan.{PlanOf, Addition, Inclusion, of_one_extension, same_place, same_label, shares_label, is_place_taken, is_label_taken, is_taken, is_named, kept_by, added_in, included_in, context_in, global_in, kept_in, names_in, context_of, plan_of, entry_note, include_note, note_of, notes_of}
use Rattle.dp_plan.specs.declared.entry.Entry.{Entry}
use Rattle.dp_plan.specs.declared.note.Note.{Note}
use Rattle.dp_plan.specs.declared.note.NoteKind.TheVariants.{UnknownContext}
use Rattle.dp_plan.specs.declared.plan.GlobalVariable.{GlobalVariable}
use Rattle.dp_lister.proofs.Canonical.{IsFresh, additions_of, IsContext, IsCanonical, canonical_lines}
use Rattle.dp_plan.proofs.ItemWords.{item_word as Item, begins as Begins, sets as Sets, adds as Adds, includes as Includes, section_word as Section, general as General, globals as Globals, by_item}
use Rattle.dp_plan.proofs.DraftLemmas.{more_by, kept_by-filter_map, is_named-last}
use Rattle.dp_lister.proofs.ItemsAgain.{with_line, items_from, section_after, Stands, AllStand, stand-plan, items_of_globals, items_of_context, items_of_contexts, items_of, items_after-canonical}
use Rattle.dp_plan.proofs.LoadedLemmas.{of_items, of_lines}

-- ---- what the items give, whatever their lines

filter_map-items_from : {Y : Type 0} (h : Item → Option Y) → ((n : ℕ) (x : Item) → h (with_line n x) ≡ h x) → (n : ℕ) (xs : List Item) → filter_map h (items_from n xs) ≡ filter_map h xs
filter_map-items_from h same n [] = refl
filter_map-items_from h same n (x ∷ xs) = λ i. cons_option (same (n + 1) x i) (filter_map-items_from h same (n + 1) xs i)

-- everything that an item gives
abbrev given_in : Item → Option Addition × Option Inclusion × Option (List ℕ) × Option GlobalVariable
given_in x = (added_in x, included_in x, context_in x, global_in x)

given-items_from : (n : ℕ) (x : Item) → given_in (with_line n x) ≡ given_in x
given-items_from n =
    by_item (λ x. given_in (with_line n x) ≡ given_in x) (λ section. refl) (λ global. refl) (λ line context entry. refl) (λ line context name. refl) (λ line. refl)

-- items made from a list, each giving nothing, or one thing
gives-none : {X Y : Type 0} (h : Item → Option Y) (f : X → Item) (xs : List X) → ((x : X) → h (f x) ≡ None) → filter_map h (map f xs) ≡ []
gives-none h f [] e = refl
gives-none h f (x ∷ xs) e = λ i. cons_option (e x i) (gives-none h f xs e i)

gives-some : {X Y : Type 0} (h : Item → Option Y) (f : X → Item) (g : X → Y) (xs : List X) → ((x : X) → h (f x) ≡ Some (g x)) → filter_map h (map f xs) ≡ map g xs
gives-some h f g [] e = refl
gives-some h f g (x ∷ xs) e = λ i. cons_option (e x i) (gives-some h f g xs e i)

-- what contexts give, one after another
gives-contexts : {Y : Type 0} (h : Item → Option Y) (part : PlanContext → List Y) → ((context : PlanContext) → filter_map h (items_of_context context) ≡ part context) → (contexts : List PlanContext) → filter_map h (items_of_contexts contexts) ≡ flat_map part contexts
gives-contexts h part e [] = refl
gives-contexts h part e (context ∷ contexts) =
    filter_map-append h (items_of_context context) (items_of_contexts contexts) ∙ (λ i. e context i ++ gives-contexts h part e contexts i)

abbrev adds_of : PlanContext → List Item
adds_of context = map (λ e. Adds 0 context.name e) context.entries

abbrev links_of : PlanContext → List Item
links_of context = map (λ i. Includes 0 context.name i) context.includes

abbrev inclusions_of : PlanContext → List Inclusion
inclusions_of context = map (λ i. record { context = context.name; name = i }) context.includes

abbrev mentions_of : PlanContext → List (List ℕ)
mentions_of context = context.name ∷ (map (λ e. context.name) context.entries ++ map (λ i. context.name) context.includes)

added-context : (context : PlanContext) → filter_map added_in (items_of_context context) ≡ additions_of context
added-context context =
    filter_map-append added_in (adds_of context) (links_of context)
    ∙ ((λ i. gives-some added_in (λ e. Adds 0 context.name e) (λ e. record { context = context.name; entry = e }) context.entries (λ e. refl) i ++ gives-none added_in (λ k. Includes 0 context.name k) context.includes (λ k. refl) i)
    ∙ append-nil (additions_of context))

included-context : (context : PlanContext) → filter_map included_in (items_of_context context) ≡ inclusions_of context
included-context context =
    filter_map-append included_in (adds_of context) (links_of context)
    ∙ (λ i. gives-none included_in (λ e. Adds 0 context.name e) context.entries (λ e. refl) i ++ gives-some included_in (λ k. Includes 0 context.name k) (λ k. record { context = context.name; name = k }) context.includes (λ k. refl) i)

mentions-context : (context : PlanContext) → filter_map context_in (items_of_context context) ≡ mentions_of context
mentions-context context =
    ap (λ (names : List (List ℕ)). context.name ∷ names)
    (filter_map-append context_in (adds_of context) (links_of context)
    ∙ (λ i. gives-some context_in (λ e. Adds 0 context.name e) (λ e. context.name) context.entries (λ e. refl) i ++ gives-some context_in (λ k. Includes 0 context.name k) (λ k. context.name) context.includes (λ k. refl) i))

globals-context : (context : PlanContext) → filter_map global_in (items_of_context context) ≡ []
globals-context context =
    filter_map-append global_in (adds_of context) (links_of context)
    ∙ (λ i. gives-none global_in (λ e. Adds 0 context.name e) context.entries (λ e. refl) i ++ gives-none global_in (λ k. Includes 0 context.name k) context.includes (λ k. refl) i)

nothing-of-contexts : (contexts : List PlanContext) → flat_map (λ (c : PlanContext). let none : List GlobalVariable = [] in none) contexts ≡ []
nothing-of-contexts [] = refl
nothing-of-contexts (context ∷ contexts) = nothing-of-contexts contexts

of-globals : {Y : Type 0} (h : Item → Option Y) → h (Begins Globals) ≡ None → ((g : GlobalVariable) → h (Sets g) ≡ None) → (globals : List GlobalVariable) → filter_map h (items_of_globals globals) ≡ []
of-globals h header each [] = refl
of-globals h header each (g ∷ globals) = λ i. cons_option (header i) (gives-none h (λ g. Sets g) (g ∷ globals) each i)

-- values made from each element and read back
back : {X Y : Type 0} (f : Y → X) (g : X → Y) (xs : List X) → ((x : X) → f (g x) ≡ x) → map f (map g xs) ≡ xs
back f g [] e = refl
back f g (x ∷ xs) e = λ i. e x i ∷ back f g xs e i

-- what holds of each element that is made
each-made : {X Y : Type 0} (P : Y → Type 0) (f : X → Y) (xs : List X) → ((x : X) → P (f x)) → AllByRecursion P (map f xs)
each-made P f [] e = tt
each-made P f (x ∷ xs) e = (e x, each-made P f xs e)

globals-globals : (globals : List GlobalVariable) → filter_map global_in (items_of_globals globals) ≡ globals
globals-globals [] = refl
globals-globals (g ∷ globals) = gives-same (g ∷ globals)
  where
    gives-same : (gs : List GlobalVariable) → filter_map global_in (map (λ g. Sets g) gs) ≡ gs
    gives-same [] = refl
    gives-same (x ∷ gs) = ap (λ (ys : List GlobalVariable). x ∷ ys) (gives-same gs)

-- what the items of a dialplan give

abbrev items : PlanOf → List Item
items plan = items_from 0 (items_of plan)

abbrev additions : PlanOf → List Addition
additions plan = flat_map additions_of plan.contexts

abbrev inclusions : PlanOf → List Inclusion
inclusions plan = flat_map inclusions_of plan.contexts

-- the items give what those of the global variables give, and then what those of the contexts give
items-give : {Y : Type 0} (h : Item → Option Y) (part : PlanContext → List Y) → ((n : ℕ) (x : Item) → h (with_line n x) ≡ h x)
    → ((context : PlanContext) → filter_map h (items_of_context context) ≡ part context)
    → (plan : PlanOf) → filter_map h (items plan) ≡ filter_map h (items_of_globals plan.globals) ++ flat_map part plan.contexts
items-give h part same each plan =
    filter_map-items_from h same 0 (items_of plan)
    ∙ (filter_map-append h (items_of_globals plan.globals) (items_of_contexts plan.contexts)
    ∙ ap (λ (ys : List _). filter_map h (items_of_globals plan.globals) ++ ys) (gives-contexts h part each plan.contexts))

globals-are : (plan : PlanOf) → filter_map global_in (items plan) ≡ plan.globals
globals-are plan =
    items-give global_in (λ c. []) (λ n x. ap (λ given. given.3) (given-items_from n x)) globals-context plan
    ∙ ((λ i. globals-globals plan.globals i ++ nothing-of-contexts plan.contexts i) ∙ append-nil plan.globals)

additions-are : (plan : PlanOf) → filter_map added_in (items plan) ≡ additions plan
additions-are plan =
    items-give added_in additions_of (λ n x. ap (λ given. given.0) (given-items_from n x)) added-context plan
    ∙ ap (λ (xs : List Addition). xs ++ additions plan) (of-globals added_in refl (λ g. refl) plan.globals)

inclusions-are : (plan : PlanOf) → filter_map included_in (items plan) ≡ inclusions plan
inclusions-are plan =
    items-give included_in inclusions_of (λ n x. ap (λ given. given.1) (given-items_from n x)) included-context plan
    ∙ ap (λ (xs : List Inclusion). xs ++ inclusions plan) (of-globals included_in refl (λ g. refl) plan.globals)

mentions-are : (plan : PlanOf) → filter_map context_in (items plan) ≡ flat_map mentions_of plan.contexts
mentions-are plan =
    items-give context_in mentions_of (λ n x. ap (λ given. given.2) (given-items_from n x)) mentions-context plan
    ∙ ap (λ (xs : List (List ℕ)). xs ++ flat_map mentions_of plan.contexts) (of-globals context_in refl (λ g. refl) plan.globals)

-- ---- names

abbrev name_of : PlanContext → List ℕ
name_of context = context.name

same_text-symm : (a b : List ℕ) → same_text a b ≡ false → same_text b a ≡ false
same_text-symm a b e = nat_list_eq_equiv.symm b a ∙ e

-- a name that is not among the names and one more
not_named_twice : (names : List (List ℕ)) (name other : List ℕ) → is_named (names ++ name ∷ []) other ≡ false → (is_named names other ≡ false) × (same_text other name ≡ false)
not_named_twice names name other e =
    let both = either-false (is_named names other) (same_text other name || false) (sym (list_any-append (same_text other) names (name ∷ [])) ∙ e) in
    (both.0, (either-false (same_text other name) false both.1).0)

kept-repeats : {X : Type 0} (before : List (List ℕ)) (name : List ℕ) (xs : List X) (rest : List (List ℕ)) → is_named before name ≡ true → kept_by is_named before (map (λ x. name) xs ++ rest) ≡ kept_by is_named before rest
kept-repeats before name [] rest e = refl
kept-repeats {X} before name (x ∷ xs) rest e =
    rw e (kept-repeats before name xs rest e)

names-again : (before : List (List ℕ)) (contexts : List PlanContext) → IsFresh is_named before (map name_of contexts) → kept_by is_named before (flat_map mentions_of contexts) ≡ map name_of contexts
names-again before [] fresh = refl
names-again before (context ∷ contexts) fresh =
    let rest : List (List ℕ) = flat_map mentions_of contexts in
    let es : List (List ℕ) = map (λ e. context.name) context.entries in
    let is : List (List ℕ) = map (λ i. context.name) context.includes in
    let known : is_named (before ++ context.name ∷ []) context.name ≡ true = is_named-last before context.name in
    rw fresh.0 (ap (λ (names : List (List ℕ)). context.name ∷ names)
    (ap (kept_by is_named (before ++ context.name ∷ [])) (append_assoc es is rest)
    ∙ (kept-repeats (before ++ context.name ∷ []) context.name context.entries (is ++ rest) known
    ∙ (kept-repeats (before ++ context.name ∷ []) context.name context.includes rest known
    ∙ names-again (before ++ context.name ∷ []) contexts fresh.1))))

-- ---- entries that are all kept

kept-fresh : {X : Type 0} (taken : List X → X → Bool) (before xs : List X) → IsFresh taken before xs → kept_by taken before xs ≡ xs
kept-fresh taken before [] fresh = refl
kept-fresh taken before (x ∷ xs) fresh =
    rw fresh.0 (ap (λ (ys : List _). x ∷ ys) (kept-fresh taken (before ++ x ∷ []) xs fresh.1))

-- the addition belongs to the context
abbrev pub is_of : List ℕ → Addition → Bool
is_of name addition = same_text name addition.context

any-local : (name : List ℕ) (test : Addition → Bool) → ((b : Addition) → is_of name b ≡ false → test b ≡ false) → (before : List Addition) → list_any test before ≡ list_any test (filter (is_of name) before)
any-local name test apart [] = refl
any-local name test apart (b ∷ before) = by (is_of name b) refl (any-local name test apart before)
  where
    by : (t : Bool) → is_of name b ≡ t → list_any test before ≡ list_any test (filter (is_of name) before) → (test b || list_any test before) ≡ list_any test (cond t (b ∷ filter (is_of name) before) (filter (is_of name) before))
    by true e rest = ap (λ t. test b || t) rest
    by false e rest = ap (λ t. t || list_any test before) (apart b e) ∙ rest

other-context : (name : List ℕ) (a b : Addition) → is_of name a ≡ true → is_of name b ≡ false → of_one_extension a b ≡ false
other-context name a b here there =
    let apart : same_text a.context b.context ≡ false = sym (nat_list_eq_equiv.congr name a.context b.context here) ∙ there in
    ap (λ t. t && same_name a.entry.name b.entry.name) apart

-- only entries of the same context take an entry's place or label
pub taken-local : (name : List ℕ) (before : List Addition) (a : Addition) → is_of name a ≡ true → is_taken before a ≡ is_taken (filter (is_of name) before) a
taken-local name before a here =
    let place : list_any (same_place a) before ≡ list_any (same_place a) (filter (is_of name) before) =
    any-local name (same_place a) (λ b there. ap (λ t. t && a.entry.priority == b.entry.priority) (other-context name a b here there)) before in
    let label : list_any (same_label a) before ≡ list_any (same_label a) (filter (is_of name) before) =
    any-local name (same_label a) (λ b there. ap (λ t. t && shares_label a.entry.label b.entry.label) (other-context name a b here there)) before in
    λ i. place i || label i

filter-push : (name : List ℕ) (first second : List Addition) (y : Addition) → filter (is_of name) first ≡ filter (is_of name) second → filter (is_of name) (first ++ y ∷ []) ≡ filter (is_of name) (second ++ y ∷ [])
filter-push name first second y e =
    filter-append (is_of name) first (y ∷ []) ∙ (ap (λ (xs : List Addition). xs ++ filter (is_of name) (y ∷ [])) e ∙ sym (filter-append (is_of name) second (y ∷ [])))

-- entries of other contexts take nothing of these
pub fresh-local : (name : List ℕ) (ys first second : List Addition) → AllByRecursion (λ y. is_of name y ≡ true) ys → filter (is_of name) first ≡ filter (is_of name) second → IsFresh is_taken first ys → IsFresh is_taken second ys
fresh-local name [] first second here e fresh = tt
fresh-local name (y ∷ ys) first second here e fresh = (
  taken-local name second y here.0 ∙ (ap (λ (before : List Addition). is_taken before y) (sym e) ∙ (sym (taken-local name first y here.0) ∙ fresh.0)),
  fresh-local name ys (first ++ y ∷ []) (second ++ y ∷ []) here.1 (filter-push name first second y e) fresh.1,
)

fresh-append : {X : Type 0} (taken : List X → X → Bool) (before ys zs : List X) → IsFresh taken before ys → IsFresh taken (before ++ ys) zs → IsFresh taken before (ys ++ zs)
fresh-append taken before [] zs first second = subst (λ (b : List _). IsFresh taken b zs) (append-nil before) second
fresh-append taken before (y ∷ ys) zs first second =
    (first.0, fresh-append taken (before ++ y ∷ []) ys zs first.1 (subst (λ (b : List _). IsFresh taken b zs) (sym (append_snoc before y ys)) second))

of-other : {X : Type 0} (key : X → List ℕ) (name other : List ℕ) (xs : List X) → AllByRecursion (λ x. key x ≡ other) xs → same_text name other ≡ false → filter (λ x. same_text name (key x)) xs ≡ []
of-other key name other [] own e = refl
of-other key name other (x ∷ xs) own e =
    rw (own.0, e) (of-other key name other xs own.1 e)

of-same : {X : Type 0} (key : X → List ℕ) (name : List ℕ) (xs : List X) → AllByRecursion (λ x. key x ≡ name) xs → filter (λ x. same_text name (key x)) xs ≡ xs
of-same key name [] own = refl
of-same key name (x ∷ xs) own =
    rw (own.0, nat_list_eq_equiv.refl name) (ap (λ (ys : List _). x ∷ ys) (of-same key name xs own.1))

key-additions : (name : List ℕ) (entries : List Entry) → AllByRecursion (λ (a : Addition). a.context ≡ name) (map (λ e. record { context = name; entry = e }) entries)
key-additions name entries = each-made (λ (a : Addition). a.context ≡ name) (λ e. record { context = name; entry = e }) entries (λ e. refl)

key-inclusions : (name : List ℕ) (names : List (List ℕ)) → AllByRecursion (λ (i : Inclusion). i.context ≡ name) (map (λ k. record { context = name; name = k }) names)
key-inclusions name names = each-made (λ (i : Inclusion). i.context ≡ name) (λ k. record { context = name; name = k }) names (λ k. refl)

-- the elements before contain nothing of contexts that are not named
abbrev Absent : {X : Type 0} → (X → List ℕ) → List (List ℕ) → List X → Type 0
Absent key named before = (name : List ℕ) → is_named named name ≡ false → filter (λ x. same_text name (key x)) before ≡ []

absent-more : {X : Type 0} (key : X → List ℕ) (named : List (List ℕ)) (before : List X) (name : List ℕ) (xs : List X) → AllByRecursion (λ x. key x ≡ name) xs → Absent key named before → Absent key (named ++ name ∷ []) (before ++ xs)
absent-more key named before name xs own absent other e =
    let apart = not_named_twice named name other e in
    filter-append (λ x. same_text other (key x)) before xs ∙ (λ i. absent other apart.0 i ++ of-other key other name xs own apart.1 i)

-- the entries of all contexts are kept if those of each are
fresh-additions : (contexts : List PlanContext) (named : List (List ℕ)) (before : List Addition) → Absent (λ (a : Addition). a.context) named before → IsFresh is_named named (map name_of contexts) → AllByRecursion IsContext contexts → IsFresh is_taken before (flat_map additions_of contexts)
fresh-additions [] named before absent names fine = tt
fresh-additions (context ∷ contexts) named before absent names fine =
    fresh-append is_taken before (additions_of context) (flat_map additions_of contexts)
    (fresh-local context.name (additions_of context) [] before (each-made (λ y. is_of context.name y ≡ true) (λ e. record { context = context.name; entry = e }) context.entries (λ e. nat_list_eq_equiv.refl context.name)) (sym (absent context.name names.0)) fine.0.apart)
    (fresh-additions contexts (named ++ context.name ∷ []) (before ++ additions_of context) (absent-more (λ (a : Addition). a.context) named before context.name (additions_of context) (key-additions context.name context.entries) absent) names.1 fine.1)

-- ---- contexts

-- a name among those before is none of the names after
fresh-apart : (before : List (List ℕ)) (name : List ℕ) (contexts : List PlanContext) → ((other : List ℕ) → is_named before other ≡ false → same_text name other ≡ false) → IsFresh is_named before (map name_of contexts) → AllByRecursion (λ (c : PlanContext). same_text name c.name ≡ false) contexts
fresh-apart before name [] among fresh = tt
fresh-apart before name (context ∷ contexts) among fresh =
    (among context.name fresh.0, fresh-apart (before ++ context.name ∷ []) name contexts (λ other e. among other (not_named_twice before context.name other e).0) fresh.1)

of-others : {X : Type 0} (key : X → List ℕ) (part : PlanContext → List X) → ((c : PlanContext) → AllByRecursion (λ x. key x ≡ c.name) (part c)) → (name : List ℕ) (contexts : List PlanContext) → AllByRecursion (λ (c : PlanContext). same_text name c.name ≡ false) contexts → filter (λ x. same_text name (key x)) (flat_map part contexts) ≡ []
of-others key part own name [] apart = refl
of-others key part own name (context ∷ contexts) apart =
    filter-append (λ x. same_text name (key x)) (part context) (flat_map part contexts)
    ∙ (λ i. of-other key name context.name (part context) (own context) apart.0 i ++ of-others key part own name contexts apart.1 i)

-- the elements of a context among those of contexts before it, its own, and those of contexts after it
of-context : {X : Type 0} (key : X → List ℕ) (part : PlanContext → List X) → ((c : PlanContext) → AllByRecursion (λ x. key x ≡ c.name) (part c)) → (before : List X) (context : PlanContext) (contexts : List PlanContext) → filter (λ x. same_text context.name (key x)) before ≡ [] → AllByRecursion (λ (c : PlanContext). same_text context.name c.name ≡ false) contexts → filter (λ x. same_text context.name (key x)) (before ++ (part context ++ flat_map part contexts)) ≡ part context
of-context key part own before context contexts none apart =
    filter-append (λ x. same_text context.name (key x)) before (part context ++ flat_map part contexts)
    ∙ ((λ i. none i ++ filter-append (λ x. same_text context.name (key x)) (part context) (flat_map part contexts) i)
    ∙ ((λ i. of-same key context.name (part context) (own context) i ++ of-others key part own context.name contexts apart i)
    ∙ append-nil (part context)))

contexts-again : (named : List (List ℕ)) (added : List Addition) (included : List Inclusion) (contexts : List PlanContext) → Absent (λ (a : Addition). a.context) named added → Absent (λ (i : Inclusion). i.context) named included → IsFresh is_named named (map name_of contexts) → map (context_of (added ++ flat_map additions_of contexts) (included ++ flat_map inclusions_of contexts)) (map name_of contexts) ≡ contexts
contexts-again named added included [] absent_a absent_i names = refl
contexts-again named added included (context ∷ contexts) absent_a absent_i names =
    let apart = fresh-apart (named ++ context.name ∷ []) context.name contexts (λ other e. same_text-symm other context.name (not_named_twice named context.name other e).1) names.1 in
    let own_a = of-context (λ (a : Addition). a.context) additions_of (λ c. key-additions c.name c.entries) added context contexts (absent_a context.name names.0) apart in
    let own_i = of-context (λ (i : Inclusion). i.context) inclusions_of (λ c. key-inclusions c.name c.includes) included context contexts (absent_i context.name names.0) apart in
    let after = contexts-again (named ++ context.name ∷ []) (added ++ additions_of context) (included ++ inclusions_of context) contexts
    (absent-more (λ (a : Addition). a.context) named added context.name (additions_of context) (key-additions context.name context.entries) absent_a)
    (absent-more (λ (i : Inclusion). i.context) named included context.name (inclusions_of context) (key-inclusions context.name context.includes) absent_i) names.1 in
    λ i. record {
      name = context.name;
      entries = (ap (λ (xs : List Addition). map (λ (a : Addition). a.entry) xs) own_a ∙ back (λ (a : Addition). a.entry) (λ e. record { context = context.name; entry = e }) context.entries (λ e. refl)) i;
      includes = (ap (λ (xs : List Inclusion). map (λ (k : Inclusion). k.name) xs) own_i ∙ back (λ (k : Inclusion). k.name) (λ k. record { context = context.name; name = k }) context.includes (λ k. refl)) i;
    } ∷ (ap₂ (λ (xs : List Addition) (ys : List Inclusion). map (context_of xs ys) (map name_of contexts)) (sym (append_assoc added (additions_of context) (flat_map additions_of contexts))) (sym (append_assoc included (inclusions_of context) (flat_map inclusions_of contexts))) ∙ after) i

-- ---- the dialplan

kept-are : (plan : PlanOf) → IsCanonical plan → kept_in (items plan) ≡ additions plan
kept-are plan fine =
    ap (kept_by is_taken []) (additions-are plan) ∙ kept-fresh is_taken [] (additions plan) (fresh-additions plan.contexts [] [] (λ name e. refl) fine.names fine.contexts)

names-are : (plan : PlanOf) → IsCanonical plan → names_in (items plan) ≡ map name_of plan.contexts
names-are plan fine = ap (kept_by is_named []) (mentions-are plan) ∙ names-again [] plan.contexts fine.names

-- the items of a dialplan give the dialplan
pub plan_of-items : (plan : PlanOf) → IsCanonical plan → plan_of (items plan) ≡ plan
unfolding plan_of
plan_of-items plan fine =
    let contexts = (λ i. map (context_of (kept-are plan fine i) (inclusions-are plan i)) (names-are plan fine i)) ∙ contexts-again [] [] [] plan.contexts (λ name e. refl) (λ name e. refl) fine.names in
    λ i. record { globals = globals-are plan i; contexts = contexts i }

-- ---- the notes

-- the note is on an include of an unknown context
abbrev pub IsOnUnknown : Note → Type 0
IsOnUnknown note = note.kind ≡ UnknownContext

kept_in-none : (before : List Item) (x : Item) → added_in x ≡ None → kept_in (before ++ x ∷ []) ≡ kept_in before
kept_in-none before x e = kept_by-filter_map is_taken added_in before x ∙ ap (more_by is_taken (kept_in before)) e

kept_in-some : (before : List Item) (x : Item) (a : Addition) → added_in x ≡ Some a → is_taken (kept_in before) a ≡ false → kept_in (before ++ x ∷ []) ≡ kept_in before ++ a ∷ []
kept_in-some before x a e free =
    kept_by-filter_map is_taken added_in before x
    ∙ (ap (more_by is_taken (kept_in before)) e ∙ rw free refl)

include_note-only : (line : ℕ) (names : List (List ℕ)) (name : List ℕ) → AllByRecursion IsOnUnknown (include_note line names name)
include_note-only line names name = by (is_named names name)
  where
    by : (t : Bool) → AllByRecursion IsOnUnknown (cond t [] ((record { line = line; kind = UnknownContext }) ∷ []))
    by true = tt
    by false = (refl, tt)

entry_note-none : (line : ℕ) (kept : List Addition) (a : Addition) → is_taken kept a ≡ false → entry_note line kept a ≡ []
entry_note-none line kept a free =
    let both = either-false (is_place_taken kept a) (is_label_taken kept a) free in
    rw (both.0, both.1) refl

-- the notes on items after others, if all entries are kept
abbrev notes_after : List (List ℕ) → List Item → List Item → List Note
notes_after names before xs = flat_map (λ notes. notes) (each_after (note_of names) before xs)

notes-only : (names : List (List ℕ)) (before : List Item) (section : Section) (n : ℕ) (xs : List Item) → AllStand section xs
    → IsFresh is_taken (kept_in before) (filter_map added_in (items_from n xs)) → AllByRecursion IsOnUnknown (notes_after names before (items_from n xs))
notes-only names before section n [] stand fresh = tt
notes-only names before section n (x ∷ xs) stand fresh =
    by (λ y. notes-only names (before ++ y ∷ []) (section_after section x) (n + 1) xs stand.1) x stand.0 fresh
  where
    rest : List Addition
    rest = filter_map added_in (items_from (n + 1) xs)

    notes : Item → List Note
    notes y = notes_after names (before ++ y ∷ []) (items_from (n + 1) xs)

    Later : Type 0
    Later = (y : Item) → IsFresh is_taken (kept_in (before ++ y ∷ [])) rest → AllByRecursion IsOnUnknown (notes y)

    same : Later → (y : Item) → added_in y ≡ None → IsFresh is_taken (kept_in before) rest → AllByRecursion IsOnUnknown (notes y)
    same later y e fresh = later y (subst (λ (kept : List Addition). IsFresh is_taken kept rest) (sym (kept_in-none before y e)) fresh)

    Only : Item → Type 0
    Only y = Stands section y → IsFresh is_taken (kept_in before) (cons_option (added_in (with_line (n + 1) y)) rest)
        → AllByRecursion IsOnUnknown (note_of names before (with_line (n + 1) y) ++ notes (with_line (n + 1) y))

    by : Later → (x : Item) → Only x
    by later =
        by_item Only (λ next stands fresh. same later (Begins next) refl fresh) (λ global stands fresh. same later (Sets global) refl fresh)
        (λ line context entry stands fresh.
        let y : Item = Adds (n + 1) context entry in
        let a : Addition = record { context = context; entry = entry } in
        subst (λ (ns : List Note). AllByRecursion IsOnUnknown (ns ++ notes y)) (sym (entry_note-none (n + 1) (kept_in before) a fresh.0))
        (later y (subst (λ (kept : List Addition). IsFresh is_taken kept rest) (sym (kept_in-some before y a refl fresh.0)) fresh.1)))
        (λ line context name stands fresh.
        let y : Item = Includes (n + 1) context name in
        each-append IsOnUnknown (include_note (n + 1) names name) (notes y) (include_note-only (n + 1) names name) (same later y refl fresh))
        (λ line stands fresh. absurd stands)

-- the notes on the lines of a dialplan
pub canonical_notes : PlanOf → List Note
canonical_notes plan = notes_of (items plan)

pub canonical_notes-only : (plan : PlanOf) → IsCanonical plan → AllByRecursion IsOnUnknown (canonical_notes plan)
unfolding canonical_notes notes_of
canonical_notes-only plan fine =
    notes-only (names_in (items plan)) [] General 0 (items_of plan) (stand-plan plan.globals plan.contexts fine.globals fine.contexts)
    (subst (IsFresh is_taken []) (sym (additions-are plan)) (fresh-additions plan.contexts [] [] (λ name e. refl) fine.names fine.contexts))

-- without a fault the dialplan is that of the items
plan_and_notes-items : (text : List ℕ) (lines : List LineOf) (xs : List Item) → lines_of text ≡ Ok lines → items_after [] lines ≡ Ok xs → plan_and_notes text ≡ Ok (plan_of xs, notes_of xs)
unfolding plan_and_notes
plan_and_notes-items text lines xs read e = ap of_lines read ∙ ap of_items e

-- a text with the lines of a dialplan loads as the dialplan
pub plan_and_notes-canonical : (text : List ℕ) (plan : PlanOf) → IsCanonical plan → lines_of text ≡ Ok (canonical_lines plan) → plan_and_notes text ≡ Ok (plan, canonical_notes plan)
unfolding canonical_notes
plan_and_notes-canonical text plan fine read =
    plan_and_notes-items text (canonical_lines plan) (items plan) read (items_after-canonical plan fine)
    ∙ (λ i. Ok (plan_of-items plan fine i, notes_of (items plan)))
