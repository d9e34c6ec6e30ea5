-- A text loads as the dialplan of its items, so facts about its entries are known.
use Rattle.std.proofs.Common.{◌≡◌, ℕ, ◌<◌, Bool, true, false, cond, List, [], ◌∷◌, ◌++◌, map, Option, Some, None, Result, Ok, Err, refl, ap, subst}
use Rattle.std.specs.Prelude.{EachIndex, slice_index}
use Rattle.std.specs.List.{All, AllByRecursion, filter, filter_map, cons_option}
use Rattle.std.proofs.lemmas.List.Elements.{All-from_recursion}
use Rattle.std.proofs.lemmas.Result.{IfOk-at_ok}
use Rattle.dp_conf.specs.Lines.{LineOf, LineFault, lines_of}
use Rattle.dp_conf.specs.Words.{same_text}
use Rattle.dp_conf.proofs.LinesKnown.{lines_of-known}
use Rattle.dp_conf.proofs.TextLemmas.{each-weaker}
use Rattle.dp_pattern.specs.Name.{IsName}
use Rattle.dp_pattern.proofs.NameLemmas.{each_by_index}
use Rattle.dp_plan.specs.Contexts.{PlanContext, AreNamed}
use Rattle.dp_plan.specs.Items.{items_after}
use Rattle.dp_plan.specs.Loaded.{plan_and_notes}
use Rattle.dp_plan.specs.Plan.{PlanOf, Addition, Inclusion, is_taken, kept_by, added_in, included_in, kept_in, names_in, context_of, plan_of, notes_of}
use Rattle.dp_plan.specs.Ranking.{AreApart}
use Rattle.dp_plan.specs.declared.entry.Entry.{Entry}
use Rattle.dp_plan.specs.declared.fault.LoadFault.{LoadFault}
use Rattle.dp_plan.specs.Item.{Item, Begins, Sets, Adds, Includes, Unknown}
use Rattle.dp_plan.specs.declared.note.Note.{Note}
use Rattle.dp_plan.proofs.ApartLemmas.{kept-apart, contexts-apart}
use Rattle.dp_plan.proofs.ItemsKnown.{IsFine, items_after-known}
use Rattle.dp_plan.proofs.LoadedLemmas.{of_items, of_lines}
use Rattle.dp_plan.proofs.PartsKnown.{IsEntry}

-- ---- parts of lists

pub each-filter_map : {X Y : Type 0} (P : X → Type 0) (Q : Y → Type 0) (h : X → Option Y) → ((x : X) → P x → AllByRecursion Q (cons_option (h x) []))
    → (xs : List X) → AllByRecursion P xs → AllByRecursion Q (filter_map h xs)
each-filter_map P Q h one [] all = tt
each-filter_map {X} {Y} P Q h one (x ∷ xs) all = by (h x) (one x all.0) (each-filter_map P Q h one xs all.1)
  where
    by : (o : Option Y) → AllByRecursion Q (cons_option o []) → AllByRecursion Q (filter_map h xs) → AllByRecursion Q (cons_option o (filter_map h xs))
    by None given rest = rest
    by (Some y) given rest = (given.0, rest)

pub each-filter : {X : Type 0} (P : X → Type 0) (test : X → Bool) (xs : List X) → AllByRecursion P xs → AllByRecursion P (filter test xs)
each-filter P test [] all = tt
each-filter {X} P test (x ∷ xs) all = by (test x) (each-filter P test xs all.1)
  where
    by : (t : Bool) → AllByRecursion P (filter test xs) → AllByRecursion P (cond t (x ∷ filter test xs) (filter test xs))
    by true rest = (all.0, rest)
    by false rest = rest

pub each-map : {X Y : Type 0} (P : Y → Type 0) (f : X → Y) (xs : List X) → AllByRecursion (λ x. P (f x)) xs → AllByRecursion P (map f xs)
each-map P f [] all = tt
each-map P f (x ∷ xs) all = (all.0, each-map P f xs all.1)

pub each-kept : {X : Type 0} (P : X → Type 0) (taken : List X → X → Bool) (before xs : List X)
    → AllByRecursion P xs → AllByRecursion P (kept_by taken before xs)
each-kept P taken before [] all = tt
each-kept {X} P taken before (x ∷ xs) all =
    by (taken before x) (each-kept P taken before xs all.1) (each-kept P taken (before ++ x ∷ []) xs all.1)
  where
    by : (t : Bool) → AllByRecursion P (kept_by taken before xs) → AllByRecursion P (kept_by taken (before ++ x ∷ []) xs)
        → AllByRecursion P (cond t (kept_by taken before xs) (x ∷ kept_by taken (before ++ x ∷ []) xs))
    by true rest kept = rest
    by false rest kept = (all.0, kept)

-- ---- the items of a text

-- the dialplan is that of the items of the text's lines
pub record IsMade (text : List ℕ) (plan : PlanOf) : Type 0 where
  pub lines : List LineOf
  pub items : List Item
  pub read : lines_of text ≡ Ok lines
  pub given : items_after [] lines ≡ Ok items
  pub makes : plan_of items ≡ plan

pub plan_and_notes-made : (text : List ℕ) (plan : PlanOf) (notes : List Note) → plan_and_notes text ≡ Ok (plan, notes) → IsMade text plan
unfolding plan_and_notes
plan_and_notes-made text plan notes e = by (lines_of text) refl e
  where
    of_read : (lines : List LineOf) → lines_of text ≡ Ok lines → (read : Result (List Item) LoadFault) → items_after [] lines ≡ read
        → of_items read ≡ Ok (plan, notes) → IsMade text plan
    of_read lines read (Err fault) given e = absurd cc
    of_read lines read (Ok items) given e =
        let pair : (let p : PlanOf × List Note = (plan_of items, notes_of items) in p ≡ (plan, notes)) = cc in
        record { lines = lines; items = items; read = read; given = given; makes = ap (λ (p : PlanOf × List Note). p.0) pair }

    by : (lines : Result (List LineOf) LineFault) → lines_of text ≡ lines → of_lines lines ≡ Ok (plan, notes) → IsMade text plan
    by (Err fault) read e = absurd cc
    by (Ok lines) read e = of_read lines read (items_after [] lines) refl e

-- the facts hold of each item of a text of bytes
pub made-fine : (text : List ℕ) (plan : PlanOf) → AllByRecursion (λ b. b < 256) text → (made : IsMade text plan) → AllByRecursion IsFine made.items
made-fine text plan bytes made =
    IfOk-at_ok (AllByRecursion IsFine) made.given (items_after-known [] made.lines tt (lines_of-known text made.lines bytes made.read))

-- ---- the entries of the items

abbrev pub IsFineAddition : Addition → Type 0
IsFineAddition addition = IsEntry addition.entry

added-known : (x : Item) → IsFine x → AllByRecursion IsFineAddition (cons_option (added_in x) [])
added-known (Begins section) fine = tt
added-known (Sets global) fine = tt
added-known (Adds line context entry) fine = (fine.1, tt)
added-known (Includes line context name) fine = tt
added-known (Unknown line) fine = tt

-- the facts hold of each kept entry
pub kept-known : (items : List Item) → AllByRecursion IsFine items → AllByRecursion IsFineAddition (kept_in items)
kept-known items fine =
    each-kept IsFineAddition is_taken [] (filter_map added_in items) (each-filter_map IsFine IsFineAddition added_in added-known items fine)

-- and of each entry of a context
pub entries-known : (kept : List Addition) (name : List ℕ) → AllByRecursion IsFineAddition kept
    → AllByRecursion IsEntry (map (λ a. a.entry) (filter (λ a. same_text name a.context) kept))
entries-known kept name additions =
    let own : Addition → Bool = λ a. same_text name a.context in
    each-map IsEntry (λ (a : Addition). a.entry) (filter own kept) (each-filter IsFineAddition own kept additions)

contexts-named : (kept : List Addition) (included : List Inclusion) (names : List (List ℕ)) → AllByRecursion IsFineAddition kept
    → AllByRecursion (λ (c : PlanContext). AreNamed c.entries) (map (context_of kept included) names)
contexts-named kept included [] additions = tt
contexts-named kept included (name ∷ names) additions =
    let entries : List Entry = (context_of kept included name).entries in
    let named : Entry → Type 0 = λ e. IsName e.name in (
      All-from_recursion named entries (each-weaker IsEntry named (λ e fine. fine.name.known) entries (entries-known kept name additions)),
      contexts-named kept included names additions,
    )

plan-named : (items : List Item) → AllByRecursion IsFine items → All (λ (c : PlanContext). AreNamed c.entries) (plan_of items).contexts
unfolding plan_of
plan-named items fine =
    All-from_recursion (λ (c : PlanContext). AreNamed c.entries) (plan_of items).contexts
    (contexts-named (kept_in items) (filter_map included_in items) (names_in items) (kept-known items fine))

plan-apart : (items : List Item) → All (λ (c : PlanContext). AreApart c.entries) (plan_of items).contexts
unfolding plan_of
plan-apart items = contexts-apart (kept_in items) (filter_map included_in items) (names_in items) (kept-apart items)

-- ---- the dialplan of a text

-- the name of each entry that a text loads is the meaning of some text
pub plan_and_notes-named : (text : List ℕ) (plan : PlanOf) (notes : List Note) → EachIndex text (λ k. slice_index text k < 256)
    → plan_and_notes text ≡ Ok (plan, notes) → All (λ (c : PlanContext). AreNamed c.entries) plan.contexts
plan_and_notes-named text plan notes bytes e =
    let made = plan_and_notes-made text plan notes e in
    subst (λ (p : PlanOf). All (λ (c : PlanContext). AreNamed c.entries) p.contexts) made.makes
    (plan-named made.items (made-fine text plan (each_by_index (λ b. b < 256) text (λ k within. bytes k within)) made))

-- no two entries of a context have the same name and priority
pub plan_and_notes-apart : (text : List ℕ) (plan : PlanOf) (notes : List Note) → plan_and_notes text ≡ Ok (plan, notes)
    → All (λ (c : PlanContext). AreApart c.entries) plan.contexts
plan_and_notes-apart text plan notes e =
    let made = plan_and_notes-made text plan notes e in
    subst (λ (p : PlanOf). All (λ (c : PlanContext). AreApart c.entries) p.contexts) made.makes (plan-apart made.items)
