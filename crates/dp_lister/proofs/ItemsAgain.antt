-- The lines of a dialplan are read as its items.
use Rattle.std.proofs.Common.{◌≡◌, ℕ, ◌+◌, ◌==◌, List, [], ◌∷◌, ◌++◌, map, Result, Ok, codes, refl, ap, ◌∙◌, sym, subst, append_assoc}
use Rattle.std.specs.List.{AllByRecursion, flat_map}
use Rattle.std.specs.Option.{option_or, unwrap_or}
use Rattle.std.proofs.lemmas.List.{map-append}
use Rattle.std.proofs.lemmas.Simd.{map-map}
use Rattle.dp_conf.specs.Answers.{◌>>=◌, with_front}
use Rattle.dp_conf.specs.Lines.{LineOf, Header, Pair}
use Rattle.dp_conf.proofs.TextLemmas.{any-none}
use Rattle.dp_plan.specs.Contexts.{PlanContext}
use Rattle.dp_plan.specs.History.{PlanHistory, latest, section_in, history_of}
use Rattle.dp_plan.specs.Items.{section_named, global_item, entry_item, context_item, just, pair_item, line_item, items_after}
use Rattle.dp_plan.specs.Plan.{PlanOf}
use Rattle.dp_plan.specs.declared.entry.Entry.{Entry}
use Rattle.dp_plan.specs.declared.fault.LoadFault.{LoadFault}
use Rattle.dp_plan.specs.declared.plan.GlobalVariable.{GlobalVariable}
use Rattle.dp_plan.proofs.ItemWords.{item_word as Item, begins as Begins, sets as Sets, adds as Adds, includes as Includes, unknown_key as Unknown, section_word as Section, general as General, globals as Globals, in_context as Context, by_section, by_item}
use Rattle.dp_plan.proofs.PartsKnown.{IsContextName, IsGlobal, IsEntry, IsIncluded}
use Rattle.dp_lister.proofs.Canonical.{IsContext, IsCanonical, entry_text, header_of, lines_of_globals, lines_of_context, lines_of_contexts, numbered_lines, canonical_lines}
use Rattle.dp_lister.proofs.EntryAgain.{exten_entry-again}
use Rattle.dp_plan.proofs.HistoryLemmas.{latest-push}
use Rattle.dp_plan.proofs.ItemsKnown.{IsFineSection}

-- ---- items and their lines

-- the line of an item
abbrev say : ℕ → Item → LineOf
say line x =
    by_item (λ y. LineOf) (by_section (λ s. LineOf) (Header line (codes "general")) (Header line (codes "globals")) (Header line))
    (λ global. Pair line global.name global.value) (λ old context entry. Pair line (codes "exten") (entry_text entry))
    (λ old context name. Pair line (codes "include") name) (λ old. Header line []) x

-- the item at another line
abbrev pub with_line : ℕ → Item → Item
with_line line x =
    by_item (λ y. Item) (λ section. Begins section) (λ global. Sets global) (λ old context entry. Adds line context entry)
    (λ old context name. Includes line context name) (λ old. Unknown line) x

-- the items at the lines after this many
abbrev pub items_from : ℕ → List Item → List Item
items_from n [] = []
items_from n (x ∷ xs) = with_line (n + 1) x ∷ items_from (n + 1) xs

-- the lines of the items, given their numbers
abbrev says : List Item → List (ℕ → LineOf)
says xs = map (λ x line. say line x) xs

-- ---- items in their sections

-- the section after an item
abbrev pub section_after : Section → Item → Section
section_after section x =
    by_item (λ y. Section) (λ next. next) (λ global. section) (λ line context entry. section) (λ line context name. section) (λ line. section) x

-- the item is allowed in the section
abbrev pub Stands : Section → Item → Type 0
Stands section x =
    by_item (λ y. Type 0) IsFineSection (λ global. (section ≡ Globals) × IsGlobal global)
    (λ line context entry. (section ≡ Context context) × IsEntry entry) (λ line context name. (section ≡ Context context) × IsIncluded name) (λ line. ⊥) x

abbrev pub AllStand : Section → List Item → Type 0
AllStand section [] = Unit {0}
AllStand section (x ∷ xs) = Stands section x × AllStand (section_after section x) xs

-- ---- one line

section_named-context : (name : List ℕ) → IsContextName name → section_named name ≡ Context name
section_named-context name fine =
    rw (fine.no_general, fine.no_globals) refl

global_item-again : (line : ℕ) (global : GlobalVariable) → IsGlobal global → global_item line global.name global.value ≡ Ok (Sets global)
global_item-again line global fine =
    rw (fine.name.is, fine.accepted) refl

exten_item-again : (history : PlanHistory) (context : List ℕ) (line : ℕ) (entry : Entry) → IsEntry entry → context_item history context line (codes "exten") (entry_text entry) ≡ Ok (Adds line context entry)
unfolding context_item
exten_item-again history context line entry fine = ap (entry_item context line) (exten_entry-again history line context entry fine)

include_item-again : (history : PlanHistory) (context : List ℕ) (line : ℕ) (name : List ℕ) → IsIncluded name → context_item history context line (codes "include") name ≡ Ok (Includes line context name)
unfolding context_item
include_item-again history context line name fine =
    rw (any-none (λ b. b == 44) name fine.no_comma) refl

line_item-again : (history : PlanHistory) (section : Section) (line : ℕ) (x : Item) → history.section ≡ section → Stands section x → line_item history (say line x) ≡ Ok (with_line line x ∷ [])
line_item-again history section line x here =
    by_item (λ y. Stands section y → line_item history (say line y) ≡ Ok (with_line line y ∷ []))
    (by_section (λ s. IsFineSection s → line_item history (say line (Begins s)) ≡ Ok (Begins s ∷ []))
    (λ stands. refl) (λ stands. refl) (λ name stands. ap (λ s. Ok (Begins s ∷ [])) (section_named-context name stands)))
    (λ global stands. ap (λ s. pair_item history s line global.name global.value) (here ∙ stands.0) ∙ ap just (global_item-again line global stands.1))
    (λ old context entry stands.
    ap (λ s. pair_item history s line (codes "exten") (entry_text entry)) (here ∙ stands.0)
    ∙ ap just (exten_item-again history context line entry stands.1))
    (λ old context name stands.
    ap (λ s. pair_item history s line (codes "include") name) (here ∙ stands.0) ∙ ap just (include_item-again history context line name stands.1))
    (λ old stands. absurd stands) x

-- ---- all lines

section-push : (before : List Item) (section : Section) (line : ℕ) (x : Item) → (history_of before).section ≡ section → (history_of (before ++ with_line line x ∷ [])).section ≡ section_after section x
section-push before section line x here =
    ap (λ o. unwrap_or o General) (latest-push section_in before (with_line line x))
    ∙ by_item (λ y. unwrap_or (option_or (section_in (with_line line y)) (latest section_in before)) General ≡ section_after section y)
    (λ next. refl) (λ global. here) (λ old context entry. here) (λ old context name. here) (λ old. here) x

items-again : (before : List Item) (section : Section) (n : ℕ) (xs : List Item) → (history_of before).section ≡ section → AllStand section xs → items_after before (numbered_lines n (says xs)) ≡ Ok (items_from n xs)
items-again before section n [] here stand = refl
items-again before section n (x ∷ xs) here stand =
    ap (λ (read : Result (List Item) LoadFault). read >>= λ item. with_front item (items_after (before ++ item) (numbered_lines (n + 1) (says xs)))) (line_item-again (history_of before) section (n + 1) x here stand.0)
    ∙ ap (with_front (with_line (n + 1) x ∷ [])) (items-again (before ++ with_line (n + 1) x ∷ []) (section_after section x) (n + 1) xs (section-push before section (n + 1) x here) stand.1)

-- ---- the items of a dialplan

abbrev pub items_of_globals : List GlobalVariable → List Item
items_of_globals [] = []
items_of_globals (global ∷ globals) = Begins Globals ∷ map (λ g. Sets g) (global ∷ globals)

abbrev pub items_of_context : PlanContext → List Item
items_of_context context =
    Begins (Context context.name) ∷ (map (λ e. Adds 0 context.name e) context.entries ++ map (λ i. Includes 0 context.name i) context.includes)

abbrev pub items_of_contexts : List PlanContext → List Item
items_of_contexts contexts = flat_map items_of_context contexts

abbrev pub items_of : PlanOf → List Item
items_of plan = items_of_globals plan.globals ++ items_of_contexts plan.contexts

-- the lines of those items

say_globals : (globals : List GlobalVariable) → says (items_of_globals globals) ≡ lines_of_globals globals
say_globals [] = refl
say_globals (global ∷ globals) = ap (λ (lines : List (ℕ → LineOf)). header_of (codes "globals") ∷ lines) (map-map (λ x line. say line x) (λ g. Sets g) (global ∷ globals))

say_context : (context : PlanContext) → says (items_of_context context) ≡ lines_of_context context
say_context context =
    ap (λ (lines : List (ℕ → LineOf)). header_of context.name ∷ lines)
    (map-append (λ x line. say line x) (map (λ e. Adds 0 context.name e) context.entries) (map (λ i. Includes 0 context.name i) context.includes)
    ∙ (λ k. map-map (λ x line. say line x) (λ e. Adds 0 context.name e) context.entries k ++ map-map (λ x line. say line x) (λ i. Includes 0 context.name i) context.includes k))

say_contexts : (contexts : List PlanContext) → says (items_of_contexts contexts) ≡ lines_of_contexts contexts
say_contexts [] = refl
say_contexts (context ∷ contexts) =
    map-append (λ x line. say line x) (items_of_context context) (items_of_contexts contexts)
    ∙ (λ k. say_context context k ++ say_contexts contexts k)

says-plan : (plan : PlanOf) → numbered_lines 0 (says (items_of plan)) ≡ canonical_lines plan
says-plan plan =
    ap (numbered_lines 0) (map-append (λ x line. say line x) (items_of_globals plan.globals) (items_of_contexts plan.contexts)
    ∙ (λ k. say_globals plan.globals k ++ say_contexts plan.contexts k))

-- those items are in their sections

stand-globals : (globals : List GlobalVariable) (rest : List Item) → AllByRecursion IsGlobal globals → AllStand Globals rest → AllStand Globals (map (λ g. Sets g) globals ++ rest)
stand-globals [] rest fine after = after
stand-globals (global ∷ globals) rest fine after = ((refl, fine.0), stand-globals globals rest fine.1 after)

stand-entries : (context : List ℕ) (entries : List Entry) (rest : List Item) → AllByRecursion IsEntry entries → AllStand (Context context) rest → AllStand (Context context) (map (λ e. Adds 0 context e) entries ++ rest)
stand-entries context [] rest fine after = after
stand-entries context (entry ∷ entries) rest fine after = ((refl, fine.0), stand-entries context entries rest fine.1 after)

stand-includes : (context : List ℕ) (names : List (List ℕ)) (rest : List Item) → AllByRecursion IsIncluded names → AllStand (Context context) rest → AllStand (Context context) (map (λ i. Includes 0 context i) names ++ rest)
stand-includes context [] rest fine after = after
stand-includes context (name ∷ names) rest fine after = ((refl, fine.0), stand-includes context names rest fine.1 after)

stand-contexts : (section : Section) (contexts : List PlanContext) → AllByRecursion IsContext contexts → AllStand section (items_of_contexts contexts)
stand-contexts section [] fine = tt
stand-contexts section (context ∷ contexts) fine = (
  fine.0.name,
  subst (AllStand (Context context.name)) (sym (append_assoc (map (λ e. Adds 0 context.name e) context.entries) (map (λ i. Includes 0 context.name i) context.includes) (items_of_contexts contexts)))
      (stand-entries context.name context.entries (map (λ i. Includes 0 context.name i) context.includes ++ items_of_contexts contexts) fine.0.entries
      (stand-includes context.name context.includes (items_of_contexts contexts) fine.0.includes (stand-contexts (Context context.name) contexts fine.1))),
)

pub stand-plan : (globals : List GlobalVariable) (contexts : List PlanContext) → AllByRecursion IsGlobal globals → AllByRecursion IsContext contexts → AllStand General (items_of_globals globals ++ items_of_contexts contexts)
stand-plan [] contexts globals fine = stand-contexts General contexts fine
stand-plan (global ∷ globals) contexts g fine = (tt, stand-globals (global ∷ globals) (items_of_contexts contexts) g (stand-contexts Globals contexts fine))

-- the lines of a dialplan are read as its items
pub items_after-canonical : (plan : PlanOf) → IsCanonical plan → items_after [] (canonical_lines plan) ≡ Ok (items_from 0 (items_of plan))
items_after-canonical plan fine =
    ap (items_after []) (sym (says-plan plan)) ∙ items-again [] General 0 (items_of plan) refl (stand-plan plan.globals plan.contexts fine.globals fine.contexts)
