-- The listing of a dialplan that loads is read as the same dialplan.
use Rattle.std.proofs.Common.{◌≡◌, ℕ, ◌+◌, ◌<◌, ◌==◌, true, false, List, [], ◌∷◌, ◌++◌, map, Ok, codes, refl, ap, ◌∙◌, sym, subst, append_assoc}
use Rattle.std.specs.List.{AllByRecursion, flat_map}
use Rattle.std.proofs.lemmas.List.{map-append}
use Rattle.std.proofs.lemmas.Simd.{map-map}
use Rattle.std.proofs.lemmas.List.Elements.{All-from_recursion}
use Rattle.dp_conf.specs.Lines.{LineOf, item_of, lines_of}
use Rattle.dp_conf.specs.Blanks.{trim}
use Rattle.dp_conf.proofs.TextLemmas.{Avoids, each-append, none-any}
use Rattle.dp_pattern.specs.Spelling.{spelling}
use Rattle.dp_pattern.proofs.NameLemmas.{each_by_index}
use Rattle.dp_plan.specs.Contexts.{PlanContext}
use Rattle.dp_plan.specs.Plan.{PlanOf}
use Rattle.dp_plan.specs.declared.entry.Entry.{Entry}
use Rattle.dp_plan.specs.declared.plan.GlobalVariable.{GlobalVariable}
use Rattle.dp_plan.proofs.PartsKnown.{IsKey, IsValue, IsHeaderName, IsGlobal, IsEntry, IsIncluded}
use Rattle.dp_lister.proofs.Canonical.{IsContext, IsCanonical, called_text, entry_text, header_of, global_of, exten_of, include_of, lines_of_globals, lines_of_contexts, numbered_lines, canonical_lines}
use Rattle.dp_lister.proofs.EntryAgain.{entry_text-value}
use Rattle.dp_lister.proofs.PlanAgain.{IsOnUnknown, canonical_notes, canonical_notes-only, plan_and_notes-canonical}
use Rattle.dp_lister.proofs.PlanKnown.{plan_and_notes-known}
use Rattle.dp_lister.specs.Again.{LoadsAs}
use Rattle.dp_plan.specs.Loaded.{IsLoaded}
use Rattle.dp_lister.specs.Listing.{global_line, global_lines, priority_text, application_text, after_name, entry_line, include_line, header_line, context_lines, text_of, listing}
use Rattle.dp_lister.proofs.LinesAgain.{header_reads, pair_line, pair_reads, ReadsAs, ReadAs, conf_lines, lines_of-written, lines_of-nothing}

-- a line together with the item as which it is read
abbrev Wording : Type 0
Wording = List ℕ × (ℕ → LineOf)

abbrev IsWording : Wording → Type 0
IsWording wording = Avoids 10 wording.0 × ReadsAs wording.0 wording.1

-- ---- the lines, one by one

header_wording : (name : List ℕ) → IsHeaderName name → IsWording (header_line name, header_of name)
header_wording name fine =
    ((refl, each-append (λ b. (b == 10) ≡ false) name (93 ∷ []) fine.one_line (refl, tt)), λ line. header_reads true line name fine)

pair_wording : (text key value : List ℕ) → text ≡ pair_line key value → IsKey key → IsValue value → IsWording (text, λ line. global_of (record { name = key; value = value }) line)
pair_wording text key value same fine v =
    let avoids : Avoids 10 (pair_line key value) = each-append (λ b. (b == 10) ≡ false) key (codes " => " ++ value) fine.one_line (refl, (refl, (refl, (refl, v.one_line)))) in
    (subst (Avoids 10) (sym same) avoids, λ line. ap (λ (t : List ℕ). item_of true line (trim t)) same ∙ pair_reads line key value fine v)

global_wording : (global : GlobalVariable) → IsGlobal global → IsWording (global_line global, global_of global)
global_wording global fine = pair_wording (global_line global) global.name global.value (append_assoc global.name (codes " => ") global.value) fine.name fine.value

exten_key : IsKey (codes "exten")
exten_key = record {
  first = 101;
  rest = codes "xten";
  is = refl;
  no_header = refl;
  no_directive = refl;
  trimmed = record { begins = refl; ends = refl };
  no_sign = none-any (λ b. b == 61) (codes "exten") refl;
  one_line = none-any (λ b. b == 10) (codes "exten") refl;
}

include_key : IsKey (codes "include")
include_key = record {
  first = 105;
  rest = codes "nclude";
  is = refl;
  no_header = refl;
  no_directive = refl;
  trimmed = record { begins = refl; ends = refl };
  no_sign = none-any (λ b. b == 61) (codes "include") refl;
  one_line = none-any (λ b. b == 10) (codes "include") refl;
}

application_text-is : (name arguments : List ℕ) → application_text name arguments ≡ called_text name arguments
application_text-is name arguments =
    append_assoc (name ++ 40 ∷ []) arguments (41 ∷ []) ∙ append_assoc name (40 ∷ []) (arguments ++ 41 ∷ [])

entry_line-is : (entry : Entry) → entry_line entry ≡ pair_line (codes "exten") (entry_text entry)
entry_line-is entry =
    let after : after_name entry ≡ 44 ∷ (priority_text entry.priority entry.label ++ 44 ∷ called_text entry.application entry.arguments) =
    (λ i. ((codes "," ++ priority_text entry.priority entry.label) ++ codes ",") ++ application_text-is entry.application entry.arguments i)
    ∙ ap (λ (text : List ℕ). 44 ∷ text) (append_assoc (priority_text entry.priority entry.label) (44 ∷ []) (called_text entry.application entry.arguments)) in
    ap (λ (text : List ℕ). codes "exten => " ++ (spelling entry.name ++ text)) after

entry_wording : (entry : Entry) → IsEntry entry → IsWording (entry_line entry, exten_of entry)
entry_wording entry fine = pair_wording (entry_line entry) (codes "exten") (entry_text entry) (entry_line-is entry) exten_key (entry_text-value entry fine)

include_wording : (name : List ℕ) → IsIncluded name → IsWording (include_line name, include_of name)
include_wording name fine = pair_wording (include_line name) (codes "include") name refl include_key fine.value

-- ---- the lines of a dialplan

wordings_of_globals : List GlobalVariable → List Wording
wordings_of_globals globals = map (λ g. (global_line g, global_of g)) globals

wordings_after : PlanContext → List Wording
wordings_after context = map (λ e. (entry_line e, exten_of e)) context.entries ++ map (λ i. (include_line i, include_of i)) context.includes

wordings_of_contexts : List PlanContext → List Wording
wordings_of_contexts [] = []
wordings_of_contexts (context ∷ contexts) = (header_line context.name, header_of context.name) ∷ (wordings_after context ++ wordings_of_contexts contexts)

each-of : {X : Type 0} (P : X → Type 0) (f : X → Wording) (xs : List X) → ((x : X) → P x → IsWording (f x)) → AllByRecursion P xs → ReadAs (map f xs)
each-of P f [] one all = tt
each-of P f (x ∷ xs) one all = (one x all.0, each-of P f xs one all.1)

globals-read : (globals : List GlobalVariable) → AllByRecursion IsGlobal globals → ReadAs (wordings_of_globals globals)
unfolding wordings_of_globals
globals-read globals fine = each-of IsGlobal (λ g. (global_line g, global_of g)) globals global_wording fine

after-read : (context : PlanContext) → IsContext context → ReadAs (wordings_after context)
unfolding wordings_after
after-read context fine =
    each-append IsWording (map (λ e. (entry_line e, exten_of e)) context.entries) (map (λ i. (include_line i, include_of i)) context.includes)
    (each-of IsEntry (λ e. (entry_line e, exten_of e)) context.entries entry_wording fine.entries)
    (each-of IsIncluded (λ i. (include_line i, include_of i)) context.includes include_wording fine.includes)

contexts-read : (contexts : List PlanContext) → AllByRecursion IsContext contexts → ReadAs (wordings_of_contexts contexts)
unfolding wordings_of_contexts
contexts-read [] fine = tt
contexts-read (context ∷ contexts) fine =
    (header_wording context.name fine.0.name.header, each-append IsWording (wordings_after context) (wordings_of_contexts contexts) (after-read context fine.0) (contexts-read contexts fine.1))

-- their texts, and the items as which they are read

abbrev texts : List Wording → List (List ℕ)
texts wordings = map (λ wording. wording.0) wordings

abbrev says : List Wording → List (ℕ → LineOf)
says wordings = map (λ wording. wording.1) wordings

globals-texts : (globals : List GlobalVariable) → texts (wordings_of_globals globals) ≡ map global_line globals
unfolding wordings_of_globals
globals-texts globals = map-map (λ (wording : Wording). wording.0) (λ g. (global_line g, global_of g)) globals

globals-says : (globals : List GlobalVariable) → says (wordings_of_globals globals) ≡ map global_of globals
unfolding wordings_of_globals
globals-says globals = map-map (λ (wording : Wording). wording.1) (λ g. (global_line g, global_of g)) globals

after-texts : (context : PlanContext) → texts (wordings_after context) ≡ map entry_line context.entries ++ map include_line context.includes
unfolding wordings_after
after-texts context =
    map-append (λ (wording : Wording). wording.0) (map (λ e. (entry_line e, exten_of e)) context.entries) (map (λ i. (include_line i, include_of i)) context.includes)
    ∙ (λ k. map-map (λ (wording : Wording). wording.0) (λ e. (entry_line e, exten_of e)) context.entries k ++ map-map (λ (wording : Wording). wording.0) (λ i. (include_line i, include_of i)) context.includes k)

after-says : (context : PlanContext) → says (wordings_after context) ≡ map exten_of context.entries ++ map include_of context.includes
unfolding wordings_after
after-says context =
    map-append (λ (wording : Wording). wording.1) (map (λ e. (entry_line e, exten_of e)) context.entries) (map (λ i. (include_line i, include_of i)) context.includes)
    ∙ (λ k. map-map (λ (wording : Wording). wording.1) (λ e. (entry_line e, exten_of e)) context.entries k ++ map-map (λ (wording : Wording). wording.1) (λ i. (include_line i, include_of i)) context.includes k)

contexts-texts : (contexts : List PlanContext) → texts (wordings_of_contexts contexts) ≡ flat_map context_lines contexts
unfolding wordings_of_contexts
contexts-texts [] = refl
contexts-texts (context ∷ contexts) =
    ap (λ (lines : List (List ℕ)). header_line context.name ∷ lines)
    (map-append (λ (wording : Wording). wording.0) (wordings_after context) (wordings_of_contexts contexts) ∙ (λ k. after-texts context k ++ contexts-texts contexts k))

contexts-says : (contexts : List PlanContext) → says (wordings_of_contexts contexts) ≡ lines_of_contexts contexts
unfolding wordings_of_contexts
contexts-says [] = refl
contexts-says (context ∷ contexts) =
    ap (λ (lines : List (ℕ → LineOf)). header_of context.name ∷ lines)
    (map-append (λ (wording : Wording). wording.1) (wordings_after context) (wordings_of_contexts contexts) ∙ (λ k. after-says context k ++ contexts-says contexts k))

conf_lines-are : (n : ℕ) (wordings : List Wording) → conf_lines n wordings ≡ numbered_lines n (says wordings)
conf_lines-are n [] = refl
conf_lines-are n (wording ∷ wordings) = ap (λ (lines : List LineOf). wording.1 (n + 1) ∷ lines) (conf_lines-are (n + 1) wordings)

globals_name : IsHeaderName (codes "globals")
globals_name = record {
  some = record { first = 103; rest = codes "lobals"; is = refl };
  trimmed = record { begins = refl; ends = refl };
  no_end = none-any (λ b. b == 93) (codes "globals") refl;
  one_line = none-any (λ b. b == 10) (codes "globals") refl;
}

-- lines that begin with a header, given their texts and their items
read_by : (name : List ℕ) (wordings : List Wording) (lines : List (List ℕ)) (makes : List (ℕ → LineOf)) → IsHeaderName name → ReadAs wordings → texts wordings ≡ lines → says wordings ≡ makes → lines_of (text_of (header_line name ∷ lines)) ≡ Ok (numbered_lines 0 (header_of name ∷ makes))
read_by name wordings lines makes fine read text said =
    ap (λ (ls : List (List ℕ)). lines_of (text_of (header_line name ∷ ls))) (sym text)
    ∙ (lines_of-written name wordings fine read
    ∙ ap (λ (ls : List LineOf). Ok (header_of name 1 ∷ ls)) (conf_lines-are 1 wordings ∙ ap (numbered_lines 1) said))

lines-again : (globals : List GlobalVariable) (contexts : List PlanContext) → AllByRecursion IsGlobal globals → AllByRecursion IsContext contexts → lines_of (text_of (global_lines globals ++ flat_map context_lines contexts)) ≡ Ok (numbered_lines 0 (lines_of_globals globals ++ lines_of_contexts contexts))
lines-again [] [] g c = lines_of-nothing
lines-again [] (context ∷ contexts) g c =
    read_by context.name (wordings_after context ++ wordings_of_contexts contexts) ((map entry_line context.entries ++ map include_line context.includes) ++ flat_map context_lines contexts) ((map exten_of context.entries ++ map include_of context.includes) ++ lines_of_contexts contexts) c.0.name.header
    (each-append IsWording (wordings_after context) (wordings_of_contexts contexts) (after-read context c.0) (contexts-read contexts c.1))
    (map-append (λ (wording : Wording). wording.0) (wordings_after context) (wordings_of_contexts contexts) ∙ (λ k. after-texts context k ++ contexts-texts contexts k))
    (map-append (λ (wording : Wording). wording.1) (wordings_after context) (wordings_of_contexts contexts) ∙ (λ k. after-says context k ++ contexts-says contexts k))
lines-again (global ∷ globals) contexts g c =
    read_by (codes "globals") (wordings_of_globals (global ∷ globals) ++ wordings_of_contexts contexts) (map global_line (global ∷ globals) ++ flat_map context_lines contexts) (map global_of (global ∷ globals) ++ lines_of_contexts contexts) globals_name
    (each-append IsWording (wordings_of_globals (global ∷ globals)) (wordings_of_contexts contexts) (globals-read (global ∷ globals) g) (contexts-read contexts c))
    (map-append (λ (wording : Wording). wording.0) (wordings_of_globals (global ∷ globals)) (wordings_of_contexts contexts) ∙ (λ k. globals-texts (global ∷ globals) k ++ contexts-texts contexts k))
    (map-append (λ (wording : Wording). wording.1) (wordings_of_globals (global ∷ globals)) (wordings_of_contexts contexts) ∙ (λ k. globals-says (global ∷ globals) k ++ contexts-says contexts k))

-- the lines of a listing are those of the dialplan
lines_of-listing : (plan : PlanOf) → IsCanonical plan → lines_of (listing plan) ≡ Ok (canonical_lines plan)
unfolding listing
lines_of-listing plan fine = lines-again plan.globals plan.contexts fine.globals fine.contexts

-- ---- the law

-- the listing of a dialplan that loads is loaded as the same dialplan
pub list-load : (plan : PlanOf) → IsLoaded plan → LoadsAs plan (listing plan)
list-load plan from =
    let fine = plan_and_notes-known from.text plan from.notes (each_by_index (λ b. b < 256) from.text (λ k within. from.bytes k within)) from.loads in
    record {
      notes = canonical_notes plan;
      loads = plan_and_notes-canonical (listing plan) plan fine (lines_of-listing plan fine);
      unknown = All-from_recursion IsOnUnknown (canonical_notes plan) (canonical_notes-only plan fine);
    }
