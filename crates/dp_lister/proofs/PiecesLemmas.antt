-- The pieces of each line.
use Rattle.std.proofs.Common.{◌≡◌, ℕ, ◌==◌, false, List, [], ◌∷◌, ◌++◌, length, map, codes, Some, refl, ap, ◌∙◌, sym, append_assoc}
use Rattle.std.specs.List.{flat_map}
use Rattle.std.proofs.lemmas.Grind.{flat_map-append}
use Rattle.dp_conf.specs.Escape.{escaped_byte, escape_text}
use Rattle.dp_plan.specs.Plan.{PlanOf}
use Rattle.dp_plan.specs.declared.plan.GlobalVariable.{GlobalVariable}
use Rattle.dp_lister.specs.Listing.{application_text, label_text, global_line, global_lines, context_lines, contexts_text, line_text, text_of, listing}

escape_text-append : (xs ys : List ℕ) → escape_text (xs ++ ys) ≡ escape_text xs ++ escape_text ys
escape_text-append xs ys = flat_map-append escaped_byte xs ys

-- a text, some bytes, and another text
joined : (first between last : List ℕ) → escape_text (first ++ between ++ last) ≡ escape_text first ++ escape_text between ++ escape_text last
joined first between last =
    escape_text-append (first ++ between) last ∙ ap (λ (text : List ℕ). text ++ escape_text last) (escape_text-append first between)

-- the same with more bytes after them
joined-more : (first between last more : List ℕ) → escape_text (first ++ between ++ last) ++ more ≡ escape_text first ++ (escape_text between ++ (escape_text last ++ more))
joined-more first between last more =
    ap (λ (text : List ℕ). text ++ more) (joined first between last)
    ∙ (append_assoc (escape_text first ++ escape_text between) (escape_text last) more
    ∙ append_assoc (escape_text first) (escape_text between) (escape_text last ++ more))

-- the line of a global variable
pub global_pieces : (name value : List ℕ) → escape_text name ++ (codes " => " ++ (escape_text value ++ codes "\n")) ≡ line_text (name ++ codes " => " ++ value)
global_pieces name value = sym (joined-more name (codes " => ") value (codes "\n"))

-- a priority with its label
pub label_pieces : (priority label : List ℕ) → escape_text priority ++ (codes "(" ++ (escape_text label ++ codes ")")) ≡ escape_text (priority ++ label_text (Some label))
label_pieces priority label =
    sym (escape_text-append priority (label_text (Some label))
    ∙ ap (λ (text : List ℕ). escape_text priority ++ (codes "(" ++ text)) (escape_text-append label (codes ")")))

-- an application with its arguments
pub application_pieces : (name arguments : List ℕ) → escape_text name ++ (codes "(" ++ (escape_text arguments ++ codes ")")) ≡ escape_text (application_text name arguments)
application_pieces name arguments =
    sym (escape_text-append (name ++ codes "(" ++ arguments) (codes ")") ∙ joined-more name (codes "(") arguments (codes ")"))

-- the text of an entry after its name
pub after_pieces : (priority application : List ℕ) → codes "," ++ (escape_text priority ++ (codes "," ++ escape_text application)) ≡ escape_text (codes "," ++ priority ++ codes "," ++ application)
after_pieces priority application =
    sym (ap (λ (text : List ℕ). codes "," ++ text) (joined priority (codes ",") application ∙ append_assoc (escape_text priority) (codes ",") (escape_text application)))

-- the line of an entry
pub entry_pieces : (name rest : List ℕ) → codes "exten => " ++ (escape_text name ++ (escape_text rest ++ codes "\n")) ≡ line_text (codes "exten => " ++ name ++ rest)
entry_pieces name rest =
    sym (ap (λ (text : List ℕ). codes "exten => " ++ (text ++ codes "\n")) (escape_text-append name rest)
    ∙ ap (λ (text : List ℕ). codes "exten => " ++ text) (append_assoc (escape_text name) (escape_text rest) (codes "\n")))

-- the line of an include
pub include_pieces : (name : List ℕ) → codes "include => " ++ (escape_text name ++ codes "\n") ≡ line_text (codes "include => " ++ name)
include_pieces name = refl

-- the header of a context
pub header_pieces : (name : List ℕ) → codes "[" ++ (escape_text name ++ codes "]\n") ≡ line_text (codes "[" ++ name ++ codes "]")
header_pieces name =
    sym (ap (λ (text : List ℕ). codes "[" ++ (text ++ codes "\n")) (escape_text-append name (codes "]"))
    ∙ ap (λ (text : List ℕ). codes "[" ++ text) (append_assoc (escape_text name) (codes "]") (codes "\n")))

-- the lines of a context
pub context_pieces : (header : List ℕ) (entries includes : List (List ℕ)) → line_text header ++ (text_of entries ++ text_of includes) ≡ text_of (header ∷ entries ++ includes)
context_pieces header entries includes = ap (λ (text : List ℕ). line_text header ++ text) (sym (flat_map-append line_text entries includes))

-- the lines of the global variables, if there are any
pub globals_pieces : (globals : List GlobalVariable) → (length globals == 0) ≡ false → codes "[globals]\n" ++ text_of (map global_line globals) ≡ text_of (global_lines globals)
globals_pieces [] some = absurd cc
globals_pieces (global ∷ globals) some = refl

-- the lines of a dialplan
pub plan_pieces : (plan : PlanOf) → text_of (global_lines plan.globals) ++ contexts_text plan.contexts ≡ listing plan
unfolding listing
plan_pieces plan = sym (flat_map-append line_text (global_lines plan.globals) (flat_map context_lines plan.contexts))
