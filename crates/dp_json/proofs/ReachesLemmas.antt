-- An answer has as many lines as it has parts.
use Rattle.std.proofs.Common.{◌≡◌, ℕ, ◌+◌, Bool, true, false, List, [], ◌∷◌, ◌++◌, length, map, Option, refl, ap, ap₂, ◌∙◌, arith, length-append}
use Rattle.std.specs.Global.{Vec}
use Rattle.std.proofs.lemmas.List.{length-map}
use Rattle.dp_answer.specs.Asks.{AskOf}
use Rattle.dp_answer.specs.declared.reach_answer.ReachAnswer.{ReachAnswer}
use Rattle.dp_answer.specs.declared.reach_answer.ReachFinding.{ReachFinding}
use Rattle.dp_answer.specs.declared.reach_answer.ReachFinding.TheVariants.{Contexts, Target}
use Rattle.dp_answer.specs.declared.reach_answer.ReachedContext.{ReachedContext}
use Rattle.dp_audit.specs.Findings.{context_name}
use Rattle.dp_json.specs.Lines.{line_count}
use Rattle.dp_json.specs.Objects.{Field, lines_text, object_text}
use Rattle.dp_json.specs.Reaches.{context_objects, contexts_objects, entry_object, finding_objects, further_object, lines_on_answer, lines_on_contexts, lines_on_finding, lines_on_proof, proof_objects, reach_count_object, reach_objects, reach_text, way_object}
use Rattle.dp_json.proofs.LinesLemmas.{count_all}
use Rattle.dp_plan.specs.Plan.{PlanOf}

-- objects have a line each
count_objects : (objects : List (List Field)) → line_count (lines_text objects) ≡ length objects
count_objects objects = count_all object_text (λ fields. fields) (λ fields. refl) objects

-- the lines of a list of texts
abbrev texts_of : List (Vec ℕ) → List (List ℕ)
texts_of lines = map (λ line. line.items) lines

length-mapped : {A : Type 0} (object : List ℕ → A) (lines : List (Vec ℕ)) → length (map object (texts_of lines)) ≡ length lines
length-mapped object lines = length-map (texts_of lines) object ∙ length-map lines (λ line. line.items)

length-context : (plan : PlanOf) (number : ℕ) (context : ReachedContext)
    → length (context_objects plan number context) ≡ length context.entries.items + length context.way.items
length-context plan number context =
    length-append (map (entry_object plan) context.entries.items) (map (way_object (context_name plan number)) (texts_of context.way.items))
    ∙ ap₂ (λ a b. a + b) (length-map context.entries.items (entry_object plan)) (length-mapped (way_object (context_name plan number)) context.way.items)

length-contexts : (plan : PlanOf) (number : ℕ) (contexts : List ReachedContext) → length (contexts_objects plan number contexts) ≡ lines_on_contexts contexts
length-contexts plan number [] = refl
length-contexts plan number (context ∷ contexts) =
    length-append (context_objects plan number context) (contexts_objects plan (number + 1) contexts)
    ∙ ap₂ (λ a b. a + b) (length-context plan number context) (length-contexts plan (number + 1) contexts)

length-proof : (is_proved : Bool) → length (proof_objects is_proved) ≡ lines_on_proof is_proved
length-proof true = refl
length-proof false = refl

length-finding : (plan : PlanOf) (target : Option (List ℕ)) (finding : ReachFinding) (lines : List (Vec ℕ))
    → length (finding_objects plan target finding (texts_of lines)) ≡ lines_on_finding finding + length lines
length-finding plan target (Contexts contexts) lines =
    let both = length-append (contexts_objects plan 0 contexts.items) (map further_object (texts_of lines)) in
    omega (
      arith,
      length-append (contexts_objects plan 0 contexts.items ++ map further_object (texts_of lines)) (reach_count_object plan contexts.items ∷ []),
      both,
      length-contexts plan 0 contexts.items,
      length-mapped further_object lines,
    )
length-finding plan target (Target reached) lines = omega (arith, length-mapped further_object lines)

pub count_answer : (plan : PlanOf) (ask : AskOf) (answer : ReachAnswer) → line_count (reach_text plan ask answer) ≡ lines_on_answer answer
count_answer plan ask answer =
    let found = finding_objects plan ask.target answer.finding (texts_of answer.tail.items) in
    let parts = length-append (proof_objects answer.is_proved) found in
    count_objects (reach_objects plan ask answer)
    ∙ omega (arith, parts, length-proof answer.is_proved, length-finding plan ask.target answer.finding answer.tail.items)
