-- The entries among the answers, with one more number, and what is proved of them.
use Rattle.std.proofs.Common.{◌≡◌, ℕ, ◌+◌, Bool, List, [], ◌∷◌, ◌++◌, Option, map, append_assoc, sym, ap, subst, ◌∙◌}
use Rattle.std.specs.Prelude.{filter}
use Rattle.std.specs.Global.{Vec}
use Rattle.std.specs.List.{flat_map, range_with_len}
use Rattle.std.proofs.lemmas.List.{map-append}
use Rattle.std.proofs.lemmas.List.Elements.{filter-append}
use Rattle.dp_app.specs.Rows.{Meanings}
use Rattle.dp_answer.specs.Asks.{AskOf}
use Rattle.dp_answer.specs.Reached.{AreReached, AreReachedBy, ids_of}
use Rattle.dp_answer.specs.Steps.{AreTerms, IsFoundBy, answers_of}
use Rattle.dp_answer.specs.declared.terms.Terms.{Terms}
use Rattle.dp_answer.specs.declared.trails.Found.{Found}
use Rattle.dp_answer.proofs.ReportLemmas.{range-next, told-next}
use Rattle.dp_closed.specs.Answers.{answers_in}
use Rattle.dp_plan.specs.Plan.{PlanOf}
use Rattle.dp_plan.specs.declared.entry.EntryId.{EntryId}
use Rattle.dp_queue.specs.declared.settings.Settings.{Settings}
use Rattle.dp_reach.specs.Audits.{Outside, RunsOnly}

-- those of one more item that pass the test
pub kept_next : {A : Type 0} (p : A → Bool) (f : ℕ → A) (start before after : List A) (n : ℕ) → before ≡ start ++ filter p (map f (range_with_len 0 n))
    → after ≡ before ++ filter p (f n ∷ []) → after ≡ start ++ filter p (map f (range_with_len 0 (n + 1)))
kept_next p f start before after n kept added =
    added
    ∙ (ap (λ items. items ++ filter p (f n ∷ [])) kept
    ∙ (append_assoc start (filter p (map f (range_with_len 0 n))) (filter p (f n ∷ []))
    ∙ ap (λ items. start ++ items) (sym (filter-append p (map f (range_with_len 0 n)) (f n ∷ []))
    ∙ ap (filter p) (sym (map-append f (range_with_len 0 n) (n ∷ [])) ∙ ap (map f) (sym (range-next n))))))

-- those of one more list
pub all_next : {A : Type 0} (p : A → Bool) (f : ℕ → List A) (before after : List A) (n : ℕ) → before ≡ filter p (flat_map f (range_with_len 0 n))
    → after ≡ before ++ filter p (f n) → after ≡ filter p (flat_map f (range_with_len 0 (n + 1)))
all_next p f before after n kept added =
    added
    ∙ (ap (λ items. items ++ filter p (f n)) kept
    ∙ (sym (filter-append p (flat_map f (range_with_len 0 n)) (f n)) ∙ ap (filter p) (told-next f [] n)))

-- what was found on the terms of the question
pub found-entries : (meanings : Meanings) (plan : PlanOf) (settings : List Settings) (ask : AskOf) (terms : Terms) (found : Found) (marks : Option (List (Vec Bool)))
    (entries : List EntryId) → AreTerms plan settings ask terms → IsFoundBy meanings terms plan ask.context found → marks ≡ answers_of found
    → entries ≡ filter (answers_in marks) (ids_of plan) → AreReached meanings plan settings ask entries
found-entries meanings plan settings ask terms found marks entries are found_by same listed = subst (λ b. AreReachedBy meanings b plan settings ask entries) (sym are.has_all) (record {
  answers = answers_in (answers_of found);
  runs = subst (λ (o : Outside). RunsOnly meanings o ask.context plan settings (answers_in (answers_of found))) are.outside (found_by settings are.ways);
  listed = listed ∙ ap (λ m. filter (answers_in m) (ids_of plan)) same;
})
