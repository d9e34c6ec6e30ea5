-- What the wide table knows of the applications that most lines of a dialplan name.
use Rattle.std.proofs.Common.{◌≡◌, ◌||◌, ℕ, Bool, true, false, List, [], Some, if◌then◌else◌, is_some, refl, ap, ◌∙◌}
use Rattle.std.specs.Prelude.{codes}
use Rattle.std.specs.List.{find, list_any}
use Rattle.std.specs.Option.{option_and_then, option_map}
use Rattle.dp_conf.specs.Levels.{arguments_of}
use Rattle.dp_conf.specs.Words.{same_word}
use Rattle.dp_vars.specs.Sights.{Sight}
use Rattle.dp_app.specs.Rows.{has_row}
use Rattle.dp_wide.specs.Choices.{exec_if_application, exec_if_title}
use Rattle.dp_wide.specs.Going.{going_names}
use Rattle.dp_wide.specs.Names.{is_word_of}
use Rattle.dp_table.specs.Standard.{standard_table}
use Rattle.dp_wide.specs.Outside.{outside_applications}
use Rattle.dp_wide.specs.Requests.{dial_asked, inner_asked, setting_asked, settings_asked, time_asked}
use Rattle.dp_wide.specs.Wide.{call_asked, call_in_the_end, inner_looks, inner_table, own_names, quiet_names, wide_asks, wide_looks}
use Rattle.dp_wide.specs.steps.Plain.{is_plain, plain_names}
use Rattle.dp_wide.proofs.PlacedLemmas.{has_of_words}
use Rattle.dp_wide.proofs.WordsLemmas.{of_words}

-- whether an application looks at its arguments, given the comparisons of its name
abbrev looks_by : (List ℕ → Bool) → Bool
looks_by same =
    if same exec_if_title then true
    else (if list_any same quiet_names then false
    else (if list_any same own_names then true
    else (if list_any same going_names then false
    else (if is_some (option_map (λ a. a.1) (find (λ a. same a.0) outside_applications)) then same (codes "Read") || same (codes "ReadExten")
    else true))))

quiet_look : (name : List ℕ) → is_word_of quiet_names name ≡ true → looks_by (same_word name) ≡ false
unfolding going_names outside_applications
quiet_look = of_words looks_by false quiet_names (refl, (refl, (refl, (refl, (refl, (refl, tt))))))

plain_look : (name : List ℕ) → is_word_of plain_names name ≡ true → looks_by (same_word name) ≡ true
unfolding going_names outside_applications plain_names
plain_look = of_words looks_by true plain_names (refl, (refl, (refl, (refl, (refl, (refl, (refl, (refl, (refl, (refl, (refl, (refl, (refl, (refl, (refl, (refl, (refl, (refl, (refl, tt)))))))))))))))))))

-- those of the first list do not look at their arguments
pub quiet_looks : (name : List ℕ) → is_word_of quiet_names name ≡ true → wide_looks name ≡ false
unfolding inner_looks
quiet_looks name among = quiet_look name among

-- nor do the plain ones
pub plain_looks : (name : List ℕ) → is_plain name ≡ true → wide_looks name ≡ true
unfolding inner_looks
plain_looks name among = plain_look name among

-- a plain name is not that of `ExecIf`
plain_runs_none : (name : List ℕ) → is_plain name ≡ true → same_word name exec_if_title ≡ false
unfolding plain_names
plain_runs_none = of_words (λ same. same exec_if_title) false plain_names (refl, (refl, (refl, (refl, (refl, (refl, (refl, (refl, (refl, (refl, (refl, (refl, (refl, (refl, (refl, (refl, (refl, (refl, (refl, tt)))))))))))))))))))

-- the table has it
plain_has : (name : List ℕ) → is_plain name ≡ true → has_row inner_table.rows name ≡ true
unfolding inner_table standard_table going_names outside_applications plain_names
plain_has = has_of_words inner_table.touches inner_table.rows inner_table.blind plain_names (refl, (refl, (refl, (refl, (refl, (refl, (refl, (refl, (refl, (refl, (refl, (refl, (refl, (refl, (refl, (refl, (refl, (refl, (refl, tt)))))))))))))))))))

-- what an application asks, given the comparisons of its name
abbrev asked_by : Sight → List ℕ → (List ℕ → Bool) → List ℕ
asked_by sight arguments same =
    if same (codes "Set") then setting_asked arguments
    else (if same (codes "Dial") then dial_asked (arguments_of arguments)
    else (if same (codes "GotoIfTime") then time_asked sight arguments
    else (if same (codes "MSet") then settings_asked (arguments_of arguments) else [])))

plain_asked_none : (sight : Sight) (arguments name : List ℕ) → is_plain name ≡ true → inner_asked sight name arguments ≡ []
unfolding plain_names
plain_asked_none sight arguments = of_words (asked_by sight arguments) [] plain_names (refl, (refl, (refl, (refl, (refl, (refl, (refl, (refl, (refl, (refl, (refl, (refl, (refl, (refl, (refl, (refl, (refl, (refl, (refl, tt)))))))))))))))))))

neither : (b : Bool) → if◌then◌else◌ {A = List ℕ} b [] [] ≡ []
neither true = refl
neither false = refl

-- the plain ones ask nothing
pub plain_asks : (sight : Sight) (name arguments : List ℕ) → is_plain name ≡ true → wide_asks sight name arguments ≡ []
unfolding wide_asks
plain_asks sight name arguments plain =
    ap
    (λ b. call_asked sight (if b then option_and_then (λ call. call_in_the_end 7 call.0 call.1) (exec_if_application arguments) else Some (name, arguments)))
    (plain_runs_none name plain)
    ∙ (ap (λ b. if b then (if inner_looks name then inner_asked sight name arguments else []) else name) (plain_has name plain)
    ∙ (ap (λ (asked : List ℕ). if inner_looks name then asked else []) (plain_asked_none sight arguments name plain)
    ∙ neither (inner_looks name)))
