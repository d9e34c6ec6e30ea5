-- A text that loads has no fault, and the ends of its macros are added.
use Rattle.std.proofs.Common.{◌≡◌, ℕ, List, [], ◌∷◌, ◌++◌, Option, Some, None, unwrap_or, Result, Ok, Err, refl, ap, sym, ◌∙◌}
use Rattle.std.proofs.lemmas.Option.{none-some}
use Rattle.dp_files.specs.DialplanText.{text_of}
use Rattle.dp_files.specs.declared.source_line.MadeLine.{MadeLine}
use Rattle.dp_notices.specs.Loading.{LoadingOf, counts_of, faults_in_text, loaded_by, loaded_lines, loading_in, loading_of, nothing_loaded, notices_of, without_faulty}
use Rattle.dp_notices.specs.MacroEnds.{ends_by, ends_of, ends_of_text, made_ends, with_ends}
use Rattle.dp_notices.specs.declared.loading.NumberedNotice.{NumberedNotice}
use Rattle.dp_notices.specs.declared.macro_ends.AddedLine.{AddedLine}
use Rattle.dp_plan.specs.AllFaults.{faults_of}
use Rattle.dp_plan.specs.Loaded.{lines_loaded, plan_and_notes}
use Rattle.dp_plan.specs.Plan.{PlanOf}
use Rattle.dp_plan.specs.declared.fault.LoadFault.{LoadFault}
use Rattle.dp_plan.specs.declared.note.Note.{Note}

-- a text that loads is not refused
loads_or_refused : (text : List ℕ) (loading : LoadingOf) (fault : LoadFault) → Some loading ≡ loading_in (plan_and_notes text)
    → plan_and_notes text ≡ Err fault → {P : Type 0} → P
loads_or_refused text loading fault loads refuses = absurd (none-some loading (sym (loads ∙ ap loading_in refuses)))

-- so it has no notices of faults
no_faults : (text : List ℕ) (loading : LoadingOf)
    → ((t : List ℕ) (fault : LoadFault) (faults : List LoadFault) → faults_of t ≡ Ok (fault ∷ faults) → plan_and_notes t ≡ Err fault)
    → ((t : List ℕ) (fault : LoadFault) → faults_of t ≡ Err fault → plan_and_notes t ≡ Err fault)
    → Some loading ≡ loading_in (plan_and_notes text)
    → (found : Result (List LoadFault) LoadFault) → faults_of text ≡ found → notices_of found ≡ []
no_faults text loading first whole loads (Ok []) is = refl
no_faults text loading first whole loads (Ok (fault ∷ faults)) is = loads_or_refused text loading fault loads (first text fault faults is)
no_faults text loading first whole loads (Err fault) is = loads_or_refused text loading fault loads (whole text fault is)

-- if the text of lines loads, they are loaded as they are
pub faultless : (lines : List MadeLine) (loading : LoadingOf)
    → ((t : List ℕ) (fault : LoadFault) (faults : List LoadFault) → faults_of t ≡ Ok (fault ∷ faults) → plan_and_notes t ≡ Err fault)
    → ((t : List ℕ) (fault : LoadFault) → faults_of t ≡ Err fault → plan_and_notes t ≡ Err fault)
    → Some loading ≡ loading_in (plan_and_notes (text_of lines))
    → loaded_by lines [] loading ≡ loaded_lines lines
unfolding loaded_lines
faultless lines loading first whole loads =
    let none : faults_in_text (text_of lines) ≡ [] = no_faults (text_of lines) loading first whole loads (faults_of (text_of lines)) refl in
    sym (ap (λ (faults : List NumberedNotice). loaded_by lines faults (loading_of (plan_and_notes (text_of (without_faulty faults lines))))) none
    ∙ ap (λ (l : Option LoadingOf). loaded_by lines [] (unwrap_or l nothing_loaded)) (sym loads))

-- and the ends of their macros come after them
pub faultless_ends : (lines : List MadeLine) (loading : LoadingOf)
    → ((t : List ℕ) (fault : LoadFault) (faults : List LoadFault) → faults_of t ≡ Ok (fault ∷ faults) → plan_and_notes t ≡ Err fault)
    → ((t : List ℕ) (fault : LoadFault) → faults_of t ≡ Err fault → plan_and_notes t ≡ Err fault)
    → Some loading ≡ loading_in (plan_and_notes (text_of lines))
    → (ends : List AddedLine) → ends ≡ ends_of_text (text_of lines)
    → with_ends lines ≡ lines ++ made_ends lines ends
unfolding with_ends
faultless_ends lines loading first whole loads ends are =
    let none : faults_in_text (text_of lines) ≡ [] = no_faults (text_of lines) loading first whole loads (faults_of (text_of lines)) refl in
    ap (λ (faults : List NumberedNotice). lines ++ made_ends (without_faulty faults lines) (ends_of_text (text_of (without_faulty faults lines)))) none
    ∙ ap (λ (added : List AddedLine). lines ++ made_ends lines added) (sym are)

-- what a text loads as, given its dialplan and notes
pub loading_loaded : (text : List ℕ) (plan : PlanOf) (notes : List Note) → plan_and_notes text ≡ Ok (plan, notes)
    → loading_in (plan_and_notes text) ≡ Some (record { counts = counts_of plan; notes = notes })
loading_loaded text plan notes is = ap loading_in is

-- the ends of its macros, given its dialplan and the lines of its entries
pub ends_loaded : (text : List ℕ) (plan : PlanOf) (notes : List Note) (lines : List (List ℕ))
    → plan_and_notes text ≡ Ok (plan, notes) → lines_loaded text ≡ Ok lines → ends_of_text text ≡ ends_of plan lines
ends_loaded text plan notes lines is are = λ i. ends_by (is i) (are i)

-- a text that does not load has no ends of macros
nothing_by : (read : Result (PlanOf × List Note) LoadFault) (lines : Result (List (List ℕ)) LoadFault) → None ≡ loading_in read → ends_by read lines ≡ []
nothing_by (Ok read) lines none = absurd (none-some _ none)
nothing_by (Err fault) lines none = refl

pub nothing_ended : (text : List ℕ) → None ≡ loading_in (plan_and_notes text) → [] ≡ ends_of_text text
nothing_ended text none = sym (nothing_by (plan_and_notes text) (lines_loaded text) none)
