-- The result of the lines of a text, one after another, if those with a fault are skipped.
use Rattle.std.proofs.Common.{◌≡◌, ℕ, true, List, [], ◌∷◌, ◌++◌, fold, Result, Ok, Err, refl, ap, subst, sym, ◌∙◌}
use Rattle.std.specs.Result.{is_ok}
use Rattle.std.proofs.lemmas.List.{append-nil, append_assoc}
use Rattle.dp_conf.specs.Answers.{Refuses, ◌>>=◌, with_front}
use Rattle.dp_conf.specs.Lines.{LineOf, LineFault, lines_of, line_fault}
use Rattle.dp_conf.specs.Taking.{all_taken}
use Rattle.dp_conf.specs.declared.fault.ConfFault.{ConfFault}
use Rattle.dp_conf.specs.declared.fault.ConfFault.TheVariants.{At, NoMemory as conf_no_memory}
use Rattle.dp_conf.proofs.TakingLemmas.{all_taken-refused}
use Rattle.dp_plan.specs.AllFaults.{items_in, fault_in, line_in, faults_after, faultless_after, kept_after, faults_of}
use Rattle.dp_plan.specs.Faults.{fault_of_conf, reason_of, text_fault}
use Rattle.dp_plan.specs.History.{PlanHistory, history_of}
use Rattle.dp_plan.specs.Item.{Item}
use Rattle.dp_plan.specs.Items.{line_item, items_after}
use Rattle.dp_plan.specs.Loaded.{plan_and_notes}
use Rattle.dp_plan.specs.Plan.{PlanOf, plan_of, notes_of}
use Rattle.dp_plan.specs.steps.Loading.{MadeOf, after_items}
use Rattle.dp_plan.specs.steps.Sifting.{Sifted, nothing_sifted, sifted_by, after_any}
use Rattle.dp_plan.specs.declared.fault.LoadFault.{LoadFault}
use Rattle.dp_plan.specs.declared.note.Note.{Note}
use Rattle.dp_plan.proofs.LoadedLemmas.{of_items, of_lines}
use Rattle.dp_plan.proofs.LoadingLemmas.{made_by, made_by-append, made_by-history}

-- ---- lines

-- the result of lines without a fault, with the faults of the others
abbrev sifted_of : List Item → List LoadFault → Sifted
sifted_of items faults = record { made = made_by items; faults = faults }

-- the faults of lines after some items are those that are found one after another
sifted-faults : (before : List Item) (found : List LoadFault) (lines : List LineOf) → (fold after_any (sifted_of before found) lines).faults ≡ found ++ faults_after before lines
sifted-faults before found [] = sym (append-nil found)
sifted-faults before found (line ∷ lines) =
    ap (λ (h : PlanHistory). read_by (line_item h line)) (made_by-history before)
    ∙ by (line_item (history_of before) line) (λ item. sifted-faults (before ++ item) found lines) (λ fault. sifted-faults before (found ++ fault ∷ []) lines)
  where
    read_by : Result (List Item) LoadFault → List LoadFault
    read_by read = (fold after_any (sifted_by (sifted_of before found) (after_items (made_by before) read)) lines).faults

    by : (read : Result (List Item) LoadFault)
        → ((item : List Item) → (fold after_any (sifted_of (before ++ item) found) lines).faults ≡ found ++ faults_after (before ++ item) lines)
        → ((fault : LoadFault) → (fold after_any (sifted_of before (found ++ fault ∷ [])) lines).faults ≡ (found ++ fault ∷ []) ++ faults_after before lines)
        → read_by read ≡ found ++ (fault_in read ++ faults_after (before ++ items_in read) lines)
    by (Ok item) taken passed =
        ap (λ (m : MadeOf). (fold after_any (record { made = m; faults = found }) lines).faults) (made_by-append before item) ∙ taken item
    by (Err fault) taken passed =
        passed fault
        ∙ (append_assoc found (fault ∷ []) (faults_after before lines)
        ∙ ap (λ (items : List Item). found ++ (fault ∷ faults_after items lines)) (sym (append-nil before)))

-- if all lines were taken the faults of the text are those that were found
pub faults_of-taken : (text : List ℕ) (before state : Sifted) → before ≡ nothing_sifted → all_taken after_any before (lines_of text) ≡ Ok state → faults_of text ≡ Ok state.faults
unfolding faults_of
faults_of-taken text before state new e = by (lines_of text) (sym (ap (λ (s : Sifted). all_taken after_any s (lines_of text)) new) ∙ e)
  where
    by : (read : Result (List LineOf) LineFault) → all_taken after_any nothing_sifted read ≡ Ok state → (text_fault read >>= λ lines. Ok (faults_after [] lines)) ≡ Ok state.faults
    by (Ok lines) e =
        let same : fold after_any nothing_sifted lines ≡ state = cc in
        ap (λ (faults : List LoadFault). let done : Result (List LoadFault) LoadFault = Ok faults in done)
        (sym (sifted-faults [] [] lines) ∙ ap (λ (s : Sifted). s.faults) same)
    by (Err fault) e = absurd cc

-- if a line of the text is refused, so is the text
pub Refuses-faults : (text : List ℕ) (before : Sifted) (conf : ConfFault) → Refuses (line_fault conf) (all_taken after_any before (lines_of text)) → Refuses (reason_of (fault_of_conf conf)) (faults_of text)
unfolding faults_of
Refuses-faults text before (At line kind) refused =
    ap (λ read. text_fault read >>= λ lines. Ok (faults_after [] lines))
    (all_taken-refused after_any before (lines_of text) (record { line = line; kind = kind }) refused)
Refuses-faults text before conf_no_memory refused = tt

-- ---- faults and loading

-- the reading of some lines compared with all their faults: it has no fault if there are none, and else the first
abbrev IsFirst : {X : Type 0} → Result X LoadFault → List LoadFault → Type 0
IsFirst read [] = is_ok read ≡ true
IsFirst read (fault ∷ faults) = read ≡ Err fault

-- a next step passes the fault on
IsFirst-passed_on : {X Y : Type 0} (next : X → Y) (read : Result X LoadFault) (faults : List LoadFault) → IsFirst read faults → IsFirst (read >>= λ x. let done : Result Y LoadFault = Ok (next x) in done) faults
IsFirst-passed_on next (Ok x) [] is = refl
IsFirst-passed_on next (Err fault) [] is = absurd cc
IsFirst-passed_on {X} {Y} next read (fault ∷ faults) is = ap (λ (r : Result X LoadFault). r >>= λ x. let done : Result Y LoadFault = Ok (next x) in done) is

IsFirst-items : (before : List Item) (lines : List LineOf) → IsFirst (items_after before lines) (faults_after before lines)
IsFirst-items before [] = refl
IsFirst-items before (line ∷ lines) = by (line_item (history_of before) line) (λ item. IsFirst-items (before ++ item) lines)
  where
    by : (read : Result (List Item) LoadFault)
        → ((item : List Item) → IsFirst (items_after (before ++ item) lines) (faults_after (before ++ item) lines))
        → IsFirst (read >>= λ item. with_front item (items_after (before ++ item) lines)) (fault_in read ++ faults_after (before ++ items_in read) lines)
    by (Ok item) later = IsFirst-passed_on (λ items. item ++ items) (items_after (before ++ item) lines) (faults_after (before ++ item) lines) (later item)
    by (Err fault) later = refl

IsFirst-lines : (lines : List LineOf) (faults : List LoadFault) → faults_after [] lines ≡ faults → IsFirst (of_items (items_after [] lines)) faults
IsFirst-lines lines faults same =
    subst (IsFirst (of_items (items_after [] lines))) same
    (IsFirst-passed_on (λ (items : List Item). (plan_of items, notes_of items)) (items_after [] lines) (faults_after [] lines) (IsFirst-items [] lines))

-- a text loads if it has no fault, and is refused for its first fault otherwise
IsFirst-text : (text : List ℕ) (faults : List LoadFault) → faults_of text ≡ Ok faults → IsFirst (plan_and_notes text) faults
unfolding faults_of plan_and_notes
IsFirst-text text faults e = by (lines_of text) e
  where
    by : (read : Result (List LineOf) LineFault) → (text_fault read >>= λ lines. Ok (faults_after [] lines)) ≡ Ok faults → IsFirst (of_lines read) faults
    by (Ok lines) e =
        let same : faults_after [] lines ≡ faults = cc in
        IsFirst-lines lines faults same
    by (Err fault) e = absurd cc

pub faults-none : (text : List ℕ) → faults_of text ≡ Ok [] → is_ok (plan_and_notes text) ≡ true
faults-none text e = IsFirst-text text [] e

pub faults-first : (text : List ℕ) (fault : LoadFault) (faults : List LoadFault) → faults_of text ≡ Ok (fault ∷ faults) → plan_and_notes text ≡ Err fault
faults-first text fault faults e = IsFirst-text text (fault ∷ faults) e

-- a fault of the text itself is that of both
pub faults-text : (text : List ℕ) (fault : LoadFault) → faults_of text ≡ Err fault → plan_and_notes text ≡ Err fault
unfolding faults_of plan_and_notes
faults-text text fault e = by (lines_of text) e
  where
    by : (read : Result (List LineOf) LineFault) → (text_fault read >>= λ lines. Ok (faults_after [] lines)) ≡ Err fault → of_lines read ≡ Err fault
    by (Ok lines) e = absurd cc
    by (Err found) e = ap (λ (r : Result (List LoadFault) LoadFault). r >>= λ faults. let done : Result (PlanOf × List Note) LoadFault = Ok (plan_of [], notes_of []) in done) e

-- ---- lines without a fault

-- read alone they give the same as among the others
items-faultless : (before : List Item) (lines : List LineOf) → items_after before (faultless_after before lines) ≡ Ok (kept_after before lines)
items-faultless before [] = refl
items-faultless before (line ∷ lines) = by (line_item (history_of before) line) refl (λ item. items-faultless (before ++ item) lines)
  where
    by : (read : Result (List Item) LoadFault) → line_item (history_of before) line ≡ read
        → ((item : List Item) → items_after (before ++ item) (faultless_after (before ++ item) lines) ≡ Ok (kept_after (before ++ item) lines))
        → items_after before (line_in line read ++ faultless_after (before ++ items_in read) lines) ≡ Ok (items_in read ++ kept_after (before ++ items_in read) lines)
    by (Ok item) is later =
        ap (λ (r : Result (List Item) LoadFault). r >>= λ xs. with_front xs (items_after (before ++ xs) (faultless_after (before ++ item) lines))) is
        ∙ ap (with_front item) (later item)
    by (Err fault) is later =
        ap (λ (items : List Item). items_after items (faultless_after (before ++ []) lines)) (sym (append-nil before)) ∙ later []

pub items-faultless_alone : (lines : List LineOf) → items_after [] (faultless_after [] lines) ≡ Ok (kept_after [] lines)
items-faultless_alone lines = items-faultless [] lines
