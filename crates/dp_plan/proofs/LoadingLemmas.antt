-- The result of the lines of a text, one after another, is that of their items.
use Rattle.std.proofs.Common.{◌≡◌, ℕ, List, [], ◌∷◌, ◌++◌, fold, map, Result, Ok, Err, refl, ap, subst, sym, ◌∙◌}
use Rattle.std.specs.List.{All, filter_map, flat_map}
use Rattle.std.proofs.lemmas.List.{append-nil, append_assoc}
use Rattle.std.proofs.lemmas.List.Sums.{fold-append}
use Rattle.dp_conf.specs.Answers.{Refuses, ◌>>=◌, with_front}
use Rattle.dp_conf.specs.Lines.{LineOf, LineFault, lines_of, line_fault}
use Rattle.dp_conf.specs.Taking.{all_taken}
use Rattle.dp_conf.specs.declared.fault.ConfFault.{ConfFault}
use Rattle.dp_conf.specs.declared.fault.ConfFault.TheVariants.{At, NoMemory as conf_no_memory}
use Rattle.dp_conf.proofs.TakingLemmas.{all_taken-refused}
use Rattle.dp_plan.specs.Contexts.{PlanContext}
use Rattle.dp_plan.specs.steps.Draft.{Drafted, remark_notes}
use Rattle.dp_plan.specs.Faults.{fault_of_conf, reason_of, text_fault}
use Rattle.dp_plan.specs.History.{PlanHistory, history_of}
use Rattle.dp_plan.specs.Items.{line_item, items_after}
use Rattle.dp_plan.specs.Loaded.{plan_and_notes, lines_loaded, HaveLines}
use Rattle.dp_plan.specs.steps.Loading.{MadeOf, nothing_made, after_item, after_one, draft_made, drafted_of}
use Rattle.dp_plan.specs.Plan.{PlanOf, kept_in, names_in, included_in, plan_of, notes_of, entry_lines_of}
use Rattle.dp_plan.specs.Ranking.{AreApart}
use Rattle.dp_plan.specs.steps.Numbers.{AreAllNumbered}
use Rattle.dp_plan.specs.steps.Reader.{history_in}
use Rattle.dp_plan.specs.declared.fault.LoadFault.{LoadFault}
use Rattle.dp_plan.specs.Item.{Item}
use Rattle.dp_plan.specs.declared.note.Note.{Note}
use Rattle.dp_plan.proofs.ApartLemmas.{kept-apart, contexts-apart}
use Rattle.dp_plan.proofs.DraftLemmas.{drafted_in, Makes-all, names-contexts, reading-items, remark_notes-notes}
use Rattle.dp_plan.proofs.HistoryLemmas.{history_kept, reading_of}
use Rattle.dp_plan.proofs.LinedLemmas.{contexts-lined}
use Rattle.dp_plan.proofs.LoadedLemmas.{of_items, of_lines}
use Rattle.dp_plan.proofs.NumberedLemmas.{contexts-numbered}

-- ---- lines

abbrev State : Type 0
State = Result MadeOf LoadFault

-- a kept fault stays
after_fault : (fault : LoadFault) (lines : List LineOf) → fold after_one (Err fault) lines ≡ Err fault
after_fault fault [] = refl
after_fault fault (line ∷ lines) = after_fault fault lines

-- if all lines were taken the text has the draft of the state
pub drafted_of-taken : (text : List ℕ) (before state : State) → before ≡ Ok nothing_made → all_taken after_one before (lines_of text) ≡ Ok state → drafted_of text ≡ draft_made state
unfolding drafted_of
drafted_of-taken text before state new e = by (lines_of text) (sym (ap (λ (s : State). all_taken after_one s (lines_of text)) new) ∙ e)
  where
    by : (read : Result (List LineOf) LineFault) → all_taken after_one (Ok nothing_made) read ≡ Ok state → (text_fault read >>= λ lines. draft_made (fold after_one (Ok nothing_made) lines)) ≡ draft_made state
    by (Ok lines) e =
        let same : fold after_one (Ok nothing_made) lines ≡ state = cc in
        ap draft_made same
    by (Err fault) e = absurd cc

-- if a line of the text is refused, so is the text
pub Refuses-text : (text : List ℕ) (before : State) (conf : ConfFault) → Refuses (line_fault conf) (all_taken after_one before (lines_of text)) → Refuses (reason_of (fault_of_conf conf)) (drafted_of text)
unfolding drafted_of
Refuses-text text before (At line kind) refused =
    ap (λ read. text_fault read >>= λ lines. draft_made (fold after_one (Ok nothing_made) lines))
    (all_taken-refused after_one before (lines_of text) (record { line = line; kind = kind }) refused)
Refuses-text text before conf_no_memory refused = tt

-- ---- items

-- the result of some items
abbrev pub made_by : List Item → MadeOf
made_by items = fold after_item nothing_made items

pub made_by-append : (before items : List Item) → fold after_item (made_by before) items ≡ made_by (before ++ items)
made_by-append before items = sym (fold-append after_item nothing_made before items)

-- what they leave for the next line is their history
pub made_by-history : (before : List Item) → history_in (made_by before).reading ≡ history_of before
made_by-history before = ap history_in (reading-items nothing_made before) ∙ history_kept before

abbrev made_of_items : List Item → Result (List Item) LoadFault → State
made_of_items before read = read >>= λ items. Ok (made_by (before ++ items))

made_of_items-front : (before item : List Item) (rest : Result (List Item) LoadFault) → made_of_items (before ++ item) rest ≡ made_of_items before (with_front item rest)
made_of_items-front before item (Ok items) = ap (λ (xs : List Item). let done : State = Ok (made_by xs) in done) (append_assoc before item items)
made_of_items-front before item (Err fault) = refl

-- the result of lines after some items is that of their items
after_lines-items : (before : List Item) (lines : List LineOf) → fold after_one (Ok (made_by before)) lines ≡ made_of_items before (items_after before lines)
after_lines-items before [] = ap (λ (xs : List Item). let done : State = Ok (made_by xs) in done) (sym (append-nil before))
after_lines-items before (line ∷ lines) =
    ap (λ (h : PlanHistory). read_by (line_item h line)) (made_by-history before) ∙ by (line_item (history_of before) line) (λ item. after_lines-items (before ++ item) lines)
  where
    read_by : Result (List Item) LoadFault → State
    read_by read = fold after_one (read >>= λ items. let done : State = Ok (fold after_item (made_by before) items) in done) lines

    by : (read : Result (List Item) LoadFault) → ((item : List Item) → fold after_one (Ok (made_by (before ++ item))) lines ≡ made_of_items (before ++ item) (items_after (before ++ item) lines))
        → read_by read ≡ made_of_items before (read >>= λ item. with_front item (items_after (before ++ item) lines))
    by (Ok item) later =
        ap (λ (m : MadeOf). fold after_one (Ok m) lines) (made_by-append before item)
        ∙ (later item ∙ made_of_items-front before item (items_after (before ++ item) lines))
    by (Err fault) later = after_fault fault lines

abbrev draft_of_items : Result (List Item) LoadFault → Result Drafted LoadFault
draft_of_items read = read >>= λ items. Ok (drafted_in items)

draft_made-items : (read : Result (List Item) LoadFault) → draft_made (made_of_items [] read) ≡ draft_of_items read
draft_made-items (Ok items) = ap (λ (d : Drafted). let done : Result Drafted LoadFault = Ok d in done) (Makes-all items).draft
draft_made-items (Err fault) = refl

-- the draft of a text is that of its items
drafted-items : (text : List ℕ) → drafted_of text ≡ (text_fault (lines_of text) >>= λ lines. draft_of_items (items_after [] lines))
unfolding drafted_of
drafted-items text = by (lines_of text) where
  by : (read : Result (List LineOf) LineFault) → (text_fault read >>= λ lines. draft_made (fold after_one (Ok nothing_made) lines)) ≡ (text_fault read >>= λ lines. draft_of_items (items_after [] lines))
  by (Ok lines) = ap draft_made (after_lines-items [] lines) ∙ draft_made-items (items_after [] lines)
  by (Err fault) = refl

-- ---- the dialplan

-- the dialplan of a draft, and its notes
abbrev pub plan_in : Drafted → PlanOf × List Note
plan_in d = (record { globals = d.globals; contexts = d.contexts }, flat_map (remark_notes d.names) d.remarks)

abbrev pub plan_of_draft : Result Drafted LoadFault → Result (PlanOf × List Note) LoadFault
plan_of_draft draft = draft >>= λ d. Ok (plan_in d)

plan_of_draft-items : (items : List Item) → plan_in (drafted_in items) ≡ (plan_of items, notes_of items)
unfolding plan_of
plan_of_draft-items items = λ i. (plan_of items, remark_notes-notes items i)

of_items-draft : (read : Result (List Item) LoadFault) → plan_of_draft (draft_of_items read) ≡ of_items read
of_items-draft (Ok items) = ap (λ (p : PlanOf × List Note). let done : Result (PlanOf × List Note) LoadFault = Ok p in done) (plan_of_draft-items items)
of_items-draft (Err fault) = refl

-- a text loads as the dialplan of its draft
pub plan_and_notes-drafted : (text : List ℕ) → plan_of_draft (drafted_of text) ≡ plan_and_notes text
unfolding plan_and_notes
plan_and_notes-drafted text = ap plan_of_draft (drafted-items text) ∙ by (lines_of text) where
  by : (read : Result (List LineOf) LineFault) → plan_of_draft (text_fault read >>= λ lines. draft_of_items (items_after [] lines)) ≡ of_lines read
  by (Ok lines) = of_items-draft (items_after [] lines)
  by (Err fault) = refl

-- the lines of the entries of a draft
abbrev pub lines_of_draft : Result Drafted LoadFault → Result (List (List ℕ)) LoadFault
lines_of_draft draft = draft >>= λ d. Ok d.lines

abbrev lines_of_items : Result (List Item) LoadFault → Result (List (List ℕ)) LoadFault
lines_of_items read = read >>= λ items. Ok (entry_lines_of items)

lines_of_items-draft : (read : Result (List Item) LoadFault) → lines_of_draft (draft_of_items read) ≡ lines_of_items read
unfolding entry_lines_of
lines_of_items-draft (Ok items) = refl
lines_of_items-draft (Err fault) = refl

-- the lines of a text's entries are those of its draft
pub lines_loaded-drafted : (text : List ℕ) → lines_of_draft (drafted_of text) ≡ lines_loaded text
unfolding lines_loaded
lines_loaded-drafted text = ap lines_of_draft (drafted-items text) ∙ by (lines_of text) where
  by : (read : Result (List LineOf) LineFault) → lines_of_draft (text_fault read >>= λ lines. draft_of_items (items_after [] lines)) ≡ (text_fault read >>= λ lines. lines_of_items (items_after [] lines))
  by (Ok lines) = lines_of_items-draft (items_after [] lines)
  by (Err fault) = refl

-- facts about the draft of a text: its names are those of its contexts, and their entries are apart and have their numbers and their lines
pub record IsFit (d : Drafted) : Type 0 where
  pub names : d.names ≡ map (λ (c : PlanContext). c.name) d.contexts
  pub apart : All (λ (c : PlanContext). AreApart c.entries) d.contexts
  pub numbered : AreAllNumbered d.contexts d.numbers
  pub lined : HaveLines d.contexts d.lines

fit_items : (items : List Item) → IsFit (drafted_in items)
fit_items items = record {
  names = sym (names-contexts (kept_in items) (filter_map included_in items) (names_in items));
  apart = contexts-apart (kept_in items) (filter_map included_in items) (names_in items) (kept-apart items);
  numbered = contexts-numbered (reading_of items).extensions (kept_in items) (filter_map included_in items) (names_in items) (Makes-all items).known;
  lined = contexts-lined items (filter_map included_in items) (names_in items);
}

pub drafted-fit : (text : List ℕ) (draft : Drafted) → drafted_of text ≡ Ok draft → IsFit draft
drafted-fit text draft e = by_lines (lines_of text) (sym (drafted-items text) ∙ e)
  where
    by_items : (read : Result (List Item) LoadFault) → draft_of_items read ≡ Ok draft → IsFit draft
    by_items (Ok items) e =
        let same : drafted_in items ≡ draft = cc in
        subst IsFit same (fit_items items)
    by_items (Err fault) e = absurd cc

    by_lines : (read : Result (List LineOf) LineFault) → (text_fault read >>= λ lines. draft_of_items (items_after [] lines)) ≡ Ok draft → IsFit draft
    by_lines (Ok lines) e = by_items (items_after [] lines) e
    by_lines (Err fault) e = absurd cc
