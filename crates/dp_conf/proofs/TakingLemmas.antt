-- A value after the remaining parts of a text, and after one more of them.
use Rattle.std.proofs.Common.{◌≡◌, ℕ, ◌+◌, Bool, true, false, ◌||◌, List, [], ◌∷◌, ◌++◌, length, fold, Result, Ok, Err, refl, ap, ◌∙◌, sym, arith}
use Rattle.std.specs.List.{list_any}
use Rattle.std.proofs.lemmas.List.{append_assoc, append-nil}
use Rattle.std.proofs.lemmas.List.Sums.{fold-append}
use Rattle.dp_conf.specs.declared.fault.ConfFault.{ConfFault}
use Rattle.dp_conf.specs.declared.fault.ConfFault.TheVariants.{At, NoMemory}
use Rattle.dp_conf.specs.Answers.{Refuses, ◌>>=◌, with_front, all_of, before_fault}
use Rattle.dp_conf.specs.Lines.{LineOf, LineFault, without_mark, parts_of, is_header, opens_section, at_line, part_item, lines_of, items_before_fault, line_fault}
use Rattle.dp_conf.specs.Taking.{all_taken, part_taken, AtFault}
use Rattle.dp_conf.proofs.LinesLemmas.{readings_from, each_after-reading_of, opens_section-is_header}

-- the reading of a part
abbrev reading : Bool → ℕ → List ℕ → Result (List LineOf) LineFault
reading in_section line part = at_line line (part_item in_section line part)

-- the value after the remaining parts, which come after `line` lines, given whether a section has begun
abbrev pub rest_taken : {S : Type 0} → (S → LineOf → S) → Bool → ℕ → S → List (List ℕ) → Result S LineFault
rest_taken next in_section line state parts = all_taken next state (all_of (readings_from in_section line parts))

-- the parts of a text are its lines
pub rest_taken-text : {S : Type 0} (next : S → LineOf → S) (state : S) (text : List ℕ) → rest_taken next false 0 state (parts_of (without_mark text)) ≡ all_taken next state (lines_of text)
unfolding lines_of
rest_taken-text next state text =
    ap (λ readings. all_taken next state (all_of readings)) (sym (each_after-reading_of [] (parts_of (without_mark text))))

-- lines that were taken come before the remaining ones
all_taken-front : {S : Type 0} (next : S → LineOf → S) (state : S) (items : List LineOf) (rest : Result (List LineOf) LineFault) → all_taken next (fold next state items) rest ≡ all_taken next state (with_front items rest)
all_taken-front {S} next state items (Ok lines) = ap (λ (s : S). let done : Result S LineFault = Ok s in done) (sym (fold-append next state items lines))
all_taken-front next state items (Err fault) = refl

-- a part that was read
pub rest_taken-turn : {S : Type 0} (next : S → LineOf → S) (in_section begun : Bool) (line : ℕ) (state reached : S) (part : List ℕ) (more : List (List ℕ))
    → part_taken next in_section state (at_line (line + 1) (part_item in_section (line + 1) part)) ≡ Ok (begun, reached)
    → rest_taken next begun (line + 1) reached more ≡ rest_taken next in_section line state (part ∷ more)
rest_taken-turn {S} next in_section begun line state reached part more e = by (reading in_section (line + 1) part) refl e
  where
    by : (read : Result (List LineOf) LineFault) → reading in_section (line + 1) part ≡ read → part_taken next in_section state read ≡ Ok (begun, reached)
        → rest_taken next begun (line + 1) reached more ≡ all_taken next state (read >>= λ xs. with_front xs (all_of (readings_from (in_section || opens_section part) (line + 1) more)))
    by (Ok items) read e =
        let made : Bool × S = (in_section || list_any is_header items, fold next state items) in
        let given : Bool × S = (begun, reached) in
        let same : made ≡ given = cc in
        ap (λ (p : Bool × S). rest_taken next p.0 (line + 1) p.1 more) (sym same)
        ∙ (ap (λ opens. rest_taken next (in_section || opens) (line + 1) (fold next state items) more) (opens_section-is_header in_section (line + 1) part items read)
        ∙ all_taken-front next state items (all_of (readings_from (in_section || opens_section part) (line + 1) more)))
    by (Err fault) read e = absurd cc

-- a part that was refused
pub rest_taken-refused : {S : Type 0} (next : S → LineOf → S) (in_section : Bool) (line : ℕ) (state : S) (part : List ℕ) (more : List (List ℕ)) (fault : LineFault)
    → part_taken next in_section state (at_line (line + 1) (part_item in_section (line + 1) part)) ≡ Err fault
    → rest_taken next in_section line state (part ∷ more) ≡ Err fault
rest_taken-refused {S} next in_section line state part more fault e = by (reading in_section (line + 1) part) e
  where
    by : (read : Result (List LineOf) LineFault) → part_taken next in_section state read ≡ Err fault
        → all_taken next state (read >>= λ xs. with_front xs (all_of (readings_from (in_section || opens_section part) (line + 1) more))) ≡ Err fault
    by (Ok items) e = absurd cc
    by (Err found) e =
        let same : found ≡ fault = cc in
        ap (λ f. let refused : Result S LineFault = Err f in refused) same

-- a text with a refused line
pub all_taken-refused : {S : Type 0} (next : S → LineOf → S) (state : S) (read : Result (List LineOf) LineFault) (fault : LineFault) → all_taken next state read ≡ Err fault → read ≡ Err fault
all_taken-refused next state (Ok lines) fault e = absurd cc
all_taken-refused next state (Err found) fault e =
    let same : found ≡ fault = cc in
    ap (λ f. let refused : Result (List LineOf) LineFault = Err f in refused) same

-- an empty part has no item
pub part_taken-empty : {S : Type 0} (next : S → LineOf → S) (in_section : Bool) (line : ℕ) (state : S) (part : List ℕ) → length part ≡ 0 → part_taken next in_section state (at_line line (part_item in_section line part)) ≡ Ok (in_section, state)
part_taken-empty next true line state [] e = refl
part_taken-empty next false line state [] e = refl
part_taken-empty next in_section line state (b ∷ part) e = absurd (omega arith)

-- the value after the remaining lines up to the first faulty one
abbrev pub front_taken : {S : Type 0} → (S → LineOf → S) → Bool → ℕ → S → List (List ℕ) → S
front_taken next in_section line state parts = fold next state (before_fault (readings_from in_section line parts))

-- the lines of a text up to the first faulty one
pub front_taken-text : {S : Type 0} (next : S → LineOf → S) (state : S) (text : List ℕ) → front_taken next false 0 state (parts_of (without_mark text)) ≡ fold next state (items_before_fault text)
unfolding items_before_fault
front_taken-text next state text =
    ap (λ readings. fold next state (before_fault readings)) (sym (each_after-reading_of [] (parts_of (without_mark text))))

-- a part that was read
pub front_taken-turn : {S : Type 0} (next : S → LineOf → S) (in_section begun : Bool) (line : ℕ) (state reached : S) (part : List ℕ) (more : List (List ℕ))
    → part_taken next in_section state (at_line (line + 1) (part_item in_section (line + 1) part)) ≡ Ok (begun, reached)
    → front_taken next begun (line + 1) reached more ≡ front_taken next in_section line state (part ∷ more)
front_taken-turn {S} next in_section begun line state reached part more e = by (reading in_section (line + 1) part) refl e
  where
    by : (read : Result (List LineOf) LineFault) → reading in_section (line + 1) part ≡ read → part_taken next in_section state read ≡ Ok (begun, reached)
        → front_taken next begun (line + 1) reached more ≡ fold next state (before_fault (read ∷ readings_from (in_section || opens_section part) (line + 1) more))
    by (Ok items) read e =
        let made : Bool × S = (in_section || list_any is_header items, fold next state items) in
        let given : Bool × S = (begun, reached) in
        let same : made ≡ given = cc in
        ap (λ (p : Bool × S). front_taken next p.0 (line + 1) p.1 more) (sym same)
        ∙ (ap (λ opens. front_taken next (in_section || opens) (line + 1) (fold next state items) more) (opens_section-is_header in_section (line + 1) part items read)
        ∙ sym (fold-append next state items (before_fault (readings_from (in_section || opens_section part) (line + 1) more))))
    by (Err fault) read e = absurd cc

-- a part that was refused
pub front_taken-refused : {S : Type 0} (next : S → LineOf → S) (in_section : Bool) (line : ℕ) (state : S) (part : List ℕ) (more : List (List ℕ)) (fault : LineFault)
    → part_taken next in_section state (at_line (line + 1) (part_item in_section (line + 1) part)) ≡ Err fault
    → front_taken next in_section line state (part ∷ more) ≡ state
front_taken-refused {S} next in_section line state part more fault e = by (reading in_section (line + 1) part) e
  where
    by : (read : Result (List LineOf) LineFault) → part_taken next in_section state read ≡ Err fault
        → fold next state (before_fault (read ∷ readings_from (in_section || opens_section part) (line + 1) more)) ≡ state
    by (Ok items) e = absurd cc
    by (Err found) e = refl

-- if a part was refused the value is the one after the lines before it
pub AtFault-front_taken : {S : Type 0} (X Y : Type 0) (next : S → LineOf → S) (in_section : Bool) (line : ℕ) (old new expected : S) (part : List ℕ) (more : List (List ℕ)) (fault : ConfFault)
    → Refuses (line_fault fault) (part_taken next in_section old (at_line (line + 1) (part_item in_section (line + 1) part)))
    → AtFault {X = X} (new ≡ old) (Err fault)
    → front_taken next in_section line old (part ∷ more) ≡ expected
    → AtFault {X = Y} (new ≡ expected) (Err fault)
AtFault-front_taken X Y next in_section line old new expected part more (At number kind) refused kept front =
    kept ∙ (sym (front_taken-refused next in_section line old part more (record { line = number; kind = kind }) refused) ∙ front)
AtFault-front_taken X Y next in_section line old new expected part more NoMemory refused kept front = tt

-- lines that are kept one after another come after those kept before
kept_all : (before lines : List LineOf) → fold (λ (items : List LineOf) line. items ++ line ∷ []) before lines ≡ before ++ lines
kept_all before [] = sym (append-nil before)
kept_all before (line ∷ lines) = kept_all (before ++ line ∷ []) lines ∙ append_assoc before (line ∷ []) lines

-- a text whose lines are all kept
pub all_taken-kept : (read : Result (List LineOf) LineFault) (before kept : List LineOf) → before ≡ [] → all_taken (λ (items : List LineOf) line. items ++ line ∷ []) before read ≡ Ok kept → read ≡ Ok kept
all_taken-kept (Ok lines) before kept none e =
    let same : fold (λ (items : List LineOf) line. items ++ line ∷ []) before lines ≡ kept = cc in
    let all : lines ≡ kept = ap (λ (first : List LineOf). first ++ lines) (sym none) ∙ (sym (kept_all before lines) ∙ same) in
    ap (λ (all : List LineOf). let done : Result (List LineOf) LineFault = Ok all in done) all
all_taken-kept (Err fault) before kept none e = absurd cc
