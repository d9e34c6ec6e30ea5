-- The result of the lines of a file, one after another, if those with a fault are skipped.
use Rattle.std.proofs.Common.{◌≡◌, ℕ, true, List, [], ◌∷◌, ◌++◌, fold, Result, Ok, Err, refl, ap, subst, sym, ◌∙◌}
use Rattle.std.specs.Result.{is_ok}
use Rattle.std.proofs.lemmas.List.{append-nil, append_assoc}
use Rattle.dp_conf.specs.Answers.{Refuses, ◌>>=◌}
use Rattle.dp_conf.specs.Lines.{LineOf, LineFault, lines_of, line_fault}
use Rattle.dp_conf.specs.Taking.{all_taken}
use Rattle.dp_conf.specs.declared.fault.ConfFault.{ConfFault}
use Rattle.dp_conf.specs.declared.fault.ConfFault.TheVariants.{At, NoMemory as conf_no_memory}
use Rattle.dp_conf.proofs.TakingLemmas.{all_taken-refused}
use Rattle.dp_queue.specs.AllFaults.{left_by, fault_in, line_in, faults_after, faultless_after, left_after, faults_in}
use Rattle.dp_queue.specs.Faults.{fault_of_conf, reason_of, text_fault}
use Rattle.dp_queue.specs.File.{FileOf, nothing_read, after_line, after_lines, queues_in}
use Rattle.dp_queue.specs.Queues.{QueuesOf}
use Rattle.dp_queue.specs.steps.Sifting.{SiftedQueues, nothing_sifted, sifted_by, after_any}
use Rattle.dp_queue.specs.declared.fault.QueueFault.{QueueFault}

-- ---- lines

-- the result of lines without a fault, with the faults of the others
abbrev sifted_of : FileOf → List QueueFault → SiftedQueues
sifted_of file faults = record { file = file; faults = faults }

-- the faults of lines are those that are found one after another
sifted-faults : (file : FileOf) (found : List QueueFault) (lines : List LineOf) → (fold after_any (sifted_of file found) lines).faults ≡ found ++ faults_after file lines
sifted-faults file found [] = sym (append-nil found)
sifted-faults file found (line ∷ lines) =
    by (after_line file line) (λ next. sifted-faults next found lines) (λ fault. sifted-faults file (found ++ fault ∷ []) lines)
  where
    by : (read : Result FileOf QueueFault)
        → ((next : FileOf) → (fold after_any (sifted_of next found) lines).faults ≡ found ++ faults_after next lines)
        → ((fault : QueueFault) → (fold after_any (sifted_of file (found ++ fault ∷ [])) lines).faults ≡ (found ++ fault ∷ []) ++ faults_after file lines)
        → (fold after_any (sifted_by (sifted_of file found) read) lines).faults ≡ found ++ (fault_in read ++ faults_after (left_by file read) lines)
    by (Ok next) taken passed = taken next
    by (Err fault) taken passed = passed fault ∙ append_assoc found (fault ∷ []) (faults_after file lines)

-- if all lines were taken the faults of the text are those that were found
pub faults_in-taken : (text : List ℕ) (before state : SiftedQueues) → before ≡ nothing_sifted → all_taken after_any before (lines_of text) ≡ Ok state → faults_in text ≡ Ok state.faults
unfolding faults_in
faults_in-taken text before state new e = by (lines_of text) (sym (ap (λ (s : SiftedQueues). all_taken after_any s (lines_of text)) new) ∙ e)
  where
    by : (read : Result (List LineOf) LineFault) → all_taken after_any nothing_sifted read ≡ Ok state → (text_fault read >>= λ lines. Ok (faults_after nothing_read lines)) ≡ Ok state.faults
    by (Ok lines) e =
        let same : fold after_any nothing_sifted lines ≡ state = cc in
        ap (λ (faults : List QueueFault). let done : Result (List QueueFault) QueueFault = Ok faults in done)
        (sym (sifted-faults nothing_read [] lines) ∙ ap (λ (s : SiftedQueues). s.faults) same)
    by (Err fault) e = absurd cc

-- if a line of the text is refused, so is the text
pub Refuses-faults : (text : List ℕ) (before : SiftedQueues) (conf : ConfFault) → Refuses (line_fault conf) (all_taken after_any before (lines_of text)) → Refuses (reason_of (fault_of_conf conf)) (faults_in text)
unfolding faults_in
Refuses-faults text before (At line kind) refused =
    ap (λ read. text_fault read >>= λ lines. Ok (faults_after nothing_read lines))
    (all_taken-refused after_any before (lines_of text) (record { line = line; kind = kind }) refused)
Refuses-faults text before conf_no_memory refused = tt

-- ---- faults and loading

-- the result of some lines compared with all their faults: it has no fault if there are none, and else the first
abbrev IsFirst : {X : Type 0} → Result X QueueFault → List QueueFault → Type 0
IsFirst read [] = is_ok read ≡ true
IsFirst read (fault ∷ faults) = read ≡ Err fault

-- a next step passes the fault on
IsFirst-passed_on : {X Y : Type 0} (next : X → Y) (read : Result X QueueFault) (faults : List QueueFault) → IsFirst read faults → IsFirst (read >>= λ x. let done : Result Y QueueFault = Ok (next x) in done) faults
IsFirst-passed_on next (Ok x) [] is = refl
IsFirst-passed_on next (Err fault) [] is = absurd cc
IsFirst-passed_on {X} {Y} next read (fault ∷ faults) is = ap (λ (r : Result X QueueFault). r >>= λ x. let done : Result Y QueueFault = Ok (next x) in done) is

IsFirst-file : (file : FileOf) (lines : List LineOf) → IsFirst (after_lines file lines) (faults_after file lines)
IsFirst-file file [] = refl
IsFirst-file file (line ∷ lines) = by (after_line file line) (λ next. IsFirst-file next lines)
  where
    by : (read : Result FileOf QueueFault)
        → ((next : FileOf) → IsFirst (after_lines next lines) (faults_after next lines))
        → IsFirst (read >>= λ next. after_lines next lines) (fault_in read ++ faults_after (left_by file read) lines)
    by (Ok next) later = later next
    by (Err fault) later = refl

-- the queues in a result
abbrev made_of : Result FileOf QueueFault → Result QueuesOf QueueFault
made_of read = read >>= λ file. Ok file.made

-- the queues of lines that were read
abbrev of_lines : Result (List LineOf) LineFault → Result QueuesOf QueueFault
of_lines read = text_fault read >>= λ lines. made_of (after_lines nothing_read lines)

IsFirst-lines : (lines : List LineOf) (faults : List QueueFault) → faults_after nothing_read lines ≡ faults → IsFirst (made_of (after_lines nothing_read lines)) faults
IsFirst-lines lines faults same =
    subst (IsFirst (made_of (after_lines nothing_read lines))) same
    (IsFirst-passed_on (λ (file : FileOf). file.made) (after_lines nothing_read lines) (faults_after nothing_read lines) (IsFirst-file nothing_read lines))

-- a file loads if it has no fault, and is refused for its first fault otherwise
IsFirst-text : (text : List ℕ) (faults : List QueueFault) → faults_in text ≡ Ok faults → IsFirst (queues_in text) faults
unfolding faults_in queues_in
IsFirst-text text faults e = by (lines_of text) e
  where
    by : (read : Result (List LineOf) LineFault) → (text_fault read >>= λ lines. Ok (faults_after nothing_read lines)) ≡ Ok faults → IsFirst (of_lines read) faults
    by (Ok lines) e =
        let same : faults_after nothing_read lines ≡ faults = cc in
        IsFirst-lines lines faults same
    by (Err fault) e = absurd cc

pub faults-none : (text : List ℕ) → faults_in text ≡ Ok [] → is_ok (queues_in text) ≡ true
faults-none text e = IsFirst-text text [] e

pub faults-first : (text : List ℕ) (fault : QueueFault) (faults : List QueueFault) → faults_in text ≡ Ok (fault ∷ faults) → queues_in text ≡ Err fault
faults-first text fault faults e = IsFirst-text text (fault ∷ faults) e

-- a fault of the text itself is that of both
pub faults-text : (text : List ℕ) (fault : QueueFault) → faults_in text ≡ Err fault → queues_in text ≡ Err fault
unfolding faults_in queues_in
faults-text text fault e = by (lines_of text) e
  where
    by : (read : Result (List LineOf) LineFault) → (text_fault read >>= λ lines. Ok (faults_after nothing_read lines)) ≡ Err fault → of_lines read ≡ Err fault
    by (Ok lines) e = absurd cc
    by (Err found) e = ap (λ (r : Result (List QueueFault) QueueFault). r >>= λ faults. let done : Result QueuesOf QueueFault = Ok nothing_read.made in done) e

-- ---- lines without a fault

-- read alone they give the same as among the others
after-faultless : (file : FileOf) (lines : List LineOf) → after_lines file (faultless_after file lines) ≡ Ok (left_after file lines)
after-faultless file [] = refl
after-faultless file (line ∷ lines) = by (after_line file line) refl (λ next. after-faultless next lines)
  where
    by : (read : Result FileOf QueueFault) → after_line file line ≡ read
        → ((next : FileOf) → after_lines next (faultless_after next lines) ≡ Ok (left_after next lines))
        → after_lines file (line_in line read ++ faultless_after (left_by file read) lines) ≡ Ok (left_after (left_by file read) lines)
    by (Ok next) is later =
        ap (λ (r : Result FileOf QueueFault). r >>= λ file. after_lines file (faultless_after next lines)) is ∙ later next
    by (Err fault) is later = later file

pub after-faultless_alone : (lines : List LineOf) → after_lines nothing_read (faultless_after nothing_read lines) ≡ Ok (left_after nothing_read lines)
after-faultless_alone lines = after-faultless nothing_read lines
