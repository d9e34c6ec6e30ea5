-- The result of the lines of a text, one after another, is that of the text.
use Rattle.std.proofs.Common.{◌≡◌, ℕ, List, [], ◌∷◌, fold, Result, Ok, Err, refl, ap, ◌∙◌, sym}
use Rattle.dp_conf.specs.Answers.{Refuses, ◌>>=◌}
use Rattle.dp_conf.specs.Lines.{LineOf, LineFault, lines_of, line_fault}
use Rattle.dp_conf.specs.Taking.{all_taken}
use Rattle.dp_conf.specs.declared.fault.ConfFault.{ConfFault}
use Rattle.dp_conf.specs.declared.fault.ConfFault.TheVariants.{At, NoMemory as conf_no_memory}
use Rattle.dp_conf.proofs.TakingLemmas.{all_taken-refused}
use Rattle.dp_queue.specs.Faults.{fault_of_conf, reason_of, text_fault}
use Rattle.dp_queue.specs.File.{FileOf, nothing_read, after_line, after_lines, queues_in}
use Rattle.dp_queue.specs.steps.Loading.{after_one, file_of}
use Rattle.dp_queue.specs.Queues.{QueuesOf}
use Rattle.dp_queue.specs.Rest.{IsAtRest}
use Rattle.dp_queue.specs.declared.fault.QueueFault.{QueueFault}
use Rattle.dp_queue.proofs.RestLemmas.{made-at_rest}

abbrev State : Type 0
State = Result FileOf QueueFault

-- a kept fault stays
after_each : (state : State) (lines : List LineOf) → fold after_one state lines ≡ (state >>= λ file. after_lines file lines)
after_each (Ok file) [] = refl
after_each (Err fault) [] = refl
after_each (Ok file) (line ∷ lines) = after_each (after_line file line) lines
after_each (Err fault) (line ∷ lines) = after_each (Err fault) lines

-- if all lines were taken the text has their result
pub file_of-taken : (text : List ℕ) (before state : State) → before ≡ Ok nothing_read → all_taken after_one before (lines_of text) ≡ Ok state → file_of text ≡ state
unfolding file_of
file_of-taken text before state new e = by (lines_of text) (sym (ap (λ (s : State). all_taken after_one s (lines_of text)) new) ∙ e)
  where
    by : (read : Result (List LineOf) LineFault) → all_taken after_one (Ok nothing_read) read ≡ Ok state → (text_fault read >>= λ lines. after_lines nothing_read lines) ≡ state
    by (Ok lines) e =
        let same : fold after_one (Ok nothing_read) lines ≡ state = cc in
        sym (after_each (Ok nothing_read) lines) ∙ same
    by (Err fault) e = absurd cc

-- if a line of the text is refused, so is the text
pub Refuses-text : (text : List ℕ) (before : State) (conf : ConfFault) → Refuses (line_fault conf) (all_taken after_one before (lines_of text)) → Refuses (reason_of (fault_of_conf conf)) (file_of text)
unfolding file_of
Refuses-text text before (At line kind) refused =
    ap (λ read. text_fault read >>= λ lines. after_lines nothing_read lines)
    (all_taken-refused after_one before (lines_of text) (record { line = line; kind = kind }) refused)
Refuses-text text before conf_no_memory refused = tt

-- the result of a text is at rest
pub file_of-at_rest : (text : List ℕ) (file : FileOf) → file_of text ≡ Ok file → IsAtRest file.made
unfolding file_of
file_of-at_rest text file e = by (lines_of text) e
  where
    by : (read : Result (List LineOf) LineFault) → (text_fault read >>= λ lines. after_lines nothing_read lines) ≡ Ok file → IsAtRest file.made
    by (Ok lines) e = made-at_rest lines file e
    by (Err fault) e = absurd cc

-- the queues in a result
abbrev pub made_of : State → Result QueuesOf QueueFault
made_of state = state >>= λ file. Ok file.made

-- the queues of a text are those in its result
pub queues_in-file_of : (text : List ℕ) → made_of (file_of text) ≡ queues_in text
unfolding file_of queues_in
queues_in-file_of text = by (lines_of text)
  where
    by : (read : Result (List LineOf) LineFault) → made_of (text_fault read >>= λ lines. after_lines nothing_read lines) ≡ (text_fault read >>= λ lines. after_lines nothing_read lines >>= λ file. Ok file.made)
    by (Ok lines) = refl
    by (Err fault) = refl
