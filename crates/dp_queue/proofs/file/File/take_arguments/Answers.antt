use Rattle.std.proofs.Common.{◌≡◌, ℕ, Result, Ok, Err, ap, ◌∙◌, sym, map}
use Rattle.dp_conf.specs.Answers.{◌>>=◌}
use Rattle.dp_conf.specs.declared.first_fault.TakeFault.{TakeFault}
use Rattle.dp_queue.specs.Faults.{at_line}
use Rattle.dp_queue.specs.File.{FileOf, argument_at, with_named, with_made, made_in}
use Rattle.dp_queue.specs.steps.Loading.{line_read}
use Rattle.dp_queue.specs.declared.fault.QueueKind.{QueueKind}
use Rattle.dp_queue.proofs.file.File.take_arguments.Goals as goal

-- a line without a fault
line_read-ok : (line : ℕ) (r : Result ℕ QueueKind) (n : ℕ) → Ok n ≡ line_read line r → r ≡ Ok n
line_read-ok line (Ok m) n e = ap (λ (s : Result ℕ (TakeFault QueueKind)). value s m) (sym e)
  where
    value : Result ℕ (TakeFault QueueKind) → ℕ → Result ℕ QueueKind
    value (Ok k) other = Ok k
    value (Err fault) other = Ok other
line_read-ok line (Err kind) n e = absurd (cc)

pub returns-clause-taken : goal.returns-clause-taken
returns-clause-taken c =
    let file = c.args.self.now in
    let arguments = map (λ argument. argument.now) c.args.arguments.now in
    let read : Result ℕ QueueKind → Result FileOf QueueKind =
    λ r. made_in file (r >>= λ penalty. Ok (with_named file.made c.args.number (argument_at arguments 0) penalty)) in
    ap (λ r. at_line c.args.line (read r)) (sym c.penalty_of.ensures ∙ line_read-ok c.args.line c.penalty_of.result c.in_ok-penalty.penalty c.in_ok-penalty.ensures)
    ∙ ap (λ name. Ok (with_made file (with_named file.made c.args.number name c.in_ok-penalty.penalty))) (sym c.argument_at.ensures)
    ∙ ap (λ (f : FileOf). Ok f) c.in_ok-add_named.ensures
