use Rattle.std.proofs.Common.{Ok, Result, sym, subst, ap, ◌∙◌}
use Rattle.std.proofs.lemmas.Result.{err_from_is_err_and}
use Rattle.dp_conf.proofs.AnswersLemmas.{Refuses-passed_on}
use Rattle.dp_queue.specs.Faults.{reason_of}
use Rattle.dp_queue.specs.File.{queues_in}
use Rattle.dp_queue.specs.steps.Loading.{file_of}
use Rattle.dp_queue.specs.Queues.{QueuesOf}
use Rattle.dp_queue.specs.Rest.{IsAtRest}
use Rattle.dp_queue.specs.declared.fault.QueueFault.{QueueFault}
use Rattle.dp_queue.proofs.LoadingLemmas.{made_of, queues_in-file_of, file_of-at_rest}
use Rattle.dp_queue.proofs.queues.Queues.load.Goals as goal

pub into_queues-requires : goal.into_queues-requires
into_queues-requires c = file_of-at_rest c.args.text.now c.in_ok-file.file c.in_ok-file.ensures

pub returns-clause-loaded : goal.returns-clause-loaded
returns-clause-loaded c =
    sym (queues_in-file_of c.args.text.now) ∙ (ap made_of c.in_ok-file.ensures ∙ ap (λ q. let made : Result QueuesOf QueueFault = Ok q in made) (sym c.into_queues.ensures))

pub returns-clause-rest : goal.returns-clause-rest
returns-clause-rest c =
    subst IsAtRest (sym c.into_queues.ensures) (file_of-at_rest c.args.text.now c.in_ok-file.file c.in_ok-file.ensures)

pub returns-in_err-file-clause-loaded : goal.returns-in_err-file-clause-loaded
returns-in_err-file-clause-loaded c =
    let text = c.args.text.now in
    let p = err_from_is_err_and c.from_residual.result c.from_residual.ensures.1 in
    rw (p.1, p.2) (Refuses-passed_on (reason_of c.in_err-file.field-0.0) (file_of text) (queues_in text)
    (λ fault e. sym (queues_in-file_of text) ∙ ap made_of e) c.in_err-file.ensures)
