use Rattle.std.proofs.lemmas.Result.{err_from_is_err_and}
use Rattle.dp_queue.proofs.LoadingLemmas.{file_of-taken, Refuses-text}
use Rattle.dp_queue.proofs.queues_loading.read_file.Goals as goal

pub returns : goal.returns
returns c = rw (file_of-taken c.args.text.now c.new-loading.result c.take_lines.new.taker c.new-loading.ensures (c.in_ok-take_lines.ensures {u = tt}).taken) c.into_file.ensures

pub returns-in_err-take_lines : goal.returns-in_err-take_lines
returns-in_err-take_lines c =
    let p = err_from_is_err_and c.from_residual.result c.from_residual.ensures.1 in
    rw (p.1, p.2) (Refuses-text c.args.text.now c.new-loading.result c.in_err-take_lines.field-0.0 c.in_err-take_lines.ensures.taken)
