use Rattle.std.proofs.lemmas.Result.{err_from_is_err_and}
use Rattle.dp_program.proofs.ReadsLemmas.{refused_source}
use Rattle.dp_program.proofs.files.read_source.Goals as goal

pub returns-in_err-bytes-clause-read : goal.returns-in_err-bytes-clause-read
returns-in_err-bytes-clause-read g c =
    let p = err_from_is_err_and c.from_residual.result c.from_residual.ensures.1 in
    rw (p.1, p.2) (refused_source (g.R.ReadTold.remaining c.args.reader.now) (g.R.ReadTold.has_failed c.args.reader.now) (g.R.ReadTold.has_failed c.read_whole.new.reader)
    c.in_err-bytes.field-0.0 c.in_err-bytes.ensures.whole c.in_err-bytes.ensures.told)
