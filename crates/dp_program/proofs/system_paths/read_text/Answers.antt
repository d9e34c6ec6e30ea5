use Rattle.dp_program.proofs.PathsLemmas.{read_bytes, read_long-fault}
use Rattle.dp_program.proofs.system_paths.read_text.Goals as goal

pub returns-in-Ok : goal.returns-in-Ok
returns-in-Ok g c =
    let source = g.F.ReadFiles.source_at c.args.files.now c.args.path.now in
    c.text_of.ensures source (read_bytes source c.in-Ok.bytes.items c.in-Ok.ensures.read)

pub returns-in-Err-Coded-TooLong-default : goal.returns-in-Err-Coded-TooLong-default
returns-in-Err-Coded-TooLong-default g c =
    let arm = c.in-Err-Coded-TooLong-default in
    read_long-fault (g.F.ReadFiles.source_at c.args.files.now c.args.path.now) arm.field-0 arm.field-0-0 arm.field-0-1 arm.field-0-is arm.field-0-0-is
    arm.ensures.fault arm.ensures.read
