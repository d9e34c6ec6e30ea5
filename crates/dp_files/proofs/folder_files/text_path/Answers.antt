use Rattle.std.proofs.lemmas.Str.{is_utf8-from_IsUtf8}
use Rattle.dp_files.proofs.FolderFilesLemmas.{is_utf8-from_no_text}
use Rattle.dp_files.proofs.folder_files.text_path.Goals as goal

pub returns-in-Ok : goal.returns-in-Ok
returns-in-Ok c = (is_utf8-from_IsUtf8 c.args.path.now c.in-Ok.ensures.cases.1, c.in-Ok.ensures.cases.0)

pub returns-in-Err : goal.returns-in-Err
returns-in-Err c = is_utf8-from_no_text c.args.path.now c.in-Err.ensures.cases.0
