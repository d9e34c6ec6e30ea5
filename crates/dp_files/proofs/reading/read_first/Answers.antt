use Rattle.std.proofs.Common.{None, ap, ◌∙◌}
use Rattle.dp_files.specs.Reading.{after_file, including, including_first, files_of}
use Rattle.dp_files.proofs.reading.read_first.Goals as goal

-- files are nested in the first as deep as the type says
pub returns-clause-read : goal.returns-clause-read
unfolding including
returns-clause-read g c has agrees =
    c.into_files_read.ensures
    ∙ ap files_of (c.in_ok-read_file.ensures.read has agrees ∙ ap (after_file (including_first has) c.args.name.now None c.args.text.now) c.new-reading.ensures)
