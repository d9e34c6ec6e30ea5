use Rattle.dp_files.proofs.HeaderLemmas.{made_header-says}
use Rattle.dp_files.proofs.laws.plain_headers_say_names.Goals as goal

pub returns : goal.returns
returns c = made_header-says
