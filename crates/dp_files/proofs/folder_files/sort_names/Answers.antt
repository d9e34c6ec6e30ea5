use Rattle.std.proofs.Common.{rules}
use Rattle.dp_files.proofs.FolderFilesLemmas.{IsSortedBy-names}
use Rattle.dp_files.proofs.folder_files.sort_names.Goals as goal

pub returns-clause-order : goal.returns-clause-order
returns-clause-order c = IsSortedBy-names _ c.sort_unstable_by.ensures.sorted (λ a r q k. search rules)
