use Rattle.std.proofs.Common.{ℕ, List, subst}
use Rattle.dp_files.specs.FolderFiles.{IsListing}
use Rattle.dp_files.proofs.folder_files.ask_names.Goals as goal

pub returns : goal.returns
returns g c = (
  c.in_ok-found.found.items,
  c.in_ok-found.ensures,
  subst (λ (found : List (List ℕ)). IsListing c.args.pattern.now found c.in_ok-names.names) c.as_slice.ensures.value c.in_ok-names.ensures,
)
