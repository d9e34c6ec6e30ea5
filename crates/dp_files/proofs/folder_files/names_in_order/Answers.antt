use Rattle.std.proofs.Common.{ℕ, List, IsPermutation, subst}
use Rattle.dp_files.proofs.folder_files.names_in_order.Goals as goal

pub returns : goal.returns
returns c = record {
  same =
      rw c.new-list.ensures
      (subst (λ (names : List (List ℕ)). IsPermutation names c.sort_names.new.names.items) c.in_ok-names.ensures c.sort_names.ensures.same);
  order = rw c.new-list.ensures c.sort_names.ensures.order;
}
