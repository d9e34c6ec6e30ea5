use Rattle.std.proofs.Common.{sym}
use Rattle.dp_pattern.specs.Order.{class_cmp}
use Rattle.dp_pattern.proofs.OrderLemmas.{is_eq-Equal, classes_equal, class_cmp-same}
use Rattle.dp_trie.proofs.build.is_same.Goals as goal

pub returns : goal.returns
returns c =
    rw c.is_eq.ensures (rw c.compare_classes.ensures
    (λ t. classes_equal c.args.left.now c.args.right.now ((is_eq-Equal (class_cmp c.args.left.now c.args.right.now)).0 t), λ e. (is_eq-Equal (class_cmp c.args.left.now c.args.right.now)).1 (sym (class_cmp-same c.args.left.now c.args.right.now e))))
