use Rattle.dp_pattern.specs.Classes.{kept_members}
use Rattle.dp_pattern.proofs.OrderLemmas.{class_cmp-same}
use Rattle.dp_pattern.proofs.class_members.ClassMembers.compare.Goals as goal

pub returns-then-is_kept_as : goal.returns-then-is_kept_as
returns-then-is_kept_as c =
    class_cmp-same (kept_members c.args.self.now) (kept_members c.args.other.now) (c.is_kept_as.ensures c.if-is_kept_as.true)
