use Rattle.std.proofs.Common.{◌≡◌, ◌++◌, drop, map}
use Rattle.dp_notices.specs.PlanFiles.{reading_notice}
use Rattle.dp_notices.proofs.plan_files.push_remarks.Given as goal

abbrev pub invariant-loop-remark : goal.invariant-loop-remark
invariant-loop-remark l = l.notices.items ++ map reading_notice (drop l.remark-index l.remarks) ≡ l.fn.notices.items ++ map reading_notice l.remarks
