use Rattle.std.proofs.Common.{◌≡◌, ◌++◌, drop}
use Rattle.std.specs.List.{flat_map}
use Rattle.dp_notices.specs.Loading.{notice_at_source}
use Rattle.dp_notices.proofs.loading.push_notices.Given as goal

abbrev pub invariant-loop-notice : goal.invariant-loop-notice
invariant-loop-notice l =
    l.notices.items ++ flat_map (notice_at_source l.lines) (drop l.notice-index l.numbered)
    ≡ l.fn.notices.items ++ flat_map (notice_at_source l.lines) l.numbered
