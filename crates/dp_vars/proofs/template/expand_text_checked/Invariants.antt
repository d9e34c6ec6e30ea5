use Rattle.std.proofs.Common.{◌≡◌, length}
use Rattle.dp_conf.specs.GroupsRead.{levels, reading_of}
use Rattle.dp_vars.specs.steps.Expanding.{kinds_of, AreWritten}
use Rattle.dp_vars.specs.Sights.{sight_of}
use Rattle.dp_vars.specs.Unknown.{unknown_of}
use Rattle.dp_vars.specs.Values.{expansion_with}
use Rattle.dp_vars.proofs.ExpandingLemmas.{come}
use Rattle.dp_vars.proofs.UnknownLemmas.{first}
use Rattle.dp_vars.proofs.template.expand_text_checked.Given as goal

abbrev pub invariant-loop-mark : goal.invariant-loop-mark
invariant-loop-mark g l =
    AreWritten l.expanding
    × (come g.F.Functions.table (sight_of g.C.Counts.count l.scope) l.expanding.waiting l.expanding.bytes (levels l.rest (kinds_of l.expanding.waiting) 0)
    ≡ expansion_with g.F.Functions.table (sight_of g.C.Counts.count l.scope) l.text)
    × (first g.F.Functions.table (sight_of g.C.Counts.count l.scope) l.expanding.waiting l.expanding.bytes l.expanding.unknown
    (levels l.rest (kinds_of l.expanding.waiting) 0)
    ≡ unknown_of g.F.Functions.table (sight_of g.C.Counts.count l.scope) (reading_of l.text))

abbrev pub decreases-loop-mark : goal.decreases-loop-mark
decreases-loop-mark g l = length l.rest
