use Rattle.std.specs.Prelude.{[]}
use Rattle.dp_wide_runs.specs.Debugging.{watched_above, watched_after}
use Rattle.dp_wide_runs.specs.Verbose.{above_refusal, above_turn, in_force_after}
use Rattle.dp_wide_runs.proofs.BesideLemmas.{state_past-beside}
use Rattle.dp_wide_runs.proofs.ShowsLemmas.{world_without_shows}
use Rattle.dp_wide_runs.proofs.laws.breaks_change_no_world.Goals as goal

-- a halt adds text alone
pub returns-clause-plain : goal.returns-clause-plain
returns-clause-plain c =
    λ watch at script. state_past-beside (watched_after (λ beside w turn. beside)) (watched_above (λ beside w turn. [])) (λ refusal. []) ((at.0, (watch, tt {0})), at.1) script

pub returns-clause-verbose : goal.returns-clause-verbose
returns-clause-verbose c =
    λ explanation watch in_force at script.
    state_past-beside (watched_after in_force_after) (watched_above (above_turn explanation)) (above_refusal explanation) ((at.0, (watch, in_force)), at.1) script

-- and a value that is shown changes nothing
pub returns-clause-shows : goal.returns-clause-shows
returns-clause-shows c = λ at script. world_without_shows at script
