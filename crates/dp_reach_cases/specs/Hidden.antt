-- The applications of this program's table, of which one may do anything.
use Rattle.std.specs.Prelude.{ℕ, Bool, true, false, List, [], ◌∷◌, codes, if◌then◌else◌}
use Rattle.dp_conf.specs.Words.{same_word}
use Rattle.dp_app.specs.Rows.{Row}
use Rattle.dp_table.specs.Standard.{standard_rows}
use Rattle.dp_reach.specs.Bounds.{Anything, AreBounded, Duties, IsBounded}
use Rattle.dp_reach.specs.Standard.{standard_duties, with_duties}
use Rattle.dp_reach.proofs.StandardRows.{standard-bounded}

-- the duties of an application of which nothing is known
abbrev pub anything_owed : Duties
anything_owed area pieces = Anything ∷ []

-- nothing is known of `Playback`
abbrev pub hidden_duties : List ℕ → Duties
hidden_duties = with_duties (codes "Playback") anything_owed standard_duties

-- no claim meets these duties, so each row stays inside if they are met
never_met : (row : Row) → IsBounded anything_owed row
never_met row claim area pieces arguments cell good inside covers fits met = absurd met.0

pub hidden_bounded : AreBounded hidden_duties standard_rows
hidden_bounded name row is = by (same_word name (codes "Playback"))
  where
    by : (b : Bool) → IsBounded (if b then anything_owed else standard_duties name) row
    by true = never_met row
    by false = standard-bounded name row is
