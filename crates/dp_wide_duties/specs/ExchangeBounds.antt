-- Each row of the wide table stays inside if the duties that it has in an exchange are met.
use Rattle.std.specs.Prelude.{◌≡◌, Bool, true, false, List, [], ◌∷◌, ◌++◌, Some, if◌then◌else◌}
use Rattle.dp_conf.specs.Words.{same_word}
use Rattle.dp_app.specs.Rows.{Row}
use Rattle.dp_wide.specs.Choices.{exec_if_title, exec_if_within}
use Rattle.dp_wide.specs.Wide.{inner_table, wide_rows, wide_table}
use Rattle.dp_reach.specs.Bounds.{AreBounded, Duties, Duty, IsBounded, MeetsAll}
use Rattle.dp_reach.specs.Holding.{Claim}
use Rattle.dp_reach.proofs.StandardRows.{row-bounded}
use Rattle.dp_wide_reach.specs.Choices.{anything_owed, exec_if_duties}
use Rattle.dp_wide_reach.specs.Wide.{inner_duties, wide_duties}
use Rattle.dp_wide_reach.proofs.ExecIfRows.{exec_if-bounded}
use Rattle.dp_wide_reach.proofs.WideRows.{wide-bounded}
use Rattle.dp_wide_duties.specs.Exchange.{besides, exchange_duties, met_duties, plain_duties}

-- what meets all of a list meets the first of them
first_met : (claim : Claim) (duties more : List Duty) → MeetsAll claim (duties ++ more) → MeetsAll claim duties
first_met claim [] more met = tt
first_met claim (duty ∷ duties) more met = (met.0, first_met claim duties more met.1)

-- a row that stays inside if its duties are met does so too if it has more of them
more_bounded : (duties more : Duties) (row : Row) → IsBounded duties row → IsBounded (λ area pieces. duties area pieces ++ more area pieces) row
more_bounded duties more row bounded claim area pieces arguments cell good inside covers fits met =
    bounded claim area pieces arguments cell good inside covers fits (first_met claim (duties area pieces) (more area pieces) met)

-- no claim meets these duties
never_met : (row : Row) → IsBounded anything_owed row
never_met row claim area pieces arguments cell good inside covers fits met = absurd met.0

-- the rows of each name but `ExecIf`
plain_bounded : AreBounded plain_duties inner_table.rows
unfolding wide_duties wide_table
plain_bounded name row is = by (same_word name exec_if_title) (wide-bounded name row)
  where
    by : (b : Bool) → ((if b then Some (exec_if_within 8 inner_table.rows) else inner_table.rows name) ≡ Some row
        → IsBounded (if b then exec_if_duties 8 inner_duties else inner_duties name) row) → IsBounded (if b then anything_owed else met_duties name) row
    by true wide = never_met row
    by false wide = more_bounded (inner_duties name) (besides name) row (wide is)

pub exchange_bounded : AreBounded exchange_duties wide_rows
unfolding exchange_duties wide_table
exchange_bounded = row-bounded exec_if_title _ _ plain_duties inner_table.rows (exec_if-bounded 8 plain_duties inner_table.rows plain_bounded) plain_bounded
