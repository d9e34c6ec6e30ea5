-- The meanings of the names in a dialplan over the wide table.
use Rattle.dp_app.specs.Rows.{Meanings, with_functions}
use Rattle.dp_wide.specs.Functions.{wide_functions}
use Rattle.dp_wide.specs.Wide.{wide_rows}

-- the rows of the wide table, and its functions
abbrev pub wide_meanings : Meanings
wide_meanings = with_functions wide_rows wide_functions
