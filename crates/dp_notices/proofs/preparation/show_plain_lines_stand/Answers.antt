use Rattle.dp_notices.proofs.PlainLemmas.{macros_stand, names_stand, no_clock, no_name_notices, times_stand}
use Rattle.dp_notices.proofs.preparation.show_plain_lines_stand.Goals as goal

pub returns-clause-names : goal.returns-clause-names
returns-clause-names c = names_stand

pub returns-clause-unnoticed : goal.returns-clause-unnoticed
returns-clause-unnoticed c = no_name_notices

pub returns-clause-times : goal.returns-clause-times
returns-clause-times c = times_stand

pub returns-clause-clock : goal.returns-clause-clock
returns-clause-clock c = no_clock

pub returns-clause-macros : goal.returns-clause-macros
returns-clause-macros c = macros_stand
