use Rattle.std.proofs.Common.{ap, ◌∙◌}
use Rattle.dp_pieces.specs.Sets.{set_by}
use Rattle.dp_pieces.proofs.BlankLemmas.{none-has}
use Rattle.dp_pieces.proofs.NameTableLemmas.{no-entries, none-named}
use Rattle.dp_pieces.proofs.name_table.NameTable.new.Goals as goal

pub returns-clause-bytes : goal.returns-clause-bytes
returns-clause-bytes c = none-named c.new.result.entries c.none.result (no-entries c.new.result.entries c.new.ensures.len) c.none.ensures

pub returns-clause-caller : goal.returns-clause-caller
returns-clause-caller c = λ b. ap (λ has. set_by has b) c.none-2.ensures ∙ none-has 4 b

pub returns-clause-all : goal.returns-clause-all
returns-clause-all c = λ b. ap (λ has. set_by has b) c.none-3.ensures ∙ none-has 4 b
