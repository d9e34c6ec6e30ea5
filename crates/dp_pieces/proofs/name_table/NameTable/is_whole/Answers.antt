use Rattle.std.proofs.Common.{refl}
use Rattle.dp_pieces.proofs.NameTableLemmas.{whole}
use Rattle.dp_pieces.proofs.name_table.NameTable.is_whole.Goals as goal

pub returns-then-has_names : goal.returns-then-has_names
returns-then-has_names c = λ yes.
    whole c.args.self.now (c.if-has_names.ensures refl) (c.has_numbers.ensures.caller yes) (c.has_numbers.ensures.digits yes)
