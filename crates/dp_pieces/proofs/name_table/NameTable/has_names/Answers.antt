use Rattle.std.proofs.Common.{refl, subst}
use Rattle.dp_pieces.specs.Bytes.{IsPart}
use Rattle.dp_pieces.specs.Sets.{set_by}
use Rattle.dp_pieces.specs.Tables.{Table}
use Rattle.dp_pieces.proofs.NameTableLemmas.{name-part}
use Rattle.dp_pieces.proofs.name_table.NameTable.has_names.Goals as goal

pub returns-then-is_part : goal.returns-then-is_part
returns-then-is_part c = λ yes.
    name-part c.args.self.now.own c.args.self.now.shared (set_by c.args.self.now.all)
    (subst (λ (t : Table). IsPart (set_by t.shared) (set_by t.all)) c.self.view_is (c.if-is_part.ensures.part refl)) (c.has_own.ensures yes)
