use Rattle.std.proofs.Common.{◌≡◌, ℕ, List, ◌&&◌, ◌||◌, ◌++◌, sym, ap, ◌∙◌, subst}
use Rattle.dp_conf.specs.Words.{same_text}
use Rattle.dp_pieces.specs.Bytes.{either}
use Rattle.dp_pieces.specs.Sets.{set_by}
use Rattle.dp_pieces.specs.Tables.{Table, name_set, own_set}
use Rattle.dp_pieces.proofs.NameTableLemmas.{more-held}
use Rattle.dp_pieces.proofs.name_table.NameTable.hold.Goals as goal

pub returns-clause-bytes : goal.returns-clause-bytes
returns-clause-bytes c =
    subst (λ (t : Table). (other : List ℕ) (b : ℕ) → name_set c.insert.new.self.entries c.self.inside.shared other b
    ≡ (name_set t.own t.shared other b || (same_text other c.args.name.now && set_by c.args.set.now b))) c.self.view_is
    (more-held c.self.inside.own.entries c.insert.new.self.entries c.self.inside.shared c.own_with-wider.result c.args.set.now c.extend_from_slice.new.self c.args.name.now
    c.in_ok-insert.ensures.entries
    (c.in_ok-extend_from_slice.ensures.items ∙ ap (λ items. items ++ c.args.name.now) c.new-key.ensures.items)
    (λ b. c.own_with-wider.ensures b ∙ ap (λ (t : Table). either (own_set t.own c.args.name.now) (set_by c.args.set.now) b) (sym c.self.view_is)))
