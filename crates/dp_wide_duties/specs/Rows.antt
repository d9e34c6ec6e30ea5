-- Rows of the table of duties, and texts in front of a byte. No public clause depends on them.
use Rattle.std.specs.Borrow.{Bor}
use Rattle.std.specs.Global.{Vec}
use Rattle.std.specs.Prelude.{ℕ, List}
use Rattle.dp_pieces.specs.Pieces as spec
use Rattle.dp_pieces.specs.Shown.{shown_all}
use Rattle.dp_pieces.specs.declared.piece.Piece.{Piece}
use Rattle.dp_reach.specs.Bounds.{Duties, goto_if_duties, nothing_owed}
use Rattle.dp_reach.specs.Standard.{standard_duties}
use Rattle.dp_wide_duties.specs.declared.rows.WideRow.{WideRow}
use Rattle.dp_wide_duties.specs.declared.rows.WideRow.TheVariants.{Nothing, Set, MSet, TimeChoice, Gosub, GosubIf, Macro, DeleteTree, Read, Standard, Lacking}
use Rattle.dp_wide_reach.specs.Choices.{anything_owed}
use Rattle.dp_wide_reach.specs.Settings.{delete_tree_duties, mset_duties, read_duties, wide_set_duties}
use Rattle.dp_wide_reach.specs.Subroutines.{counted_gosub_duties, counted_gosub_if_duties, macro_duties}

-- the duties of a row
abbrev pub shown_row : WideRow → Duties
shown_row Nothing = nothing_owed
shown_row Set = wide_set_duties
shown_row MSet = mset_duties
shown_row TimeChoice = goto_if_duties
shown_row Gosub = counted_gosub_duties
shown_row GosubIf = counted_gosub_if_duties
shown_row Macro = macro_duties
shown_row DeleteTree = delete_tree_duties
shown_row Read = read_duties
shown_row (Standard name) = standard_duties name.now
shown_row Lacking = anything_owed

-- a known text before a byte, and the pieces after that
abbrev pub shown_front : Vec ℕ × Bor (List Piece) → List ℕ × List spec.PieceOf
shown_front cut = (cut.0.items, shown_all cut.1.now)
