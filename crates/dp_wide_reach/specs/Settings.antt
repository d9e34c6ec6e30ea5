-- The duties of the applications of the wide table that set names.
use Rattle.std.specs.Prelude.{ℕ, List, [], ◌∷◌, Option, Some, None, codes}
use Rattle.dp_conf.specs.Blanks.{trim}
use Rattle.dp_vars.specs.Functions.{SettingTarget, Variable, Global, Local, Caller, Nothing}
use Rattle.dp_pieces.specs.Bytes.{Bytes, either}
use Rattle.dp_pieces.specs.Cuts.{cut_known}
use Rattle.dp_pieces.specs.Pieces.{PieceOf, bytes_in, pieces_set, text_known}
use Rattle.dp_wide.specs.Cells.{cell_name}
use Rattle.dp_wide.specs.Deleting.{deleted_mark}
use Rattle.dp_wide.specs.ReadNames.{read_names}
use Rattle.dp_wide.specs.Settings.{EffectOf, OneTarget, NameAndNumber, EmptyKey, EachName, bare_name, effect_of}
use Rattle.dp_reach.specs.Bounds.{Calls, Duties, Duty, Holds, HoldsAll}

-- the duties if any name, and the caller's number, may be set to a text with these bytes
abbrev pub any_duties : Bytes → List Duty
any_duties set = HoldsAll set ∷ Calls set ∷ []

-- the duties if one thing is set to a text with these bytes
abbrev pub target_duties : Bytes → SettingTarget → List Duty
target_duties set (Variable name) = Holds name set ∷ []
target_duties set (Global name) = Holds name set ∷ []
target_duties set (Local name) = Holds name set ∷ []
target_duties set Caller = Calls set ∷ []
target_duties set Nothing = []

-- the duties of what a name sets: a key of a cell only becomes empty, and a list of names may set any name
abbrev pub effect_duties : Bytes → EffectOf → List Duty
effect_duties set (OneTarget target) = target_duties set target
effect_duties set NameAndNumber = Calls set ∷ Holds (cell_name (codes "CALLERID") (codes "name")) set ∷ []
effect_duties set (EmptyKey key) = []
effect_duties set (EachName names) = any_duties set

-- the duties of `NAME=VALUE`, given the text before the first `=` if it is known
abbrev pub setting_duties : List PieceOf → Option (List ℕ × List PieceOf) → List Duty
setting_duties pieces None = any_duties (pieces_set pieces)
setting_duties pieces (Some cut) = effect_duties (pieces_set cut.1) (effect_of (bare_name cut.0))

-- the duties of the row of `Set`
abbrev pub wide_set_duties : Duties
wide_set_duties area pieces = setting_duties pieces (cut_known 61 pieces)

-- the duties of the row of `MSet`, whose arguments may set any names
abbrev pub mset_duties : Duties
mset_duties area pieces = any_duties (pieces_set pieces)

-- the duties of the row of `DBdeltree`, given its argument if it is known: that global becomes `1`
abbrev pub deletion_duties : Option (List ℕ) → List Duty
deletion_duties None = HoldsAll (bytes_in (codes "1")) ∷ []
deletion_duties (Some text) = Holds (deleted_mark (trim text)) (bytes_in (codes "1")) ∷ []

abbrev pub delete_tree_duties : Duties
delete_tree_duties area pieces = deletion_duties (text_known pieces)

-- the duties of `Read`: it adds a name, which is a part of its first argument, to the list of the names for input
abbrev pub read_duties : Duties
read_duties area pieces = Holds read_names (either (pieces_set pieces) (bytes_in (codes ","))) ∷ []
