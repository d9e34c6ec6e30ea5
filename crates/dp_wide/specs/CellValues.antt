-- The values of cells, and whether they are known.
use Rattle.std.specs.Prelude.{ℕ, Bool, ◌&&◌, ◌||◌, ◌==◌, List, [], ◌∷◌, ◌++◌, codes, if◌then◌else◌}
use Rattle.std.specs.List.{list_any}
use Rattle.std.specs.Str.{byte}
use Rattle.dp_conf.specs.Words.{same_text}
use Rattle.dp_vars.specs.Sights.{Sight}
use Rattle.dp_wide.specs.Cells.{cell_name, is_of_all}

-- the value of a cell: that of the global with its name if the cell belongs to all channels, or of the variable if it belongs to one
abbrev pub cell_value : Sight → List ℕ → List ℕ → List ℕ
cell_value sight function argument =
    if is_of_all function then sight.global (cell_name function argument) else sight.variable (cell_name function argument)

-- whether something has written a cell
abbrev pub cell_is_set : Sight → List ℕ → List ℕ → Bool
cell_is_set sight function argument =
    if is_of_all function then sight.has_global (cell_name function argument) else sight.is_set (cell_name function argument)

-- the global that says of a function that its unwritten cells are empty
abbrev pub assumed_name : List ℕ → List ℕ
assumed_name function = cell_name (codes "ASSUMED") function

-- whether a script has said so
abbrev pub is_assumed : Sight → List ℕ → Bool
is_assumed sight function = sight.has_global (assumed_name function)

-- the global that says of a key of the database that it was deleted with all keys below it
abbrev pub deleted_name : List ℕ → List ℕ
deleted_name key = cell_name (codes "DBdeltree") key

-- whether a key was deleted with all keys below it
abbrev pub is_root_deleted : Sight → List ℕ → Bool
is_root_deleted sight key = sight.has_global (deleted_name key)

-- the keys above a key, and the key itself: the text before each of its `/`, and the whole; given the text so far and the rest
abbrev pub roots_from : List ℕ → List ℕ → List (List ℕ)
roots_from front [] = front ∷ []
roots_from front (b ∷ bs) = if b == byte "/" then front ∷ roots_from (front ++ b ∷ []) bs else roots_from (front ++ b ∷ []) bs

-- whether a key, or one above it, was deleted with all keys below it
abbrev pub is_deleted : Sight → List ℕ → Bool
is_deleted sight key = list_any (is_root_deleted sight) (roots_from [] key)

-- whether an unwritten cell is empty: a script has said so of the function, or the key was deleted
abbrev pub is_emptied : Sight → List ℕ → List ℕ → Bool
is_emptied sight function argument = is_assumed sight function || (same_text function (codes "DB") && is_deleted sight argument)

-- whether a cell is known: something has written it, or it is empty
abbrev pub knows_cell : Sight → List ℕ → List ℕ → Bool
knows_cell sight function argument = cell_is_set sight function argument || is_emptied sight function argument
