-- The arguments of an application, given the pieces of all of them.
use Rattle.std.specs.Prelude.{ℕ, List, [], slice_get, unwrap_or, if◌then◌else◌}
use Rattle.dp_pieces.specs.Arguments.{are_clean, shapes_of}
use Rattle.dp_pieces.specs.Pieces.{PieceOf, any_bytes_of, pieces_set}

-- the argument with a number; one that is missing is empty, and if an unknown piece may separate arguments, it is any text of their bytes
abbrev pub argument : ℕ → List PieceOf → List PieceOf
argument number pieces =
    if are_clean 0 pieces then unwrap_or (slice_get (shapes_of pieces) number) [] else any_bytes_of (pieces_set pieces)
