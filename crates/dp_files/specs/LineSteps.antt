-- Steps of the code: the lines of a text that are left from a place on.
use Rattle.std.specs.Prelude.{ℕ, List, [], drop, Option, Some, None}
use Rattle.dp_conf.specs.Lines.{parts_of}

-- the parts of a text from a place on, if there are any
abbrev pub parts_from : List ℕ → Option ℕ → List (List ℕ)
parts_from text None = []
parts_from text (Some start) = parts_of (drop start text)
