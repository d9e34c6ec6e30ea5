-- The functions of what a text can see: of the keys of the database, and of the queues.
use Rattle.std.specs.Prelude.{ℕ, Bool, not, true, ◌==◌, List, length, is_some, unwrap_or, codes, if◌then◌else◌}
use Rattle.std.specs.Fmt.{decimal}
use Rattle.dp_vars.specs.Sights.{Sight}
use Rattle.dp_wide.specs.CellValues.{cell_value, knows_cell}
use Rattle.dp_wide.specs.declared.sight_functions.SightFunction.{SightFunction}
use Rattle.dp_wide.specs.declared.sight_functions.SightFunction.TheVariants.{DbExists, DbDelete, QueueExists, QueueMemberCount}

-- the text for yes or no
abbrev pub flag : Bool → List ℕ
flag holds = if holds then codes "1" else codes "0"

-- whether a text is empty
abbrev pub is_empty : List ℕ → Bool
is_empty text = length text == 0

-- the value of a key of the database
abbrev pub key_value : Sight → List ℕ → List ℕ
key_value sight key = cell_value sight (codes "DB") key

-- whether this value is known
abbrev pub knows_key : Sight → List ℕ → Bool
knows_key sight key = knows_cell sight (codes "DB") key

-- the value of a function of a key or of a queue's name
abbrev pub sight_value : Sight → SightFunction → List ℕ → List ℕ
sight_value sight DbExists key = flag (not (is_empty (key_value sight key)))
sight_value sight DbDelete key = key_value sight key
sight_value sight QueueExists queue = flag (is_some (sight.members queue))
sight_value sight QueueMemberCount queue = decimal (unwrap_or (sight.members queue) 0)

-- whether this value is known: that of a key if the key is, that of a queue always
abbrev pub knows_sight : Sight → SightFunction → List ℕ → Bool
knows_sight sight DbExists key = knows_key sight key
knows_sight sight DbDelete key = knows_key sight key
knows_sight sight QueueExists queue = true
knows_sight sight QueueMemberCount queue = true
