-- The functions that a text calls, named as they are written, and those of them that Asterisk does not have.
use Rattle.std.specs.Prelude.{ℕ, Bool, not, ◌||◌, ◌&&◌, ◌==◌, List, [], ◌∷◌, ◌++◌, filter, get_or, take, position, Option, None, Some, if◌then◌else◌}
use Rattle.std.specs.Option.{option_to_list}
use Rattle.dp_audit.specs.Unset.{stops_name}
use Rattle.dp_wide.specs.AsteriskFunctions.{is_asterisk_function}
use Rattle.dp_wide.specs.Functions.{is_computed}

-- the bytes before the first byte that cannot be part of a name, if that byte begins the argument of a function
abbrev pub function_by : List ℕ → Option ℕ → Option (List ℕ)
function_by body None = None
function_by body (Some place) = if get_or body place 0 == 40 then Some (take place body) else None

-- the name of the function at the start of a group in braces: the bytes before its first `(`, unless a `:`, a `}` or a `$` comes first
abbrev pub function_at : List ℕ → Option (List ℕ)
function_at body = function_by body (position stops_name body)

-- the name of the function in a group in braces, given the byte that opens the group and the bytes after it
abbrev pub function_after : ℕ → List ℕ → Option (List ℕ)
function_after byte [] = None
function_after byte (next ∷ after) = if byte == 36 && next == 123 then function_at after else None

-- whether a name is neither that of a function that the wide table computes nor that of one that Asterisk has
unfoldable pub is_no_function : List ℕ → Bool
is_no_function name = not (is_computed name || is_asterisk_function name)

-- the names of such functions in a text, from left to right: of each `${` with a name and a `(` after it, at any depth
unfoldable pub no_functions_in : List ℕ → List (List ℕ)
no_functions_in [] = []
no_functions_in (byte ∷ after) = filter is_no_function (option_to_list (function_after byte after)) ++ no_functions_in after
