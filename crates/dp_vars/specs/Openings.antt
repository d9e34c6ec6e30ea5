-- Texts in which no group opens.
use Rattle.std.specs.Prelude.{ℕ, Bool, false, ◌||◌, List, [], ◌∷◌}
use Rattle.std.specs.Option.{is_some}
use Rattle.dp_conf.specs.Groups.{opening}

-- whether the text contains `${` or `$[`
unfoldable pub has_opening : List ℕ → Bool
has_opening [] = false
has_opening (byte ∷ after) = is_some (opening byte after) || has_opening after
