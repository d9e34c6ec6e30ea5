-- Texts whose groups are not nested too deeply.
use Rattle.std.specs.Prelude.{ℕ, ◌≤◌, Bool, nat_lt, List, Option, Some, None, if◌then◌else◌}
use Rattle.dp_conf.specs.GroupsRead.{nesting_of}

-- the greatest nesting of groups in a text that is expanded
abbrev pub most_nesting : ℕ
most_nesting = 32

-- the groups are nested no deeper than allowed
abbrev pub IsShallow : List ℕ → Type 0
IsShallow text = nesting_of text ≤ most_nesting

-- the groups are nested deeper than allowed
abbrev pub is_too_deep : List ℕ → Bool
is_too_deep text = nat_lt most_nesting (nesting_of text)

-- the text, unless its groups are nested too deeply
abbrev pub unless_too_deep : List ℕ → Option (List ℕ)
unless_too_deep text = if is_too_deep text then None else Some text
