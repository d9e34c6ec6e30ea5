-- The fields of a group's value, for `CUT(NAME,D,FIELDS)` and `FIELDQTY(NAME,D)`.
use Rattle.std.specs.Prelude.{ℕ, Bool, false, ◌&&◌, ◌==◌, List, [], ◌∷◌, drop, is_none, if◌then◌else◌}
use Rattle.std.specs.Fmt.{decimal}
use Rattle.std.specs.Option.{option_map_or}
use Rattle.std.specs.Str.{byte}
use Rattle.dp_conf.specs.Cut.{begins_with}
use Rattle.dp_conf.specs.Levels.{cut_outside}
use Rattle.dp_conf.specs.declared.groups.GroupKind.TheVariants.{Braces}
use Rattle.dp_vars.specs.Functions.{FunctionTable}
use Rattle.dp_vars.specs.Sights.{Sight}
use Rattle.dp_vars.specs.Unknown.{any_text, unknown_group}
use Rattle.dp_vars.specs.Values.{group_value_with}
use Rattle.dp_wide.specs.Texts.{cut_fields, delimiter_of, field_count}

-- the text before the first comma outside parentheses, or the whole text if there is none
abbrev pub first_argument : List ℕ → List ℕ
first_argument text = option_map_or (λ parts. parts.0) (cut_outside (byte ",") text) text

-- the text after that comma, or nothing if there is none
abbrev pub other_arguments : List ℕ → List ℕ
other_arguments text = option_map_or (λ parts. parts.1) (cut_outside (byte ",") text) []

-- whether a text begins with `\,`, a comma that separates nothing
abbrev pub begins_escaped : List ℕ → Bool
begins_escaped [] = false
begins_escaped (b ∷ bs) = b == byte "\\" && begins_with (byte ",") bs

-- the byte at which `CUT` cuts and the text that chooses fields, given the arguments after the name
abbrev pub way_of : List ℕ → ℕ × List ℕ
way_of arguments =
    if begins_escaped arguments then (byte ",", other_arguments (drop 2 arguments))
    else (delimiter_of (first_argument arguments), other_arguments arguments)

-- the value of the group in braces with this name, by these functions
abbrev pub named_value : FunctionTable → Sight → List ℕ → List ℕ
named_value functions sight name = group_value_with functions sight Braces name

-- whether everything in that group is known
abbrev pub knows_named : FunctionTable → Sight → List ℕ → Bool
knows_named functions sight name = is_none (any_text (unknown_group functions sight Braces name))

-- the value of `CUT` with an argument
abbrev pub cut_value : FunctionTable → Sight → List ℕ → List ℕ
cut_value functions sight argument =
    let way = way_of (other_arguments argument) in
    cut_fields (named_value functions sight (first_argument argument)) way.0 way.1

-- the value of `FIELDQTY` with an argument
abbrev pub count_value : FunctionTable → Sight → List ℕ → List ℕ
count_value functions sight argument =
    decimal (field_count (delimiter_of (other_arguments argument)) (named_value functions sight (first_argument argument)))

-- whether their values are known: both are if the group that they name is
abbrev pub knows_fields : FunctionTable → Sight → List ℕ → Bool
knows_fields functions sight argument = knows_named functions sight (first_argument argument)
