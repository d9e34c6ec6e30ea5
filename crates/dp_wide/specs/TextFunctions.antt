-- The functions of a text alone.
use Rattle.std.specs.Prelude.{ℕ, not, List, [], map}
use Rattle.std.specs.Char.{to_ascii_lowercase, to_ascii_uppercase}
use Rattle.std.specs.Option.{option_map_or}
use Rattle.std.specs.Str.{byte}
use Rattle.dp_conf.specs.Cut.{cut_once}
use Rattle.dp_wide.specs.Sides.{if_value}
use Rattle.dp_wide.specs.SightFunctions.{flag, is_empty}
use Rattle.dp_wide.specs.Texts.{kept_of}
use Rattle.dp_wide.specs.declared.text_functions.TextFunction.{TextFunction}
use Rattle.dp_wide.specs.declared.text_functions.TextFunction.TheVariants.{If, Filter, ToUpper, ToLower, IsNull, Exists}

-- the value of `FILTER`: the bytes of the text after the first comma that are in the set before it
abbrev pub filter_value : List ℕ → List ℕ
filter_value argument = option_map_or (λ parts. kept_of parts.0 parts.1) (cut_once (byte ",") argument) []

-- the value of a function of a text
abbrev pub text_value : TextFunction → List ℕ → List ℕ
text_value If text = if_value text
text_value Filter text = filter_value text
text_value ToUpper text = map to_ascii_uppercase text
text_value ToLower text = map to_ascii_lowercase text
text_value IsNull text = flag (is_empty text)
text_value Exists text = flag (not (is_empty text))
