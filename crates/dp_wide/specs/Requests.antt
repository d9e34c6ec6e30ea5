-- The unknown things that applications ask for with their arguments: a function that does more, the clock, a time zone, or an option.
use Rattle.std.specs.Prelude.{ℕ, ◌&&◌, List, [], ◌∷◌, Option, Some, None, codes, if◌then◌else◌}
use Rattle.std.specs.Option.{option_map_or}
use Rattle.std.specs.Str.{byte}
use Rattle.dp_conf.specs.Cut.{cut_once}
use Rattle.dp_conf.specs.Levels.{arguments_of, parts_of}
use Rattle.dp_conf.specs.Words.{same_text, same_word}
use Rattle.dp_vars.specs.Sights.{Sight}
use Rattle.dp_vars.specs.Unknown.{earlier}
use Rattle.dp_app.specs.Parts.{has_option, is_given, part}
use Rattle.dp_flow.specs.Settings.{argument_of}
use Rattle.dp_wide.specs.Settings.{bare_name, does_more}

-- the name that is set through a function with an argument, if setting it does more than this machine follows
abbrev pub plain_asked : List ℕ → List ℕ → List ℕ → List ℕ
plain_asked name function argument = if does_more function argument then name else []

-- the same for a name in an `ARRAY`, where a further `ARRAY` is not followed either
abbrev pub nested_asked : List ℕ → List ℕ → List ℕ → List ℕ
nested_asked name function argument = if same_text function (codes "ARRAY") then name else plain_asked name function argument

-- what a name in an `ARRAY` asks for, given its first `(`
abbrev pub part_asked_by : List ℕ → Option (List ℕ × List ℕ) → List ℕ
part_asked_by name None = []
part_asked_by name (Some cut) = option_map_or (nested_asked name cut.0) (argument_of cut.1) []

-- what a name in an `ARRAY` asks for
abbrev pub part_asked : List ℕ → List ℕ
part_asked part = part_asked_by (bare_name part) (cut_once (byte "(") (bare_name part))

-- what the first of a list of names that asks for something asks for
abbrev pub parts_asked : List (List ℕ) → List ℕ
parts_asked [] = []
parts_asked (part ∷ parts) = earlier (part_asked part) (parts_asked parts)

-- what setting a function with an argument asks for; for `ARRAY`, what its names ask for
abbrev pub function_asked : List ℕ → List ℕ → List ℕ → List ℕ
function_asked name function argument =
    if same_text function (codes "ARRAY") then parts_asked (parts_of argument) else plain_asked name function argument

-- what setting a name asks for, given its first `(`
abbrev pub name_asked_by : List ℕ → Option (List ℕ × List ℕ) → List ℕ
name_asked_by name None = []
name_asked_by name (Some cut) = option_map_or (function_asked name cut.0) (argument_of cut.1) []

-- what setting a name asks for
abbrev pub name_asked : List ℕ → List ℕ
name_asked name = name_asked_by name (cut_once (byte "(") name)

-- what a setting `NAME=VALUE` asks for
abbrev pub setting_asked : List ℕ → List ℕ
setting_asked text = option_map_or (λ cut. name_asked (bare_name cut.0)) (cut_once (byte "=") text) []

-- what the first of a list of settings that asks for something asks for
abbrev pub settings_asked : List (List ℕ) → List ℕ
settings_asked [] = []
settings_asked (text ∷ texts) = earlier (setting_asked text) (settings_asked texts)

-- a time zone, which is not followed, is reported by the name of the application
abbrev pub zone_asked : Option (List ℕ × List ℕ) → List ℕ
zone_asked None = []
zone_asked (Some cut) = if is_given (part 4 (arguments_of cut.0)) then codes "GotoIfTime" else []

-- what `GotoIfTime` asks for: the clock until something sets it, and a time zone
abbrev pub time_asked : Sight → List ℕ → List ℕ
time_asked sight arguments = if sight.has_global (codes "CLOCK") then zone_asked (cut_once (byte "?") arguments) else codes "CLOCK"

-- what `Dial` with devices asks for, given the parts of its arguments: the option `G`, by which the called side goes elsewhere too
abbrev pub dial_asked : List (List ℕ) → List ℕ
dial_asked parts = if is_given (part 0 parts) && has_option (byte "G") (part 2 parts) then codes "G" else []

-- what an application other than `ExecIf` asks for with its arguments
abbrev pub inner_asked : Sight → List ℕ → List ℕ → List ℕ
inner_asked sight name arguments =
    if same_word name (codes "Set") then setting_asked arguments
    else (if same_word name (codes "Dial") then dial_asked (arguments_of arguments)
    else (if same_word name (codes "GotoIfTime") then time_asked sight arguments
    else (if same_word name (codes "MSet") then settings_asked (arguments_of arguments) else [])))
