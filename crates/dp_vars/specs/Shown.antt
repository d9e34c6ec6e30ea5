-- The text of a found value, and the name of a function.
use Rattle.std.specs.Prelude.{ℕ, List}
use Rattle.std.specs.Fmt.{decimal}
use Rattle.dp_vars.specs.Sights.{channel_name}
use Rattle.dp_vars.specs.Values.{function_name}
use Rattle.dp_vars.specs.declared.value.FoundValue.{FoundValue}
use Rattle.dp_vars.specs.declared.value.FoundValue.TheVariants.{Bytes, Number, Channel, Owned}
use Rattle.dp_vars.specs.declared.functions.FunctionName.{FunctionName}
use Rattle.dp_vars.specs.declared.functions.FunctionName.TheVariants.{Known, Other}

-- bytes, a number in decimal, or the name of the channel with a number
abbrev pub value_bytes : FoundValue → List ℕ
value_bytes (Bytes bytes) = bytes.now
value_bytes (Number number) = decimal number
value_bytes (Channel number) = channel_name number
value_bytes (Owned bytes) = bytes.items

-- the bytes of a name
abbrev pub name_bytes : FunctionName → List ℕ
name_bytes (Known function) = function_name function
name_bytes (Other name) = name.now
