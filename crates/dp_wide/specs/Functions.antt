-- The functions of the wide table: their values, given their argument and what a text can see, and whether the values are known.
use Rattle.std.specs.Prelude.{ℕ, zero, suc, Bool, true, false, not, ◌||◌, List, [], length, Option, Some, None, is_some, codes, if◌then◌else◌}
use Rattle.std.specs.Fmt.{decimal}
use Rattle.std.specs.Option.{option_map, option_or, unwrap_or}
use Rattle.dp_conf.specs.Words.{same_text}
use Rattle.dp_expr.specs.AsteriskReading.{asterisk_reading}
use Rattle.dp_vars.specs.Functions.{FunctionTable}
use Rattle.dp_vars.specs.Sights.{Sight}
use Rattle.dp_vars.specs.Values.{function_of}
use Rattle.dp_vars.specs.declared.value.Function.{Function}
use Rattle.dp_vars.specs.declared.value.Function.TheVariants.{Global, Local, Len, CallerId, QueueWaitingCount}
use Rattle.dp_wide.specs.Brackets.{reads}
use Rattle.dp_wide.specs.Caller.{caller_value, knows_caller}
use Rattle.dp_wide.specs.CellValues.{cell_value, knows_cell}
use Rattle.dp_wide.specs.Fields.{count_value, cut_value, knows_fields}
use Rattle.dp_wide.specs.Names.{is_given_by_asterisk, is_status}
use Rattle.dp_wide.specs.ReadNames.{was_read}
use Rattle.dp_wide.specs.Settings.{wide_target}
use Rattle.dp_wide.specs.SightFunctions.{knows_sight, sight_value}
use Rattle.dp_wide.specs.TextFunctions.{text_value}
use Rattle.dp_wide.specs.declared.functions.WideFunction.{WideFunction}
use Rattle.dp_wide.specs.declared.functions.WideFunction.TheVariants.{Cut, FieldQty, OfText, OfSight, Foreign}
use Rattle.dp_wide.specs.declared.sight_functions.SightFunction.{SightFunction}
use Rattle.dp_wide.specs.declared.sight_functions.SightFunction.TheVariants.{DbExists, DbDelete, QueueExists, QueueMemberCount}
use Rattle.dp_wide.specs.declared.text_functions.TextFunction.{TextFunction}
use Rattle.dp_wide.specs.declared.text_functions.TextFunction.TheVariants.{If, Filter, ToUpper, ToLower, IsNull, Exists}

-- the functions of a text, by name
abbrev pub text_function_of : List ℕ → Option TextFunction
text_function_of name =
    if same_text name (codes "IF") then Some If
    else (if same_text name (codes "FILTER") then Some Filter
    else (if same_text name (codes "TOUPPER") then Some ToUpper
    else (if same_text name (codes "TOLOWER") then Some ToLower
    else (if same_text name (codes "ISNULL") then Some IsNull
    else (if same_text name (codes "EXISTS") then Some Exists else None)))))

-- the functions of a key or of a queue's name, by name
abbrev pub sight_function_of : List ℕ → Option SightFunction
sight_function_of name =
    if same_text name (codes "DB_EXISTS") then Some DbExists
    else (if same_text name (codes "DB_DELETE") then Some DbDelete
    else (if same_text name (codes "QUEUE_EXISTS") then Some QueueExists
    else (if same_text name (codes "QUEUE_MEMBER_COUNT") then Some QueueMemberCount else None)))

-- whether a function reads or does more than this machine follows
abbrev pub is_foreign : List ℕ → Bool
is_foreign name =
    same_text name (codes "REGEX") || same_text name (codes "INC") || same_text name (codes "DEC") || same_text name (codes "SHIFT")
    || same_text name (codes "POP") || same_text name (codes "EVAL") || same_text name (codes "HASH")

-- the functions of a text, or of what a text can see, by name
abbrev pub plain_function_of : List ℕ → Option WideFunction
plain_function_of name = option_or (option_map OfText (text_function_of name)) (option_map OfSight (sight_function_of name))

-- the functions that this table has besides the five of every dialplan; any other name is a name of cells
abbrev pub wide_function_of : List ℕ → Option WideFunction
wide_function_of name =
    if same_text name (codes "CUT") then Some Cut
    else (if same_text name (codes "FIELDQTY") then Some FieldQty
    else (if is_foreign name then Some Foreign else plain_function_of name))

-- whether a name is that of a function and not only of cells
abbrev pub is_computed : List ℕ → Bool
is_computed name = is_some (function_of name) || is_some (wide_function_of name)

-- the value of one of the five functions of every dialplan; `CALLERID` gives more than the number here
abbrev pub five_value : Sight → Function → List ℕ → List ℕ
five_value sight Global name = sight.global name
five_value sight Local name = sight.local name
five_value sight Len text = decimal (length text)
five_value sight CallerId argument = caller_value sight argument
five_value sight QueueWaitingCount queue = decimal (sight.waiting queue)

-- whether this value is known
abbrev pub knows_five : Sight → Function → List ℕ → Bool
knows_five sight Global name = true
knows_five sight Local name = true
knows_five sight Len text = true
knows_five sight CallerId argument = knows_caller sight argument
knows_five sight QueueWaitingCount queue = true

-- the value of a further function of this table; the functions `inner` read a name in an argument
abbrev pub wide_value : FunctionTable → Sight → WideFunction → List ℕ → List ℕ
wide_value inner sight Cut argument = cut_value inner sight argument
wide_value inner sight FieldQty argument = count_value inner sight argument
wide_value inner sight (OfText function) argument = text_value function argument
wide_value inner sight (OfSight function) argument = sight_value sight function argument
wide_value inner sight Foreign argument = []

-- whether this value is known
abbrev pub knows_wide : FunctionTable → Sight → WideFunction → List ℕ → Bool
knows_wide inner sight Cut argument = knows_fields inner sight argument
knows_wide inner sight FieldQty argument = knows_fields inner sight argument
knows_wide inner sight (OfText function) argument = true
knows_wide inner sight (OfSight function) argument = knows_sight sight function argument
knows_wide inner sight Foreign argument = false

-- the value of a name other than the five: of a function, or of a cell
abbrev pub other_value : FunctionTable → Sight → Option WideFunction → List ℕ → List ℕ → List ℕ
other_value inner sight None name argument = cell_value sight name argument
other_value inner sight (Some function) name argument = wide_value inner sight function argument

-- whether this value is known
abbrev pub knows_other : FunctionTable → Sight → Option WideFunction → List ℕ → List ℕ → Bool
knows_other inner sight None name argument = knows_cell sight name argument
knows_other inner sight (Some function) name argument = knows_wide inner sight function argument

-- the value of a name with an argument
abbrev pub value_by : FunctionTable → Sight → Option Function → List ℕ → List ℕ → List ℕ
value_by inner sight None name argument = other_value inner sight (wide_function_of name) name argument
value_by inner sight (Some function) name argument = five_value sight function argument

-- whether this value is known
abbrev pub knows_by : FunctionTable → Sight → Option Function → List ℕ → List ℕ → Bool
knows_by inner sight None name argument = knows_other inner sight (wide_function_of name) name argument
knows_by inner sight (Some function) name argument = knows_five sight function argument

-- whether a plain name has a value from outside: Asterisk gives it but this machine does not, an application outside reports its result in
-- it, or `Read` was given it
abbrev pub comes_from_outside : Sight → List ℕ → Bool
comes_from_outside sight name = is_status name || is_given_by_asterisk name || was_read sight name

-- whether a plain name is that of the channel itself, which only Asterisk gives
abbrev pub is_channel_name : List ℕ → Bool
is_channel_name name = same_text name (codes "CHANNEL")

-- the value of a plain name; for the name of the channel it is what something has set
abbrev pub plain_value : Sight → List ℕ → List ℕ
plain_value sight name = if is_channel_name name then unwrap_or (sight.held name) [] else sight.variable name

-- whether a plain name has a value; the name of the channel has one if something has set it
abbrev pub plain_is_set : Sight → List ℕ → Bool
plain_is_set sight name = if is_channel_name name then is_some (sight.held name) else sight.is_set name

-- whether a plain name is known: a value from outside is known if something set it
abbrev pub knows_name : Sight → List ℕ → Bool
knows_name sight name = not (comes_from_outside sight name) || plain_is_set sight name

-- the functions; the functions `inner` read a name in an argument
unfoldable pub around : FunctionTable → FunctionTable
around inner = record {
  value = λ sight name argument. value_by inner sight (function_of name) name argument;
  knows = λ sight name argument. knows_by inner sight (function_of name) name argument;
  variable = plain_value;
  knows_name = knows_name;
  reads = reads;
  expression = asterisk_reading;
  target = wide_target;
}

-- no functions: every function call is empty and unknown
abbrev pub no_calls : FunctionTable
no_calls = record {
  value = λ sight name argument. [];
  knows = λ sight name argument. false;
  variable = plain_value;
  knows_name = knows_name;
  reads = reads;
  expression = asterisk_reading;
  target = wide_target;
}

-- the functions when so many function calls may stand inside each other
unfoldable pub within : ℕ → FunctionTable
within zero = no_calls
within (suc more) = around (within more)

-- the functions when at most 8 function calls stand inside each other
abbrev pub wide_functions : FunctionTable
wide_functions = record {
  value = (within 8).value;
  knows = (within 8).knows;
  variable = plain_value;
  knows_name = knows_name;
  reads = reads;
  expression = asterisk_reading;
  target = wide_target;
}
