-- The value of a group, and a text with the values of its groups.
use Rattle.std.specs.Prelude.{ℕ, true, List, [], ◌∷◌, ◌++◌, Option, Some, None, length, codes, if◌then◌else◌}
use Rattle.std.specs.Fmt.{decimal}
use Rattle.dp_conf.specs.Cut.{before_last, cut_once}
use Rattle.dp_conf.specs.Groups.{Reading, Over, Plain, Group}
use Rattle.dp_conf.specs.GroupsRead.{reading_of}
use Rattle.dp_conf.specs.Levels.{cut_outside}
use Rattle.dp_conf.specs.Words.{same_text}
use Rattle.dp_conf.specs.declared.groups.GroupKind.{GroupKind}
use Rattle.dp_conf.specs.declared.groups.GroupKind.TheVariants.{Braces, Brackets}
use Rattle.dp_expr.specs.Expression.{expression_value}
use Rattle.dp_expr.specs.declared.reading.ExpressionReading.{ExpressionReading}
use Rattle.dp_expr.specs.declared.reading.ExpressionReading.TheVariants as readings
use Rattle.dp_vars.specs.Functions.{FunctionTable, Variable}
use Rattle.dp_vars.specs.Parts.{asked_of, part}
use Rattle.dp_vars.specs.Sights.{Sight}
use Rattle.dp_vars.specs.declared.value.Function.{Function}
use Rattle.dp_vars.specs.declared.value.Function.TheVariants.{Global, Local, Len, CallerId, QueueWaitingCount}

-- the functions, given their names
abbrev pub function_of : List ℕ → Option Function
function_of name =
    if same_text name (codes "GLOBAL") then Some Global
    else (if same_text name (codes "LOCAL") then Some Local
    else (if same_text name (codes "LEN") then Some Len
    else (if same_text name (codes "CALLERID") then Some CallerId
    else (if same_text name (codes "QUEUE_WAITING_COUNT") then Some QueueWaitingCount else None))))

-- their names
abbrev pub function_name : Function → List ℕ
function_name Global = codes "GLOBAL"
function_name Local = codes "LOCAL"
function_name Len = codes "LEN"
function_name CallerId = codes "CALLERID"
function_name QueueWaitingCount = codes "QUEUE_WAITING_COUNT"

-- the number of the caller, if that is requested
abbrev pub caller_value : List ℕ → List ℕ → List ℕ
caller_value caller argument = if same_text argument (codes "num") then caller else []

-- the value of a function with an argument; other names are not functions, and their value is empty
abbrev pub function_value : Sight → Option Function → List ℕ → List ℕ
function_value sight None argument = []
function_value sight (Some Global) argument = sight.global argument
function_value sight (Some Local) argument = sight.local argument
function_value sight (Some Len) argument = decimal (length argument)
function_value sight (Some CallerId) argument = caller_value sight.caller argument
function_value sight (Some QueueWaitingCount) argument = decimal (sight.waiting argument)

-- the table of these functions: it knows each name, because any other function and any variable that is not set are
-- empty, groups are as this program reads them, an expression has its value, and setting a name sets the variable
abbrev pub standard_functions : FunctionTable
standard_functions = record {
  value = λ sight name argument. function_value sight (function_of name) argument;
  knows = λ sight name argument. true;
  variable = λ sight name. sight.variable name;
  knows_name = λ sight name. true;
  reads = λ text. true;
  expression = λ body. readings.Value;
  target = λ name. Variable name;
}

-- the argument of a function is between its first `(` and the last `)` after it; without such a `)` the function is
-- empty
abbrev pub call_argument_with : FunctionTable → Sight → List ℕ → Option (List ℕ) → List ℕ
call_argument_with functions sight name None = []
call_argument_with functions sight name (Some argument) = functions.value sight name argument

-- a head with a `(` is a function, and any other is the name of a variable
abbrev pub head_by_with : FunctionTable → Sight → List ℕ → Option (List ℕ × List ℕ) → List ℕ
head_by_with functions sight head None = functions.variable sight head
head_by_with functions sight head (Some cut) = call_argument_with functions sight cut.0 (before_last 41 cut.1)

-- the value of a head
unfoldable pub head_value_with : FunctionTable → Sight → List ℕ → List ℕ
head_value_with functions sight head = head_by_with functions sight head (cut_once 40 head)

-- the value of a body, which may be cut
abbrev pub body_by_with : FunctionTable → Sight → List ℕ → Option (List ℕ × List ℕ) → List ℕ
body_by_with functions sight body None = head_value_with functions sight body
body_by_with functions sight body (Some cut) = part (asked_of (Some cut.1)) (head_value_with functions sight cut.0)

-- the result of an expression with this value, given how the table reads it
abbrev pub value_read : ExpressionReading → List ℕ → List ℕ
value_read readings.Value value = value
value_read readings.Zero value = 48 ∷ []
value_read readings.Unknown value = value

-- the value of the expanded body of a group: in braces the text before the first `:` outside parentheses is a variable
-- or a function, and the text after it requests a part of the value; in brackets the body is an expression
unfoldable pub group_value_with : FunctionTable → Sight → GroupKind → List ℕ → List ℕ
group_value_with functions sight Braces body = body_by_with functions sight body (cut_outside 58 body)
group_value_with functions sight Brackets body = value_read (functions.expression body) (expression_value body)

-- a reading with each group replaced with the value of its expanded body; values are not read again
unfoldable pub expansion_of_with : FunctionTable → Sight → Reading → List ℕ
expansion_of_with functions sight Over = []
expansion_of_with functions sight (Plain byte rest) = byte ∷ expansion_of_with functions sight rest
expansion_of_with functions sight (Group kind inside rest) =
    group_value_with functions sight kind (expansion_of_with functions sight inside) ++ expansion_of_with functions sight rest

-- the same for a text, given its one reading
abbrev pub expansion_with : FunctionTable → Sight → List ℕ → List ℕ
expansion_with functions sight text = expansion_of_with functions sight (reading_of text)

-- the value of an argument, with the standard functions
abbrev pub call_argument : Sight → List ℕ → Option (List ℕ) → List ℕ
call_argument = call_argument_with standard_functions

-- the value of a head that may be cut at its `(`, with the standard functions
abbrev pub head_by : Sight → List ℕ → Option (List ℕ × List ℕ) → List ℕ
head_by = head_by_with standard_functions

-- the value of a head, with the standard functions
abbrev pub head_value : Sight → List ℕ → List ℕ
head_value = head_value_with standard_functions

-- the value of a body that may be cut, with the standard functions
abbrev pub body_by : Sight → List ℕ → Option (List ℕ × List ℕ) → List ℕ
body_by = body_by_with standard_functions

-- the value of a group, with the standard functions
abbrev pub group_value : Sight → GroupKind → List ℕ → List ℕ
group_value = group_value_with standard_functions

-- a reading with its groups replaced, with the standard functions
abbrev pub expansion_of : Sight → Reading → List ℕ
expansion_of = expansion_of_with standard_functions

-- a text with its groups replaced, with the standard functions
abbrev pub expansion : Sight → List ℕ → List ℕ
expansion = expansion_with standard_functions
