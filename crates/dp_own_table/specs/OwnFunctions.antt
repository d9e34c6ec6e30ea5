-- The functions of a table by another author: the five of this program, one that is computed, one whose values are cells, and one that is
-- never known.
use Rattle.std.specs.Prelude.{ℕ, Bool, not, ◌||◌, List, [], ◌++◌, codes, if◌then◌else◌}
use Rattle.dp_conf.specs.Words.{same_text}
use Rattle.dp_expr.specs.declared.reading.ExpressionReading.{ExpressionReading}
use Rattle.dp_expr.specs.declared.reading.ExpressionReading.TheVariants as readings
use Rattle.dp_vars.specs.Functions.{FunctionTable, SettingTarget, Variable, Global, Local, Caller, Nothing}
use Rattle.dp_vars.specs.Sights.{Sight}
use Rattle.dp_vars.specs.Values.{standard_functions}

-- the name of the variable that is a cell
abbrev pub box_name : List ℕ → List ℕ
box_name key = codes "BOX(" ++ key ++ codes ")"

-- the value of a function of an argument
abbrev pub own_value : Sight → List ℕ → List ℕ → List ℕ
own_value sight name argument =
    if same_text name (codes "TWICE") then argument ++ argument
    else (if same_text name (codes "BOX") then sight.variable (box_name argument)
    else (if same_text name (codes "AWAY") then [] else standard_functions.value sight name argument))

-- a cell is known if it was set
abbrev pub own_knows : Sight → List ℕ → List ℕ → Bool
own_knows sight name argument =
    if same_text name (codes "BOX") then sight.is_set (box_name argument) else not (same_text name (codes "AWAY"))

-- of the plain names only `STATUS` is unknown, while nothing has set it
abbrev pub own_knows_name : Sight → List ℕ → Bool
own_knows_name sight name = not (same_text name (codes "STATUS")) || sight.is_set name

-- what a name sets: one name for each kind of target, and any other name sets a variable
abbrev pub own_target : List ℕ → SettingTarget
own_target name =
    if same_text name (codes "ALL") then Global name
    else (if same_text name (codes "MINE") then Local name
    else (if same_text name (codes "WHO") then Caller
    else (if same_text name (codes "NONE") then Nothing else Variable name)))

-- a text that has groups which this program does not read: `${[}`
abbrev pub own_reads : List ℕ → Bool
own_reads text = not (same_text text (codes "${[}"))

-- the expression `$[?]` is unknown, and `$[!]` is `0`
abbrev pub own_expression : List ℕ → ExpressionReading
own_expression body =
    if same_text body (codes "?") then readings.Unknown else (if same_text body (codes "!") then readings.Zero else readings.Value)

-- the functions
abbrev pub own_functions : FunctionTable
own_functions = record {
  value = own_value;
  knows = own_knows;
  variable = standard_functions.variable;
  knows_name = own_knows_name;
  reads = own_reads;
  expression = own_expression;
  target = own_target;
}
