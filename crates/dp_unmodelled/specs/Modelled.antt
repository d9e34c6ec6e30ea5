-- What names mean in a run without `--asterisk`, with the functions known that the program has.
use Rattle.std.specs.Prelude.{is_some}
use Rattle.dp_app.specs.Rows.{Meanings, with_functions}
use Rattle.dp_table.specs.Standard.{standard_rows}
use Rattle.dp_vars.specs.Functions.{FunctionTable}
use Rattle.dp_vars.specs.Values.{function_of, standard_functions}

-- the functions of the program, with the same values; another one is not known
abbrev pub modelled_functions : FunctionTable
modelled_functions = record standard_functions { knows = λ sight name argument. is_some (function_of name) }

abbrev pub modelled_meanings : Meanings
modelled_meanings = with_functions standard_rows modelled_functions
