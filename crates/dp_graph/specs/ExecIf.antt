-- The applications that `ExecIf` may run, after the Asterisk documentation's page on it.
use Rattle.std.specs.Prelude.{ℕ, List, [], ◌∷◌, ◌++◌, Option, Some, None, is_some, unwrap_or, if◌then◌else◌}
use Rattle.std.specs.Option.{option_map, option_to_list}
use Rattle.std.specs.Str.{byte}
use Rattle.dp_conf.specs.Blanks.{trim}
use Rattle.dp_conf.specs.Cut.{before_last, cut_once}
use Rattle.dp_conf.specs.Levels.{cut_outside}
use Rattle.dp_graph.specs.declared.exec_if.CalledApplication.{CalledApplication}
use Rattle.dp_graph.specs.declared.exec_if.CalledApplications.{CalledApplications}

-- the name of an application, and its arguments
pub record CallOf : Type 0 where
  pub name : List ℕ
  pub arguments : List ℕ

abbrev pub call_of : List ℕ → List ℕ → CallOf
call_of name arguments = record { name = name; arguments = arguments }

-- what the program keeps
abbrev pub call_now : CalledApplication → CallOf
call_now call = call_of call.name.now call.arguments.now

abbrev pub calls_now : CalledApplications → List CallOf
calls_now calls = option_to_list (option_map call_now calls.first) ++ option_to_list (option_map call_now calls.second)

-- the application of a side, given its first `(`: the arguments after it end at the last `)`, or at the end of the side without one
abbrev pub side_by : List ℕ → Option (List ℕ × List ℕ) → CallOf
side_by side None = call_of side []
side_by side (Some cut) = call_of (trim cut.0) (unwrap_or (before_last (byte ")") cut.1) cut.1)

-- the application of a side, `NAME` or `NAME(ARGUMENTS)`
abbrev pub side_call : List ℕ → CallOf
side_call side = side_by (trim side) (cut_once (byte "(") (trim side))

-- the applications of `SIDE:SIDE` or of one side, given the first `:` outside parentheses
abbrev pub side_calls : List ℕ → Option (List ℕ × List ℕ) → List CallOf
side_calls sides None = side_call sides ∷ []
side_calls sides (Some cut) = side_call cut.0 ∷ side_call cut.1 ∷ []

-- the application that `NAME,ARGUMENTS` names, given its first comma outside parentheses
abbrev pub old_by : List ℕ → Option (List ℕ × List ℕ) → CallOf
old_by text None = call_of (trim text) []
old_by text (Some cut) = call_of (trim cut.0) cut.1

-- the application of the old form `CONDITION,NAME,ARGUMENTS`, given its first comma outside parentheses
abbrev pub old_calls : Option (List ℕ × List ℕ) → List CallOf
old_calls None = []
old_calls (Some cut) = old_by cut.1 (cut_outside (byte ",") cut.1) ∷ []

-- the applications that an `ExecIf` may run, given its first `?`, which ends the condition; without one, or if a comma outside parentheses
-- comes before it, the arguments have the old form
abbrev pub calls_by : List ℕ → Option (List ℕ × List ℕ) → List CallOf
calls_by arguments None = old_calls (cut_outside (byte ",") arguments)
calls_by arguments (Some cut) =
    if is_some (cut_outside (byte ",") cut.0) then old_calls (cut_outside (byte ",") arguments)
    else side_calls cut.1 (cut_outside (byte ":") cut.1)

-- the applications that an `ExecIf` with these arguments may run, in their order; a side without an application has an empty name
unfoldable pub exec_if_calls : List ℕ → List CallOf
exec_if_calls arguments = calls_by arguments (cut_once (byte "?") arguments)
