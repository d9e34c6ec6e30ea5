-- What is unknown in a text for a table of functions: the text itself, if the table reads other groups in it, or the first name, call or
-- expression that the table does not know, in the order in which groups are expanded. As a text this is empty if all are known; a call and
-- an expression never are.
use Rattle.std.specs.Prelude.{ℕ, false, true, ◌&&◌, not, List, [], ◌∷◌, ◌++◌, Option, Some, None, if◌then◌else◌}
use Rattle.std.specs.Option.{option_or}
use Rattle.dp_conf.specs.Groups.{Reading, Over, Plain, Group}
use Rattle.dp_conf.specs.GroupsRead.{reading_of}
use Rattle.dp_conf.specs.Levels.{cut_outside}
use Rattle.dp_conf.specs.declared.groups.GroupKind.{GroupKind}
use Rattle.dp_conf.specs.declared.groups.GroupKind.TheVariants.{Braces, Brackets}
use Rattle.dp_expr.specs.declared.reading.ExpressionReading.{ExpressionReading}
use Rattle.dp_expr.specs.declared.reading.ExpressionReading.TheVariants as readings
use Rattle.dp_vars.specs.Functions.{FunctionTable}
use Rattle.dp_vars.specs.Openings.{has_opening}
use Rattle.dp_vars.specs.Sights.{Sight}
use Rattle.dp_vars.specs.Values.{expansion_of_with, head_value_with}

-- the first nonempty one of two texts
abbrev pub earlier : List ℕ → List ℕ → List ℕ
earlier [] later = later
earlier (byte ∷ bytes) later = byte ∷ bytes

-- a text that is not empty
abbrev pub any_text : List ℕ → Option (List ℕ)
any_text [] = None
any_text (byte ∷ bytes) = Some (byte ∷ bytes)

-- a call as written in a text: the name, and the argument in parentheses
abbrev pub call_text : List ℕ → List ℕ → List ℕ
call_text name argument = name ++ 40 ∷ (argument ++ 41 ∷ [])

-- a call that the table does not know
abbrev pub unknown_call : FunctionTable → Sight → List ℕ → List ℕ → List ℕ
unknown_call functions sight name argument = if functions.knows sight name argument then [] else call_text name argument

-- a name that the table does not know
abbrev pub unknown_name : FunctionTable → Sight → List ℕ → List ℕ
unknown_name functions sight name = if functions.knows_name sight name then [] else name

-- the table in which the value of each name and of each call is the name or the call itself if it is not known, and empty if it is
abbrev pub unknown_calls : FunctionTable → Sight → FunctionTable
unknown_calls functions sight = record {
  value = λ unused name argument. unknown_call functions sight name argument;
  knows = λ unused name argument. true;
  variable = λ unused name. unknown_name functions sight name;
  knows_name = λ unused name. true;
  reads = functions.reads;
  expression = functions.expression;
  target = functions.target;
}

-- a head that is a name or a call that is not known
abbrev pub unknown_head : FunctionTable → Sight → List ℕ → List ℕ
unknown_head functions sight head = head_value_with (unknown_calls functions sight) sight head

-- the unknown head of a body, which may be cut
abbrev pub unknown_body : FunctionTable → Sight → List ℕ → Option (List ℕ × List ℕ) → List ℕ
unknown_body functions sight body None = unknown_head functions sight body
unknown_body functions sight body (Some cut) = unknown_head functions sight cut.0

-- an expression as written in a text
abbrev pub expression_text : List ℕ → List ℕ
expression_text body = 36 ∷ 91 ∷ (body ++ 93 ∷ [])

-- an expression that is not known, given how the table reads it
abbrev pub unknown_expression : ExpressionReading → List ℕ → List ℕ
unknown_expression readings.Value body = []
unknown_expression readings.Zero body = []
unknown_expression readings.Unknown body = expression_text body

-- the head of a group in braces, or the expression in brackets, given its expanded body
unfoldable pub unknown_group : FunctionTable → Sight → GroupKind → List ℕ → List ℕ
unknown_group functions sight Braces body = unknown_body functions sight body (cut_outside 58 body)
unknown_group functions sight Brackets body = unknown_expression (functions.expression body) body

-- the first one in a reading: what is inside a group comes before the group, and what comes after it follows
unfoldable pub unknown_of : FunctionTable → Sight → Reading → List ℕ
unknown_of functions sight Over = []
unknown_of functions sight (Plain byte rest) = unknown_of functions sight rest
unknown_of functions sight (Group kind inside rest) =
    earlier (unknown_of functions sight inside)
    (earlier (unknown_group functions sight kind (expansion_of_with functions sight inside)) (unknown_of functions sight rest))

-- a text in which the table reads different groups than this program does
abbrev pub read_otherwise : FunctionTable → List ℕ → Option (List ℕ)
read_otherwise functions text = if has_opening text && not (functions.reads text) then Some text else None

-- the first one in the groups of a text, if there is one
abbrev pub unknown_in_groups : FunctionTable → Sight → List ℕ → Option (List ℕ)
unknown_in_groups functions sight text = any_text (unknown_of functions sight (reading_of text))

-- the text itself, if it is read with other groups, or the first one in its groups
abbrev pub first_unknown : FunctionTable → Sight → List ℕ → Option (List ℕ)
first_unknown functions sight text = option_or (read_otherwise functions text) (unknown_in_groups functions sight text)
