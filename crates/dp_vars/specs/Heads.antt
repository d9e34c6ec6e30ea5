-- The values of variables and functions, given the places of their names in the text.
use Rattle.std.specs.Prelude.{ℕ, ◌^◌, List, [], Some, length, nat_lt, if◌then◌else◌}
use Rattle.dp_vars.specs.Functions.{FunctionTable}
use Rattle.dp_vars.specs.Parts.{asked_of, part}
use Rattle.dp_vars.specs.Sights.{Sight}
use Rattle.dp_vars.specs.Spans.{text_at}
use Rattle.dp_vars.specs.Unknown.{unknown_calls}
use Rattle.dp_vars.specs.Values.{function_name}
use Rattle.dp_vars.specs.declared.head.Head.{Head}
use Rattle.dp_vars.specs.declared.head.Head.TheVariants.{Name, Call, Other, Empty}
use Rattle.dp_vars.specs.declared.head.CutPart.{CutPart}

-- the value of a variable or of a function, given the place of its name or its argument in the text
abbrev pub head_seen : FunctionTable → Sight → List ℕ → Head → List ℕ
head_seen functions sight text (Name name) = functions.variable sight (text_at text name)
head_seen functions sight text (Call function argument) = functions.value sight (function_name function) (text_at text argument)
head_seen functions sight text (Other name argument) = functions.value sight (text_at text name) (text_at text argument)
head_seen functions sight text Empty = []

-- the name or the call of the head, if it is not known
abbrev pub unknown_seen : FunctionTable → Sight → List ℕ → Head → List ℕ
unknown_seen functions sight text head = head_seen (unknown_calls functions sight) sight text head

-- the requested part of a value whose length fits into 64 bits; for any other value, the part that the text after the cut requests
abbrev pub part_seen : List ℕ → CutPart → List ℕ → List ℕ
part_seen text cut value =
    if nat_lt (length value) (2 ^ 64) then part cut.asked value else part (asked_of (Some (text_at text cut.tail))) value
