-- The pieces of an unexpanded text over the functions of the wide table.
use Rattle.std.specs.Prelude.{ℕ, List, Option, Some, None, codes, if◌then◌else◌}
use Rattle.dp_conf.specs.Cut.{before_last, cut_once}
use Rattle.dp_conf.specs.GroupsRead.{reading_of}
use Rattle.dp_conf.specs.Levels.{cut_outside}
use Rattle.dp_conf.specs.declared.groups.GroupKind.{GroupKind}
use Rattle.dp_conf.specs.declared.groups.GroupKind.TheVariants.{Braces, Brackets}
use Rattle.dp_vars.specs.Parts.{asked_of}
use Rattle.dp_vars.specs.Values.{function_of}
use Rattle.dp_vars.specs.declared.value.Function.{Function}
use Rattle.dp_vars.specs.declared.value.Function.TheVariants.{Global, Local, Len, CallerId, QueueWaitingCount}
use Rattle.dp_pieces.specs.Bytes.{Bytes, digits, either, none, numeric}
use Rattle.dp_pieces.specs.Names.{Names, part_pieces, variable_pieces}
use Rattle.dp_pieces.specs.Pieces.{PieceOf, any_bytes_of, bytes_in, pieces_set, text_known}
use Rattle.dp_pieces.specs.Texts.{pieces_by}
use Rattle.dp_wide.specs.Caller.{asks_all, asks_number}
use Rattle.dp_wide.specs.Cells.{cell_name}
use Rattle.dp_wide.specs.Functions.{is_computed}
use Rattle.dp_wide_pieces.specs.FunctionBytes.{function_bytes}

-- the bytes of `CALLERID` with an argument: the number, the name and the number, or a cell
abbrev pub caller_set : Names → List ℕ → Bytes
caller_set names argument =
    if asks_number argument then names.caller
    else (if asks_all argument then function_bytes names (bytes_in argument) else names.bytes (cell_name (codes "CALLERID") argument))

-- the bytes of one of the five functions of every dialplan
abbrev pub five_set : Names → Function → List ℕ → Bytes
five_set names Global argument = names.bytes argument
five_set names Local argument = names.bytes argument
five_set names Len argument = digits
five_set names CallerId argument = caller_set names argument
five_set names QueueWaitingCount argument = digits

-- the bytes of any other name with an argument: a computed function, or a cell
abbrev pub other_set : Names → List ℕ → List ℕ → Bytes
other_set names name argument =
    if is_computed name then function_bytes names (bytes_in argument) else names.bytes (cell_name name argument)

-- the bytes of a name with an argument
abbrev pub named_set : Names → Option Function → List ℕ → List ℕ → Bytes
named_set names None name argument = other_set names name argument
named_set names (Some function) name argument = five_set names function argument

-- the bytes of a function, given its name; a call without a `)` is empty
abbrev pub called_set : Names → List ℕ → Option (List ℕ) → Bytes
called_set names name None = none
called_set names name (Some argument) = named_set names (function_of name) name argument

-- a head, given its cut at the first `(`: a function with an argument, or a variable
abbrev pub head_by : Names → List ℕ → Option (List ℕ × List ℕ) → List PieceOf
head_by names head None = variable_pieces names head
head_by names head (Some cut) = any_bytes_of (called_set names cut.0 (before_last 41 cut.1))

-- a head: a name, or a function with its argument in parentheses
unfoldable pub wide_head_pieces : Names → List ℕ → List PieceOf
wide_head_pieces names head = head_by names head (cut_once 40 head)

-- a text in braces without groups: a head, or a head and the requested part of it
abbrev pub body_by : Names → List ℕ → Option (List ℕ × List ℕ) → List PieceOf
body_by names body None = wide_head_pieces names body
body_by names body (Some cut) = part_pieces (asked_of (Some cut.1)) (wide_head_pieces names cut.0)

-- a text in braces; one of which something is unknown may call any function with any of its bytes
abbrev pub braces_by : Names → List PieceOf → Option (List ℕ) → List PieceOf
braces_by names pieces None = any_bytes_of (function_bytes names (pieces_set pieces))
braces_by names pieces (Some body) = body_by names body (cut_outside 58 body)

-- a group, given its body: the value of an expression is a number or a part of its text
abbrev pub wide_group_pieces : Names → GroupKind → List PieceOf → List PieceOf
wide_group_pieces names Braces body = braces_by names body (text_known body)
wide_group_pieces names Brackets body = any_bytes_of (either (pieces_set body) numeric)

-- the pieces of a text
abbrev pub wide_text_pieces : Names → List ℕ → List PieceOf
wide_text_pieces names text = pieces_by (wide_group_pieces names) (reading_of text)
