-- What is known of the values of names, and the pieces of what a text in braces names.
use Rattle.std.specs.Prelude.{ℕ, List, [], Option, Some, None, codes, if◌then◌else◌}
use Rattle.std.specs.Option.{unwrap_or}
use Rattle.dp_conf.specs.Cut.{before_last, cut_once}
use Rattle.dp_conf.specs.Words.{same_text}
use Rattle.dp_vars.specs.Parts.{asked_of}
use Rattle.dp_vars.specs.Sights.{Sight}
use Rattle.dp_vars.specs.Values.{function_of}
use Rattle.dp_vars.specs.declared.part.Reach.{Reach}
use Rattle.dp_vars.specs.declared.part.Reach.TheVariants.{Ahead, Back}
use Rattle.dp_vars.specs.declared.part.Selection.{Selection}
use Rattle.dp_vars.specs.declared.part.Selection.TheVariants.{Whole, Part, Nothing}
use Rattle.dp_vars.specs.declared.value.Function.{Function}
use Rattle.dp_vars.specs.declared.value.Function.TheVariants.{Global, Local, Len, CallerId, QueueWaitingCount}
use Rattle.dp_pieces.specs.Bytes.{Bytes, IsPart, Within, digits, none}
use Rattle.dp_pieces.specs.Pieces.{Fits, PieceOf, front, any_bytes_of, pieces_set, without}

-- the bytes that the values of each name may have, the shapes of the channel's extension and context, the bytes of the caller's number, and
-- the bytes of any of these
pub record Names : Type 0 where
  pub bytes : List ℕ → Bytes
  pub exten : List PieceOf
  pub context : List PieceOf
  pub caller : Bytes
  pub all : Bytes

-- a variable: the channel's extension and context come before any other value of these names
abbrev pub variable_pieces : Names → List ℕ → List PieceOf
variable_pieces names name =
    if same_text name (codes "EXTEN") then names.exten
    else if same_text name (codes "CONTEXT") then names.context
    else any_bytes_of (names.bytes name)

-- the bytes of each are among those of all
pub record IsWhole (names : Names) : Type 0 where
  pub bytes : (name : List ℕ) → IsPart (names.bytes name) names.all
  pub exten : IsPart (pieces_set names.exten) names.all
  pub context : IsPart (pieces_set names.context) names.all
  pub caller : IsPart names.caller names.all
  pub digits : IsPart digits names.all

-- what is seen agrees with what is known
pub record IsWithin (names : Names) (sight : Sight) : Type 0 where
  pub variable : (name : List ℕ) → Fits (variable_pieces names name) (sight.variable name)
  pub held : (name : List ℕ) → Within (names.bytes name) (unwrap_or (sight.held name) [])
  pub global : (name : List ℕ) → Within (names.bytes name) (sight.global name)
  pub local : (name : List ℕ) → Within (names.bytes name) (sight.local name)
  pub caller : Within names.caller sight.caller
  pub whole : IsWhole names

-- the bytes of the caller's number, if that is requested
abbrev pub caller_set : Bytes → List ℕ → Bytes
caller_set caller argument = if same_text argument (codes "num") then caller else none

-- the bytes of a function with an argument
abbrev pub function_set : Names → Option Function → List ℕ → Bytes
function_set names None argument = none
function_set names (Some Global) argument = names.bytes argument
function_set names (Some Local) argument = names.bytes argument
function_set names (Some Len) argument = digits
function_set names (Some CallerId) argument = caller_set names.caller argument
function_set names (Some QueueWaitingCount) argument = digits

-- the bytes of a function, given its name; a call without a `)` is empty
abbrev pub called_set : Names → List ℕ → Option (List ℕ) → Bytes
called_set names name None = none
called_set names name (Some argument) = function_set names (function_of name) argument

-- the bytes of a function with any argument
abbrev pub any_argument_set : Names → Option Function → Bytes
any_argument_set names None = none
any_argument_set names (Some Global) = names.all
any_argument_set names (Some Local) = names.all
any_argument_set names (Some Len) = digits
any_argument_set names (Some CallerId) = names.caller
any_argument_set names (Some QueueWaitingCount) = digits

-- a head, given its cut at the first `(`: a function with an argument, or a variable
abbrev pub head_by : Names → List ℕ → Option (List ℕ × List ℕ) → List PieceOf
head_by names head None = variable_pieces names head
head_by names head (Some cut) = any_bytes_of (called_set names cut.0 (before_last 41 cut.1))

-- a head: a name, or a function with its argument in parentheses
unfoldable pub head_pieces : Names → List ℕ → List PieceOf
head_pieces names head = head_by names head (cut_once 40 head)

-- from an offset that counts from the front, to the end or this many bytes; a length that counts from the end gives bytes of the whole
abbrev pub part_ahead : ℕ → Option Reach → List PieceOf → List PieceOf
part_ahead offset None pieces = without offset pieces
part_ahead offset (Some (Ahead size)) pieces = front size (without offset pieces)
part_ahead offset (Some (Back size)) pieces = any_bytes_of (pieces_set pieces)

-- the requested part of a value
abbrev pub part_pieces : Selection → List PieceOf → List PieceOf
part_pieces Whole pieces = pieces
part_pieces (Part (Ahead offset) size) pieces = part_ahead offset size pieces
part_pieces (Part (Back offset) size) pieces = any_bytes_of (pieces_set pieces)
part_pieces Nothing pieces = []

-- a text in braces without groups: a head, or a head and the requested part of it
abbrev pub body_by : Names → List ℕ → Option (List ℕ × List ℕ) → List PieceOf
body_by names body None = head_pieces names body
body_by names body (Some cut) = part_pieces (asked_of (Some cut.1)) (head_pieces names cut.0)
