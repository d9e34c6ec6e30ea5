-- Whether a head is known, and its name if it is not.
use Rattle.std.specs.Prelude.{ℕ, Bool, true, List, [], Option, Some, None}
use Rattle.dp_conf.specs.Cut.{before_last, cut_once}
use Rattle.dp_vars.specs.Functions.{FunctionTable}
use Rattle.dp_vars.specs.Sights.{Sight}
use Rattle.dp_vars.specs.Spans.{text_at}
use Rattle.dp_vars.specs.Unknown.{call_text}
use Rattle.dp_vars.specs.Values.{function_name}
use Rattle.dp_vars.specs.declared.head.Head.{Head}
use Rattle.dp_vars.specs.declared.head.Head.TheVariants.{Name, Call, Other, Empty}

-- the name of a call, given its name and its argument; one whose argument has no end has no name, because it is always known
abbrev pub call_name : List ℕ → Option (List ℕ) → List ℕ
call_name name None = []
call_name name (Some argument) = call_text name argument

-- the name of a head that may be cut at its `(`
abbrev pub head_name_by : List ℕ → Option (List ℕ × List ℕ) → List ℕ
head_name_by head None = head
head_name_by head (Some cut) = call_name cut.0 (before_last 41 cut.1)

-- the name of a head: that of a variable, or a call as written
unfoldable pub head_name : List ℕ → List ℕ
head_name head = head_name_by head (cut_once 40 head)

-- the head of a body that may be cut at its `:`
abbrev pub body_name : List ℕ → Option (List ℕ × List ℕ) → List ℕ
body_name body None = head_name body
body_name body (Some cut) = head_name cut.0

-- whether a call is known
abbrev pub knows_call : FunctionTable → Sight → List ℕ → Option (List ℕ) → Bool
knows_call functions sight name None = true
knows_call functions sight name (Some argument) = functions.knows sight name argument

-- whether a head is known that may be cut at its `(`
abbrev pub knows_head_by : FunctionTable → Sight → List ℕ → Option (List ℕ × List ℕ) → Bool
knows_head_by functions sight head None = functions.knows_name sight head
knows_head_by functions sight head (Some cut) = knows_call functions sight cut.0 (before_last 41 cut.1)

-- whether a head is known
unfoldable pub knows_head : FunctionTable → Sight → List ℕ → Bool
knows_head functions sight head = knows_head_by functions sight head (cut_once 40 head)

-- whether the head is known of a body that may be cut at its `:`
abbrev pub knows_body : FunctionTable → Sight → List ℕ → Option (List ℕ × List ℕ) → Bool
knows_body functions sight body None = knows_head functions sight body
knows_body functions sight body (Some cut) = knows_head functions sight cut.0

-- whether a head is known, given its place in the text
abbrev pub knows_seen : FunctionTable → Sight → List ℕ → Head → Bool
knows_seen functions sight text (Name name) = functions.knows_name sight (text_at text name)
knows_seen functions sight text (Call function argument) = functions.knows sight (function_name function) (text_at text argument)
knows_seen functions sight text (Other name argument) = functions.knows sight (text_at text name) (text_at text argument)
knows_seen functions sight text Empty = true

-- its name
abbrev pub name_seen : List ℕ → Head → List ℕ
name_seen text (Name name) = text_at text name
name_seen text (Call function argument) = call_text (function_name function) (text_at text argument)
name_seen text (Other name argument) = call_text (text_at text name) (text_at text argument)
name_seen text Empty = []
