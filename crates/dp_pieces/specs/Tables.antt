-- What is known of the values of names, as a table of sets.
use Rattle.std.specs.Prelude.{ℕ, List, []}
use Rattle.std.specs.Global.{Vec}
use Rattle.std.specs.Map.{lookup}
use Rattle.std.specs.Option.{unwrap_or}
use Rattle.dp_conf.specs.Words.{same_text}
use Rattle.dp_pieces.specs.Bytes.{Bytes, either}
use Rattle.dp_pieces.specs.Names.{Names}
use Rattle.dp_pieces.specs.Pieces.{PieceOf}
use Rattle.dp_pieces.specs.Sets.{set_by}

-- the entries of a table: names with their own sets
abbrev pub Entries : Type 0
Entries = List (Vec ℕ × List ℕ)

-- the own set of a name; a name without one has no bytes of its own
abbrev pub own_set : Entries → List ℕ → Bytes
own_set entries name = set_by (unwrap_or (lookup (λ key. same_text name key.items) entries) [])

-- the bytes of a name: its own, and those that each name has
abbrev pub name_set : Entries → List ℕ → List ℕ → Bytes
name_set entries shared name = either (set_by shared) (own_set entries name)

-- a table: the sets of names, those that each name has, those of the caller's number, and the bytes of any of these
pub record Table : Type 0 where
  pub own : Entries
  pub shared : List ℕ
  pub caller : List ℕ
  pub all : List ℕ

-- what a table knows of names, if the channel's context and extension have these shapes
abbrev pub names_by : Table → List PieceOf → List PieceOf → Names
names_by table context exten = record {
  bytes = λ name. name_set table.own table.shared name;
  exten = exten;
  context = context;
  caller = set_by table.caller;
  all = set_by table.all;
}

-- the same without a channel, and so without a context and an extension
abbrev pub names_in : Table → Names
names_in table = names_by table [] []
