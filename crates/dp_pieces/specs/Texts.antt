-- The pieces of an unexpanded text.
use Rattle.std.specs.Prelude.{ℕ, List, [], ◌∷◌, ◌++◌, Option, Some, None, if◌then◌else◌}
use Rattle.dp_conf.specs.Groups.{Reading, Over, Plain, Group}
use Rattle.dp_conf.specs.GroupsRead.{reading_of}
use Rattle.dp_conf.specs.Levels.{cut_outside}
use Rattle.dp_conf.specs.declared.groups.GroupKind.{GroupKind}
use Rattle.dp_conf.specs.declared.groups.GroupKind.TheVariants.{Braces, Brackets}
use Rattle.dp_pieces.specs.Bytes.{Bytes, either, numeric}
use Rattle.dp_pieces.specs.Cuts.{cut_known}
use Rattle.dp_pieces.specs.Names.{Names, any_argument_set, body_by}
use Rattle.dp_pieces.specs.Pieces.{Known, PieceOf, bytes_in, text_known, any_bytes_of, pieces_set}
use Rattle.dp_vars.specs.Values.{function_of}

-- the bytes of a text in braces that is known up to its first `(`: a function with an unknown argument
abbrev pub begun_set : Names → List ℕ → Bytes
begun_set names name = if bytes_in name 58 then names.all else any_argument_set names (function_of name)

-- and its pieces
abbrev pub called_pieces : Names → List ℕ → List PieceOf
called_pieces names name = any_bytes_of (begun_set names name)

-- a text in braces that is unknown may name anything, or is partly known
abbrev pub unknown_pieces : Names → Option (List ℕ × List PieceOf) → List PieceOf
unknown_pieces names None = any_bytes_of names.all
unknown_pieces names (Some cut) = called_pieces names cut.0

-- a text in braces
abbrev pub braces_pieces : Names → List PieceOf → Option (List ℕ) → List PieceOf
braces_pieces names pieces None = unknown_pieces names (cut_known 40 pieces)
braces_pieces names pieces (Some body) = body_by names body (cut_outside 58 body)

-- a group, given its body: the value of an expression is a number or a part of its text
abbrev pub group_pieces : Names → GroupKind → List PieceOf → List PieceOf
group_pieces names Braces body = braces_pieces names body (text_known body)
group_pieces names Brackets body = any_bytes_of (either (pieces_set body) numeric)

-- the pieces of a group, given those of its body
abbrev pub GroupMeaning : Type 0
GroupMeaning = GroupKind → List PieceOf → List PieceOf

-- the pieces of a reading, given the meaning of its groups
unfoldable pub pieces_by : GroupMeaning → Reading → List PieceOf
pieces_by groups Over = []
pieces_by groups (Plain byte rest) = Known byte ∷ pieces_by groups rest
pieces_by groups (Group kind inside rest) = groups kind (pieces_by groups inside) ++ pieces_by groups rest

-- the pieces of a reading, given what is known of the names
abbrev pub pieces_of : Names → Reading → List PieceOf
pieces_of names = pieces_by (group_pieces names)

-- the pieces of a text
abbrev pub text_pieces : Names → List ℕ → List PieceOf
text_pieces names text = pieces_of names (reading_of text)

-- the bytes of a text
abbrev pub text_set : Names → List ℕ → Bytes
text_set names text = pieces_set (text_pieces names text)
