-- Items and contents of lines whose texts borrow from the lines.
use Rattle.std.specs.Prelude.{ℕ, List, [], ◌∷◌, Option, Some, None, Result, Ok, Err, if◌then◌else◌}
use Rattle.dp_conf.specs.Blanks.{trim}
use Rattle.dp_conf.specs.Lines.{LineOf, Header, Pair, comment_of, opens_block, content_of}
use Rattle.dp_conf.specs.declared.fault.LineKind.{LineKind}
use Rattle.dp_conf.specs.declared.fault.LineKind.TheVariants.{BlockComment}
use Rattle.dp_conf.specs.declared.lines.Content.{Content}
use Rattle.dp_conf.specs.declared.lines.Content.TheVariants.{AsWritten, Unescaped}
use Rattle.dp_conf.specs.declared.lines.Line.{Line}
use Rattle.dp_conf.specs.declared.lines.Line.TheVariants.{Header as header_in, Pair as pair_in}

-- the item with its texts
abbrev pub line_now : Line → LineOf
line_now (header_in line name) = Header line name.now
line_now (pair_in line key value) = Pair line key.now value.now

-- the item, if there is one, as a list
abbrev pub lines_now : Option Line → List LineOf
lines_now None = []
lines_now (Some line) = line_now line ∷ []

-- the content of a line, without the blanks at its ends
abbrev pub content_now : Content → List ℕ
content_now (AsWritten text) = trim text.now
content_now (Unescaped bytes) = trim bytes.items

-- the content of a part, unless it has a block comment
abbrev pub content_read : List ℕ → Result (List ℕ) LineKind
content_read part = if opens_block (comment_of part) then Err BlockComment else Ok (content_of part)
