-- What is known of names, given a table and the shapes of the channel's context and extension.
use Rattle.dp_pieces.specs.Names.{Names}
use Rattle.dp_pieces.specs.Shown.{shown_all}
use Rattle.dp_pieces.specs.Tables.{names_by}
use Rattle.dp_pieces.specs.declared.names_at.NamesAt.{NamesAt}

-- what is known of them
abbrev pub names_of : NamesAt → Names
names_of at = names_by at.table.now (shown_all at.context.now) (shown_all at.exten.now)
