-- What is known of names over the functions of the wide table.
use Rattle.dp_pieces.specs.NamesAt.{names_of}
use Rattle.dp_pieces.specs.Texts.{GroupMeaning}
use Rattle.dp_wide_pieces.specs.WideTexts.{wide_group_pieces}
use Rattle.dp_wide_pieces.specs.declared.wide_names.WideNamesAt.{WideNamesAt}

-- the pieces of groups, given those of their bodies
abbrev pub groups_of : WideNamesAt → GroupMeaning
groups_of wide = wide_group_pieces (names_of wide.names)
