-- Items of lines that own their texts.
use Rattle.dp_conf.specs.Lines.{LineOf, Header, Pair}
use Rattle.dp_conf.specs.declared.conf_line.ConfLine.{ConfLine}
use Rattle.dp_conf.specs.declared.conf_line.ConfLine.TheVariants.{Header as header_kept, Pair as pair_kept}

-- the item with its texts
abbrev pub line_of : ConfLine → LineOf
line_of (header_kept line name) = Header line name
line_of (pair_kept line key value) = Pair line key value
