use Rattle.std.proofs.Common.{◌≡◌, ◌++◌, drop}
use Rattle.std.specs.List.{list_any}
use Rattle.dp_pattern.specs.Dashes.{without_dashes}
use Rattle.dp_pattern.specs.Name.{is_bad}
use Rattle.dp_pattern.proofs.reading.short_of.Given as goal

abbrev pub invariant-loop-byte : goal.invariant-loop-byte
invariant-loop-byte l = record {
  kept : l.kept.items ++ without_dashes (drop l.byte-index l.text) ≡ without_dashes l.text;
  fine : list_any is_bad l.text ≡ list_any is_bad (drop l.byte-index l.text);
}
