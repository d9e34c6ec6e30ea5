use Rattle.std.proofs.Common.{◌≡◌, ◌++◌, take}
use Rattle.std.specs.List.{flat_map}
use Rattle.dp_graph.specs.Labels.{character_text}
use Rattle.dp_graph.proofs.label.push_characters.Given as goal

-- the characters so far are added
abbrev pub invariant-loop-character : goal.invariant-loop-character
invariant-loop-character l = l.out.items ≡ l.fn.out.items ++ flat_map character_text (take l.character-index l.characters)
