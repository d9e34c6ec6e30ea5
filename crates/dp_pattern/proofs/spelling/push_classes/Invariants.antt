use Rattle.std.proofs.Common.{◌≡◌, ◌++◌, take}
use Rattle.std.specs.List.{flat_map}
use Rattle.dp_pattern.specs.Spelling.{class_spelling}
use Rattle.dp_pattern.proofs.spelling.push_classes.Given as goal

abbrev pub invariant-loop-class : goal.invariant-loop-class
invariant-loop-class l =
    l.text.items ≡ l.fn.text.items ++ flat_map class_spelling (take l.class-index l.classes)
