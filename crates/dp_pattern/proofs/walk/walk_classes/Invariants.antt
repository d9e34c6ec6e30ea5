use Rattle.std.proofs.Common.{◌≡◌, drop}
use Rattle.dp_pattern.specs.Dashes.{without_dashes}
use Rattle.dp_pattern.specs.Walk.{walk_after}
use Rattle.dp_pattern.proofs.walk.walk_classes.Given as goal

abbrev pub invariant-loop-class : goal.invariant-loop-class
invariant-loop-class l =
    walk_after (drop l.class-index l.classes) (without_dashes l.rest) ≡ walk_after l.classes (without_dashes l.fn.text)
