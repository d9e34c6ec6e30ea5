use Rattle.std.proofs.Common.{◌≡◌, ◌++◌, drop, map}
use Rattle.dp_closed.specs.Shown.{shown_duties}
use Rattle.dp_reach.specs.Bounds.{tells}
use Rattle.dp_closed.proofs.waiting.push_texts.Given as goal

abbrev pub invariant-loop-text : goal.invariant-loop-text
invariant-loop-text l =
    shown_duties l.duties.items ++ tells l.name (map (λ text. text.now) (drop l.text-index l.texts)) ≡ shown_duties l.fn.duties.items ++ tells l.name (map (λ text. text.now) l.texts)
