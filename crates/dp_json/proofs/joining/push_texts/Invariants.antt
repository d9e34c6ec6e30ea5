use Rattle.std.proofs.Common.{◌≡◌, ◌++◌, drop}
use Rattle.std.specs.List.{flat_map}
use Rattle.dp_json.specs.Joining.{behind_separator}
use Rattle.dp_json.proofs.joining.push_texts.Given as goal

-- with the rest, all texts are added
abbrev pub invariant-loop-text : goal.invariant-loop-text
invariant-loop-text l =
    l.out.items ++ flat_map (behind_separator l.separator) (drop l.text-index l.texts) ≡ l.fn.out.items ++ flat_map (behind_separator l.separator) l.texts
