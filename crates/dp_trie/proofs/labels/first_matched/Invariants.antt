use Rattle.std.proofs.Common.{◌≡◌, drop}
use Rattle.std.specs.List.{find}
use Rattle.dp_pattern.specs.Dashes.{without_dashes}
use Rattle.dp_trie.specs.steps.Labels.{is_matched}
use Rattle.dp_trie.specs.declared.labels.Holder.{Holder}
use Rattle.dp_trie.proofs.labels.first_matched.Given as goal

abbrev pub invariant-loop-holder : goal.invariant-loop-holder
invariant-loop-holder l =
    find (λ (holder : Holder). is_matched (without_dashes l.digits.text.now) holder.name) (drop l.holder-index l.holders)
    ≡ find (λ (holder : Holder). is_matched (without_dashes l.digits.text.now) holder.name) l.holders
