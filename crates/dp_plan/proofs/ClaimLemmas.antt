-- An entry without a label takes no label.
use Rattle.std.proofs.Common.{◌≡◌, List, None, ap, sym}
use Rattle.std.proofs.lemmas.List.{append-nil}
use Rattle.dp_plan.specs.steps.Draft.{Drafted, with_label}
use Rattle.dp_plan.specs.declared.label.Label.{Label}

-- without a label no label is taken
pub no_label_is_taken : (d : Drafted) → d ≡ with_label d None
no_label_is_taken d = ap (λ (labels : List Label). record d { labels = labels }) (sym (append-nil d.labels))
