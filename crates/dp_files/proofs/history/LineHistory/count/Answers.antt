use Rattle.std.proofs.Common.{◌≡◌, ℕ, List, ap, ◌∙◌, Bor}
use Rattle.std.specs.Option.{option_map}
use Rattle.dp_files.specs.ContextSteps.{last_extension, with_label}
use Rattle.dp_files.proofs.HistoryLemmas.{history_after_number}
use Rattle.dp_files.proofs.history.LineHistory.count.Goals as goal

-- the label is added to those of the extension
pub returns : goal.returns
returns c =
    let own = option_map {T = Bor (List ℕ)} {U = List ℕ} (λ label. label.now) c.args.label in
    let old = c.args.self.now in
    let added : c.add_label.new.labels.entries ≡ with_label old.labels.entries c.args.extension.spelling c.args.number own =
    c.in_ok-add_label.ensures ∙ ap (λ (spelling : List ℕ). with_label old.labels.entries spelling c.args.number own) c.bytes.ensures in
    history_after_number old.number (last_extension old.extension) old.is_after_hint old.labels.entries c.add_label.new.labels.entries c.args.extension c.args.number own added
