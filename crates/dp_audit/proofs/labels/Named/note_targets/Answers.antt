use Rattle.std.specs.Option.{option_map, option_to_list}
use Rattle.dp_audit.proofs.LabelsLemmas.{notes_texts}
use Rattle.dp_audit.proofs.labels.Named.note_targets.Goals as goal

pub returns : goal.returns
returns c =
    notes_texts c.args.jump c.args.self.now c.note_side.new.self c.note_side-2.new.self
    (option_to_list (option_map (λ text. text.now) c.args.targets.first)) (option_to_list (option_map (λ text. text.now) c.args.targets.second))
    c.in_ok-note_side.ensures c.in_ok-note_side-2.ensures
