use Rattle.std.proofs.Common.{sym, subst}
use Rattle.std.specs.List.{flat_map, list_any}
use Rattle.std.proofs.lemmas.List.{drop_all}
use Rattle.dp_audit.specs.Labels.{Notes, computes, names}
use Rattle.dp_audit.proofs.LabelsLemmas.{notes_next, notes_none}
use Rattle.dp_audit.proofs.labels.Named.note_entries.Goals as goal

pub loop-entry-preserved : goal.loop-entry-preserved
loop-entry-preserved c last rest =
    c.loop-entry.invariant last
    (notes_next c.loop-entry.self c.note_entry.new.self last c.args.entries.now c.loop-entry.entry-index c.entry-item.result c.loop-entry-test.true
    (sym c.entry-item.is) c.in_ok-note_entry.ensures rest)

pub returns : goal.returns
returns c =
    c.loop-entry.invariant c.loop-entry.self
    (subst (λ left. Notes c.loop-entry.self c.loop-entry.self (list_any computes left) (flat_map names left))
    (sym (drop_all c.loop-entry.entry-index c.args.entries.now c.loop-entry-test.false)) (notes_none c.loop-entry.self))
