use Rattle.std.proofs.Common.{sym, subst}
use Rattle.std.specs.List.{flat_map, list_any}
use Rattle.std.proofs.lemmas.List.{drop_all}
use Rattle.dp_audit.specs.Labels.{Notes, computes, entries_in, names}
use Rattle.dp_audit.proofs.LabelsLemmas.{notes_next_context, notes_none}
use Rattle.dp_audit.proofs.labels.Named.note_contexts.Goals as goal

pub loop-context-preserved : goal.loop-context-preserved
loop-context-preserved c last rest =
    c.loop-context.invariant last
    (notes_next_context c.loop-context.self c.note_entries.new.self last c.args.contexts.now c.loop-context.context-index c.context-item.result c.loop-context-test.true
    (sym c.context-item.is) (subst (λ es. Notes c.loop-context.self c.note_entries.new.self (list_any computes es) (flat_map names es)) c.entries.ensures c.in_ok-note_entries.ensures) rest)

pub returns : goal.returns
returns c =
    c.loop-context.invariant c.loop-context.self
    (subst (λ left. Notes c.loop-context.self c.loop-context.self (list_any computes (entries_in left)) (flat_map names (entries_in left)))
    (sym (drop_all c.loop-context.context-index c.args.contexts.now c.loop-context-test.false)) (notes_none c.loop-context.self))
