use Rattle.std.proofs.Common.{sym}
use Rattle.dp_audit.specs.Unset.{entry_sets}
use Rattle.dp_audit.proofs.UnsetLemmas.{adds_end, adds_next}
use Rattle.dp_audit.proofs.unset_variables.SetNames.add_entries.Goals as goal

pub loop-entry-preserved : goal.loop-entry-preserved
loop-entry-preserved c last rest =
    c.loop-entry.invariant last
    (adds_next entry_sets c.loop-entry.self c.add_entry.new.self last c.args.entries.now c.loop-entry.entry-index c.entry-item.result
    c.loop-entry-test.true (sym c.entry-item.is) c.in_ok-add_entry.ensures rest)

pub returns : goal.returns
returns c = c.loop-entry.invariant c.loop-entry.self (adds_end entry_sets c.loop-entry.self c.args.entries.now c.loop-entry.entry-index c.loop-entry-test.false)
