-- A step of the code: the three conditions for entries in a look-up, as one function. With the tests of these
-- conditions `found_by` gives `found_entry`, `found_label` and `goes_on_more` of FoundEntry.
use Rattle.std.specs.Prelude.{ℕ, Bool, List}
use Rattle.dp_plan.specs.declared.entry.Entry.{Entry}
use Rattle.dp_lookup.specs.FoundEntry.{has_priority, has_label, begins_later}
use Rattle.dp_lookup.specs.declared.look_up.LookUp.{LookUp}
use Rattle.dp_lookup.specs.declared.look_up.LookUp.TheVariants.{Priority, Label, More}

-- whether the entry meets the condition
abbrev pub asks : LookUp → List ℕ → Entry → Bool
asks (Priority number) text entry = has_priority text number entry
asks (Label label) text entry = has_label text label.now entry
asks More text entry = begins_later text entry
