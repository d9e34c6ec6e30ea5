-- The results of loading, stage by stage.
use Rattle.std.proofs.Common.{List, [], Result, Ok}
use Rattle.dp_conf.specs.Answers.{◌>>=◌}
use Rattle.dp_conf.specs.Lines.{LineOf, LineFault}
use Rattle.dp_plan.specs.Faults.{text_fault}
use Rattle.dp_plan.specs.Items.{items_after}
use Rattle.dp_plan.specs.Plan.{PlanOf, plan_of, notes_of}
use Rattle.dp_plan.specs.declared.fault.LoadFault.{LoadFault}
use Rattle.dp_plan.specs.Item.{Item}
use Rattle.dp_plan.specs.declared.note.Note.{Note}

-- the dialplan of readings, if all gave items
abbrev pub of_items : Result (List Item) LoadFault → Result (PlanOf × List Note) LoadFault
of_items read = read >>= λ items. Ok (plan_of items, notes_of items)

-- the dialplan of lines that were read
abbrev pub of_lines : Result (List LineOf) LineFault → Result (PlanOf × List Note) LoadFault
of_lines lines = text_fault lines >>= λ ls. of_items (items_after [] ls)
