-- Areas and duties, as the definitions have them.
use Rattle.std.specs.Prelude.{List, map}
use Rattle.dp_closed.specs.declared.area.KeptArea as rust_area
use Rattle.dp_closed.specs.declared.duty.KeptDuty as rust
use Rattle.dp_closed.specs.declared.duty.KeptDuty.TheVariants.{Leads, Holds, HoldsAll, Calls, Waits, Anything}
use Rattle.dp_pieces.specs.Sets.{set_by}
use Rattle.dp_pieces.specs.Shown.{shown_all}
use Rattle.dp_reach.specs.Areas.{Area, area_at}
use Rattle.dp_reach.specs.Bounds as spec

-- an area, as its pieces
abbrev pub shown_area : rust_area.KeptArea → Area
shown_area area = area_at (shown_all area.context.items) (shown_all area.exten.items)

-- a duty, as its area, its name and its set
abbrev pub shown_duty : rust.KeptDuty → spec.Duty
shown_duty (Leads area) = spec.Leads (shown_area area)
shown_duty (Holds name set) = spec.Holds name.items (set_by set)
shown_duty (HoldsAll set) = spec.HoldsAll (set_by set)
shown_duty (Calls set) = spec.Calls (set_by set)
shown_duty Waits = spec.Waits
shown_duty Anything = spec.Anything

-- a list of duties
abbrev pub shown_duties : List rust.KeptDuty → List spec.Duty
shown_duties duties = map shown_duty duties
