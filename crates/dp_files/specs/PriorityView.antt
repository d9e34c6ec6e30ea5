-- A step of the code: a priority as written in its line, as its texts.
use Rattle.std.specs.Option.{option_map}
use Rattle.dp_files.specs.Priorities as spec
use Rattle.dp_files.specs.declared.priority.Base.{Base}
use Rattle.dp_files.specs.declared.priority.Base.TheVariants.{Number, Next, Same, Label}
use Rattle.dp_files.specs.declared.priority.WrittenBase.{WrittenBase}
use Rattle.dp_files.specs.declared.priority.WrittenBase.TheVariants.{Hint, Counted}
use Rattle.dp_files.specs.declared.priority.WrittenPriority.{WrittenPriority}

-- a base
abbrev pub base_now : Base → spec.BaseOf
base_now (Number number) = spec.Number number
base_now Next = spec.Next
base_now Same = spec.Same
base_now (Label text) = spec.Label text.now

-- a priority without its label
abbrev pub written_now : WrittenBase → spec.WrittenBaseOf
written_now Hint = spec.Hint
written_now (Counted base more) = spec.Counted (base_now base) more

-- a priority with its label
abbrev pub priority_now : WrittenPriority → spec.WrittenPriorityOf
priority_now priority = record { written = written_now priority.written; label = option_map (λ label. label.now) priority.label }
