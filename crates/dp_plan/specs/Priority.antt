-- The numbers that are priorities of entries.
use Rattle.std.specs.Prelude.{ℕ, ◌≤◌}
use Rattle.dp_conf.specs.Numbers.{most_priority}

-- the number is from 1 to the greatest priority
abbrev pub IsPriority : ℕ → Type 0
IsPriority number = (1 ≤ number) × (number ≤ most_priority)
