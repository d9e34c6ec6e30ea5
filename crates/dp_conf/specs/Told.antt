-- The wrapped reader or writer, whether one of its calls has failed, and how many times it was read.
use Rattle.std.specs.Prelude.{Bool, ℕ}
use Rattle.dp_conf.specs.declared.told.Told.{Told}

-- the wrapped reader or writer
abbrev pub told_inner : {T : Type 0} → Told T → T
told_inner told = told.inner

-- whether one of its calls has failed
abbrev pub told_failed : {T : Type 0} → Told T → Bool
told_failed told = told.failed

-- the number of reads so far
abbrev pub told_reads : {T : Type 0} → Told T → ℕ
told_reads told = told.reads
