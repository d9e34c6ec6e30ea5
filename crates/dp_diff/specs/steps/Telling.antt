-- How differences are told one after another, with lines that wait between the writes.
use Rattle.std.specs.Prelude.{◌≡◌, ℕ, ◌+◌, ◌-◌, ◌^◌, min, Bool, ◌||◌, List, [], ◌++◌, if◌then◌else◌, length, Option, None, Some, ⊤, Result, Ok, Err}
use Rattle.dp_conf.specs.Fronts.{AppendsFront, IsFront}
use Rattle.dp_plan.specs.Plan.{PlanOf, is_named}
use Rattle.dp_diff.specs.Differences.{Difference, names_of}
use Rattle.dp_diff.specs.Faults.{is_write_fault}
use Rattle.dp_diff.specs.Printing.{text_of}
use Rattle.dp_diff.specs.declared.fault.DiffFault.{DiffFault}

-- the lines that wait, and how many differences were told
pub record SheetOf : Type 0 where
  pub waiting : List ℕ
  pub count : ℕ

-- a writer: what it contains, if that is known, and whether a write has failed
pub record WriterOf : Type 0 where
  pub contents : Option (List ℕ)
  pub failed : Bool

-- a writer that contains this
abbrev pub writer_of : Option (List ℕ) → Bool → WriterOf
writer_of contents failed = record { contents = contents; failed = failed }

-- a number up to the greatest one of 64 bits
abbrev pub capped_number : ℕ → ℕ
capped_number number = min number (2 ^ 64 - 1)

-- what was written stays as a prefix, and together with what waits it is the same as before, followed by these bytes
abbrev pub Flows : Option (List ℕ) → List ℕ → Option (List ℕ) → List ℕ → List ℕ → Type 0
Flows None waited new waits bytes = ⊤
Flows (Some xs) waited None waits bytes = ⊥
Flows (Some xs) waited (Some ys) waits bytes = (ys ++ waits ≡ xs ++ (waited ++ bytes)) × IsFront xs ys

-- the differences were told: their lines are written or wait, and they are counted
pub record HasTold (w : WriterOf) (s : SheetOf) (v : WriterOf) (t : SheetOf) (told : List Difference) : Type 0 where
  pub flowed : Flows w.contents s.waiting v.contents t.waiting (text_of told)
  pub counted : (number : ℕ) → s.count ≡ capped_number number → t.count ≡ capped_number (number + length told)
  pub sound : v.failed ≡ w.failed

-- telling them failed: only a prefix of what waited and of their lines is written
pub record HasFailed (w : WriterOf) (s : SheetOf) (v : WriterOf) (told : List Difference) (fault : DiffFault) : Type 0 where
  pub written : AppendsFront w.contents v.contents (s.waiting ++ text_of told)
  pub failed : v.failed ≡ (w.failed || is_write_fault fault)

-- the outcome of telling differences
abbrev pub Tells : {X : Type 0} → WriterOf → SheetOf → WriterOf → SheetOf → List Difference → Result X DiffFault → Type 0
Tells w s v t told (Ok x) = HasTold w s v t told
Tells w s v t told (Err fault) = HasFailed w s v told fault

-- the differences in a context that the dialplan does not have
abbrev pub new_in : (List ℕ → List Difference) → PlanOf → List ℕ → List Difference
new_in differences_of plan name = if is_named (names_of plan) name then [] else differences_of name
