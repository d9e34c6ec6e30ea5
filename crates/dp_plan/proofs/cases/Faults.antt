-- All faults of a text, computed from the definitions themselves.
use Rattle.std.proofs.Common.{◌≡◌, ℕ, zero, suc, List, [], ◌∷◌, ◌++◌, Ok, Err, refl}
use Rattle.std.specs.Prelude.{codes}
use Rattle.dp_conf.specs.Groups.{depth_of}
use Rattle.dp_conf.specs.GroupsRead.{levels, reading_of, nesting_of}
use Rattle.dp_conf.specs.Lines.{lines_of}
use Rattle.dp_conf.specs.declared.fault.LineKind.TheVariants.{NoEquals}
use Rattle.dp_pattern.specs.Name.{meaning_of}
use Rattle.dp_pattern.specs.Spelling.{spelling}
use Rattle.dp_pattern.specs.declared.fault.NameFault.TheVariants.{BadByte}
use Rattle.dp_plan.specs.AllFaults.{faults_of}
use Rattle.dp_plan.specs.EntryLine.{name_of, written_priority, application_of, exten_entry, same_entry}
use Rattle.dp_plan.specs.Items.{context_item}
use Rattle.dp_plan.specs.Faults.{plan_fault}
use Rattle.dp_plan.specs.declared.fault.LoadFault.TheVariants.{Line}
use Rattle.dp_plan.specs.declared.fault.LoadKind.TheVariants.{Conf, Pattern}
use Rattle.dp_plan.specs.declared.fault.PlanKind.TheVariants.{BadPriority, BadLabel, LeftOut, TooDeep, NoExten, NoPrevious, PriorityLimit, ShortLine}
use Rattle.dp_plan.specs.declared.fault.Word.TheVariants.{Switch}

faults_of-empty : faults_of [] ≡ Ok []
unfolding faults_of lines_of
faults_of-empty = refl

faults_of-none : faults_of (codes "[m]" ++ 10 ∷ codes "exten=s,1,A" ++ 10 ∷ codes "same=n,B") ≡ Ok []
unfolding faults_of lines_of exten_entry same_entry name_of meaning_of spelling written_priority application_of context_item nesting_of reading_of levels depth_of
faults_of-none = refl

-- those of lines of each kind, and of the last line
faults_of-kinds : faults_of (codes "[m]" ++ 10 ∷ codes "exten=s,0,A" ++ 10 ∷ codes "switch=x" ++ 10 ∷ codes "exten=s,1,A" ++ 10 ∷ codes "exten=a b,1,A" ++ 10 ∷ codes "exten=s,1")
    ≡ Ok (plan_fault 2 BadPriority ∷ plan_fault 3 (LeftOut Switch) ∷ Line 5 (Pattern BadByte) ∷ plan_fault 6 ShortLine ∷ [])
unfolding faults_of lines_of exten_entry same_entry name_of meaning_of spelling written_priority application_of context_item nesting_of reading_of levels depth_of
faults_of-kinds = refl

-- a `same` after a faulty `exten` continues the extension before that
faults_of-same : faults_of (codes "[m]" ++ 10 ∷ codes "exten=s,2147483646,A" ++ 10 ∷ codes "exten=t,0,B" ++ 10 ∷ codes "same=n,C" ++ 10 ∷ codes "same=n,D")
    ≡ Ok (plan_fault 3 BadPriority ∷ plan_fault 5 PriorityLimit ∷ [])
unfolding faults_of lines_of exten_entry same_entry name_of meaning_of spelling written_priority application_of context_item nesting_of reading_of levels depth_of
faults_of-same = refl

-- if there is none before it, it has a fault too
faults_of-same_first : faults_of (codes "[m]" ++ 10 ∷ codes "exten=t,0,B" ++ 10 ∷ codes "same=n,C") ≡ Ok (plan_fault 2 BadPriority ∷ plan_fault 3 NoExten ∷ [])
unfolding faults_of lines_of exten_entry same_entry name_of meaning_of spelling written_priority application_of context_item nesting_of reading_of levels depth_of
faults_of-same_first = refl

-- an `n` after a line with a fault counts on from the line before that
faults_of-next : faults_of (codes "[m]" ++ 10 ∷ codes "exten=s,2147483646,A" ++ 10 ∷ codes "exten=s,2147483647(),B" ++ 10 ∷ codes "exten=s,n,C" ++ 10 ∷ codes "exten=s,n,D")
    ≡ Ok (plan_fault 3 BadLabel ∷ plan_fault 5 PriorityLimit ∷ [])
unfolding faults_of lines_of exten_entry same_entry name_of meaning_of spelling written_priority application_of context_item nesting_of reading_of levels depth_of
faults_of-next = refl

faults_of-next_first : faults_of (codes "[m]" ++ 10 ∷ codes "exten=s,0,A" ++ 10 ∷ codes "exten=s,n,B") ≡ Ok (plan_fault 2 BadPriority ∷ plan_fault 3 NoPrevious ∷ [])
unfolding faults_of lines_of exten_entry same_entry name_of meaning_of spelling written_priority application_of context_item nesting_of reading_of levels depth_of
faults_of-next_first = refl

-- this many groups inside each other
nested : ℕ → List ℕ
nested zero = []
nested (suc depth) = codes "${" ++ (nested depth ++ codes "}")

faults_of-globals : faults_of (codes "[globals]" ++ 10 ∷ codes "A=" ++ nested 33 ++ 10 ∷ codes "B=1" ++ 10 ∷ codes "C=" ++ nested 33) ≡ Ok (plan_fault 2 TooDeep ∷ plan_fault 4 TooDeep ∷ [])
unfolding faults_of lines_of context_item nesting_of reading_of levels depth_of nested
faults_of-globals = refl

-- a fault of the text is the only one
faults_of-text : faults_of (codes "[m]" ++ 10 ∷ codes "exten=s,0,A" ++ 10 ∷ codes "abc" ++ 10 ∷ codes "exten=s,0,B") ≡ Err (Line 3 (Conf NoEquals))
unfolding faults_of lines_of context_item
faults_of-text = refl
