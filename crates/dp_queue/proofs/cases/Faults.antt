-- All faults of a file of queues, computed from the definitions themselves.
use Rattle.std.proofs.Common.{◌≡◌, [], ◌∷◌, ◌++◌, Ok, Err, refl}
use Rattle.std.specs.Prelude.{codes}
use Rattle.dp_conf.specs.Levels.{parts_of}
use Rattle.dp_conf.specs.Lines.{lines_of}
use Rattle.dp_conf.specs.declared.fault.LineKind.TheVariants.{NoEquals}
use Rattle.dp_queue.specs.AllFaults.{faults_in}
use Rattle.dp_queue.specs.Keys.{setting_of}
use Rattle.dp_queue.specs.declared.fault.QueueFault.TheVariants.{Line}
use Rattle.dp_queue.specs.declared.fault.QueueLoadKind.TheVariants.{Conf, Queue}
use Rattle.dp_queue.specs.declared.fault.QueueKind.TheVariants.{BadStrategy, BadNumber, LeftOut, DoubleQueue}

faults_in-empty : faults_in [] ≡ Ok []
unfolding faults_in lines_of
faults_in-empty = refl

-- those of lines of each kind, and of the last line
faults_in-kinds : faults_in (codes "[q]" ++ 10 ∷ codes "strategy=x" ++ 10 ∷ codes "maxlen=1" ++ 10 ∷ codes "maxlen=x" ++ 10 ∷ codes "joinempty=x")
    ≡ Ok (Line 2 (Queue BadStrategy) ∷ Line 4 (Queue BadNumber) ∷ Line 5 (Queue LeftOut) ∷ [])
unfolding faults_in lines_of setting_of
faults_in-kinds = refl

faults_in-members : faults_in (codes "[q]" ++ 10 ∷ codes "member=A,x" ++ 10 ∷ codes "member=A") ≡ Ok (Line 2 (Queue BadNumber) ∷ [])
unfolding faults_in lines_of setting_of parts_of
faults_in-members = refl

-- the pairs after a second header with one name are those of the section before it
faults_in-double : faults_in (codes "[q]" ++ 10 ∷ codes "[q]" ++ 10 ∷ codes "maxlen=x") ≡ Ok (Line 2 (Queue DoubleQueue) ∷ Line 3 (Queue BadNumber) ∷ [])
unfolding faults_in lines_of setting_of
faults_in-double = refl

faults_in-double_general : faults_in (codes "[q]" ++ 10 ∷ codes "[general]" ++ 10 ∷ codes "[q]" ++ 10 ∷ codes "maxlen=x") ≡ Ok (Line 3 (Queue DoubleQueue) ∷ [])
unfolding faults_in lines_of setting_of
faults_in-double_general = refl

-- a fault of the text is the only one
faults_in-text : faults_in (codes "[q]" ++ 10 ∷ codes "maxlen=x" ++ 10 ∷ codes "abc") ≡ Err (Line 3 (Conf NoEquals))
unfolding faults_in lines_of
faults_in-text = refl
