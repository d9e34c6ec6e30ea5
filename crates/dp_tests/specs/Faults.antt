-- The printed names of the faults of test files.
use Rattle.std.specs.Prelude.{ℕ, List, Option, Some, None, codes}
use Rattle.dp_tests.specs.declared.fault.TestFault.{TestFault}
use Rattle.dp_tests.specs.declared.fault.TestFaultKind.{TestFaultKind}
use Rattle.dp_tests.specs.declared.fault.TestFaultKind.TheVariants.{BadLine, BadExpect, HeadTwice, HeadLate, NoDialplan, ExpectOutside, NoName}
use Rattle.dp_tests.specs.declared.fault.TestFaults.{TestFaults}
use Rattle.dp_tests.specs.declared.fault.TestFaults.TheVariants.{Faulty, NoMemory}

-- the printed name of a kind
abbrev pub kind_name : TestFaultKind → List ℕ
kind_name BadLine = codes "BadLine"
kind_name BadExpect = codes "BadExpect"
kind_name HeadTwice = codes "HeadTwice"
kind_name HeadLate = codes "HeadLate"
kind_name NoDialplan = codes "NoDialplan"
kind_name ExpectOutside = codes "ExpectOutside"
kind_name NoName = codes "NoName"

-- the faults of a file that could not be read; out of memory says nothing of them
abbrev pub reason_of : TestFaults → Option (List TestFault)
reason_of (Faulty faults) = Some faults
reason_of NoMemory = None
