-- The number and the printed name of each fault of a name.
use Rattle.std.specs.Prelude.{ℕ, List, codes}
use Rattle.dp_pattern.specs.declared.fault.PatternFault.{PatternFault}
use Rattle.dp_pattern.specs.declared.fault.PatternFault.TheVariants.{Name, NoMemory}
use Rattle.dp_pattern.specs.declared.fault.NameFault.{NameFault}
use Rattle.dp_pattern.specs.declared.fault.NameFault.TheVariants.{EmptyName, EmptySet, BadRange, OpenSet, AfterWildcard, BadByte}

-- the number of a fault
abbrev pub name_code : NameFault → ℕ
name_code EmptyName = 10
name_code EmptySet = 11
name_code BadRange = 12
name_code OpenSet = 13
name_code AfterWildcard = 14
name_code BadByte = 15

-- the printed name of a fault, next to its number
abbrev pub fault_name : NameFault → List ℕ
fault_name EmptyName = codes "EmptyName"
fault_name EmptySet = codes "EmptySet"
fault_name BadRange = codes "BadRange"
fault_name OpenSet = codes "OpenSet"
fault_name AfterWildcard = codes "AfterWildcard"
fault_name BadByte = codes "BadByte"

-- what is printed if a text could not be read
abbrev pub pattern_fault_text : PatternFault → List ℕ
pattern_fault_text (Name fault) = fault_name fault
pattern_fault_text NoMemory = codes "out of memory"
