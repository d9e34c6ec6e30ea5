-- The numbers of the faults, the names printed next to them, and the text of a fault at a line.
use Rattle.std.specs.Prelude.{ℕ, List, ◌++◌, Option, Some, None, codes, decimal}
use Rattle.dp_conf.specs.declared.fault.ConfFault.{ConfFault}
use Rattle.dp_conf.specs.declared.fault.ConfFault.TheVariants.{At, NoMemory as conf_no_memory}
use Rattle.dp_conf.specs.declared.fault.LineKind.{LineKind}
use Rattle.dp_conf.specs.declared.fault.LineKind.TheVariants.{BlockComment, NoSection, BadHeader, NoEquals, Directive, Template}
use Rattle.dp_conf.specs.declared.fault.ReadFault.{ReadFault}
use Rattle.dp_conf.specs.declared.fault.ReadFault.TheVariants.{ReadFailed, TooLong, NoMemory}

-- the number of a line's fault
abbrev pub line_code : LineKind → ℕ
line_code BlockComment = 1
line_code NoSection = 2
line_code BadHeader = 3
line_code NoEquals = 4
line_code Directive = 5
line_code Template = 6

-- the printed name of a line's fault
abbrev pub line_name : LineKind → List ℕ
line_name BlockComment = codes "BlockComment"
line_name NoSection = codes "NoSection"
line_name BadHeader = codes "BadHeader"
line_name NoEquals = codes "NoEquals"
line_name Directive = codes "Directive"
line_name Template = codes "Template"

-- what is printed if a text could not be read as lines
abbrev pub conf_fault_text : ConfFault → List ℕ
conf_fault_text (At line kind) = line_name kind ++ codes " line " ++ decimal line
conf_fault_text conf_no_memory = codes "out of memory"

-- the number of a reader's fault; out-of-memory has none
abbrev pub read_code : ReadFault → Option ℕ
read_code ReadFailed = Some 7
read_code TooLong = Some 8
read_code NoMemory = None

-- the printed name of a reader's fault
abbrev pub read_name : ReadFault → List ℕ
read_name ReadFailed = codes "ReadFailed"
read_name TooLong = codes "TooLong"
read_name NoMemory = codes "out of memory"

-- the number of a writer's fault
abbrev pub write_code : ℕ
write_code = 9

-- the printed name of a writer's fault
abbrev pub write_name : List ℕ
write_name = codes "WriteFailed"
