-- What is known of files and of the input, and the results of reading them whole.
use Rattle.std.specs.Prelude.{◌≡◌, ◌⊎◌, ℕ, Bool, true, false, List, Option, Some, None, Result, Ok, Err, IfErr}
use Rattle.std.specs.declared.io.ErrorKind.{ErrorKind}
use Rattle.std.specs.declared.io.ErrorKind.TheVariants.{OutOfMemory}
use Rattle.dp_conf.specs.Whole.{whole_of}
use Rattle.dp_conf.specs.declared.fault.ReadFault.{ReadFault}
use Rattle.dp_commands.specs.Faults.{fault_of_read}
use Rattle.dp_commands.specs.declared.fault.Code.TheVariants.{Line, Name, Plan, QueueLine, Queue, ReadFailed, TooLong, WriteFailed, Settle, BadScript, BadBreak}
use Rattle.dp_commands.specs.declared.fault.PbxFault.{PbxFault}
use Rattle.dp_commands.specs.declared.fault.PbxFault.TheVariants.{Coded, NoMemory}

-- what was read, or the reader's fault
abbrev pub read_fault : {X : Type 0} → Result X ReadFault → Result X PbxFault
read_fault (Ok x) = Ok x
read_fault (Err fault) = Err (fault_of_read fault)

-- all bytes of a file, if it has no more than allowed
abbrev pub whole_text : List ℕ → Result (List ℕ) PbxFault
whole_text bytes = read_fault (whole_of bytes)

-- why a file could not be opened, given the kind of the error
abbrev pub opening_fault : ErrorKind → PbxFault
opening_fault OutOfMemory = NoMemory
opening_fault _ = Coded ReadFailed None

-- whether a reader can have the fault
abbrev pub is_read_fault : PbxFault → Bool
is_read_fault (Coded (Line kind) line) = false
is_read_fault (Coded (Name fault) line) = false
is_read_fault (Coded (Plan kind) line) = false
is_read_fault (Coded (QueueLine kind) line) = false
is_read_fault (Coded (Queue kind) line) = false
is_read_fault (Coded ReadFailed None) = true
is_read_fault (Coded ReadFailed (Some line)) = false
is_read_fault (Coded TooLong None) = true
is_read_fault (Coded TooLong (Some line)) = false
is_read_fault (Coded WriteFailed line) = false
is_read_fault (Coded (Settle fault) line) = false
is_read_fault (Coded BadScript line) = false
is_read_fault (Coded BadBreak line) = false
is_read_fault NoMemory = true

-- whether the fault is a failed read
abbrev pub is_failed_read : PbxFault → Bool
is_failed_read (Coded (Line kind) line) = false
is_failed_read (Coded (Name fault) line) = false
is_failed_read (Coded (Plan kind) line) = false
is_failed_read (Coded (QueueLine kind) line) = false
is_failed_read (Coded (Queue kind) line) = false
is_failed_read (Coded ReadFailed line) = true
is_failed_read (Coded TooLong line) = false
is_failed_read (Coded WriteFailed line) = false
is_failed_read (Coded (Settle fault) line) = false
is_failed_read (Coded BadScript line) = false
is_failed_read (Coded BadBreak line) = false
is_failed_read NoMemory = false

-- whether a call ended with a failed read
abbrev pub has_read_failed : {X : Type 0} → Result X PbxFault → Bool
has_read_failed (Ok x) = false
has_read_failed (Err fault) = is_failed_read fault

-- what is known of a file or of the input: all its bytes, if they are known, and whether a read may fail
pub record ByteSource : Type 0 where
  pub bytes : Option (List ℕ)
  pub fails : Bool

-- a source with these bytes, and whether a read of it may fail
abbrev pub source : Option (List ℕ) → Bool → ByteSource
source bytes fails = record { bytes = bytes; fails = fails }

-- the result of reading these bytes if no read fails: their text, or that it is too long
abbrev pub IsTextOf : Option (List ℕ) → Result (List ℕ) PbxFault → Type 0
IsTextOf (Some bytes) text = text ≡ whole_text bytes
IsTextOf None text = IfErr text (λ fault. fault ≡ Coded TooLong None)

-- a possible result of reading a source whole; it is a failed read only if a read of the source may fail
abbrev pub MayGive : ByteSource → Result (List ℕ) PbxFault → Type 0
MayGive source text = IsTextOf source.bytes text ⊎ ((text ≡ Err (Coded ReadFailed None)) × (source.fails ≡ true))

-- a property of the result of reading a source whole
pub record Reads (source : ByteSource) (P : Result (List ℕ) PbxFault → Type 0) : Type 0 where
  pub text : Result (List ℕ) PbxFault
  pub given : MayGive source text
  pub holds : P text
