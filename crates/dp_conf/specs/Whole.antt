-- The result of reading a reader to its end, given its bytes.
use Rattle.std.specs.Prelude.{ℕ, Bool, true, false, nat_le, List, length, Option, Some, None, Result, Ok, Err, if◌then◌else◌}
use Rattle.dp_conf.specs.declared.fault.ReadFault.{ReadFault}
use Rattle.dp_conf.specs.declared.fault.ReadFault.TheVariants.{ReadFailed, TooLong, NoMemory}

-- the greatest number of bytes in a text that is read to its end
abbrev pub most_bytes : ℕ
most_bytes = 16777216

-- the result of reading these bytes to their end
abbrev pub whole_of : List ℕ → Result (List ℕ) ReadFault
whole_of bytes = if nat_le (length bytes) most_bytes then Ok bytes else Err TooLong

-- a fault that depends on the bytes alone, unlike a failed read and out-of-memory
abbrev pub length_fault : ReadFault → Option ReadFault
length_fault ReadFailed = None
length_fault TooLong = Some TooLong
length_fault NoMemory = None

-- whether a read failed
abbrev pub is_read_failed : {T : Type 0} → Result T ReadFault → Bool
is_read_failed (Ok x) = false
is_read_failed (Err ReadFailed) = true
is_read_failed (Err TooLong) = false
is_read_failed (Err NoMemory) = false
