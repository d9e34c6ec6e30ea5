-- A value that takes lines one after another.
use Rattle.std.specs.Prelude.{Bool, ◌||◌, List, fold, Result, Ok, Err}
use Rattle.std.specs.List.{list_any}
use Rattle.dp_conf.specs.Answers.{◌>>=◌}
use Rattle.dp_conf.specs.Lines.{LineOf, LineFault, is_header}
use Rattle.dp_conf.specs.declared.fault.ConfFault.{ConfFault}
use Rattle.dp_conf.specs.declared.fault.ConfFault.TheVariants.{At, NoMemory}

-- the value after the lines of a text, given what one line makes of it; a fault of the text ends everything
abbrev pub all_taken : {S : Type 0} → (S → LineOf → S) → S → Result (List LineOf) LineFault → Result S LineFault
all_taken after state read = read >>= λ lines. Ok (fold after state lines)

-- after the reading of one more part of the text: whether a section has begun, and the value
abbrev pub part_taken : {S : Type 0} → (S → LineOf → S) → Bool → S → Result (List LineOf) LineFault → Result (Bool × S) LineFault
part_taken after in_section state read =
    read >>= λ items. Ok (in_section || list_any is_header items, fold after state items)

-- if the call ended at a faulty line the condition holds
abbrev pub AtFault : {X : Type 0} → Type 0 → Result X ConfFault → Type 0
AtFault Holds (Ok x) = Unit {0}
AtFault Holds (Err (At line kind)) = Holds
AtFault Holds (Err NoMemory) = Unit {0}
