-- Entries whose lines need no change, and whose names are their own spelling.
use Rattle.std.proofs.Common.{◌≡◌, ℕ, ◌+◌, false, List, Some, None, refl, arith}
use Rattle.dp_files.specs.ContextHistory.{Counts, LineHistoryOf, extension_of, has_caller}
use Rattle.dp_files.specs.ContextLines.{entry_reading, line_by, numbered_reading}
use Rattle.dp_files.specs.ContextSteps.{spelled_extension}
use Rattle.dp_files.specs.ContextWords.{Exten, is_old_form}
use Rattle.dp_files.specs.Priorities.{Counted, Number, priority_of, within_limit}

-- the line of such an entry is unchanged, and leaves its extension and its number
pub spelled_line : (history : LineHistoryOf) (line name priority application : List ℕ) (number : ℕ)
    → extension_of name ≡ Some (spelled_extension name) → has_caller name ≡ false → is_old_form application ≡ false
    → priority_of priority ≡ Some (record { written = Counted (Number number) None; label = None }) → within_limit number ≡ Some number
    → line_by history line (Exten name priority application)
    ≡ record { said = Counts (spelled_extension name) number None; made = record { text = Some line; remark = None } }
unfolding entry_reading numbered_reading
spelled_line history line name priority application number extension caller old written within =
    let same : number + 0 ≡ number = omega arith in
    rw extension (rw written (rw caller (rw same (rw within (rw old refl)))))
