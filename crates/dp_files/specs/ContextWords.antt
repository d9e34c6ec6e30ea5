-- The meaning of a line of a context without regard to other lines: how it is cut into a name, a priority and an application.
use Rattle.std.specs.Prelude.{ℕ, Bool, ◌||◌, ◌==◌, List, Option, Some, None, codes, if◌then◌else◌}
use Rattle.std.specs.List.{list_any}
use Rattle.std.specs.Str.{byte}
use Rattle.dp_conf.specs.Blanks.{trim}
use Rattle.dp_conf.specs.Cut.{cut_once}
use Rattle.dp_conf.specs.Lines.{after_sign}
use Rattle.dp_conf.specs.Words.{same_word}
use Rattle.dp_files.specs.declared.remark.LineNote.{LineNote}
use Rattle.dp_files.specs.declared.remark.LineNote.TheVariants.{IgnorePat, Switch}

-- an `exten` line with its name, its priority and its application; a `same` line with the latter two; a line that is left out with this
-- note; or any other line
pub data ContextLineOf : Type 0 where
  Exten : List ℕ → List ℕ → List ℕ → ContextLineOf
  Same : List ℕ → List ℕ → ContextLineOf
  LeftOut : LineNote → ContextLineOf
  Other : ContextLineOf

-- an `exten` line, given its name and the rest cut at the second comma
abbrev pub exten_rest : List ℕ → Option (List ℕ × List ℕ) → ContextLineOf
exten_rest name None = Other
exten_rest name (Some cut) = Exten name (trim cut.0) (trim cut.1)

-- the same, given the value cut at the first comma
abbrev pub exten_line : Option (List ℕ × List ℕ) → ContextLineOf
exten_line None = Other
exten_line (Some cut) = exten_rest (trim cut.0) (cut_once (byte ",") cut.1)

-- a `same` line, given the value cut at its comma
abbrev pub same_line : Option (List ℕ × List ℕ) → ContextLineOf
same_line None = Other
same_line (Some cut) = Same (trim cut.0) (trim cut.1)

-- a key that is left out, whatever its value
abbrev pub key_line : List ℕ → ContextLineOf
key_line key =
    if same_word key (codes "ignorepat") then LeftOut IgnorePat
    else if same_word key (codes "switch") || same_word key (codes "lswitch") || same_word key (codes "eswitch") then LeftOut Switch
    else Other

-- a key and its value
abbrev pub pair_line : List ℕ → List ℕ → ContextLineOf
pair_line key value =
    if same_word key (codes "exten") then exten_line (cut_once (byte ",") value)
    else if same_word key (codes "same") then same_line (cut_once (byte ",") value)
    else key_line key

-- a line cut at the first `=`: a key and its value, after a `>` that belongs to the sign
abbrev pub line_by : Option (List ℕ × List ℕ) → ContextLineOf
line_by None = Other
line_by (Some cut) = pair_line (trim cut.0) (trim (after_sign cut.1))

-- the line with this content
unfoldable pub context_line : List ℕ → ContextLineOf
context_line content = line_by (cut_once (byte "=") content)

-- the text before the cut, or the whole text
abbrev pub front_of : List ℕ → Option (List ℕ × List ℕ) → List ℕ
front_of text None = text
front_of text (Some cut) = cut.0

-- an application of the old form, `NAME,ARGUMENTS`: there is a comma before the first `(`, or there is a comma and no `(`
unfoldable pub is_old_form : List ℕ → Bool
is_old_form application = list_any (λ b. b == byte ",") (front_of application (cut_once (byte "(") application))
