-- A dialplan, an optional second dialplan and a script, joined in one text.
use Rattle.std.specs.Prelude.{ℕ, Bool, List, [], ◌∷◌, ◌++◌, Option, Some, None, Result, unwrap_or, codes, if◌then◌else◌}
use Rattle.std.specs.List.{join_with_byte}
use Rattle.std.specs.Option.{option_map}
use Rattle.dp_conf.specs.Blanks.{trim}
use Rattle.dp_conf.specs.Lines.{parts_of}
use Rattle.dp_conf.specs.Words.{same_text}
use Rattle.dp_commands.specs.Run.{Run, run_of}
use Rattle.dp_commands.specs.declared.fault.PbxFault.{PbxFault}

-- whether a line is the separator, apart from blanks at its ends
abbrev pub is_separator : List ℕ → List ℕ → Bool
is_separator separator part = same_text (trim part) separator

-- the lines before the first separator, each with its line feed; None without a separator
abbrev pub lines_before : List ℕ → List (List ℕ) → Option (List ℕ)
lines_before separator [] = None
lines_before separator (part ∷ parts) =
    if is_separator separator part then Some []
    else option_map (λ later. (part ++ 10 ∷ []) ++ later) (lines_before separator parts)

-- the lines after the first separator; None without a separator
abbrev pub lines_after : List ℕ → List (List ℕ) → Option (List (List ℕ))
lines_after separator [] = None
lines_after separator (part ∷ parts) = if is_separator separator part then Some parts else lines_after separator parts

-- the part of a text before its first separator; the whole text if there is no separator
unfoldable pub text_before : List ℕ → List ℕ → List ℕ
text_before separator text = unwrap_or (lines_before separator (parts_of text)) text

-- the part of a text after its first separator; None without a separator
unfoldable pub text_after : List ℕ → List ℕ → Option (List ℕ)
text_after separator text = option_map (join_with_byte 10) (lines_after separator (parts_of text))

-- the bytes of the rest of a text; no bytes if there is no rest
abbrev pub text_left : Option (List ℕ) → List ℕ
text_left None = []
text_left (Some rest) = rest

-- both dialplans of a joined text: everything before its first line `;; script`
abbrev pub joined_plans : List ℕ → List ℕ
joined_plans text = text_before (codes ";; script") text

-- the dialplan: the part before the first line `;; reload`
abbrev pub joined_plan : List ℕ → List ℕ
joined_plan text = text_before (codes ";; reload") (joined_plans text)

-- the second dialplan: the part after the first line `;; reload`; None without such a line
abbrev pub joined_second_plan : List ℕ → Option (List ℕ)
joined_second_plan text = text_after (codes ";; reload") (joined_plans text)

-- the script: everything after the first line `;; script`; empty without such a line
abbrev pub joined_script : List ℕ → List ℕ
joined_script text = text_left (text_after (codes ";; script") text)

-- the run of a joined text, or the first fault
abbrev pub joined_run : List ℕ → Result Run PbxFault
joined_run text = run_of (joined_plan text) None (joined_second_plan text) (joined_script text)
