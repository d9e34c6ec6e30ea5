-- The text of a dialplan that is made from the sections of files.
use Rattle.std.specs.Prelude.{ℕ, Bool, ◌||◌, List, [], ◌∷◌, ◌++◌, Option, Some, None, is_none, slice_get, codes, if◌then◌else◌}
use Rattle.std.specs.List.{flat_map}
use Rattle.dp_conf.specs.Words.{same_word}
use Rattle.dp_files.specs.ContextLines.{context_lines, context_remarks, section_lines}
use Rattle.dp_files.specs.GeneralLines.{general_lines, general_remarks}
use Rattle.dp_files.specs.Headers.{made_header}
use Rattle.dp_files.specs.declared.remark.LineRemark.{LineRemark}
use Rattle.dp_files.specs.declared.sections.SourceSection.{SourceSection}
use Rattle.dp_files.specs.declared.source_line.MadeLine.{MadeLine}
use Rattle.dp_files.specs.declared.source_line.SourceLine.{SourceLine}

-- a section of settings for the whole dialplan: `[general]` in any case
abbrev pub is_general : SourceSection → Bool
is_general section = same_word section.name (codes "general")

-- a section of global variables, and the lines before any header
abbrev pub is_without_entries : SourceSection → Bool
is_without_entries section = is_none section.header || same_word section.name (codes "globals")

-- the line at a place unchanged, if there is one
abbrev pub standing_at : ℕ → Option SourceLine → List MadeLine
standing_at place None = []
standing_at place (Some line) = record { source = place; text = line.text } ∷ []

-- the lines at some places unchanged
abbrev pub standing : List SourceLine → List ℕ → List MadeLine
standing lines [] = []
standing lines (place ∷ places) = standing_at place (slice_get lines place) ++ standing lines places

-- the line made from the header at a place, if there is a line
abbrev pub header_at : ℕ → Option SourceLine → List MadeLine
header_at place None = []
header_at place (Some line) = record { source = place; text = made_header line.text } ∷ []

-- the line of the header of a section, if it has one
abbrev pub header_lines : List SourceLine → Option ℕ → List MadeLine
header_lines lines None = []
header_lines lines (Some place) = header_at place (slice_get lines place)

-- the lines made from those of a section that is not a template
abbrev pub body_lines : List SourceLine → SourceSection → List MadeLine
body_lines lines section =
    if is_general section then general_lines (section_lines lines section.lines)
    else if is_without_entries section then standing lines section.lines
    else context_lines (section_lines lines section.lines)

-- the remarks on them
abbrev pub body_remarks : List SourceLine → SourceSection → List LineRemark
body_remarks lines section =
    if is_general section then general_remarks (section_lines lines section.lines)
    else if is_without_entries section then []
    else context_remarks (section_lines lines section.lines)

-- the lines made from a section; those of a template do not belong to the dialplan
unfoldable pub lines_of_section : List SourceLine → SourceSection → List MadeLine
lines_of_section lines section =
    if section.is_template then []
    else header_lines lines section.header ++ body_lines lines section

-- the remarks on the lines of a section
unfoldable pub remarks_on_section : List SourceLine → SourceSection → List LineRemark
remarks_on_section lines section =
    if section.is_template then [] else body_remarks lines section

-- the lines of the dialplan, in order
abbrev pub dialplan_lines : List SourceLine → List SourceSection → List MadeLine
dialplan_lines lines sections = flat_map (lines_of_section lines) sections

-- the remarks on lines, section by section
abbrev pub dialplan_remarks : List SourceLine → List SourceSection → List LineRemark
dialplan_remarks lines sections = flat_map (remarks_on_section lines) sections

-- the text of some lines, each with the byte that ends it
abbrev pub text_of : List MadeLine → List ℕ
text_of lines = flat_map (λ line. line.text ++ 10 ∷ []) lines
