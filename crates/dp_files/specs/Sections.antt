-- The sections in the lines of files, given the effect of each line on the sections so far.
use Rattle.std.specs.Prelude.{ℕ, ◌+◌, ◌-◌, false, not, ◌||◌, ◌==◌, nat_le, List, [], ◌∷◌, ◌++◌, length, map, slice_get, position, Option, Some, None, unwrap_or, Result, Ok, Err, if◌then◌else◌}
use Rattle.std.specs.Option.{option_and_then, option_flatten, option_map, option_map_or, option_or, option_zip}
use Rattle.std.specs.List.{flat_map}
use Rattle.std.specs.Str.{byte}
use Rattle.dp_conf.specs.Changes.{changed_at}
use Rattle.dp_conf.specs.Lines.{LineOf, content_of, item_of}
use Rattle.dp_conf.specs.Words.{same_word}
use Rattle.dp_conf.specs.declared.fault.LineKind.{LineKind}
use Rattle.dp_conf.specs.declared.fault.LineKind.TheVariants.{Template}
use Rattle.dp_files.specs.Headers.{HeaderOf, header_of, makes_template, is_addition, parents_of}
use Rattle.dp_files.specs.declared.remark.Fault.{Fault}
use Rattle.dp_files.specs.declared.remark.Fault.TheVariants.{TooLong, Line}
use Rattle.dp_files.specs.declared.remark.LineRemark.{LineRemark}
use Rattle.dp_files.specs.declared.remark.RemarkKind.TheVariants.{Fault as fault_kind}
use Rattle.dp_files.specs.declared.sections.Opening.{Opening}
use Rattle.dp_files.specs.declared.sections.Opening.TheVariants.{New, Extends}
use Rattle.dp_files.specs.declared.sections.SourceSection.{SourceSection}
use Rattle.dp_files.specs.declared.source_line.SourceFile.{SourceFile}
use Rattle.dp_files.specs.declared.source_line.SourceLine.{SourceLine}

-- the greatest number of line places that the headers of all files may copy
abbrev pub most_copied : ℕ
most_copied = 16777216

-- the sections so far, the first of which has no header; the remarks; for each file the place of the section that is open after its last
-- line so far; and the number of places that may still be copied
pub record SectionsSoFar : Type 0 where
  pub sections : List SourceSection
  pub remarks : List LineRemark
  pub open_in : List (Option ℕ)
  pub room : ℕ

-- with a remark on the fault of the line at a place
abbrev pub with_fault : ℕ → Fault → SectionsSoFar → SectionsSoFar
with_fault place fault so_far = record so_far { remarks = so_far.remarks ++ record { source = place; kind = fault_kind fault } ∷ [] }

-- the section with more lines at its end
abbrev pub with_lines : List ℕ → SourceSection → SourceSection
with_lines more section = record section { lines = section.lines ++ more }

-- the place of the first section with a name, in any case
abbrev pub place_of : List SourceSection → List ℕ → Option ℕ
place_of sections name = position (λ section. same_word section.name name) sections

-- the places of the sections with these names, if all of them exist
abbrev pub places_of : List SourceSection → List (List ℕ) → Option (List ℕ)
places_of sections [] = Some []
places_of sections (name ∷ names) =
    option_and_then (λ place. option_map (λ places. place ∷ places) (places_of sections names)) (place_of sections name)

-- the lines of the section at a place
abbrev pub lines_at : List SourceSection → ℕ → List ℕ
lines_at sections place = option_map_or (λ section. section.lines) (slice_get sections place) []

-- the lines of the sections at these places, one section after another, unless there are more than may still be copied
unfoldable pub copies_within : ℕ → List SourceSection → List ℕ → Option (List ℕ)
copies_within room sections places =
    if nat_le (length (flat_map (lines_at sections) places)) room then Some (flat_map (lines_at sections) places) else None

-- the section that a header opens: a new one, or with `+` the first one with its name, if there is one
unfoldable pub opening_of : List SourceSection → HeaderOf → Option Opening
opening_of sections header = if is_addition header then option_map Extends (place_of sections header.name) else Some New

-- the section that a header begins
abbrev pub new_section : ℕ → HeaderOf → List ℕ → SourceSection
new_section place header lines =
    record { header = Some place; name = header.name; is_template = makes_template header; lines = lines }

-- the section that a header extends
abbrev pub longer_section : HeaderOf → List ℕ → SourceSection → SourceSection
longer_section header lines section =
    record {
      header = section.header;
      name = section.name;
      is_template = section.is_template || makes_template header;
      lines = section.lines ++ lines;
    }

-- the sections after a header with these lines of other sections, and the place of the one that is open after it
unfoldable pub sections_after : ℕ → HeaderOf → Opening → List ℕ → List SourceSection → List SourceSection × ℕ
sections_after place header New lines sections = (sections ++ new_section place header lines ∷ [], length sections)
sections_after place header (Extends extended) lines sections = (changed_at (longer_section header lines) extended sections, extended)

-- with these sections, and the place of the open one; everything else is as before
abbrev pub with_sections : SectionsSoFar → List SourceSection × ℕ → SectionsSoFar × ℕ
with_sections so_far after = (record so_far { sections = after.0 }, after.1)

-- the lines that a header copies, if they may be copied; else none, with a remark
unfoldable pub with_copies : ℕ → Option (List ℕ) → SectionsSoFar → SectionsSoFar × List ℕ
with_copies place None so_far = (with_fault place TooLong so_far, [])
with_copies place (Some lines) so_far = (record so_far { room = so_far.room - length lines }, lines)

-- the lines that a header copies, given the places of the sections with these lines
abbrev pub copies_of : ℕ → List ℕ → SectionsSoFar → SectionsSoFar × List ℕ
copies_of place parents so_far = with_copies place (copies_within so_far.room so_far.sections parents) so_far

-- after a header whose names are all known, with the lines that it copies
abbrev pub after_known_header : ℕ → HeaderOf → Opening → SectionsSoFar × List ℕ → SectionsSoFar × ℕ
after_known_header place header opening copies =
    with_sections copies.0 (sections_after place header opening copies.1 copies.0.sections)

-- after a header, given the section that it opens and those whose lines it copies, if all of them exist
unfoldable pub after_named_header : ℕ → ℕ → HeaderOf → Option (Opening × List ℕ) → SectionsSoFar → SectionsSoFar × ℕ
after_named_header place current header None so_far = (with_fault place (Line Template) so_far, current)
after_named_header place current header (Some named) so_far =
    after_known_header place header named.0 (copies_of place named.1 so_far)

-- after a line that begins with `[`, given the open section: a faulty header opens none
abbrev pub after_header : ℕ → ℕ → Result HeaderOf LineKind → SectionsSoFar → SectionsSoFar × ℕ
after_header place current (Err kind) so_far = (with_fault place (Line kind) so_far, current)
after_header place current (Ok header) so_far =
    after_named_header place current header
    (option_zip (opening_of so_far.sections header) (places_of so_far.sections (parents_of header))) so_far

-- after a line that is neither a header nor a directive: it is kept in the open section, or it is faulty
unfoldable pub after_item : ℕ → ℕ → Result (List LineOf) LineKind → SectionsSoFar → SectionsSoFar
after_item place current (Err kind) so_far = with_fault place (Line kind) so_far
after_item place current (Ok items) so_far = record so_far { sections = changed_at (with_lines (place ∷ [])) current so_far.sections }

-- a line read as neither a header nor a directive; a pair is not allowed before any header
abbrev pub after_plain_line : ℕ → ℕ → List ℕ → SectionsSoFar → SectionsSoFar × ℕ
after_plain_line place current content so_far = (after_item place current (item_of (not (current == 0)) 0 content) so_far, current)

-- after a line, given its content and the open section; with the place of the section that is open after it
unfoldable pub after_content : ℕ → ℕ → List ℕ → SectionsSoFar → SectionsSoFar × ℕ
after_content place current [] so_far = after_plain_line place current [] so_far
after_content place current (b ∷ bs) so_far =
    if b == byte "[" then after_header place current (header_of bs) so_far
    else if b == byte "#" then (so_far, current)
    else after_plain_line place current (b ∷ bs) so_far

-- the section that is open after the last line of a file so far
abbrev pub open_after : List (Option ℕ) → ℕ → Option ℕ
open_after open_in file = option_flatten (slice_get open_in file)

-- the file with the line that includes a file
abbrev pub including : List SourceFile → List SourceLine → ℕ → Option ℕ
including files lines file =
    option_map (λ line. line.file)
    (option_and_then (slice_get lines) (option_and_then (λ included. included.included_by) (slice_get files file)))

-- the section of the next line of a file: the one that is open after its last line; for its first line the one that is open in the file
-- that includes it; else the one without a header
unfoldable pub section_of_next : List SourceFile → List SourceLine → List (Option ℕ) → ℕ → ℕ
section_of_next files lines open_in file =
    unwrap_or (option_or (open_after open_in file) (option_and_then (open_after open_in) (including files lines file))) 0

-- a section is open after a line of a file
abbrev pub with_open : ℕ → SectionsSoFar × ℕ → SectionsSoFar
with_open file after = record after.0 { open_in = changed_at (λ _. Some after.1) file after.0.open_in }

-- after the line at a place among all lines
abbrev pub after_line : List SourceFile → List SourceLine → SectionsSoFar → ℕ → SourceLine → SectionsSoFar
after_line files lines so_far place line =
    with_open line.file (after_content place (section_of_next files lines so_far.open_in line.file) (content_of line.text) so_far)

-- after the lines from a place on
abbrev pub after_lines : List SourceFile → List SourceLine → SectionsSoFar → ℕ → List SourceLine → SectionsSoFar
after_lines files lines so_far place [] = so_far
after_lines files lines so_far place (line ∷ rest) = after_lines files lines (after_line files lines so_far place line) (place + 1) rest

-- before the first line: one section without a header
abbrev pub before_lines : List SourceFile → SectionsSoFar
before_lines files =
    record {
      sections = record { header = None; name = []; is_template = false; lines = [] } ∷ [];
      remarks = [];
      open_in = map (λ _. None) files;
      room = most_copied;
    }

-- after all lines of all files
unfoldable pub sections_of : List SourceFile → List SourceLine → SectionsSoFar
sections_of files lines = after_lines files lines (before_lines files) 0 lines
