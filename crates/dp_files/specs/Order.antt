-- Lines that sections keep in their order.
use Rattle.std.specs.Prelude.{◌≡◌, ℕ, Bool, false, not, ◌==◌, List, ◌++◌, length, IfOk, None}
use Rattle.std.specs.Option.{option_to_list}
use Rattle.std.specs.List.{filter, flat_map, list_any, range_with_len}
use Rattle.std.specs.Str.{byte}
use Rattle.dp_conf.specs.Cut.{begins_with}
use Rattle.dp_conf.specs.Lines.{content_of}
use Rattle.dp_files.specs.Headers.{header_in}
use Rattle.dp_files.specs.Sections.{sections_of}
use Rattle.dp_files.specs.declared.remark.LineRemark.{LineRemark}
use Rattle.dp_files.specs.declared.sections.SourceSection.{SourceSection}
use Rattle.dp_files.specs.declared.source_line.SourceFile.{SourceFile}
use Rattle.dp_files.specs.declared.source_line.SourceLine.{SourceLine}

-- a line of the first file that is not a directive and is not a header with parentheses
pub record IsPlainLine (line : SourceLine) : Type 0 where
  pub file : line.file ≡ 0
  pub directive : begins_with (byte "#") (content_of line.text) ≡ false
  pub header : IfOk (header_in (content_of line.text)) (λ header. header.options ≡ None)

-- the places of a section's lines, beginning with that of its header
abbrev pub section_places : SourceSection → List ℕ
section_places section = option_to_list section.header ++ section.lines

-- there is a remark on the line at a place
abbrev pub has_remark : List LineRemark → ℕ → Bool
has_remark remarks place = list_any (λ remark. remark.source == place) remarks

-- the places of this many lines, without those that have a remark
abbrev pub without_remark : List LineRemark → ℕ → List ℕ
without_remark remarks count = filter (λ place. not (has_remark remarks place)) (range_with_len 0 count)

-- the lines of the sections with their headers, one section after another, are all lines in order, except those with a remark
abbrev pub KeepsOrder : List SourceFile → List SourceLine → Type 0
KeepsOrder files lines =
    flat_map section_places (sections_of files lines).sections ≡ without_remark (sections_of files lines).remarks (length lines)
