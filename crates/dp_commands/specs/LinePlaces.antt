-- Where the lines of a dialplan's text come from, as a verbose run prints it.
use Rattle.std.specs.Prelude.{ℕ, ◌++◌, ◌-◌, List, [], Option, Some, None, codes, decimal, slice_get}
use Rattle.std.specs.Option.{option_map_or}
use Rattle.dp_commands.specs.declared.line_places.LinePlaces.{LinePlaces}
use Rattle.dp_commands.specs.declared.line_places.LinePlaces.TheVariants.{InFile, InFiles}
use Rattle.dp_commands.specs.declared.line_places.LinePosition.{LinePosition}

-- all lines are those of the file with a name, or each comes from a line of some file
pub data PlacesOfLines : Type 0 where
  in_file : List ℕ → PlacesOfLines
  in_files : List (List ℕ) → List LinePosition → PlacesOfLines

-- what a caller gives
abbrev pub places_of : LinePlaces → PlacesOfLines
places_of (InFile name) = in_file name.now
places_of (InFiles sources) = in_files sources.files.now sources.lines.now

-- the number of an entry's line
abbrev pub line_number : Option ℕ → List ℕ
line_number None = []
line_number (Some line) = decimal line

-- a line of the file with a name, `FILE:LINE`
abbrev pub in_file_text : List ℕ → Option ℕ → List ℕ
in_file_text name line = name ++ codes ":" ++ line_number line

-- the name of the file with a number
abbrev pub file_name : List (List ℕ) → ℕ → List ℕ
file_name files number = option_map_or (λ name. name) (slice_get files number) []

-- the position from which a line comes; lines are counted from 1
abbrev pub position_of : List LinePosition → Option ℕ → Option LinePosition
position_of lines None = None
position_of lines (Some line) = slice_get lines (line - 1)

-- a position in files, `FILE:LINE`
abbrev pub position_text : List (List ℕ) → LinePosition → List ℕ
position_text files position = in_file_text (file_name files position.file) (Some position.line)

-- where a line comes from, `FILE:LINE`, if there is such a line
abbrev pub in_files_text : List (List ℕ) → List LinePosition → Option ℕ → List ℕ
in_files_text files lines line = option_map_or (position_text files) (position_of lines line) []

-- where a line of the text comes from
abbrev pub line_place : PlacesOfLines → Option ℕ → List ℕ
line_place (in_file name) line = in_file_text name line
line_place (in_files files lines) line = in_files_text files lines line
