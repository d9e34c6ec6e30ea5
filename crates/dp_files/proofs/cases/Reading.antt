-- Files that include each other, computed from the definition itself.
use Rattle.std.proofs.Common.{◌≡◌, List, Result, [], ◌∷◌, ◌++◌, Some, None, Ok, Err, refl, if◌then◌else◌}
use Rattle.std.specs.Prelude.{codes}
use Rattle.dp_conf.specs.Words.{same_text}
use Rattle.dp_files.specs.Comments.{rest_of_line, file_lines}
use Rattle.dp_files.specs.Directives.{directive_of}
use Rattle.dp_files.specs.Reading.{FilesOf, after_line, after_text, after_name, after_request, including, reading_of}
use Rattle.dp_files.specs.Sources.{Files}
use Rattle.dp_files.specs.declared.reading.ReadingFault.{ReadingFault}
use Rattle.dp_files.specs.declared.reading.ReadingFault.TheVariants.{NotFound as not_found_error}
use Rattle.dp_files.specs.declared.remark.Fault.TheVariants.{NotFound, IncludeDepth}
use Rattle.dp_files.specs.declared.remark.LineNote.TheVariants.{OpenComment, Exec}
use Rattle.dp_files.specs.declared.remark.LineRemark.{LineRemark}
use Rattle.dp_files.specs.declared.remark.RemarkKind.TheVariants.{Note, Fault}

-- two files, the first of which includes the second and one that does not exist
abbrev two : Files
two = record {
  text = λ name.
      if same_text name (codes "m") then Some (codes "#include a" ++ 10 ∷ codes "x" ++ 10 ∷ codes "#include b" ++ 10 ∷ codes "#tryinclude b")
      else if same_text name (codes "a") then Some (codes "y")
      else None;
  names = λ pattern. [];
}

-- the lines of a file come after the line that includes it
reading-two : reading_of two (codes "m") ≡ Ok (record {
  files = record { name = codes "m"; included_by = None } ∷ record { name = codes "a"; included_by = Some 0 } ∷ [];
  lines =
      record { file = 0; line = 1; text = codes "#include a" } ∷ record { file = 1; line = 1; text = codes "y" } ∷ record { file = 0; line = 2; text = codes "x" }
      ∷ record { file = 0; line = 3; text = codes "#include b" } ∷ record { file = 0; line = 4; text = codes "#tryinclude b" } ∷ [];
  remarks = record { source = 3; kind = Fault NotFound } ∷ [];
})
unfolding reading_of including after_request after_name after_text file_lines rest_of_line after_line directive_of
reading-two = refl

reading-none : reading_of two (codes "c") ≡ Err not_found_error
unfolding reading_of
reading-none = refl

-- the remarks
abbrev remarks_of : Result FilesOf ReadingFault → List LineRemark
remarks_of (Ok read) = read.remarks
remarks_of (Err fault) = []

-- a file that includes itself
abbrev own : Files
own = record {
  text = λ name. if same_text name (codes "m") then Some (codes "#include m") else None;
  names = λ pattern. [];
}

-- ten are nested inside each other
reading-own : remarks_of (reading_of own (codes "m")) ≡ record { source = 9; kind = Fault IncludeDepth } ∷ []
unfolding reading_of including after_request after_name after_text file_lines rest_of_line after_line directive_of
reading-own = refl

-- a file with names that match others, a command, and a block comment that is open at its end
abbrev many : Files
many = record {
  text = λ name.
      if same_text name (codes "m") then Some (codes "#include p/*" ++ 10 ∷ codes "#exec x" ++ 10 ∷ codes "#include q?;--")
      else if same_text name (codes "p/a") then Some (codes "y")
      else None;
  names = λ pattern. if same_text pattern (codes "p/*") then codes "p/a" ∷ codes "p/b" ∷ [] else [];
}

-- the note on a comment comes before the remarks on the same line's files
reading-many : remarks_of (reading_of many (codes "m"))
    ≡ record { source = 0; kind = Fault NotFound } ∷ record { source = 2; kind = Note Exec } ∷ record { source = 3; kind = Note OpenComment } ∷ record { source = 3; kind = Fault NotFound } ∷ []
unfolding reading_of including after_request after_name after_text file_lines rest_of_line after_line directive_of
reading-many = refl
