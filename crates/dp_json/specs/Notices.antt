-- The objects of the notices on the lines of files.
use Rattle.std.specs.Prelude.{ℕ, List, [], ◌∷◌, ◌++◌, Option, Some, None, codes, if◌then◌else◌}
use Rattle.std.specs.List.{flat_map}
use Rattle.dp_conf.specs.Lines.{content_of}
use Rattle.dp_files.specs.Directives.{directive_of, included_name}
use Rattle.dp_files.specs.declared.source_line.SourceFile.{SourceFile}
use Rattle.dp_files.specs.declared.source_line.SourceLine.{SourceLine}
use Rattle.dp_notices.specs.Notices.{is_fault, wording}
use Rattle.dp_notices.specs.Printing.{file_path, is_missing_file, is_shown}
use Rattle.dp_notices.specs.declared.line_notices.NotedLine.{NotedLine}
use Rattle.dp_notices.specs.declared.notice.Notice.{Notice}
use Rattle.dp_notices.specs.declared.printing.Shown.{Shown}
use Rattle.dp_json.specs.Objects.{Field, number_field, object_text, text_field, type_field}

-- the word for what a notice is
abbrev pub notice_word : Notice → List ℕ
notice_word notice = if is_fault notice then codes "fault" else codes "note"

-- the number of a fault, if it has one
abbrev pub code_fields : Option ℕ → List Field
code_fields None = []
code_fields (Some number) = number_field (codes "code") number ∷ []

-- the name of the file that a line asks for
unfoldable pub included_field : List ℕ → Field
included_field text = text_field (codes "included") (included_name (directive_of (content_of text)))

-- the same, if the notice says that the file is not there
abbrev pub missing_fields : List ℕ → Notice → List Field
missing_fields text notice = if is_missing_file notice then included_field text ∷ [] else []

-- the path of a file, and the number of a line in it
unfoldable pub position_fields : List ℕ → ℕ → List Field
position_fields file line = text_field (codes "file") file ∷ number_field (codes "line") line ∷ []

-- the kind of a notice, its number, and the file that is not there
unfoldable pub told_fields : List ℕ → Notice → List Field
told_fields text notice =
    text_field (codes "kind") (wording notice).name ∷ (code_fields (wording notice).number ++ missing_fields text notice)

-- the object of a notice on a line of a file
abbrev pub notice_object : List ℕ → SourceLine → Notice → List Field
notice_object file line notice =
    type_field (notice_word notice) ∷ (position_fields file line.line ++ told_fields line.text notice)

-- the line of a notice
unfoldable pub notice_line : List ℕ → SourceLine → Notice → List ℕ
notice_line file line notice = object_text (notice_object file line notice)

-- the lines of the notices on a line, without those that are not shown
abbrev pub notice_lines : Shown → List ℕ → SourceLine → List Notice → List ℕ
notice_lines shown file line notices =
    flat_map (λ notice. if is_shown shown notice then notice_line file line notice else []) notices

-- the same for a line of some files
abbrev pub noted_text : Shown → List SourceFile → NotedLine → List ℕ
noted_text shown files noted = notice_lines shown (file_path files noted.line.file) noted.line noted.notices

-- the same for some lines of these files, in their order
abbrev pub notices_text : Shown → List SourceFile → List NotedLine → List ℕ
notices_text shown files lines = flat_map (noted_text shown files) lines

-- the object of the number of faults
abbrev pub faults_object : ℕ → List Field
faults_object faults = type_field (codes "count") ∷ number_field (codes "faults") faults ∷ []

-- the object of the number of queues that load
abbrev pub queues_object : ℕ → List Field
queues_object queues = type_field (codes "count") ∷ number_field (codes "queues") queues ∷ []
