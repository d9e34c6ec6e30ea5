-- The lines of files that include each other, and the remarks on them.
use Rattle.std.specs.Prelude.{ℕ, zero, suc, ◌+◌, ◌-◌, Bool, true, false, nat_le, List, [], ◌∷◌, ◌++◌, length, fold, Option, Some, None, Result, Ok, Err, if◌then◌else◌, ◌==◌}
use Rattle.dp_conf.specs.Lines.{content_of}
use Rattle.dp_conf.specs.Whole.{most_bytes}
use Rattle.dp_conf.specs.declared.fault.LineKind.TheVariants.{Directive as directive_kind}
use Rattle.dp_files.specs.Comments.{file_lines}
use Rattle.dp_files.specs.Directives.{DirectiveOf, Include, TryInclude, Exec, Unknown, directive_of}
use Rattle.dp_files.specs.Sources.{Files, TextRead, Bytes, Absent, TooLong, text_read}
use Rattle.dp_files.specs.Wildcards.{is_wildcard}
use Rattle.dp_files.specs.declared.including.FileRequest.{FileRequest}
use Rattle.dp_files.specs.declared.reading.FilesRead.{FilesRead}
use Rattle.dp_files.specs.declared.reading.ReadingFault.{ReadingFault}
use Rattle.dp_files.specs.declared.reading.ReadingFault.TheVariants.{NotFound as not_found_error, TooLong as too_long_error, NoMemory}
use Rattle.dp_files.specs.declared.source_line.SourceFile.{SourceFile}
use Rattle.dp_files.specs.declared.source_line.SourceLine.{SourceLine}
use Rattle.dp_files.specs.declared.remark.LineRemark.{LineRemark}
use Rattle.dp_files.specs.declared.remark.RemarkKind.{RemarkKind}
use Rattle.dp_files.specs.declared.remark.RemarkKind.TheVariants.{Note, Fault}
use Rattle.dp_files.specs.declared.remark.LineNote.TheVariants.{OpenComment, Exec as exec_note}
use Rattle.dp_files.specs.declared.remark.Fault.TheVariants.{IncludeDepth, NotFound, TooLong as too_long_fault, Line}

-- the files that were opened so far, their lines, the remarks on these, and the number of bytes that further files may have
pub record FilesReadSoFar : Type 0 where
  pub files : List SourceFile
  pub lines : List SourceLine
  pub remarks : List LineRemark
  pub room : ℕ

-- the line that requests files, given by its place among the lines, the name that it gives, and whether one must exist
pub record FileRequestOf : Type 0 where
  pub place : ℕ
  pub name : List ℕ
  pub required : Bool

-- the greatest number of opened files, and the greatest depth to which they are nested
abbrev pub most_files : ℕ
most_files = 100000

abbrev pub most_depth : ℕ
most_depth = 10

-- a remark on a line is added
abbrev pub with_remark : ℕ → RemarkKind → FilesReadSoFar → FilesReadSoFar
with_remark place kind read = record {
  files = read.files;
  lines = read.lines;
  remarks = read.remarks ++ record { source = place; kind = kind } ∷ [];
  room = read.room;
}

-- a line of a file is added at the end
abbrev pub with_line : ℕ → ℕ → List ℕ → FilesReadSoFar → FilesReadSoFar
with_line file line text read = record {
  files = read.files;
  lines = read.lines ++ record { file = file; line = line; text = text } ∷ [];
  remarks = read.remarks;
  room = read.room;
}

-- a file with this many bytes is opened
abbrev pub with_file : List ℕ → Option ℕ → ℕ → FilesReadSoFar → FilesReadSoFar
with_file name included_by count read = record {
  files = read.files ++ record { name = name; included_by = included_by } ∷ [];
  lines = read.lines;
  remarks = read.remarks;
  room = read.room - count;
}

-- block comments that are open at the end of the file get a note on the line of the innermost opening
abbrev pub after_comment : Bool → ℕ → FilesReadSoFar → FilesReadSoFar
after_comment opens place read = if opens then with_remark place (Note OpenComment) read else read

-- after the request of the line at a place, given the effect of including files
abbrev pub after_directive : (FileRequestOf → FilesReadSoFar → FilesReadSoFar) → ℕ → Option DirectiveOf → FilesReadSoFar → FilesReadSoFar
after_directive include place None read = read
after_directive include place (Some (Include name)) read = include (record { place = place; name = name; required = true }) read
after_directive include place (Some (TryInclude name)) read = include (record { place = place; name = name; required = false }) read
after_directive include place (Some Exec) read = with_remark place (Note exec_note) read
after_directive include place (Some Unknown) read = with_remark place (Fault (Line directive_kind)) read

-- after a line of a file: the line itself, and then what it requests
unfoldable pub after_line : (FileRequestOf → FilesReadSoFar → FilesReadSoFar) → ℕ → Bool → ℕ → List ℕ → FilesReadSoFar → FilesReadSoFar
after_line include file opens line text read =
    after_directive include (length read.lines) (directive_of (content_of text))
    (after_comment opens (length read.lines) (with_line file line text read))

-- whether a line is the one of the innermost opening
abbrev pub is_open_at : ℕ → Option ℕ → Bool
is_open_at line None = false
is_open_at line (Some opening) = opening == line

-- after lines of a file, which come after `count` others
abbrev pub after_lines : (FileRequestOf → FilesReadSoFar → FilesReadSoFar) → ℕ → Option ℕ → ℕ → List (List ℕ) → FilesReadSoFar → FilesReadSoFar
after_lines include file open_comment count [] read = read
after_lines include file open_comment count (text ∷ texts) read =
    after_lines include file open_comment (count + 1) texts
    (after_line include file (is_open_at (count + 1) open_comment) (count + 1) text read)

-- after the lines of the text of a file
unfoldable pub after_text : (FileRequestOf → FilesReadSoFar → FilesReadSoFar) → ℕ → List ℕ → FilesReadSoFar → FilesReadSoFar
after_text include file text read = after_lines include file (file_lines text).open_comment 0 (file_lines text).texts read

-- after a file that was read: it is opened, and its lines follow
abbrev pub after_file : (FileRequestOf → FilesReadSoFar → FilesReadSoFar) → List ℕ → Option ℕ → List ℕ → FilesReadSoFar → FilesReadSoFar
after_file include name included_by text read =
    after_text include (length read.files) text (with_file name included_by (length text) read)

-- after a file that does not exist
abbrev pub after_miss : Bool → ℕ → FilesReadSoFar → FilesReadSoFar
after_miss required place read = if required then with_remark place (Fault NotFound) read else read

-- after a file that the line at a place names: it is read if one more may be opened
abbrev pub after_included : (FileRequestOf → FilesReadSoFar → FilesReadSoFar) → ℕ → List ℕ → Option ℕ → List ℕ → FilesReadSoFar → FilesReadSoFar
after_included include place name included_by text read =
    if nat_le most_files (length read.files) then with_remark place (Fault too_long_fault) read else after_file include name included_by text read

-- after a file that a line names, given the result of reading it
abbrev pub after_read : (FileRequestOf → FilesReadSoFar → FilesReadSoFar) → FileRequestOf → List ℕ → TextRead → FilesReadSoFar → FilesReadSoFar
after_read include request name (Bytes text) read = after_included include request.place name (Some request.place) text read
after_read include request name Absent read = after_miss request.required request.place read
after_read include request name TooLong read = with_remark request.place (Fault too_long_fault) read

-- after a file that a line names
unfoldable pub after_name : (FileRequestOf → FilesReadSoFar → FilesReadSoFar) → Files → FileRequestOf → FilesReadSoFar → List ℕ → FilesReadSoFar
after_name include files request read name =
    after_read include request name (text_read read.room (files.text name)) read

-- after the files with the names that match one with `*` and `?`; no names are like a file that does not exist
abbrev pub after_names : (FileRequestOf → FilesReadSoFar → FilesReadSoFar) → Files → FileRequestOf → List (List ℕ) → FilesReadSoFar → FilesReadSoFar
after_names include files request [] read = after_miss request.required request.place read
after_names include files request (name ∷ names) read = fold (after_name include files request) read (name ∷ names)

-- after the files that a line requests, given how files in their lines are included
unfoldable pub after_request : (FileRequestOf → FilesReadSoFar → FilesReadSoFar) → Files → FileRequestOf → FilesReadSoFar → FilesReadSoFar
after_request include files request read =
    if is_wildcard request.name then after_names include files request (files.names request.name) read
    else after_name include files request read request.name

-- after the files that a line requests, given how deep files may be nested in the file of the line
unfoldable pub including : ℕ → Files → FileRequestOf → FilesReadSoFar → FilesReadSoFar
including zero files request read = with_remark request.place (Fault IncludeDepth) read
including (suc depth) files request read = after_request (including depth files) files request read

-- the effect of including files in the lines of the first file
abbrev pub including_first : Files → FileRequestOf → FilesReadSoFar → FilesReadSoFar
including_first files = including (most_depth - 1) files

-- a request with its name
abbrev pub request_now : FileRequest → FileRequestOf
request_now request = record { place = request.place; name = request.name.now; required = request.required }

-- before any file was opened
abbrev pub nothing_read : FilesReadSoFar
nothing_read = record { files = []; lines = []; remarks = []; room = most_bytes }

-- the files, their lines and the remarks on these
pub record FilesOf : Type 0 where
  pub files : List SourceFile
  pub lines : List SourceLine
  pub remarks : List LineRemark

-- the result of reading
abbrev pub files_of : FilesReadSoFar → FilesOf
files_of read = record { files = read.files; lines = read.lines; remarks = read.remarks }

-- the result of the first file and those in it, given the result of reading the first
abbrev pub reading_by : Files → List ℕ → TextRead → Result FilesOf ReadingFault
reading_by files name (Bytes text) = Ok (files_of (after_file (including_first files) name None text nothing_read))
reading_by files name Absent = Err not_found_error
reading_by files name TooLong = Err too_long_error

-- the result of the file with this name and those in it
unfoldable pub reading_of : Files → List ℕ → Result FilesOf ReadingFault
reading_of files name = reading_by files name (text_read most_bytes (files.text name))

-- the result of a call
abbrev pub files_read : FilesRead → FilesOf
files_read read = record { files = read.files.items; lines = read.lines.items; remarks = read.remarks.items }

-- a fault that the files decide, unlike out-of-memory
abbrev pub first_fault : ReadingFault → Option ReadingFault
first_fault not_found_error = Some not_found_error
first_fault too_long_error = Some too_long_error
first_fault NoMemory = None
