-- The notices on each line of the files. Each goes to its line, unless the line already has one with the same number and name.
use Rattle.std.specs.Prelude.{ℕ, Bool, true, false, ◌&&◌, ◌==◌, Option, Some, None, List, [], ◌∷◌, ◌++◌, length, map, filter, sum, fold, if◌then◌else◌}
use Rattle.std.specs.List.{list_any}
use Rattle.dp_conf.specs.Changes.{changed_at}
use Rattle.dp_conf.specs.Words.{same_text}
use Rattle.dp_notices.specs.Notices.{is_fault, wording}
use Rattle.dp_files.specs.declared.source_line.SourceLine.{SourceLine}
use Rattle.dp_notices.specs.declared.line_notices.NotedLine.{NotedLine}
use Rattle.dp_notices.specs.declared.line_notices.NoticeAt.{NoticeAt}
use Rattle.dp_notices.specs.declared.notice.Notice.{Notice}

-- whether two numbers are the same, or both are missing
abbrev pub same_number : Option ℕ → Option ℕ → Bool
same_number None None = true
same_number None (Some n) = false
same_number (Some m) None = false
same_number (Some m) (Some n) = m == n

-- whether two notices have the same number and the same name
abbrev pub is_same : Notice → Notice → Bool
is_same notice other = same_number (wording other).number (wording notice).number && same_text (wording other).name (wording notice).name

-- whether there is a notice with the same number and the same name
abbrev pub has_notice : Notice → List Notice → Bool
has_notice notice notices = list_any (is_same notice) notices

-- the notices with one more, unless it is there already
abbrev pub with_notice : Notice → List Notice → List Notice
with_notice notice notices = if has_notice notice notices then notices else notices ++ notice ∷ []

-- a line without a notice
abbrev pub without_notices : SourceLine → NotedLine
without_notices line = record { line = line; notices = [] }

-- a line with one more notice
abbrev pub line_with_notice : Notice → NotedLine → NotedLine
line_with_notice notice line = record { line = line.line; notices = with_notice notice line.notices }

-- a notice goes to its line
abbrev pub after_notice : List NotedLine → NoticeAt → List NotedLine
after_notice lines notice = changed_at (line_with_notice notice.notice) notice.source lines

-- notices go to their lines, one after another
abbrev pub after_notices : List NotedLine → List NoticeAt → List NotedLine
after_notices lines notices = fold after_notice lines notices

-- the lines, each with its notices
abbrev pub noted_lines : List SourceLine → List NoticeAt → List NotedLine
noted_lines lines notices = after_notices (map without_notices lines) notices

-- how many faults there are on some lines
abbrev pub faults_in : List NotedLine → ℕ
faults_in lines = sum (map (λ line. length (filter is_fault line.notices)) lines)
