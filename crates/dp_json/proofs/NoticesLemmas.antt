-- The notices on a line that are shown have as many lines as there are.
use Rattle.std.proofs.Common.{◌≡◌, ℕ, Bool, true, false, cond, List, [], ◌∷◌, ◌++◌, filter, length, refl, ◌∙◌, arith}
use Rattle.dp_files.specs.declared.source_line.SourceLine.{SourceLine}
use Rattle.dp_notices.specs.Printing.{is_shown}
use Rattle.dp_notices.specs.declared.notice.Notice.{Notice}
use Rattle.dp_notices.specs.declared.printing.Shown.{Shown}
use Rattle.dp_json.specs.Lines.{line_count}
use Rattle.dp_json.specs.Notices.{notice_line, notice_lines, notice_object}
use Rattle.dp_json.proofs.LinesLemmas.{count_object}

-- one notice more
count_one : (t : Bool) (file : List ℕ) (line : SourceLine) (notice : Notice) (rest : List ℕ) (shown : List Notice) → line_count rest ≡ length shown
    → line_count (cond t (notice_line file line notice) [] ++ rest) ≡ length (cond t (notice ∷ shown) shown)
unfolding notice_line
count_one true file line notice rest shown h = count_object (notice_object file line notice) rest ∙ omega (arith, h)
count_one false file line notice rest shown h = h

pub count_shown : (shown : Shown) (file : List ℕ) (line : SourceLine) (notices : List Notice)
    → line_count (notice_lines shown file line notices) ≡ length (filter (is_shown shown) notices)
count_shown shown file line [] = refl
count_shown shown file line (notice ∷ notices) =
    count_one (is_shown shown notice) file line notice (notice_lines shown file line notices) (filter (is_shown shown) notices)
    (count_shown shown file line notices)
