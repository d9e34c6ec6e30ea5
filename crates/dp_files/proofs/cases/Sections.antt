-- Sections in the lines of files, computed from the definitions themselves.
use Rattle.std.proofs.Common.{◌≡◌, ℕ, Bool, List, [], ◌∷◌, Some, None, refl, false, true}
use Rattle.std.specs.Prelude.{codes}
use Rattle.dp_conf.specs.declared.fault.LineKind.{LineKind}
use Rattle.dp_conf.specs.declared.fault.LineKind.TheVariants.{NoSection, NoEquals, BadHeader, Template}
use Rattle.dp_files.specs.SectionParts.{fault_at}
use Rattle.dp_files.specs.Sections.{sections_of, after_content, after_named_header, after_item, sections_after, with_copies, copies_within, opening_of, section_of_next}
use Rattle.dp_files.specs.declared.remark.Fault.TheVariants.{Line}
use Rattle.dp_files.specs.declared.remark.LineRemark.{LineRemark}
use Rattle.dp_files.specs.declared.sections.SourceSection.{SourceSection}
use Rattle.dp_files.specs.declared.source_line.SourceFile.{SourceFile}
use Rattle.dp_files.specs.declared.source_line.SourceLine.{SourceLine}

-- a line of a file
abbrev line : ℕ → List ℕ → SourceLine
line file text = record { file = file; line = 1; text = text }

-- a file, and one that is included by the line at a place
abbrev first_file : SourceFile
first_file = record { name = []; included_by = None }

abbrev file_at : ℕ → SourceFile
file_at place = record { name = []; included_by = Some place }

-- the section before any header, with these lines
abbrev nameless : List ℕ → SourceSection
nameless lines = record { header = None; name = []; is_template = false; lines = lines }

-- a section with a header
abbrev section : ℕ → List ℕ → Bool → List ℕ → SourceSection
section place name is_template lines = record { header = Some place; name = name; is_template = is_template; lines = lines }

-- a faulty line
abbrev fault : ℕ → LineKind → LineRemark
fault place kind = fault_at place (Line kind)

abbrev template_lines : List SourceLine
template_lines = line 0 (codes "[a](!)") ∷ line 0 (codes "x=1") ∷ line 0 (codes "[b] (A, !)") ∷ line 0 (codes "y=2") ∷ line 0 (codes "[c](b,a)") ∷ []

-- the lines of a template come first, including those that it has from another
template : (sections_of (first_file ∷ []) template_lines).sections
    ≡ nameless [] ∷ section 0 (codes "a") true (1 ∷ []) ∷ section 2 (codes "b") true (1 ∷ 3 ∷ []) ∷ section 4 (codes "c") false (1 ∷ 3 ∷ 1 ∷ []) ∷ []
unfolding sections_of after_content after_named_header after_item sections_after with_copies copies_within opening_of section_of_next
template = refl

abbrev include_lines : List SourceLine
include_lines =
    line 0 (codes "[a]") ∷ line 0 (codes "#include f") ∷ line 1 (codes "x=1") ∷ line 1 (codes "[b]") ∷ line 1 (codes "y=1") ∷ line 0 (codes "z=1") ∷ []

-- an included file begins in the open section, and after it the including file goes on in its own
include : (sections_of (first_file ∷ file_at 1 ∷ []) include_lines).sections
    ≡ nameless [] ∷ section 0 (codes "a") false (2 ∷ 5 ∷ []) ∷ section 3 (codes "b") false (4 ∷ []) ∷ []
unfolding sections_of after_content after_named_header after_item sections_after with_copies copies_within opening_of section_of_next
include = refl

abbrev faulty_lines : List SourceLine
faulty_lines =
    line 0 (codes "x=1") ∷ line 0 (codes "; y") ∷ line 0 (codes "[a]") ∷ line 0 (codes "x") ∷ line 0 (codes "[b](c)") ∷ line 0 (codes "[]") ∷ line 0 (codes "[d](+)") ∷ line 0 (codes "y=1") ∷ []

-- a faulty header opens no section
faulty : (sections_of (first_file ∷ []) faulty_lines).sections ≡ nameless (1 ∷ []) ∷ section 2 (codes "a") false (7 ∷ []) ∷ []
unfolding sections_of after_content after_named_header after_item sections_after with_copies copies_within opening_of section_of_next
faulty = refl

faulty-remarks : (sections_of (first_file ∷ []) faulty_lines).remarks
    ≡ fault 0 NoSection ∷ fault 3 NoEquals ∷ fault 4 Template ∷ fault 5 BadHeader ∷ fault 6 Template ∷ []
unfolding sections_of after_content after_named_header after_item sections_after with_copies copies_within opening_of section_of_next
faulty-remarks = refl

abbrev addition_lines : List SourceLine
addition_lines =
    line 0 (codes "[a]") ∷ line 0 (codes "x=1") ∷ line 0 (codes "[b]") ∷ line 0 (codes "y=1") ∷ line 0 (codes "[A](+,b)") ∷ line 0 (codes "z=1") ∷ line 0 (codes "[a]") ∷ line 0 (codes "w=1") ∷ []

-- `+` extends the first section with its name, after the existing lines; without it a new section with that name begins
addition : (sections_of (first_file ∷ []) addition_lines).sections
    ≡ nameless [] ∷ section 0 (codes "a") false (1 ∷ 3 ∷ 5 ∷ []) ∷ section 2 (codes "b") false (3 ∷ []) ∷ section 6 (codes "a") false (7 ∷ []) ∷ []
unfolding sections_of after_content after_named_header after_item sections_after with_copies copies_within opening_of section_of_next
addition = refl
