-- Headers of sections, and the words in their parentheses.
use Rattle.std.specs.Prelude.{ℕ, Bool, not, ◌||◌, ◌==◌, List, [], ◌∷◌, ◌++◌, length, map, filter, Option, Some, None, is_some, Result, Ok, Err, codes, if◌then◌else◌}
use Rattle.std.specs.Option.{option_map, option_map_or}
use Rattle.std.specs.List.{list_any, slice_split}
use Rattle.std.specs.Str.{byte}
use Rattle.dp_conf.specs.Blanks.{trim, trim_start}
use Rattle.dp_conf.specs.Cut.{cut_once}
use Rattle.dp_conf.specs.Escape.{escape_text}
use Rattle.dp_conf.specs.Lines.{content_of}
use Rattle.dp_conf.specs.Words.{same_text}
use Rattle.dp_conf.specs.declared.fault.LineKind.{LineKind}
use Rattle.dp_conf.specs.declared.fault.LineKind.TheVariants.{BadHeader, Template}
use Rattle.dp_files.specs.declared.header.SectionHeader.{SectionHeader}

-- the name of a header, and the text in its parentheses, if it has any
pub record HeaderOf : Type 0 where
  pub name : List ℕ
  pub options : Option (List ℕ)

-- the header with its texts
abbrev pub header_now : SectionHeader → HeaderOf
header_now header = record { name = header.name.now; options = option_map (λ options. options.now) header.options }

-- a header with parentheses, given the text cut at the `)`: only blanks may come after it
abbrev pub with_options : List ℕ → Option (List ℕ × List ℕ) → Result HeaderOf LineKind
with_options name None = Err Template
with_options name (Some cut) =
    if length (trim_start cut.1) == 0 then Ok (record { name = name; options = Some cut.0 }) else Err Template

-- a header, given its trimmed name and the text after its `]`, from the first byte that is not a blank
abbrev pub header_by : List ℕ → List ℕ → Result HeaderOf LineKind
header_by [] after = Err BadHeader
header_by (n ∷ name) [] = Ok (record { name = n ∷ name; options = None })
header_by (n ∷ name) (b ∷ after) =
    if b == byte "(" then with_options (n ∷ name) (cut_once (byte ")") after) else Err BadHeader

-- a header, given the text after its `[`, cut at the `]`
abbrev pub header_cut : Option (List ℕ × List ℕ) → Result HeaderOf LineKind
header_cut None = Err BadHeader
header_cut (Some cut) = header_by (trim cut.0) (trim_start cut.1)

-- a header, given the text after its `[`, or what is wrong with it
abbrev pub header_of : List ℕ → Result HeaderOf LineKind
header_of inside = header_cut (cut_once (byte "]") inside)

-- the byte that separates the words in the parentheses
abbrev pub is_comma : ℕ → Bool
is_comma b = b == byte ","

-- the words between the commas, without the blanks at their ends; some may be empty
abbrev pub words_of : List ℕ → List (List ℕ)
words_of options = map trim (slice_split is_comma options)

-- the word that makes a section a template
abbrev pub is_template_mark : List ℕ → Bool
is_template_mark word = same_text word (codes "!")

-- the word that extends a section
abbrev pub is_addition_mark : List ℕ → Bool
is_addition_mark word = same_text word (codes "+")

-- a word that names a section
abbrev pub names_section : List ℕ → Bool
names_section word = not (length word == 0 || (is_template_mark word || is_addition_mark word))

-- the words of a header, if it has parentheses
abbrev pub header_words : HeaderOf → List (List ℕ)
header_words header = option_map_or words_of header.options []

-- the header's section is a template
abbrev pub makes_template : HeaderOf → Bool
makes_template header = list_any is_template_mark (header_words header)

-- the header extends the section with its name
abbrev pub is_addition : HeaderOf → Bool
is_addition header = list_any is_addition_mark (header_words header)

-- the names of the sections whose lines come before those of the header's section
abbrev pub parents_of : HeaderOf → List (List ℕ)
parents_of header = filter names_section (header_words header)

-- the line of a header without parentheses
abbrev pub plain_header : List ℕ → List ℕ
plain_header name = byte "[" ∷ escape_text name ++ byte "]" ∷ []

-- the line made from a header's line: unchanged if the header has no parentheses, else `[NAME]`
abbrev pub made_by : List ℕ → Result HeaderOf LineKind → List ℕ
made_by line (Err fault) = line
made_by line (Ok header) = if is_some header.options then plain_header header.name else line

-- a header, given the content of its line, if that is a header
abbrev pub header_in : List ℕ → Result HeaderOf LineKind
header_in [] = Err BadHeader
header_in (b ∷ bs) = if b == byte "[" then header_of bs else Err BadHeader

-- the line made from a line
abbrev pub made_header : List ℕ → List ℕ
made_header line = made_by line (header_in (content_of line))
