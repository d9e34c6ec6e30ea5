-- Texts whose items, parts and arguments are computed from the definitions themselves.
use Rattle.std.proofs.Common.{◌≡◌, [], ◌∷◌, ◌++◌, Ok, Err, Some, None, refl, false, true}
use Rattle.std.specs.Prelude.{codes}
use Rattle.dp_conf.specs.Blanks.{trim}
use Rattle.dp_conf.specs.Groups.{Over, Plain, Group, depth_of}
use Rattle.dp_conf.specs.GroupsRead.{levels, reading_of, nesting_of}
use Rattle.dp_conf.specs.Levels.{parts_of, arguments_of, cut_outside}
use Rattle.dp_conf.specs.declared.groups.GroupKind.TheVariants.{Braces, Brackets}
use Rattle.dp_conf.specs.Lines.{Header, Pair, opens_block, comment_of, content_of, lines_of}
use Rattle.dp_conf.specs.declared.fault.LineKind.TheVariants.{NoSection, BadHeader, NoEquals, Directive, Template, BlockComment}

trimmed : trim (codes "  a b ") ≡ codes "a b"
trimmed = refl

-- a line feed is not a blank
trimmed-line_feed : trim (32 ∷ 10 ∷ 32 ∷ []) ≡ 10 ∷ []
trimmed-line_feed = refl

arguments-levels : arguments_of (codes "a(b,c), d,") ≡ codes "a(b,c)" ∷ codes "d" ∷ [] ∷ []
unfolding parts_of
arguments-levels = refl

-- an unmatched `)` is plain
arguments-unmatched : arguments_of (codes "a),b") ≡ codes "a)" ∷ codes "b" ∷ []
unfolding parts_of
arguments-unmatched = refl

arguments-empty : arguments_of [] ≡ [] ∷ []
unfolding parts_of
arguments-empty = refl

-- `a\;b\\;c` is `a;b\;c`
content-escaped : content_of (codes "a" ++ 92 ∷ 59 ∷ codes "b" ++ 92 ∷ 92 ∷ 59 ∷ codes "c") ≡ codes "a;b" ++ 92 ∷ 59 ∷ codes "c"
content-escaped = refl

block-at_the_end : opens_block (comment_of (codes "a=1 ;--")) ≡ true
block-at_the_end = refl

block-third_dash : opens_block (comment_of (codes ";--- x")) ≡ false
block-third_dash = refl

lines-two : lines_of (codes "[ m ]" ++ 10 ∷ codes "a => b ; c") ≡ Ok (Header 1 (codes "m") ∷ Pair 2 (codes "a") (codes "b") ∷ [])
unfolding lines_of
lines-two = refl

-- the mark is skipped, and the last line feed begins no new line
lines-mark : lines_of (239 ∷ 187 ∷ 191 ∷ codes "[m]" ++ 10 ∷ []) ≡ Ok (Header 1 (codes "m") ∷ [])
unfolding lines_of
lines-mark = refl

-- the first faulty line counts
lines-first_fault : lines_of (codes "[m]" ++ 10 ∷ codes "abc" ++ 10 ∷ codes "[") ≡ Err (record { line = 2; kind = NoEquals })
unfolding lines_of
lines-first_fault = refl

lines-no_section : lines_of (10 ∷ codes "a=1") ≡ Err (record { line = 2; kind = NoSection })
unfolding lines_of
lines-no_section = refl

lines-block : lines_of (codes "[x ;-- y") ≡ Err (record { line = 1; kind = BlockComment })
unfolding lines_of
lines-block = refl

lines-empty_name : lines_of (codes "[](!)") ≡ Err (record { line = 1; kind = BadHeader })
unfolding lines_of
lines-empty_name = refl

lines-template : lines_of (codes "[x] (!)") ≡ Err (record { line = 1; kind = Template })
unfolding lines_of
lines-template = refl

lines-directive : lines_of (codes "#include x") ≡ Err (record { line = 1; kind = Directive })
unfolding lines_of
lines-directive = refl

-- an opening without an end is plain, and reading goes on after it
groups-unclosed : reading_of (codes "${a${b}") ≡ Plain 36 (Plain 123 (Plain 97 (Group Braces (Plain 98 Over) Over)))
unfolding reading_of levels
groups-unclosed = refl

-- an opening without an end also keeps those around it open
groups-other_end : nesting_of (codes "${a$[b}") ≡ 0
unfolding nesting_of reading_of levels depth_of
groups-other_end = refl

groups-inside : reading_of (codes "$[${}]") ≡ Group Brackets (Group Braces Over Over) Over
unfolding reading_of levels
groups-inside = refl

groups-nesting : nesting_of (codes "${$[${a}]}${b}") ≡ 3
unfolding nesting_of reading_of levels depth_of
groups-nesting = refl

-- a byte is looked for outside parentheses
outside-cut : cut_outside 58 (codes "LEN(a:b):1:2") ≡ Some (codes "LEN(a:b)", codes "1:2")
unfolding cut_outside
outside-cut = refl

outside-none : cut_outside 58 (codes "F(:1") ≡ None
unfolding cut_outside
outside-none = refl
