-- Expanded texts, and parts of values, computed from the definitions themselves.
use Rattle.std.proofs.Common.{◌≡◌, [], Some, None, refl, not, ◌||◌, if◌then◌else◌, codes}
use Rattle.std.specs.Fmt.{digits}
use Rattle.dp_conf.specs.GroupsRead.{levels, reading_of}
use Rattle.dp_conf.specs.Levels.{cut_outside}
use Rattle.dp_conf.specs.Words.{same_text}
use Rattle.dp_expr.specs.declared.reading.ExpressionReading.TheVariants as readings
use Rattle.dp_vars.specs.Openings.{has_opening}
use Rattle.dp_vars.specs.Parts.{asked_of, part}
use Rattle.dp_vars.specs.Sights.{Sight}
use Rattle.dp_vars.specs.Functions.{FunctionTable, Nothing}
use Rattle.dp_vars.specs.Unknown.{first_unknown, unknown_group, unknown_of}
use Rattle.dp_vars.specs.Values.{group_value_with, head_value_with, expansion_of_with, expansion, expansion_with}

-- `X` is `abcdef`, `A` is `${X}`, the global `G` is `g`, and two calls wait in each queue
sight : Sight
sight = record {
  variable = λ name. if same_text name (codes "X") then codes "abcdef" else (if same_text name (codes "A") then codes "${X}" else []);
  is_set = λ name. same_text name (codes "X") || same_text name (codes "A");
  held = λ name. if same_text name (codes "X") then Some (codes "abcdef") else None;
  global = λ name. if same_text name (codes "G") then codes "g" else [];
  has_global = λ name. same_text name (codes "G");
  local = λ name. [];
  caller = codes "5551234";
  waiting = λ queue. 2;
  members = λ queue. Some 3;
}

part-from_the_end : part (asked_of (Some (codes "-2"))) (codes "abcdef") ≡ codes "ef"
part-from_the_end = refl

part-without_the_end : part (asked_of (Some (codes "1:-1"))) (codes "abcdef") ≡ codes "bcde"
part-without_the_end = refl

part-before_the_front : part (asked_of (Some (codes "-9:2"))) (codes "abcdef") ≡ codes "ab"
part-before_the_front = refl

-- minus zero is zero
part-minus_nothing : part (asked_of (Some (codes "1:-0"))) (codes "abcdef") ≡ []
part-minus_nothing = refl

-- an empty offset is 0, and an empty length means none
part-empty : part (asked_of (Some (codes ":"))) (codes "abcdef") ≡ codes "abcdef"
part-empty = refl

part-faulty : part (asked_of (Some (codes "1:2:3"))) (codes "abcdef") ≡ []
part-faulty = refl

-- numbers of any length are exact
part-far : part (asked_of (Some (codes "-9999999999999999999999999999999999999999:1"))) (codes "abcdef") ≡ codes "a"
part-far = refl

-- a part of a function's value
row-length : expansion sight (codes "${LEN(abcdefghijkl):-1}") ≡ codes "2"
unfolding sight reading_of levels expansion_of_with group_value_with head_value_with cut_outside digits
row-length = refl

-- the text between the last `)` and the cut has no effect
row-after : expansion sight (codes "${LEN(a)b:1}|${LEN(a)b}") ≡ codes "|1"
unfolding sight reading_of levels expansion_of_with group_value_with head_value_with cut_outside digits
row-after = refl

-- a value is not expanded again
row-once : expansion sight (codes "${A}${LEN(${A})}") ≡ codes "${X}4"
unfolding sight reading_of levels expansion_of_with group_value_with head_value_with cut_outside digits
row-once = refl

-- a function without a `)` is empty, and an opening without an end is plain
row-open : expansion sight (codes "${F(}${a${X:5}") ≡ codes "${af"
unfolding sight reading_of levels expansion_of_with group_value_with head_value_with cut_outside digits
row-open = refl

row-functions : expansion sight (codes "${GLOBAL(G)}${CALLERID(num):-4}${CALLERID( num)}${QUEUE_WAITING_COUNT(q)}${len(x)}") ≡ codes "g12342"
unfolding sight reading_of levels expansion_of_with group_value_with head_value_with cut_outside digits
row-functions = refl

-- a table that knows only the function `DB`, whose value is its argument, only the names that are set, and of expressions only one with its
-- value and one that is `0`
own_functions : FunctionTable
own_functions = record {
  value = λ sight name argument. if same_text name (codes "DB") then argument else [];
  knows = λ sight name argument. same_text name (codes "DB");
  variable = λ sight name. if same_text name (codes "A") then codes "a" else sight.variable name;
  knows_name = λ sight name. sight.is_set name;
  reads = λ text. not (same_text text (codes "${A{}}"));
  expression = λ body. if same_text body (codes "1 + 2") then readings.Value else (if same_text body (codes "1 2") then readings.Zero else readings.Unknown);
  target = λ name. Nothing;
}

-- a name of another table
row-own : expansion_with own_functions sight (codes "${DB(${X}):1:2}${LEN(ab)}") ≡ codes "bc"
unfolding own_functions sight reading_of levels expansion_of_with group_value_with head_value_with cut_outside
row-own = refl

-- a plain name to which another table gives another value
row-own_name : expansion_with own_functions sight (codes "${A}|${X:1:2}") ≡ codes "a|bc"
unfolding own_functions sight reading_of levels expansion_of_with group_value_with head_value_with cut_outside
row-own_name = refl

-- what is inside a group comes first
row-unknown : first_unknown own_functions sight (codes "${DB(x)}${G(${F(${X}):1})}") ≡ Some (codes "F(abcdef)")
unfolding own_functions sight reading_of levels expansion_of_with group_value_with head_value_with cut_outside unknown_of unknown_group has_opening
row-unknown = refl

row-known : first_unknown own_functions sight (codes "${DB(x)}${X}$[1 + 2]${F(}") ≡ None
unfolding own_functions sight reading_of levels expansion_of_with group_value_with head_value_with cut_outside unknown_of unknown_group has_opening
row-known = refl

-- an unknown name in an argument
row-unknown_name : first_unknown own_functions sight (codes "${X}${DB(${N:1})}${M}") ≡ Some (codes "N")
unfolding own_functions sight reading_of levels expansion_of_with group_value_with head_value_with cut_outside unknown_of unknown_group has_opening
row-unknown_name = refl

-- an unknown expression comes after what is inside it, and its name is the expression as written
row-unknown_expression : first_unknown own_functions sight (codes "$[1 + 2]$[1 2]$[${X}]${N}") ≡ Some (codes "$[abcdef]")
unfolding own_functions sight reading_of levels expansion_of_with group_value_with head_value_with cut_outside unknown_of unknown_group has_opening
row-unknown_expression = refl

row-zero : expansion_with own_functions sight (codes "a$[1 2]b") ≡ codes "a0b"
unfolding own_functions sight reading_of levels expansion_of_with group_value_with head_value_with cut_outside
row-zero = refl

-- a text in which the table reads other groups is itself not known
row-read_otherwise : first_unknown own_functions sight (codes "${A{}}") ≡ Some (codes "${A{}}")
unfolding own_functions sight reading_of levels expansion_of_with group_value_with head_value_with cut_outside unknown_of unknown_group has_opening
row-read_otherwise = refl
