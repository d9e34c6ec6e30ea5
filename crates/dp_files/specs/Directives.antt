-- The requests of lines that begin with `#`.
use Rattle.std.specs.Prelude.{ℕ, ◌+◌, ◌==◌, List, [], ◌∷◌, take, drop, Option, Some, None, unwrap_or, codes, if◌then◌else◌}
use Rattle.std.specs.Option.{option_map, option_and_then}
use Rattle.std.specs.Str.{byte}
use Rattle.dp_conf.specs.Blanks.{is_blank, trim}
use Rattle.dp_conf.specs.Words.{same_word}
use Rattle.dp_files.specs.declared.directive.Directive.{Directive}
use Rattle.dp_files.specs.declared.directive.Directive.TheVariants.{Include as include_in, TryInclude as try_include_in, Exec as exec_in, Unknown as unknown_in}

-- a file whose lines belong here, one whose lines belong here if it exists, a command, or another line that begins with `#`
pub data DirectiveOf : Type 0 where
  Include : List ℕ → DirectiveOf
  TryInclude : List ℕ → DirectiveOf
  Exec : DirectiveOf
  Unknown : DirectiveOf

-- the number of bytes before the first blank
abbrev pub word_length : List ℕ → ℕ
word_length [] = 0
word_length (b ∷ bs) = if is_blank b then 0 else 1 + word_length bs

-- the text before the last byte, if that is this byte
abbrev pub before_end : ℕ → List ℕ → Option (List ℕ)
before_end byte [] = None
before_end byte (b ∷ []) = if b == byte then Some [] else None
before_end byte (b ∷ c ∷ bs) = option_map (λ front. b ∷ front) (before_end byte (c ∷ bs))

-- the byte that closes what this one opens
abbrev pub closing_of : ℕ → Option ℕ
closing_of b =
    if b == byte "\"" then Some (byte "\"")
    else if b == byte "'" then Some (byte "'")
    else if b == byte "<" then Some (byte ">")
    else None

-- a name in quotes or in `<` and `>` is the text between them, and any other is unchanged
abbrev pub without_quotes : List ℕ → List ℕ
without_quotes [] = []
without_quotes (b ∷ bs) = unwrap_or (option_and_then (λ closing. before_end closing bs) (closing_of b)) (b ∷ bs)

-- a directive, given its word and its name: a command is one whatever comes after its word
abbrev pub directive_by : List ℕ → List ℕ → DirectiveOf
directive_by word [] = if same_word word (codes "exec") then Exec else Unknown
directive_by word (b ∷ bs) =
    if same_word word (codes "exec") then Exec
    else if same_word word (codes "include") then Include (b ∷ bs)
    else if same_word word (codes "tryinclude") then TryInclude (b ∷ bs)
    else Unknown

-- the request of a content, if it begins with `#`
unfoldable pub directive_of : List ℕ → Option DirectiveOf
directive_of [] = None
directive_of (b ∷ bs) =
    if b == byte "#" then Some (directive_by (take (word_length bs) bs) (without_quotes (trim (drop (word_length bs) bs)))) else None

-- a directive with its name
abbrev pub directive_now : Directive → DirectiveOf
directive_now (include_in name) = Include name.now
directive_now (try_include_in name) = TryInclude name.now
directive_now exec_in = Exec
directive_now unknown_in = Unknown

-- the name that a line includes, or an empty one if it includes none
abbrev pub included_name : Option DirectiveOf → List ℕ
included_name None = []
included_name (Some (Include name)) = name
included_name (Some (TryInclude name)) = name
included_name (Some Exec) = []
included_name (Some Unknown) = []
