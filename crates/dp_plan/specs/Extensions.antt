-- The extensions of a dialplan: a context and a name, where two names with one meaning are the same.
use Rattle.std.specs.Prelude.{ℕ, Bool, ◌&&◌, List}
use Rattle.dp_conf.specs.Words.{same_text}
use Rattle.dp_pattern.specs.Name.{Meaning}
use Rattle.dp_pattern.specs.Spelling.{spelling}
use Rattle.dp_plan.specs.declared.extension.Extension.{Extension}

-- two names have one meaning: a meaning has one canonical spelling
abbrev pub same_name : Meaning → Meaning → Bool
same_name a b = same_text (spelling a) (spelling b)

-- the extension with a name in a context
abbrev pub extension_of : List ℕ → Meaning → Extension
extension_of context name = record { context = context; spelling = spelling name }

-- two extensions are the same
abbrev pub same_extension : Extension → Extension → Bool
same_extension a b = same_text a.context b.context && same_text a.spelling b.spelling
