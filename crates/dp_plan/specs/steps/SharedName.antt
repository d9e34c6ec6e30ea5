-- How the canonical spelling of a name is kept with it.
use Rattle.std.specs.Prelude.{ℕ, List}
use Rattle.dp_pattern.specs.Name.{Meaning, Plain, Pattern}

-- the spelling of a name, given the text that is kept with it: a plain name is its own
abbrev pub spelled_by : Meaning → List ℕ → List ℕ
spelled_by (Plain text) written = text
spelled_by (Pattern classes tail) written = written
