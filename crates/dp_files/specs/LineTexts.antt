-- The bytes of the text of a line, however they are kept.
use Rattle.std.specs.Prelude.{ℕ, List}
use Rattle.dp_files.specs.declared.line_text.KeptText.{KeptText}
use Rattle.dp_files.specs.declared.line_text.KeptText.TheVariants.{Part, Own}

-- the bytes of a text that is kept in this way
abbrev pub kept_bytes : KeptText → List ℕ
kept_bytes (Part part) = part
kept_bytes (Own text) = text
