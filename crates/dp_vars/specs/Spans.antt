-- Places in a text.
use Rattle.std.specs.Prelude.{ℕ, ◌-◌, List, drop, take}
use Rattle.dp_vars.specs.declared.span.Span.{Span}

-- the text between two places, as far as the text goes
abbrev pub text_at : List ℕ → Span → List ℕ
text_at text span = take (span.to - span.from) (drop span.from text)
