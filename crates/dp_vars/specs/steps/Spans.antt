-- Spans made from other spans.
use Rattle.std.specs.Prelude.{ℕ, ◌+◌, min}
use Rattle.dp_vars.specs.declared.span.Span.{Span}

-- the empty span at a place
abbrev pub span_at : ℕ → Span
span_at place = record { from = place; to = place }

-- the first bytes of a span, this many
abbrev pub front_of : Span → ℕ → Span
front_of span size = record { from = span.from; to = min span.to (span.from + size) }

-- the rest after them
abbrev pub after_of : Span → ℕ → Span
after_of span size = record { from = min span.to (span.from + size); to = span.to }
