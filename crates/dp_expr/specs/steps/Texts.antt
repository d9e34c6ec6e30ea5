-- A step of the code: its values in terms of definitions, written or computed. They are the values of trees (`value_of`
-- of Values).
use Rattle.std.specs.Prelude.{ℕ, List, Option, Some, None}
use Rattle.std.specs.Fmt.{signed_decimal}
use Rattle.dp_expr.specs.Values.{Outcome}
use Rattle.dp_expr.specs.declared.text_value.TextValue.{TextValue}
use Rattle.dp_expr.specs.declared.text_value.TextValue.TheVariants.{Written, Computed}

-- the bytes of a text
abbrev pub text_seen : TextValue → List ℕ
text_seen (Written operand) = operand.text.now
text_seen (Computed number) = signed_decimal number

-- a value: a text, or none for a fault
abbrev pub value_seen : Option TextValue → Outcome
value_seen None = None
value_seen (Some text) = Some (text_seen text)
