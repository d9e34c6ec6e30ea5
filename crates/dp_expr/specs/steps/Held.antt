-- Values as their bytes.
use Rattle.std.specs.Prelude.{ℕ, List}
use Rattle.std.specs.Fmt.{signed_decimal}
use Rattle.dp_expr.specs.declared.value.HeldValue.{HeldValue}
use Rattle.dp_expr.specs.declared.value.HeldValue.TheVariants.{Bytes, Number}

-- the bytes of a value, in whatever form it is kept
abbrev pub held_bytes : HeldValue → List ℕ
held_bytes (Bytes bytes) = bytes.items
held_bytes (Number number) = signed_decimal number
