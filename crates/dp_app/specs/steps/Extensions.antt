-- Extensions as their bytes.
use Rattle.std.specs.Prelude.{ℕ, List, [], ◌∷◌}
use Rattle.dp_app.specs.declared.exten.HeldExten.{HeldExten}
use Rattle.dp_app.specs.declared.exten.HeldExten.TheVariants.{Text, Byte}

-- the bytes of an extension, in whatever form they are kept
abbrev pub held_bytes : HeldExten → List ℕ
held_bytes (Text text) = text
held_bytes (Byte byte) = byte ∷ []
