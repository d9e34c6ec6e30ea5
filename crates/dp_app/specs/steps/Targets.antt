-- The parts of a target, in whatever form they are kept.
use Rattle.std.specs.Prelude.{ℕ, ◌<◌, List, [], ◌∷◌, ◌++◌, length}
use Rattle.dp_conf.specs.Levels.{arguments_of}
use Rattle.dp_app.specs.declared.target.KeptParts.{KeptParts}
use Rattle.dp_app.specs.declared.target.KeptParts.TheVariants.{Apart, Whole}

-- the parts, with the last one after the others, or those of a text
abbrev pub kept_parts : KeptParts → List (List ℕ)
kept_parts (Apart front last) = front.items ++ last.items ∷ []
kept_parts (Whole text) = arguments_of text

-- a text that is kept whole has more than three parts
abbrev pub AreMany : KeptParts → Type 0
AreMany (Apart front last) = Unit {0}
AreMany (Whole text) = 3 < length (arguments_of text)
