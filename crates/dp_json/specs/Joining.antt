-- Texts that are joined to one.
use Rattle.std.specs.Prelude.{ℕ, List, [], ◌∷◌, ◌++◌}
use Rattle.std.specs.List.{flat_map}

-- a text behind a separator
abbrev pub behind_separator : ℕ → List ℕ → List ℕ
behind_separator separator text = separator ∷ text

-- texts, with a separator between each two
abbrev pub joined_texts : ℕ → List (List ℕ) → List ℕ
joined_texts separator [] = []
joined_texts separator (text ∷ texts) = text ++ flat_map (behind_separator separator) texts
