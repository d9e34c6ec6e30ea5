-- The readings of a script's lines, given the number of lines before them.
use Rattle.std.proofs.Common.{◌≡◌, ℕ, ◌+◌, List, [], ◌∷◌, ◌++◌, Option, Result, Ok, Bor, length, refl, ap, ◌∙◌}
use Rattle.std.proofs.lemmas.List.{length-append}
use Rattle.dp_conf.specs.Answers.{with_front, all_of, each_after}
use Rattle.dp_conf.specs.Lines.{parts_of}
use Rattle.dp_conf.proofs.AnswersLemmas.{all_of-Ok}
use Rattle.dp_conf.proofs.LinesLemmas.{parts_left}
use Rattle.dp_commands.specs.Script.{reading_at, reading_by}
use Rattle.dp_commands.specs.declared.fault.PbxFault.{PbxFault}
use Rattle.dp_commands.specs.declared.script.ScriptLine.{ScriptLine}

-- the readings, after this number of lines
abbrev pub readings_from : {U : Type 0} → (List ℕ → Option (List (ScriptLine U))) → ℕ → List (List ℕ) → List (Result (List (ScriptLine U)) PbxFault)
readings_from stands_for number [] = []
readings_from stands_for number (part ∷ parts) =
    reading_at (number + 1) (stands_for part) ∷ readings_from stands_for (number + 1) parts

module _ {U : Type 0} (stands_for : List ℕ → Option (List (ScriptLine U))) where
  pub each_after-reading_by : (before parts : List (List ℕ))
      → each_after (reading_by stands_for) before parts ≡ readings_from stands_for (length before) parts
  each_after-reading_by before [] = refl
  each_after-reading_by before (part ∷ parts) =
      ap (λ (later : List (Result (List (ScriptLine U)) PbxFault)). reading_by stands_for before part ∷ later)
      (each_after-reading_by (before ++ part ∷ []) parts
      ∙ ap (λ n. readings_from stands_for n parts) (length-append before (part ∷ [])))

  -- one turn of the loop over the lines
  pub readings_from-turn : (text part : List ℕ) (after : Option (Bor (List ℕ))) (number : ℕ) (lines line : List (ScriptLine U))
      → parts_of text ≡ part ∷ parts_left after
      → reading_at (number + 1) (stands_for part) ≡ Ok line
      → with_front lines (all_of (readings_from stands_for number (parts_of text)))
      ≡ with_front (lines ++ line) (all_of (readings_from stands_for (number + 1) (parts_left after)))
  readings_from-turn text part after number lines line cut read =
      ap (λ (parts : List (List ℕ)). with_front lines (all_of (readings_from stands_for number parts))) cut
      ∙ all_of-Ok lines line (reading_at (number + 1) (stands_for part))
      (readings_from stands_for (number + 1) (parts_left after)) read
