-- The meaning of an `assume` line, and of a line that a plain script may have.
use Rattle.std.proofs.Common.{◌≡◌, ℕ, Bool, true, false, List, [], ◌∷◌, ◌++◌, Option, Some, None, append-nil, map, unwrap_or, refl, ap, ◌∙◌}
use Rattle.std.specs.Prelude.{is_some}
use Rattle.std.specs.List.{flat_map}
use Rattle.std.specs.Option.{option_map, option_to_list}
use Rattle.dp_commands.specs.declared.script.ScriptLine.{ScriptLine}
use Rattle.dp_commands.specs.declared.script.Turn.{Turn}
use Rattle.dp_wide_runs.specs.Lines.{assume_lines, assumes, plain_or, wide_lines_of}
use Rattle.dp_wide_runs.specs.declared.wide_turn.WideTurn.{WideTurn}

-- a line for each function; without functions there is no line
pub all_assumed : (functions : List (List ℕ)) → unwrap_or (assume_lines functions) [] ≡ map assumes functions
all_assumed [] = refl
all_assumed (function ∷ functions) = refl

module _ (further : Option (ScriptLine WideTurn)) where
  -- a line of a plain script
  pub plain_sound : (plain : Option (List (ScriptLine Turn))) → true ≡ is_some plain → true ≡ is_some (plain_or plain further)
  plain_sound None sound = cc
  plain_sound (Some lines) sound = refl

  pub plain_lines : (plain : Option (List (ScriptLine Turn))) (old new : List (ScriptLine WideTurn)) → true ≡ is_some plain
      → new ≡ old ++ unwrap_or (option_map (λ lines. flat_map wide_lines_of lines) plain) [] → new ≡ old ++ unwrap_or (plain_or plain further) []
  plain_lines None old new sound is = cc
  plain_lines (Some lines) old new sound is = is

  -- a line that a plain script does not have
  pub further_sound : (plain : Option (List (ScriptLine Turn))) (sound : Bool) → false ≡ is_some plain → sound ≡ is_some further
      → sound ≡ is_some (plain_or plain further)
  further_sound None sound faulty is = is ∙ by further
    where
      by : (line : Option (ScriptLine WideTurn)) → is_some line ≡ is_some (plain_or None line)
      by None = refl
      by (Some line) = refl
  further_sound (Some lines) sound faulty is = cc

  pub further_lines : (plain : Option (List (ScriptLine Turn))) (old begun new : List (ScriptLine WideTurn)) → false ≡ is_some plain
      → begun ≡ old ++ unwrap_or (option_map (λ lines. flat_map wide_lines_of lines) plain) [] → new ≡ begun ++ option_to_list further
      → new ≡ old ++ unwrap_or (plain_or plain further) []
  further_lines None old begun new faulty start is = is ∙ (ap (λ (lines : List (ScriptLine WideTurn)). lines ++ option_to_list further) (start ∙ append-nil old) ∙ by further)
    where
      by : (line : Option (ScriptLine WideTurn)) → old ++ option_to_list line ≡ old ++ unwrap_or (plain_or None line) []
      by None = refl
      by (Some line) = refl
  further_lines (Some lines) old begun new faulty start is = cc
