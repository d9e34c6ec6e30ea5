-- Texts with more than three parts.
use Rattle.std.proofs.Common.{◌≡◌, ◌<◌, ℕ, Bool, true, false, cond, List, [], ◌∷◌, ◌++◌, ap, length, arith}
use Rattle.std.proofs.Common.{Option, Some, None, MatchOption, Bor, is_some}
use Rattle.std.specs.List.{onto_first}
use Rattle.std.proofs.lemmas.List.{length-map}
use Rattle.dp_conf.specs.Blanks.{trim}
use Rattle.dp_conf.specs.Levels.{arguments_of, parts_arguments, parts_of, split_after}

-- a text has a part
some_part : (text : List ℕ) → 0 < length (parts_of text)
unfolding parts_of
some_part text = from [] text
  where
    from : (before text : List ℕ) → 0 < length (split_after parts_arguments before text)
    from before [] = omega arith
    from before (b ∷ text) = by (parts_arguments before b) (split_after parts_arguments (before ++ b ∷ []) text)
      where
        by : (cuts : Bool) (parts : List (List ℕ)) → 0 < length (cond cuts ([] ∷ parts) (onto_first b parts))
        by true parts = omega arith
        by false [] = omega arith
        by false (part ∷ parts) = omega arith

-- a text with a rest after three parts has more than three
pub more_than_three : (target first second third rest left : List ℕ) (after : Option (Bor (List ℕ)))
    → parts_of target ≡ first ∷ parts_of rest → parts_of rest ≡ second ∷ parts_of left → is_some after ≡ true
    → MatchOption after (parts_of left ≡ third ∷ []) (λ last. parts_of left ≡ third ∷ parts_of last.now)
    → 3 < length (arguments_of target)
more_than_three target first second third rest left None one two is three = (cc)
more_than_three target first second third rest left (Some last) one two is three =
    omega (arith, ap length one, ap length two, ap length three, some_part last.now, length-map (parts_of target) trim)
