-- The functions that a text calls, byte by byte.
use Rattle.std.proofs.Common.{◌≡◌, ℕ, List, ◌∷◌, ◌++◌, filter, map, append_assoc, ap, sym, ◌∙◌}
use Rattle.std.specs.Option.{option_to_list}
use Rattle.std.proofs.lemmas.List.{map-append}
use Rattle.dp_wide_runs.specs.FunctionsCalled.{function_after, is_no_function, no_functions_in}
use Rattle.dp_wide_runs.specs.declared.wide_finding.WideFinding.{WideFinding}

-- the functions that a text calls, after the one that a byte opens before it
pub functions_next : (found : List ℕ → WideFinding) (before : List WideFinding) (byte : ℕ) (after : List ℕ) →
    (before ++ map found (filter is_no_function (option_to_list (function_after byte after)))) ++ map found (no_functions_in after)
    ≡ before ++ map found (no_functions_in (byte ∷ after))
unfolding no_functions_in
functions_next found before byte after =
    append_assoc before (map found (filter is_no_function (option_to_list (function_after byte after)))) (map found (no_functions_in after))
    ∙ ap (λ found_here. before ++ found_here) (sym (map-append found (filter is_no_function (option_to_list (function_after byte after))) (no_functions_in after)))
