use Rattle.std.proofs.Common.{◌∙◌, ℕ, Bor, List, rules, sym, tests}
use Rattle.std.proofs.lemmas.Iterator.{YieldsList-from_slice}
use Rattle.std.proofs.lemmas.Iterator.Search.{any_from_yields_List}
use Rattle.dp_conf.specs.Words.{same_word}
use Rattle.dp_wide_runs.proofs.KindsLemmas.{any_of_map}
use Rattle.dp_wide_runs.proofs.kinds.is_among.Goals as goal

pub returns : goal.returns
returns c =
    any_from_yields_List (λ (kind : Bor (List ℕ)). same_word c.args.word.now kind.now) _ _ _ c.any.ensures.ran
    (YieldsList-from_slice c.args.kinds.now cc) (λ x b q k. search (rules, tests))
    ∙ sym (any_of_map (same_word c.args.word.now) (λ (kind : Bor (List ℕ)). kind.now) c.args.kinds.now)
