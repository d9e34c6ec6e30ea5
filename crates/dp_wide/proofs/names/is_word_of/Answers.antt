use Rattle.std.proofs.Common.{◌∙◌, ℕ, Bor, List, rules, sym, tests}
use Rattle.std.proofs.lemmas.Iterator.{YieldsList-from_slice}
use Rattle.std.proofs.lemmas.Iterator.Search.{any_from_yields_List}
use Rattle.dp_conf.specs.Words.{same_word}
use Rattle.dp_wide.proofs.NamesLemmas.{any_of_map}
use Rattle.dp_wide.proofs.names.is_word_of.Goals as goal

pub returns : goal.returns
returns c =
    any_from_yields_List (λ (word : Bor (List ℕ)). same_word c.args.name.now word.now) _ _ _ c.any.ensures.ran
    (YieldsList-from_slice c.args.words.now cc) (λ x b q k. search (rules, tests))
    ∙ sym (any_of_map (same_word c.args.name.now) (λ (word : Bor (List ℕ)). word.now) c.args.words.now)
