use Rattle.std.proofs.Common.{◌∙◌, ℕ, Bor, List, rules, sym, tests}
use Rattle.std.proofs.lemmas.Iterator.{YieldsList-from_slice}
use Rattle.std.proofs.lemmas.Iterator.Search.{any_from_yields_List}
use Rattle.dp_conf.specs.Words.{same_text}
use Rattle.dp_wide.proofs.NamesLemmas.{any_of_map}
use Rattle.dp_wide.proofs.names.is_text_of.Goals as goal

pub returns : goal.returns
returns c =
    any_from_yields_List (λ (text : Bor (List ℕ)). same_text c.args.name.now text.now) _ _ _ c.any.ensures.ran
    (YieldsList-from_slice c.args.texts.now cc) (λ x b q k. search (rules, tests))
    ∙ sym (any_of_map (same_text c.args.name.now) (λ (text : Bor (List ℕ)). text.now) c.args.texts.now)
