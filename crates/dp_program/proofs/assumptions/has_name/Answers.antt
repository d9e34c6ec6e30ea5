use Rattle.std.proofs.Common.{ℕ, List, eqb, rules, tests}
use Rattle.std.proofs.lemmas.Iterator.Search.{any_from_yields_List}
use Rattle.std.proofs.lemmas.Iterator.Splits.{YieldsList-from_slice_split}
use Rattle.dp_conf.specs.Words.{same_word}
use Rattle.dp_program.proofs.assumptions.has_name.Goals as goal

pub returns : goal.returns
returns c =
    any_from_yields_List (λ (part : List ℕ). same_word part c.args.name.now) _ _ _ c.any.ensures.ran
    (YieldsList-from_slice_split _ (λ byte. eqb byte 44) c.args.word.now c.split.ensures.rest c.split.ensures.done c.split.ensures.closure (λ x b q k. search (rules, tests)))
    (λ x b q k. search (rules, tests))
