use Rattle.std.proofs.Common.{ap, ◌∙◌}
use Rattle.dp_pieces.specs.NamesAt.{names_of}
use Rattle.dp_pieces.proofs.SetLemmas.{none-set}
use Rattle.dp_wide_pieces.specs.WideTexts.{called_set}
use Rattle.dp_wide_pieces.proofs.wide_names.WideNamesAt.called_set.Goals as goal

pub returns-in-None : goal.returns-in-None
returns-in-None c = λ b.
    none-set c.none.result c.none.ensures b
    ∙ ap (λ argument. called_set (names_of c.args.self.now.names) c.args.name.now argument b) c.in-None.ensures
