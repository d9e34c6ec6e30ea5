use Rattle.std.proofs.Common.{Option, sym, ap, ◌∙◌}
use Rattle.dp_pieces.specs.Names.{function_set}
use Rattle.dp_pieces.specs.NamesAt.{names_of}
use Rattle.dp_pieces.proofs.SetLemmas.{none-set}
use Rattle.dp_vars.specs.declared.value.Function.{Function}
use Rattle.dp_pieces.proofs.names_at.NamesAt.function_set.Goals as goal

pub returns-in-None : goal.returns-in-None
returns-in-None c = λ b.
    none-set c.none.result c.none.ensures b
    ∙ sym (ap (λ (f : Option Function). function_set (names_of c.args.self.now) f c.args.argument.now b) c.in-None.is)
