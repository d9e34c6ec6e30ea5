use Rattle.std.proofs.Common.{List, ℕ, sym, subst}
use Rattle.dp_pieces.specs.Bytes.{Within}
use Rattle.dp_pieces.specs.Sets.{set_by}
use Rattle.dp_pieces.specs.Tables.{names_in}
use Rattle.dp_pieces.proofs.WithinLemmas.{within-more}
use Rattle.dp_vars.specs.Values.{expansion_with}
use Rattle.dp_closed.specs.Owed.{ComesTo}
use Rattle.dp_closed.proofs.audit.Audit.has_global.Goals as goal

pub returns : goal.returns
returns g c = λ yes sight within.
    let names = names_in c.args.self.wide.names.now in
    let functions = g.T.Functions.Functions.table in
    let comes : ComesTo functions names c.args.global.now.value (set_by c.in_ok-set.set) =
    subst (λ (text : List ℕ). ComesTo functions names text (set_by c.in_ok-set.set)) c.bytes.ensures.value c.in_ok-set.ensures in
    subst (λ (name : List ℕ). Within (names.bytes name) (expansion_with functions sight c.args.global.now.value)) c.bytes-2.ensures
    (within-more (set_by c.in_ok-set.set) (names.bytes c.bytes-2.result.now) (c.has.ensures yes) (expansion_with functions sight c.args.global.now.value) (comes sight within))
