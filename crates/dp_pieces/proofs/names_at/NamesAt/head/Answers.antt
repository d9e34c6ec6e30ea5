use Rattle.std.proofs.Common.{◌≡◌, sym, ap, ◌∙◌, subst}
use Rattle.std.specs.Prelude.{IfOk}
use Rattle.dp_conf.specs.Cut.{before_last}
use Rattle.dp_pieces.specs.Names.{called_set, head_by, head_pieces}
use Rattle.dp_pieces.specs.NamesAt.{names_of}
use Rattle.dp_pieces.specs.Sets.{set_by}
use Rattle.dp_pieces.specs.Shown.{shown_all}
use Rattle.dp_pieces.proofs.SetLemmas.{any_bytes_of-same}
use Rattle.dp_pieces.proofs.names_at.NamesAt.head.Goals as goal

pub returns-in-None : goal.returns-in-None
unfolding head_pieces
returns-in-None c =
    subst (λ of. IfOk c.variable.result (λ pieces. shown_all pieces.items ≡ of)) (ap (head_by (names_of c.args.self.now) c.args.head.now) (sym c.in-None.ensures)) c.variable.ensures

pub returns-in-Some : goal.returns-in-Some
unfolding head_pieces
returns-in-Some c =
    subst (λ of. IfOk c.any_bytes.result (λ pieces. shown_all pieces.items ≡ of))
    (any_bytes_of-same (set_by c.called_set.result) (called_set (names_of c.args.self.now) c.in-Some.name.now (before_last 41 c.in-Some.rest.now)) c.called_set.ensures
    ∙ ap (head_by (names_of c.args.self.now) c.args.head.now) (sym c.in-Some.ensures))
    c.any_bytes.ensures
