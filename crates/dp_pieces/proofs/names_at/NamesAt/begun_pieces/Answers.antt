use Rattle.std.proofs.Common.{◌≡◌, Some, None, ap, ◌∙◌}
use Rattle.dp_pieces.specs.NamesAt.{names_of}
use Rattle.dp_pieces.specs.Pieces.{text_known}
use Rattle.dp_pieces.specs.Sets.{set_by}
use Rattle.dp_pieces.specs.Shown.{shown_all}
use Rattle.dp_pieces.specs.Texts.{begun_set, called_pieces}
use Rattle.dp_pieces.proofs.SetLemmas.{any_bytes_of-same, never-unknown, text-exactly}
use Rattle.dp_pieces.proofs.names_at.NamesAt.begun_pieces.Goals as goal

pub returns-in_default : goal.returns-in_default
returns-in_default c = λ name same.
    let is : text_known (shown_all c.args.front.now) ≡ None = rw c.in_default.is at c.in_ok-name.ensures in
    absurd (never-unknown (shown_all c.args.front.now) name is same)

pub returns : goal.returns
returns c = λ name same.
    let is : text_known (shown_all c.args.front.now) ≡ Some c.in-Some.name.items = rw c.in-Some.is at c.in_ok-name.ensures in
    c.in_ok-pieces.ensures
    ∙ (any_bytes_of-same (set_by c.begun_set.result) (begun_set (names_of c.args.self.now) c.deref.result.now) c.begun_set.ensures
    ∙ ap (called_pieces (names_of c.args.self.now)) (c.deref.ensures.value ∙ text-exactly (shown_all c.args.front.now) c.in-Some.name.items name is same))
