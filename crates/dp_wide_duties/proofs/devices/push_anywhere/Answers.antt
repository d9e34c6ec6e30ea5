use Rattle.std.proofs.Common.{◌≡◌, ◌++◌, OnOk, codes, subst, ap, ◌∙◌, append_assoc}
use Rattle.dp_closed.specs.Shown.{shown_duties}
use Rattle.dp_pieces.specs.Pieces.{any_bytes_of, exactly}
use Rattle.dp_pieces.specs.Sets.{set_by}
use Rattle.dp_wide_duties.specs.Places.{any_in}
use Rattle.dp_wide_duties.proofs.devices.push_anywhere.Goals as goal

pub returns : goal.returns
returns c =
    let set = set_by c.args.set in
    subst (λ ds. OnOk c.push_any_in-2.result (shown_duties c.push_any_in-2.new.duties.items ≡ ds))
    (ap (λ ds. ds ++ any_in set (exactly (codes "default"))) c.in_ok-push_any_in.ensures
    ∙ append_assoc (shown_duties c.args.duties.now.items) (any_in set (any_bytes_of set)) (any_in set (exactly (codes "default"))))
    c.push_any_in-2.ensures
