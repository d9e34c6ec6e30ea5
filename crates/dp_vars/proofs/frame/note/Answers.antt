-- The last frame is the changed one.
use Rattle.std.proofs.Common.{◌≡◌, ◌<◌, ◌-◌, suc, ◌∙◌, ap, length, vec_len, set as set_item, refl, arith}
use Rattle.dp_vars.proofs.BoundLemmas.{with_number-set}
use Rattle.dp_vars.proofs.frame.note.Goals as goal

pub returns-in_ok-add-clause-ok : goal.returns-in_ok-add-clause-ok
returns-in_ok-add-clause-ok g c =
    let some : 0 < vec_len c.args.frames.now = c.in-Some.ensures.variant.0 refl in
    let many : suc (vec_len c.args.frames.now - 1) ≡ length c.args.frames.now.items = omega (arith, c.args.frames.now.ok) in
    ap (λ ns. set_item c.args.frames.now.items (vec_len c.args.frames.now - 1) (record { back = c.in-Some.frame.now.back; numbers = ns })) c.in_ok-add.ensures.ok
    ∙ with_number-set c.args.number (vec_len c.args.frames.now - 1) c.args.frames.now.items c.in-Some.frame.now many c.in-Some.ensures.value
