use Rattle.std.proofs.Common.{◌≡◌, false, sym, ◌∙◌}
use Rattle.dp_pieces.specs.Sets.{set_by}
use Rattle.dp_pieces.specs.Shown.{shown_all}
use Rattle.dp_pieces.specs.Trimmed.{starts_kept}
use Rattle.dp_pieces.proofs.SoftLemmas.{loose_front-all}
use Rattle.dp_pieces.proofs.trims.loose_front.Goals as goal

pub returns : goal.returns
returns c =
    let loose : starts_kept (shown_all c.args.pieces.now) ≡ false = sym (c.if-starts_kept.ensures {u = tt}) in
    c.in_ok-loose.ensures ∙ loose_front-all (set_by c.args.set) (set_by c.add_pieces.new.set) (shown_all c.args.pieces.now) loose c.add_pieces.ensures
