use Rattle.std.proofs.Common.{ap, take, ◌∙◌}
use Rattle.dp_program.specs.Nearest.{place_of}
use Rattle.dp_program.proofs.NearestLemmas.{kept_more}
use Rattle.dp_program.proofs.nearest.keep.Goals as goal

pub returns : goal.returns
returns c =
    kept_more c.place_of-place.result c.args.near c.args.kept.now.items c.truncate.new.self.items (c.truncate.ensures.items ∙ ap (take 3) c.in_ok-insert.ensures.items)
    (c.place_of-place.ensures.place ∙ ap (λ kept. place_of kept c.args.near.distance) c.deref.ensures.value)
