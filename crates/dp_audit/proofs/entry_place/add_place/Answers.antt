use Rattle.std.proofs.Common.{ap, ◌||◌, ◌∙◌}
use Rattle.std.specs.List.{list_any}
use Rattle.dp_audit.specs.steps.Hiding.{same_place}
use Rattle.dp_audit.proofs.HidingLemmas.{place_added}
use Rattle.dp_audit.proofs.entry_place.add_place.Goals as goal

pub returns : goal.returns
returns c place =
    let old = list_any (same_place place) c.args.places.now.keys in
    c.in_ok-insert.ensures.updates.0 place
    ∙ place_added c.in_ok-place.place place old
    ∙ ap (λ added. old || same_place place added) c.in_ok-place.ensures
