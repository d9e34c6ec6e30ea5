use Rattle.std.proofs.Common.{sym, subst}
use Rattle.dp_lister.specs.Again.{LoadsAs}
use Rattle.dp_lister.proofs.ListingAgain.{list-load}
use Rattle.dp_lister.proofs.listing.list.Goals as goal

pub returns-clause-again : goal.returns-clause-again
returns-clause-again c =
    subst (LoadsAs c.args.plan.now) (sym c.in_ok-text.ensures) (list-load c.args.plan.now c.show_loaded.ensures)
