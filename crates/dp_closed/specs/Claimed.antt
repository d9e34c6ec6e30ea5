-- The claim of a dialplan, a table of names and a reach that is indexed by the numbers of contexts.
use Rattle.std.specs.Prelude.{◌≡◌, List, map}
use Rattle.std.specs.Global.{Vec}
use Rattle.dp_pieces.specs.Pieces.{exactly}
use Rattle.dp_pieces.specs.Shown.{shown_all}
use Rattle.dp_pieces.specs.Tables.{Table, names_in}
use Rattle.dp_pieces.specs.declared.piece.Piece.{Piece}
use Rattle.dp_plan.specs.Plan.{PlanOf}
use Rattle.dp_queue.specs.declared.settings.Settings.{Settings}
use Rattle.dp_reach.specs.Holding.{Claim}
use Rattle.dp_closed.specs.Reach.{areas_in}
use Rattle.dp_closed.specs.declared.claim.KeptClaim.{KeptClaim}

-- the claim, with the settings of queues
abbrev pub claim_of : PlanOf → Table → List (Vec (Vec Piece)) → List Settings → Claim
claim_of plan names shapes settings = record { plan = plan; settings = settings; names = names_in names; reach = areas_in plan.contexts shapes }

-- the claim of the data that is kept, with the settings of queues
abbrev pub kept_claim : KeptClaim → List Settings → Claim
kept_claim claim settings = claim_of claim.plan.now claim.names.now claim.reach.now.shapes.items settings

-- these are the contexts of the queues' ways out, in order
abbrev pub AreWays : List Settings → List (Vec Piece) → Type 0
AreWays settings ways = map (λ (s : Settings). exactly s.context) settings ≡ map (λ way. shown_all way.items) ways
