-- The audit that answers everything is closed: what an audit owes can be met, unless nothing is known of an application.
use Rattle.std.proofs.Common.{inl, inr, ℕ, true, List, [], ◌∷◌, codes, refl}
use Rattle.std.specs.List.{AllByRecursion}
use Rattle.dp_plan.specs.Plan.{PlanOf}
use Rattle.dp_plan.specs.declared.plan.GlobalVariable.{GlobalVariable}
use Rattle.dp_queue.specs.declared.settings.Settings.{Settings}
use Rattle.dp_app.specs.declared.place.Place.{Place}
use Rattle.dp_pieces.specs.Bytes.{Bytes, Within}
use Rattle.dp_pieces.specs.Names.{Names}
use Rattle.dp_pieces.specs.Pieces.{any_bytes_of}
use Rattle.dp_pieces.proofs.FitsLemmas.{fits-any_bytes_of}
use Rattle.dp_pieces.proofs.WithinLemmas.{within-all}
use Rattle.dp_reach.specs.Areas.{Area, Covers, Includes, area_at, area_matched}
use Rattle.dp_reach.specs.Audits.{IsAudit, IsGlobalWithin, Outside, entrance}
use Rattle.dp_reach.specs.Bounds.{Anything, Calls, Duty, Holds, HoldsAll, Leads, Meets, MeetsAll, Obligations, Waits}
use Rattle.dp_reach.specs.Closed.{IsClosed}
use Rattle.dp_reach.specs.Holding.{Claim}

-- any byte
abbrev pub anything : Bytes
anything byte = true

abbrev pub everywhere : Area
everywhere = area_at (any_bytes_of anything) (any_bytes_of anything)

abbrev pub widest_names : Names
widest_names = record { bytes = λ name. anything; exten = []; context = []; caller = anything; all = anything }

abbrev pub widest : PlanOf → List Settings → Claim
widest plan settings = record { plan = plan; settings = settings; names = widest_names; reach = everywhere ∷ [] }

any-text : (text : List ℕ) → Within anything text
any-text text = within-all anything (λ byte. refl) text

any-place : (plan : PlanOf) (place : Place) → Covers plan (everywhere ∷ []) place
any-place plan place =
    inr (inl (record { context = fits-any_bytes_of anything place.context (any-text place.context); exten = fits-any_bytes_of anything place.exten (any-text place.exten) }))

-- something is known of what an application does
abbrev pub IsKnown : Duty → Type 0
IsKnown (Leads area) = Unit {0}
IsKnown (Holds name set) = Unit {0}
IsKnown (HoldsAll set) = Unit {0}
IsKnown (Calls set) = Unit {0}
IsKnown Waits = Unit {0}
IsKnown Anything = ⊥

module _ (owing : Obligations) (known : (name : List ℕ) (area : Area) → AllByRecursion IsKnown (owing.duties name area (any_bytes_of anything)))
    (plan : PlanOf) (settings : List Settings) where
  meets : (duty : Duty) → IsKnown duty → Meets (widest plan settings) duty
  meets (Leads area) is = λ place inside. any-place plan place
  meets (Holds name set) is = λ byte has. refl
  meets (HoldsAll set) is = λ name byte has. refl
  meets (Calls set) is = λ byte has. refl
  meets Waits is = λ queue digit has. any-place plan _
  meets Anything is = is

  meets-all : (all : List Duty) → AllByRecursion IsKnown all → MeetsAll (widest plan settings) all
  meets-all [] are = tt
  meets-all (duty ∷ more) are = (meets duty are.0, meets-all more are.1)

  closed : IsClosed owing (widest plan settings) (λ id. true)
  closed = record {
    named = record {
      whole = record { bytes = λ name byte is. refl; exten = λ byte is. refl; context = λ byte is. refl; caller = λ byte is. refl; digits = λ byte is. refl };
      priority = λ byte is. refl;
      channel = any-text (codes "Channel/");
      number = λ byte is. refl;
      timeout = any-text (codes "TIMEOUT");
      leave = any-text (codes "LEAVEEMPTY");
      talked = any-text (codes "CONTINUE");
      status = λ status. any-text _;
      unanswered = any-text (codes "NOANSWER");
      cancelled = any-text (codes "CANCEL");
    };
    areas = (
      record {
        named = record { exten = λ byte is. refl; context = λ byte is. refl; invalid = λ byte is. refl };
        hang = λ place inside. any-place plan place;
        invalid = λ place inside. any-place plan place;
        entries = λ id entry may. record {
          answer = refl;
          pieces = any_bytes_of anything;
          fits = λ sight seen. fits-any_bytes_of anything _ (any-text _);
          met = meets-all (owing.duties entry.application (area_matched everywhere entry.name) (any_bytes_of anything))
              (known entry.application (area_matched everywhere entry.name));
        };
      },
      tt,
    );
  }

  calls : (outside : Outside) (names : List (List ℕ)) → AllByRecursion (λ name. Includes plan (everywhere ∷ []) (entrance outside name)) names
  calls outside [] = tt
  calls outside (name ∷ names) = ((λ place inside. any-place plan place), calls outside names)

  globals : (variables : List GlobalVariable) → AllByRecursion (IsGlobalWithin owing widest_names) variables
  globals [] = tt
  globals (variable ∷ variables) = ((λ sight seen. any-text _), globals variables)

  -- the widest audit is closed
  pub widest-audit : (outside : Outside) (context : List ℕ) → IsAudit owing outside context (widest plan settings) (λ id. true) (everywhere ∷ []) (λ id. true)
  widest-audit outside context = record {
    all = closed;
    own = closed;
    calls = calls outside outside.contexts;
    call = λ place inside. any-place plan place;
    caller = λ byte is. refl;
    facts = λ name byte is. refl;
    stated = λ byte is. refl;
    globals = globals plan.globals;
  }
