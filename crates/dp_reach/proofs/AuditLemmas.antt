-- A closed audit is right about every run from the beginning.
use Rattle.std.proofs.Common.{◌≡◌, inl, inr, ℕ, ◌+◌, ◌-◌, ◌≤◌, ◌==◌, nat_lt, nat_eq, Bool, true, false, cond, List, [], ◌∷◌, ◌++◌, length, map, codes, Option, Some, None, slice_get, unwrap_or, refl, sym, subst, arith, if◌then◌else◌}
use Rattle.std.proofs.lemmas.List.{length-append}
use Rattle.std.proofs.lemmas.Option.{slice_get_past}
use Rattle.std.specs.Cmp.Lexicographic.{pointwise}
use Rattle.std.specs.FinMap.{empty}
use Rattle.std.specs.List.{AllByRecursion}
use Rattle.std.specs.Option.{option_or}
use Rattle.dp_conf.proofs.TextLemmas.{each-front, each-rest}
use Rattle.dp_plan.specs.declared.entry.EntryId.{EntryId}
use Rattle.dp_plan.specs.declared.plan.GlobalVariable.{GlobalVariable}
use Rattle.dp_queue.specs.Queues.{QueuesOf}
use Rattle.dp_vars.proofs.VariablesLemmas.{get-texts}
use Rattle.dp_vars.specs.Sights.{QueueCounts, channel_map, given_by}
use Rattle.dp_vars.specs.Functions.{SettingTarget, Variable, Global, Local, Caller, Nothing}
use Rattle.dp_vars.specs.Variables.{Named, first_value, value_or_empty}
use Rattle.dp_app.specs.Lawful.{IsLawful}
use Rattle.dp_app.specs.Rows.{Rows, with_functions}
use Rattle.dp_app.specs.declared.touch.Touch.{Touch}
use Rattle.dp_machine.specs.Events.{Entered, event_row, new_channel, start_call}
use Rattle.dp_machine.specs.Replay.{final_world, world_after}
use Rattle.dp_machine.specs.Seen.{global_value, globals_of, globals_set, no_queues, sight_of_globals, with_global}
use Rattle.dp_machine.specs.World.{World, channel_at, most_channels, opening_with}
use Rattle.dp_machine.specs.declared.channel.Channel.{Channel}
use Rattle.dp_machine.specs.declared.event.Event.{Event}
use Rattle.dp_machine.specs.declared.event.Event.TheVariants.{Start, Step, Digit, Timeout, Poll, Hangup, DialResult, Offer, Answer, Decline, AgentDone, Reload, Assign, Redirect}
use Rattle.dp_machine.specs.declared.reply.Reply.TheVariants.{Refused, Started}
use Rattle.dp_machine.specs.declared.refusal.Refusal.TheVariants.{NumbersSpent}
use Rattle.dp_pieces.specs.Bytes.{Bytes, IsPart, Within}
use Rattle.dp_pieces.specs.Names.{IsWhole, IsWithin, Names, variable_pieces}
use Rattle.dp_pieces.specs.Pieces.{Fits, exactly, any_bytes_of, pieces_set}
use Rattle.dp_pieces.proofs.FitsLemmas.{fits-exactly, fits-any_bytes_of, fits-nothing}
use Rattle.dp_pieces.proofs.WithinLemmas.{within-more}
use Rattle.dp_reach.specs.Areas.{Area, Covers, Includes, IsIn}
use Rattle.dp_reach.specs.Audits.{IsAudit, IsGlobalWithin, IsFromOutside, IsOneOf, Outside, RunsOnly, entrance, names_outside}
use Rattle.dp_reach.specs.Bounds.{AreBounded, Obligations}
use Rattle.dp_reach.specs.Holding.{AreHeld, Claim, IsChannelIn}
use Rattle.dp_reach.specs.Runs.{AreAllowed, IsAllowed, MayAssign, MayBeSet, IsWorldIn, with_reach}
use Rattle.dp_reach.proofs.SightLemmas.{within-first}
use Rattle.dp_reach.proofs.StoreLemmas.{held-empty, held-insert}
use Rattle.dp_reach.proofs.WorldLemmas.{each-more, stays-within, world-more}

-- the place of a call that comes in at a context
at-entrance : (outside : Outside) (name context exten caller : List ℕ) → context ≡ name → Within outside.exten exten → IsIn (entrance outside name) (new_channel context exten caller).place
at-entrance outside name context exten caller same is =
    record { context = subst (λ n. Fits (exactly n) context) same (fits-exactly context); exten = fits-any_bytes_of outside.exten exten is }

-- a place of one of the contexts
covers-one : (claim : Claim) (outside : Outside) (contexts : List (List ℕ)) → AllByRecursion (λ name. Includes claim.plan claim.reach (entrance outside name)) contexts
    → (context exten caller : List ℕ) → IsOneOf contexts context → Within outside.exten exten → Covers claim.plan claim.reach (new_channel context exten caller).place
covers-one claim outside [] all context exten caller one is = absurd one
covers-one claim outside (name ∷ names) all context exten caller (inl same) is = all.0 (new_channel context exten caller).place (at-entrance outside name context exten caller same is)
covers-one claim outside (name ∷ names) all context exten caller (inr there) is = covers-one claim outside names all.1 context exten caller there is

-- a channel that comes in
in-new_channel : (claim : Claim) (context exten caller : List ℕ) → Covers claim.plan claim.reach (new_channel context exten caller).place → Within claim.names.caller caller
    → IsChannelIn claim (new_channel context exten caller)
in-new_channel claim context exten caller covers is =
    record { place = covers; store = record { variables = held-empty claim.names; locals = tt; back = tt }; caller = is; phase = tt }

-- what the values of globals see: there is no channel with its own extension and context, so these are empty
nothing-fits : (names : Names) (globals : Named) → AreHeld names globals → (name : List ℕ)
    → Fits (variable_pieces (names_outside names) name) (value_or_empty (channel_map None ∷ globals ∷ []) name)
nothing-fits names globals held name =
    subst (λ o. Fits (variable_pieces (names_outside names) name) (unwrap_or (option_or o (first_value (globals ∷ []) name)) [])) (sym (get-texts name (given_by None)))
    (by (pointwise nat_eq name (codes "EXTEN")) (pointwise nat_eq name (codes "CONTEXT")) (pointwise nat_eq name (codes "PRIORITY")) (pointwise nat_eq name (codes "CHANNEL")))
  where
    by : (a b d e : Bool) → Fits (if a then [] else if b then [] else any_bytes_of (names.bytes name))
        (unwrap_or (option_or (cond a (Some []) (cond b (Some []) (cond d (Some []) (cond e (Some []) None)))) (first_value (globals ∷ []) name)) [])
    by true b d e = fits-nothing
    by false true d e = fits-nothing
    by false false true e = fits-any_bytes_of (names.bytes name) [] tt
    by false false false true = fits-any_bytes_of (names.bytes name) [] tt
    by false false false false = fits-any_bytes_of (names.bytes name) _ (within-first names (globals ∷ []) name (held, tt))

-- the empty shape has no bytes
nothing-part : (set : Bytes) → IsPart (pieces_set []) set
unfolding pieces_set
nothing-part set byte is = absurd cc

seen-globals : (names : Names) → IsWhole names → (counts : QueueCounts) (globals : Named) → AreHeld names globals → IsWithin (names_outside names) (sight_of_globals counts globals)
seen-globals names whole counts globals held = record {
  variable = nothing-fits names globals held;
  held = λ name. within-first names (globals ∷ []) name (held, tt);
  global = λ name. within-first names (globals ∷ []) name (held, tt);
  local = λ name. tt;
  caller = tt;
  whole = record { bytes = whole.bytes; exten = nothing-part names.all; context = nothing-part names.all; caller = whole.caller; digits = whole.digits };
}

globals-held : (owing : Obligations) (names : Names) → IsWhole names → (counts : QueueCounts) (globals : Named) (variables : List GlobalVariable) → AreHeld names globals
    → AllByRecursion (IsGlobalWithin owing names) variables → AreHeld names (globals_set owing.functions counts globals variables)
unfolding global_value
globals-held owing names whole counts globals [] held all = held
globals-held owing names whole counts globals (variable ∷ variables) held all =
    globals-held owing names whole counts (with_global owing.functions counts globals variable) variables
    (held-insert names globals variable.name (global_value owing.functions counts globals variable.value) held
    (all.0 (sight_of_globals counts globals) (seen-globals names whole counts globals held)))
    all.1

module _ (touches : List ℕ → Touch) (rows : Rows) (lawful : IsLawful touches rows) (owing : Obligations) (bounded : AreBounded owing.duties rows) (outside : Outside) (context : List ℕ)
    (claim : Claim) (others : EntryId → Bool) (reach : List Area) (answers : EntryId → Bool) (audit : IsAudit owing outside context claim others reach answers) where
  -- a fact
  allowed-target : (target : SettingTarget) (value : List ℕ) → Within outside.facts value → MayBeSet claim target value
  allowed-target (Variable name) value is = within-more outside.facts (claim.names.bytes name) (audit.facts name) value is
  allowed-target (Global name) value is = within-more outside.facts (claim.names.bytes name) (audit.facts name) value is
  allowed-target (Local name) value is = within-more outside.facts (claim.names.bytes name) (audit.facts name) value is
  allowed-target Caller value is = within-more outside.facts claim.names.caller audit.stated value is
  allowed-target Nothing value is = tt

  allowed-assign : (channel : Option ℕ) (name value : List ℕ) → Within outside.facts value → MayAssign owing.functions claim channel name value
  allowed-assign None name value is = within-more outside.facts (claim.names.bytes name) (audit.facts name) value is
  allowed-assign (Some number) name value is = allowed-target (owing.functions.target name) value is

  allowed-one : (event : Event) → IsFromOutside outside event → IsAllowed owing.functions claim event
  allowed-one (Start at exten caller) is =
      in-new_channel claim at exten caller (covers-one claim outside outside.contexts audit.calls at exten caller is.0 is.1)
      (within-more outside.caller claim.names.caller audit.caller caller is.2)
  allowed-one (Step number) is = tt
  allowed-one (Digit number digit) is = tt
  allowed-one (Timeout number) is = tt
  allowed-one (Poll number) is = tt
  allowed-one (Hangup number) is = tt
  allowed-one (DialResult number status) is = tt
  allowed-one (Offer queue) is = tt
  allowed-one (Answer agent) is = tt
  allowed-one (Decline agent) is = tt
  allowed-one (AgentDone agent) is = tt
  allowed-one (Reload text) is = is
  allowed-one (Assign channel name value) is = allowed-assign channel name value is
  allowed-one (Redirect number place) is = is

  allowed-all : (events : List Event) → AllByRecursion (IsFromOutside outside) events → AreAllowed owing.functions claim events
  allowed-all [] all = tt
  allowed-all (event ∷ events) all = (allowed-one event all.0, allowed-all events all.1)

  opens-in : (queues : QueuesOf) → map (λ queue. queue.settings) queues.queues ≡ claim.settings → IsWorldIn claim (opening_with owing.functions claim.plan queues)
  unfolding globals_of
  opens-in queues same = record {
    plan = refl;
    shared = record { globals = globals-held owing claim.names audit.all.named.whole no_queues empty claim.plan.globals (held-empty claim.names) audit.globals; settings = same };
    channels = λ number c is. none number c (number == 0) is;
  }
    where
      none : (number : ℕ) (c : Channel) (b : Bool) → (if b then None else slice_get [] (number - 1)) ≡ Some c → IsChannelIn claim c
      none number c true is = absurd cc
      none number c false is = absurd cc

  worlds-in : (w : World) (events : List Event) → IsWorldIn claim w → AreAllowed owing.functions claim events → IsWorldIn claim (world_after (with_functions rows owing.functions) w events)
  worlds-in w [] world allowed = world
  worlds-in w (event ∷ events) world allowed =
      worlds-in (final_world (with_functions rows owing.functions) w event) events (world-more touches rows lawful owing bounded claim others audit.all w event world allowed.0) allowed.1

  -- the number of the channel that comes in
  record ComesIn (channels : List Channel) (number : ℕ) : Type 0 where
    channel : (c : Channel) → channel_at channels number ≡ Some c → IsChannelIn (with_reach claim reach) c
    known : number ≤ length channels

  comes-more : (channels : List Channel) (c : Channel) (number : ℕ) → IsChannelIn (with_reach claim reach) c → length channels + 1 ≡ number → ComesIn (channels ++ c ∷ []) number
  comes-more channels c number here is = record {
    channel = λ d at. each-more (λ n e. n ≡ number → IsChannelIn (with_reach claim reach) e) channels c (λ same. here)
        (λ n e found same. absurd (past channels (n - 1) e (omega (arith, is, same)) (by n e (n == 0) found))) number d at refl;
    known = omega (arith, is, length-append channels (c ∷ []));
  }
    where
      past : (xs : List Channel) (i : ℕ) (e : Channel) → length xs ≤ i → slice_get xs i ≡ Some e → ⊥
      past xs i e far is = let no : slice_get xs i ≡ None = slice_get_past xs i far in let b : ⊥ = cc in b

      by : (n : ℕ) (e : Channel) (b : Bool) → (if b then None else slice_get channels (n - 1)) ≡ Some e → slice_get channels (n - 1) ≡ Some e
      by n e true is = absurd cc
      by n e false is = is

  comes-in : (w : World) (exten caller : List ℕ) (number : ℕ) → Within outside.exten exten → Within outside.caller caller
      → (event_row (with_functions rows owing.functions) w (Start context exten caller)).1 ≡ Started number → ComesIn (final_world (with_functions rows owing.functions) w (Start context exten caller)).channels number
  unfolding start_call
  comes-in w exten caller number within is reply = by (nat_lt (length w.channels) most_channels) reply
    where
      here : IsChannelIn (with_reach claim reach) (new_channel context exten caller)
      here = in-new_channel (with_reach claim reach) context exten caller (audit.call (new_channel context exten caller).place (at-entrance outside context context exten caller refl within))
          (within-more outside.caller claim.names.caller audit.caller caller is)

      after : Bool → Entered
      after b = if b then (record { channels = w.channels ++ new_channel context exten caller ∷ []; reply = Started (length w.channels + 1) })
          else (record { channels = w.channels; reply = Refused NumbersSpent })

      by : (b : Bool) → (after b).reply ≡ Started number → ComesIn (after b).channels number
      by true reply = comes-more w.channels (new_channel context exten caller) number here (let e : length w.channels + 1 ≡ number = cc in e)
      by false reply = absurd cc

  pub runs-only : RunsOnly (with_functions rows owing.functions) outside context claim.plan claim.settings answers
  runs-only queues before later exten caller number settings all reply =
      let w : World = world_after (with_functions rows owing.functions) (opening_with owing.functions claim.plan queues) before in
      let first = each-front (IsFromOutside outside) before (Start context exten caller ∷ later) all in
      let rest = each-rest (IsFromOutside outside) before (Start context exten caller ∷ later) all in
      let world = worlds-in (opening_with owing.functions claim.plan queues) before (opens-in queues settings) (allowed-all before first) in
      let comes = comes-in w exten caller number rest.0.1 rest.0.2 reply in
      stays-within touches rows lawful owing bounded claim others audit.all reach answers audit.own number (final_world (with_functions rows owing.functions) w (Start context exten caller)) later
      (world-more touches rows lawful owing bounded claim others audit.all w (Start context exten caller) world (allowed-one (Start context exten caller) rest.0))
      comes.channel comes.known (allowed-all later rest.1)
