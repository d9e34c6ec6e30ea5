-- The rows that jump nowhere stay inside if what they owe is met.
use Rattle.std.proofs.Common.{◌≡◌, ℕ, Bool, true, false, ◌-◌, List, [], ◌∷◌, codes, length, Option, Some, None, refl, subst, if◌then◌else◌}
use Rattle.dp_conf.specs.Levels.{arguments_of}
use Rattle.dp_queue.specs.Joining.{would_join, after_join}
use Rattle.dp_queue.specs.Members.{add_row, remove_row}
use Rattle.dp_queue.specs.Queues.{QueuesOf}
use Rattle.dp_queue.specs.declared.change.Added.{Added}
use Rattle.dp_queue.specs.declared.change.Added.TheVariants.{NoSuchQueue, MemberAlready, Added as added}
use Rattle.dp_queue.specs.declared.change.Removed.{Removed}
use Rattle.dp_queue.specs.declared.change.Removed.TheVariants.{NoSuchQueue as no_queue, NotInQueue, NotDynamic, Removed as removed}
use Rattle.dp_queue.specs.declared.join.Join.{Join}
use Rattle.dp_queue.specs.declared.join.Join.TheVariants.{Unknown, Empty, Full, Joined}
use Rattle.dp_vars.specs.Stores.{StoreFrame, StoreOf, innermost, popped_setting, set}
use Rattle.dp_app.specs.Parts.{has_option, is_given, part}
use Rattle.dp_app.specs.Cells.{CellOf}
use Rattle.dp_app.specs.declared.phase.Phase.{Phase}
use Rattle.dp_app.specs.declared.phase.Phase.TheVariants.{Dialling, Digits, Pause}
use Rattle.dp_app.specs.declared.place.Place.{Place}
use Rattle.dp_machine.specs.Events.{is_digit}
use Rattle.dp_machine.specs.Targets.{place_of}
use Rattle.dp_flow.specs.Dialling.{dial_row, dial_outcome}
use Rattle.dp_flow.specs.Jumps.{return_row, return_outcome, stack_pop_row}
use Rattle.dp_flow.specs.Plain.{hangup_row, next_row}
use Rattle.dp_flow.specs.Waiting.{background_row, park_move, wait_exten_row, wait_row}
use Rattle.dp_qapps.specs.Membership.{add_member_row, added_status, remove_member_row, removed_status}
use Rattle.dp_qapps.specs.Pausing.{pause_member_row, after_pausing, pausing_row, queue_asked, unpause_member_row}
use Rattle.dp_qapps.specs.Reports.{interface_of, penalty_of, with_report}
use Rattle.dp_qapps.specs.Queueing.{join_outcome, queue_row, wait_in_queue}
use Rattle.dp_pieces.specs.Pieces.{bytes_in, any_bytes_of, pieces_set}
use Rattle.dp_pieces.proofs.FitsLemmas.{fits-exactly, fits-any_bytes_of, fits-set}
use Rattle.dp_pieces.proofs.WithinLemmas.{within-more, within-own}
use Rattle.dp_reach.specs.Areas.{Area, Covers, Includes, IsIn, area_at, beside}
use Rattle.dp_reach.specs.Bounds.{Holds, IsBounded, Meets, MeetsAll, add_duties, dial_duties, digits_duties, nothing_owed, pause_duties, queue_duties, remove_duties, return_duties, tells, unpause_duties}
use Rattle.dp_reach.specs.Holding.{Claim, IsDialled, IsGood, IsInside, KeepsToClaim, IsPhaseIn, LeadsInto}
use Rattle.dp_reach.proofs.StoreLemmas.{each-get, kept-set, kept-without_frame}

pub next-bounded : IsBounded nothing_owed next_row
next-bounded claim area pieces arguments cell good inside own fits met = record { cell = good; next = tt }

pub hangup-bounded : IsBounded nothing_owed hangup_row
hangup-bounded claim area pieces arguments cell good inside own fits met = record { cell = good; next = tt }

-- a row that parks the channel
leads-park_move : (claim : Claim) (own : Place) (phase : Phase) (closing : Bool) → IsPhaseIn claim own phase → LeadsInto claim own (park_move phase closing)
leads-park_move claim own phase true is = tt
leads-park_move claim own phase false is = is

pub wait-bounded : IsBounded nothing_owed wait_row
wait-bounded claim area pieces arguments cell good inside own fits met = record { cell = good; next = leads-park_move claim cell.place Pause cell.is_closing tt }

dials-in : (claim : Claim) (area : Area) (place : Place) → IsIn area place → Includes claim.plan claim.reach (area_at area.context (any_bytes_of is_digit)) → Includes claim.plan claim.reach (beside area (codes "t"))
    → IsDialled claim place []
dials-in claim area place inside dial_outcome timeout = record {
  text = tt;
  leads = λ exten priority is. dial_outcome (place_of place.context exten priority) (record { context = inside.context; exten = fits-any_bytes_of is_digit exten is });
  timeout = λ priority. timeout (place_of place.context (codes "t") priority) (record { context = inside.context; exten = fits-exactly (codes "t") });
}

pub wait_exten-bounded : IsBounded digits_duties wait_exten_row
wait_exten-bounded claim area pieces arguments cell good inside own fits met =
    record { cell = good; next = leads-park_move claim cell.place (Digits [] false) cell.is_closing (dials-in claim area cell.place inside met.0 met.1.0) }

pub background-bounded : IsBounded digits_duties background_row
background-bounded claim area pieces arguments cell good inside own fits met =
    record { cell = good; next = leads-park_move claim cell.place (Digits [] true) cell.is_closing (dials-in claim area cell.place inside met.0 met.1.0) }

-- a cell with another store, or with other queues
good-store : (claim : Claim) (cell : CellOf) (store : StoreOf Place) → IsGood claim cell → KeepsToClaim claim store → IsGood claim (record cell { store = store })
good-store claim cell store good kept = record { store = kept; globals = good.globals; caller = good.caller }

pub stack_pop-bounded : IsBounded nothing_owed stack_pop_row
stack_pop-bounded claim area pieces arguments cell good inside own fits met =
    record { cell = good-store claim cell _ good (kept-without_frame claim cell.store good.store); next = tt }

-- the end of a subroutine
pub return-bounded : IsBounded return_duties return_row
unfolding return_row
return-bounded claim area pieces arguments cell good inside own fits met = by (innermost cell.store.frames) refl
  where
    value : List ℕ
    value = arguments

    by : (o : Option (StoreFrame Place)) → innermost cell.store.frames ≡ o → IsInside claim cell.place (return_outcome cell (popped_setting cell.store (codes "GOSUB_RETVAL") value o))
    by None is = record { cell = good; next = tt }
    by (Some frame) is = record {
      cell = good-store claim cell _ good (kept-set claim _ (codes "GOSUB_RETVAL") value (kept-without_frame claim cell.store good.store)
          (within-more (pieces_set pieces) _ met.0 value (fits-set pieces arguments fits)));
      next = λ place found.
          let same : frame.back ≡ place = cc in
          subst (Covers claim.plan claim.reach) same (each-get (λ (frame : StoreFrame Place). Covers claim.plan claim.reach frame.back) cell.store.frames (length cell.store.frames - 1) frame good.store.back is);
    }

-- a name is set to a known text
good-told : (claim : Claim) (cell : CellOf) (name text : List ℕ) → IsGood claim cell → Meets claim (Holds name (bytes_in text)) → KeepsToClaim claim (set cell.store name text)
good-told claim cell name text good met = kept-set claim cell.store name text good.store (within-more (bytes_in text) (claim.names.bytes name) met text (within-own text))

pub dial-bounded : IsBounded dial_duties dial_row
unfolding dial_row
dial-bounded claim area pieces arguments cell good inside own fits met = by (is_given (part 0 parts))
  where
    parts : List (List ℕ)
    parts = arguments_of arguments

    by : (given : Bool) → IsInside claim cell.place (dial_outcome given cell (has_option 103 (part 2 parts)) (is_given (part 1 parts)))
    by false = record { cell = good-store claim cell _ good (good-told claim cell (codes "DIALSTATUS") (codes "CHANUNAVAIL") good met.0); next = tt }
    by true = record { cell = good; next = leads-park_move claim cell.place (Dialling (has_option 103 (part 2 parts)) (is_given (part 1 parts))) cell.is_closing tt }

-- a cell with a name that is set and other queues
good-with_report : (claim : Claim) (cell : CellOf) (queues : QueuesOf) (name text : List ℕ) → IsGood claim cell → Meets claim (Holds name (bytes_in text))
    → IsGood claim (record cell { store = set cell.store name text; queues = queues })
good-with_report claim cell queues name text good met = record { store = good-told claim cell name text good met; globals = good.globals; caller = good.caller }

pub queue-bounded : IsBounded queue_duties queue_row
unfolding queue_row
queue-bounded claim area pieces arguments cell good inside own fits met = by (would_join cell.queues.queues (part 0 parts)) (after_join cell.queues cell.number (would_join cell.queues.queues (part 0 parts)))
  where
    parts : List (List ℕ)
    parts = arguments_of arguments

    waits : (number : ℕ) (queues : QueuesOf) (closing : Bool) → IsInside claim cell.place (wait_in_queue closing cell queues number (has_option 99 (part 1 parts)) (is_given (part 4 parts)))
    waits number queues true = record { cell = good; next = tt }
    waits number queues false = record { cell = record { store = good.store; globals = good.globals; caller = good.caller }; next = met.0 number }

    by : (join : Join) (queues : QueuesOf) → IsInside claim cell.place (join_outcome cell (has_option 99 (part 1 parts)) (is_given (part 4 parts)) queues join)
    by Unknown queues = record { cell = good-with_report claim cell cell.queues (codes "QUEUESTATUS") (codes "UNKNOWN") good met.1.0; next = tt }
    by Empty queues = record { cell = good-with_report claim cell cell.queues (codes "QUEUESTATUS") (codes "JOINEMPTY") good met.1.1.0; next = tt }
    by Full queues = record { cell = good-with_report claim cell cell.queues (codes "QUEUESTATUS") (codes "FULL") good met.1.1.1.0; next = tt }
    by (Joined number) queues = waits number queues cell.is_closing

-- the rows on members
pub add_member-bounded : IsBounded add_duties add_member_row
unfolding add_member_row
add_member-bounded claim area pieces arguments cell good inside own fits met = by (add_row cell.queues (part 0 parts) (interface_of cell.number (part 1 parts)) (penalty_of (part 2 parts)))
  where
    parts : List (List ℕ)
    parts = arguments_of arguments

    told : (queues : QueuesOf) (status : Added) → IsInside claim cell.place (with_report cell queues (codes "AQMSTATUS") (added_status status))
    told queues NoSuchQueue = record { cell = good-with_report claim cell queues (codes "AQMSTATUS") (codes "NOSUCHQUEUE") good met.0; next = tt }
    told queues MemberAlready = record { cell = good-with_report claim cell queues (codes "AQMSTATUS") (codes "MEMBERALREADY") good met.1.0; next = tt }
    told queues added = record { cell = good-with_report claim cell queues (codes "AQMSTATUS") (codes "ADDED") good met.1.1.0; next = tt }

    by : (answer : QueuesOf × Added) → IsInside claim cell.place (with_report cell answer.0 (codes "AQMSTATUS") (added_status answer.1))
    by answer = told answer.0 answer.1

pub remove_member-bounded : IsBounded remove_duties remove_member_row
unfolding remove_member_row
remove_member-bounded claim area pieces arguments cell good inside own fits met = by (remove_row cell.queues (part 0 parts) (interface_of cell.number (part 1 parts)))
  where
    parts : List (List ℕ)
    parts = arguments_of arguments

    told : (queues : QueuesOf) (status : Removed) → IsInside claim cell.place (with_report cell queues (codes "RQMSTATUS") (removed_status status))
    told queues no_queue = record { cell = good-with_report claim cell queues (codes "RQMSTATUS") (codes "NOSUCHQUEUE") good met.0; next = tt }
    told queues NotInQueue = record { cell = good-with_report claim cell queues (codes "RQMSTATUS") (codes "NOTINQUEUE") good met.1.0; next = tt }
    told queues NotDynamic = record { cell = good-with_report claim cell queues (codes "RQMSTATUS") (codes "NOTDYNAMIC") good met.1.1.0; next = tt }
    told queues removed = record { cell = good-with_report claim cell queues (codes "RQMSTATUS") (codes "REMOVED") good met.1.1.1.0; next = tt }

    by : (answer : QueuesOf × Removed) → IsInside claim cell.place (with_report cell answer.0 (codes "RQMSTATUS") (removed_status answer.1))
    by answer = told answer.0 answer.1

told-pause : (claim : Claim) (cell : CellOf) (variable done : List ℕ) → IsGood claim cell → MeetsAll claim (tells variable (done ∷ codes "NOTFOUND" ∷ []))
    → (answer : QueuesOf × Bool) → IsInside claim cell.place (with_report cell answer.0 variable (if answer.1 then done else codes "NOTFOUND"))
told-pause claim cell variable done good met answer = by answer.1
  where
    by : (there : Bool) → IsInside claim cell.place (with_report cell answer.0 variable (if there then done else codes "NOTFOUND"))
    by true = record { cell = good-with_report claim cell answer.0 variable done good met.0; next = tt }
    by false = record { cell = good-with_report claim cell answer.0 variable (codes "NOTFOUND") good met.1.0; next = tt }

pub pause_member-bounded : IsBounded pause_duties pause_member_row
unfolding pausing_row
pause_member-bounded claim area pieces arguments cell good inside own fits met =
    told-pause claim cell (codes "PQMSTATUS") (codes "PAUSED") good met
    (after_pausing cell.queues (queue_asked (part 0 (arguments_of arguments))) (part 1 (arguments_of arguments)) true)

pub unpause_member-bounded : IsBounded unpause_duties unpause_member_row
unfolding pausing_row
unpause_member-bounded claim area pieces arguments cell good inside own fits met =
    told-pause claim cell (codes "UPQMSTATUS") (codes "UNPAUSED") good met
    (after_pausing cell.queues (queue_asked (part 0 (arguments_of arguments))) (part 1 (arguments_of arguments)) false)
