-- The events of a script's lines, and events that are dealt to seats.
use Rattle.std.proofs.Common.{rules, ◌≡◌, ◌≢◌, ℕ, ◌+◌, ◌==◌, ◌≤◌, ◌<◌, Bool, true, false, List, [], ◌∷◌, length, map, take, get_or, replicate, zero, suc, refl, sym, ap, subst, ◌∙◌, arith, All, Result, Ok, Err, Option, IfErr, IfOk, OnOk, ◌||◌, inl, inr}
use Rattle.std.proofs.lemmas.Bool.Decides.{nat_tests}
use Rattle.std.proofs.lemmas.List.{ext_get_or, get_or-map, length-map, take_all}
use Rattle.std.proofs.lemmas.List.Sums.{prefix_len-le-length}
use Rattle.std.specs.Io.KnownBytes.{Appends}
use Rattle.std.specs.List.{prefix_len, list_any, range_with_len}
use Rattle.std.proofs.lemmas.List.FromFn.{length-map-range_with_len}
use Rattle.std.proofs.lemmas.List.Elements.{All-map}
use Rattle.dp_app.specs.Rows.{Meanings}
use Rattle.dp_board.specs.Difference.{told_to}
use Rattle.dp_board.specs.Log.{Log}
use Rattle.dp_board.specs.Settled.{Agrees, AllPresent, IsSettled, has_seat}
use Rattle.dp_board.specs.Sittings.{SeatSitting, new_sitting}
use Rattle.dp_board.specs.declared.seat_call.SeatCall.{SeatCall}
use Rattle.dp_board.specs.Unsettled.{IsUnsettled}
use Rattle.dp_board.specs.declared.fault.SettleFault.{SettleFault}
use Rattle.dp_board.specs.declared.fault.SettleFault.TheVariants.{SeatMissing, Differs, NoMemory as settle_no_memory}
use Rattle.dp_board.specs.declared.settle.Back.{Back}
use Rattle.dp_board.specs.declared.settle.Back.TheVariants.{Open, Closed}
use Rattle.dp_machine.specs.World.{World}
use Rattle.dp_machine.specs.declared.event.Event.{Event}
use Rattle.dp_table.specs.Standard.{standard_meanings}
use Rattle.dp_conf.specs.Answers.{Refuses}
use Rattle.dp_machine.specs.Events.{is_refused}
use Rattle.dp_commands.proofs.DealLemmas.{calls-items_of_seat, items_of_seat-front}
use Rattle.dp_commands.specs.Faults.{reason_of}
use Rattle.dp_commands.specs.Run.{Run, status_by}
use Rattle.dp_commands.specs.Threads.{events_in, items_of_seat, events_told, IsDealt, is_start, IsUnwritten, Shares, is_call_refused, is_settle_fault, misses_no_seat, opened_world, settled_line, shared_in}
use Rattle.dp_commands.specs.steps.Deals.{GaveFront, KeepNumbers, begun_of}
use Rattle.dp_commands.specs.declared.fault.PbxFault.{PbxFault}
use Rattle.dp_commands.specs.declared.fault.PbxFault.TheVariants.{Coded, NoMemory}
use Rattle.dp_commands.specs.declared.script.Turn.TheVariants.{Event as turn_event, Show}

-- the events of the turns that give one event
pub events_in-events : (n : ℕ) (event : Event) → events_in (replicate n (turn_event event)) ≡ replicate n event
events_in-events zero event = refl
events_in-events (suc n) event = ap (λ (es : List Event). event ∷ es) (events_in-events n event)

-- turns that show a value have no events
pub events_in-shows : (n channel : ℕ) (name : List ℕ) → events_in (replicate n (Show channel name)) ≡ []
events_in-shows zero channel name = refl
events_in-shows (suc n) channel name = events_in-shows n channel name

-- a seat whose entries are the events that are dealt to it from the start of a list gave the first of its events
pub front-of : (count i : ℕ) (events : List Event) (seat : SeatSitting) (number : ℕ) → seat.number ≡ number → events_told seat.told ≡ items_of_seat count number (take i events) → GaveFront count events seat
front-of count i events seat number same told =
    let own : events_told seat.told ≡ items_of_seat count seat.number (take i events) = told ∙ ap (λ n. items_of_seat count n (take i events)) (sym same) in
    let many : length (items_of_seat count seat.number (take i events)) ≡ length seat.told = ap length (sym own) ∙ length-map seat.told (λ (it : SeatCall). it.event) in
    own ∙ (items_of_seat-front count seat.number i events ∙ ap (λ n. take n (items_of_seat count seat.number events)) many)

-- one of these seats has this number and this property
abbrev Found : (SeatSitting → Type 0) → ℕ → Type 0
Found P number = (seat : SeatSitting) × (seat.number ≡ number) × P seat

-- the first of the seats has the number, or one after it
seat-by : (P : SeatSitting → Type 0) (number : ℕ) (s : SeatSitting) (b there : Bool) → (s.number == number) ≡ b → P s → (b || there) ≡ true → (there ≡ true → Found P number) → Found P number
seat-by P number s true there is holds among after = (s, search (rules, is), holds)
seat-by P number s false there is holds among after = after among

-- one of the seats, given a property of all of them
seat-of : (P : SeatSitting → Type 0) (number : ℕ) (seats : List SeatSitting) → All P seats → has_seat seats number ≡ true → Found P number
seat-of P number [] all there = absurd (search (rules, there))
seat-of P number (s ∷ seats) all there =
    seat-by P number s (s.number == number) (has_seat seats number) refl (all 0 s (omega arith)) there
    (λ after. seat-of P number seats (λ k d lt. all (suc k) d (omega (arith, lt))) after)

-- a seat that has as many entries as events gave all its events
told-all : (count : ℕ) (events : List Event) (seat : SeatSitting) → GaveFront count events seat → length (items_of_seat count seat.number events) ≤ length seat.told → events_told seat.told ≡ items_of_seat count seat.number events
told-all count events seat front many = front ∙ take_all (length seat.told) (items_of_seat count seat.number events) many

-- the history of seats that gave all their events
pub is-items_of_seat : (first : World) (count : ℕ) (events : List Event) (seats : List SeatSitting) (history : Log) → 0 < count → IsSettled standard_meanings first count seats history → All (GaveFront count events) seats → All (λ (seat : SeatSitting). length (items_of_seat count seat.number events) ≤ length seat.told) seats → IsDealt first count events history
is-items_of_seat first count events seats history some settled fronts acted =
    let P : SeatSitting → Type 0 = λ s. Agrees history.entries s × (events_told s.told ≡ items_of_seat count s.number events) in
    let in_turn : (number : ℕ) → number < count → events_told (told_to number history.entries) ≡ items_of_seat count number events = λ number lt.
    let it = seat-of P number seats (λ k d within. (settled.records k d within, told-all count events (get_or seats k d) (fronts k d within) (acted k d within))) (settled.whole.present number lt) in
    ap (λ n. events_told (told_to n history.entries)) (sym it.1) ∙ (ap events_told it.2.0 ∙ (it.2.1 ∙ ap (λ n. items_of_seat count n events) it.1)) in
    record {
      replays = settled.whole.replays;
      seated = settled.whole.seated;
      in_turn = in_turn;
      calls = calls-items_of_seat count events history.entries some settled.whole.seated in_turn;
    }

-- the same for the result of settling
pub is-items_of_seat-if : (first : World) (count many : ℕ) (events : List Event) (seats : List SeatSitting) (result : Result Log PbxFault) → 0 < count → IfOk result (λ history. IsSettled standard_meanings first count seats history) → count ≡ many → All (GaveFront many events) seats → All (λ (seat : SeatSitting). length (items_of_seat many seat.number events) ≤ length seat.told) seats → IfOk result (λ history. IsDealt first count events history)
is-items_of_seat-if first count many events seats (Err fault) some settled same fronts acted = tt
is-items_of_seat-if first count many events seats (Ok history) some settled same fronts acted =
    is-items_of_seat first count events seats history some settled
    (subst (λ n. All (GaveFront n events) seats) (sym same) fronts)
    (subst (λ n. All (λ (seat : SeatSitting). length (items_of_seat n seat.number events) ≤ length seat.told) seats) (sym same) acted)

-- the calls that come in first are among the events
pub calls-within : (events : List Event) (many : ℕ) → many ≡ prefix_len is_start events → many ≤ length events
calls-within events many is = omega (arith, is, prefix_len-le-length is_start events)

-- a run whose texts are refused, or for which memory runs out, before its board opens
pub shares-unbegun : (count : ℕ) (old : Option (List ℕ)) (r : Result Run PbxFault) (fault : PbxFault) → Appends old old [] → Refuses (reason_of fault) (begun_of r) → Shares count old old r (Err fault)
shares-unbegun count old (Ok run) (Coded code line) nothing refused = absurd (search (rules, refused))
shares-unbegun count old (Ok run) NoMemory nothing refused = inl (nothing, refl)
shares-unbegun count old (Err given) (Coded code line) nothing refused = (nothing, search (rules, refused))
shares-unbegun count old (Err given) NoMemory nothing refused = nothing

-- a run whose seats are not settled
pub shares-unsettled : (count : ℕ) (old : Option (List ℕ)) (r : Result Run PbxFault) (begun : World × List Event × Bool) (fault : PbxFault) → begun_of r ≡ Ok begun → Appends old old [] → is_settle_fault fault ≡ true → Shares count old old r (Err fault)
shares-unsettled count old (Ok run) begun fault is nothing settles = inl (nothing, settles)
shares-unsettled count old (Err given) begun fault is nothing settles = absurd (search (rules, is))

-- what a run without a fault was before its board opened
begun-is : (run : Run) (begun : World × List Event × Bool) → begun_of (Ok run) ≡ Ok begun → begun ≡ (opened_world run, shared_in run, is_call_refused run)
begun-is run begun is = search (rules, is)

-- a run whose line is not written
shares-unwritten : (count calls : ℕ) (old new : Option (List ℕ)) (r : Result Run PbxFault) (begun : World × List Event × Bool) (fault : PbxFault) → begun_of r ≡ Ok begun → calls ≡ length begun.1 → IsUnwritten count calls old new fault → Shares count old new r (Err fault)
shares-unwritten count calls old new (Ok run) begun fault is many unwritten =
    let Begun : Type 0 = World × List Event × Bool in
    let all : calls ≡ length (shared_in run) = many ∙ ap (λ (b : Begun). length b.1) (begun-is run begun is) in
    inr (subst (λ n. IsUnwritten count n old new fault) all unwritten)
shares-unwritten count calls old new (Err given) begun fault is many unwritten = absurd (search (rules, is))

-- a run that succeeds
shares-done : (count : ℕ) (old new : Option (List ℕ)) (r : Result Run PbxFault) (begun : World × List Event × Bool) (status : ℕ) (history : Log) → begun_of r ≡ Ok begun → IsDealt begun.0 count begun.1 history → Appends old new (settled_line count (length history.entries)) → status ≡ status_by (begun.2 || list_any (λ entry. is_refused entry.reply) history.entries) → Shares count old new r (Ok (status, history))
shares-done count old new (Err given) begun status history is items_of_seat line told = absurd (search (rules, is))
shares-done count old new (Ok run) begun status history is items_of_seat line told =
    let Begun : Type 0 = World × List Event × Bool in
    let same : begun ≡ (opened_world run, shared_in run, is_call_refused run) = begun-is run begun is in
    record {
      replay = subst (λ (b : Begun). IsDealt b.0 count b.1 history) same items_of_seat;
      told = told ∙ ap (λ (b : Begun). status_by (b.2 || list_any (λ entry. is_refused entry.reply) history.entries)) same;
      line = subst (λ n. Appends old new (settled_line count n)) (items_of_seat.calls ∙ ap (λ (b : Begun). length b.1) same) line;
    }

-- a run whose history is settled, with its line written or not
pub shares-concluded : (count : ℕ) (old new : Option (List ℕ)) (r : Result Run PbxFault) (begun : World × List Event × Bool) (history : Log) (result : Result (ℕ × Log) PbxFault) → begun_of r ≡ Ok begun → IsDealt begun.0 count begun.1 history → OnOk result (Appends old new (settled_line count (length history.entries))) → IfOk result (λ ran. ran.1 ≡ history) → IfOk result (λ ran. ran.0 ≡ status_by (begun.2 || list_any (λ entry. is_refused entry.reply) history.entries)) → IfErr result (IsUnwritten count (length history.entries) old new) → Shares count old new r result
shares-concluded count old new r begun history (Err fault) is items_of_seat line same told unwritten =
    shares-unwritten count (length history.entries) old new r begun fault is items_of_seat.calls unwritten
shares-concluded count old new r begun history (Ok ran) is items_of_seat line same told unwritten =
    subst (λ (h : Log). Shares count old new r (Ok (ran.0, h))) (sym same) (shares-done count old new r begun ran.0 history is items_of_seat line told)

-- the seats of a board that opens: there is one for each thread, and none has a reply yet
pub fresh-many : (count : ℕ) (seats : List SeatSitting) → seats ≡ map new_sitting (range_with_len 0 count) → length seats ≡ count
fresh-many count seats is = ap length is ∙ length-map-range_with_len new_sitting 0 count

pub fresh-seats : (count : ℕ) (seats : List SeatSitting) → seats ≡ map new_sitting (range_with_len 0 count) → All (λ (seat : SeatSitting). seat.told ≡ []) seats
fresh-seats count seats is = subst (All (λ (seat : SeatSitting). seat.told ≡ [])) (sym is) (All-map (λ (seat : SeatSitting). seat.told ≡ []) new_sitting (range_with_len 0 count) (λ k d lt. refl))

-- the seats by their numbers
has_seat-map : (seats : List SeatSitting) (number : ℕ) → has_seat seats number ≡ list_any (λ n. n == number) (map (λ seat. seat.number) seats)
has_seat-map [] number = refl
has_seat-map (seat ∷ seats) number = ap (λ there. (seat.number == number) || there) (has_seat-map seats number)

-- seats with the same numbers
pub has_seat-same : (old new : List SeatSitting) (number : ℕ) → map (λ seat. seat.number) new ≡ map (λ seat. seat.number) old → has_seat new number ≡ has_seat old number
has_seat-same old new number same =
    has_seat-map new number ∙ (ap (λ ns. list_any (λ n. n == number) ns) same ∙ sym (has_seat-map old number))

-- the first number is the one, or the one is after it
first-or : (a number : ℕ) (b there : Bool) → (a == number) ≡ b → (a ≢ number → there ≡ true) → (b || there) ≡ true
first-or a number true there is after = refl
first-or a number false there is after = after (grind (arith, nat_tests))

-- a board has a seat with each number below its count
has_seat-from : (a n number : ℕ) → a ≤ number → number < a + n → has_seat (map new_sitting (range_with_len a n)) number ≡ true
has_seat-from a zero number low high = absurd (omega (arith, low, high))
has_seat-from a (suc n) number low high =
    first-or a number (a == number) (has_seat (map new_sitting (range_with_len (a + 1) n)) number) refl
    (λ other. has_seat-from (a + 1) n number (omega (arith, low, other)) (omega (arith, high)))

-- a board that opens has all its seats
pub fresh-present : (count : ℕ) (seats : List SeatSitting) → seats ≡ map new_sitting (range_with_len 0 count) → AllPresent count seats
fresh-present count seats is number lt =
    ap (λ (at : List SeatSitting). has_seat at number) is ∙ has_seat-from 0 count number (omega arith) (omega (arith, lt))

numbers-kept : (old new : List SeatSitting) → length new ≡ length old → KeepNumbers old new → map (λ seat. seat.number) new ≡ map (λ seat. seat.number) old
numbers-kept old new long kept =
    let number : SeatSitting → ℕ = λ seat. seat.number in
    let any : SeatSitting = new_sitting 0 in
    ext_get_or 0 (map number new) (map number old) (length-map new number ∙ (long ∙ sym (length-map old number)))
    (λ i lt.
    let within : i < length old = omega (arith, lt, length-map new number, long) in
    get_or-map number new i any 0 (omega (arith, within, long)) ∙ (kept i any within ∙ sym (get_or-map number old i any 0 within)))

-- if the seats keep their numbers, they are all still there
pub present-kept : (count : ℕ) (old new : List SeatSitting) → length new ≡ length old → KeepNumbers old new → AllPresent count old → AllPresent count new
present-kept count old new long kept present number lt = has_seat-same old new number (numbers-kept old new long kept) ∙ present number lt

true_is_false : true ≡ false → ⊥
true_is_false e = cc

-- no seat is missing in settling if every seat is handed in
pub misses-none : {T S F : Type 0} (meanings : Meanings) (first : World) (count : ℕ) (seats : List SeatSitting) (fault : SettleFault) (back : Back T S F) → AllPresent count seats → IsUnsettled meanings first count seats fault back → misses_no_seat fault ≡ true
misses-none meanings first count seats (Differs found) back present unsettled = refl
misses-none meanings first count seats settle_no_memory back present unsettled = refl
misses-none meanings first count seats (SeatMissing seat) (Open board back) present unsettled =
    absurd (true_is_false (sym (present seat unsettled.0.within) ∙ unsettled.0.absent))
misses-none meanings first count seats (SeatMissing seat) (Closed history back) present unsettled = absurd unsettled.0
