-- Seats that differ from the entries, one after another; and the counts of a whole history.
use Rattle.std.proofs.Common.{◌≡◌, ℕ, ◌+◌, ◌<◌, nat_lt, Bool, true, false, List, [], ◌∷◌, ◌++◌, Option, Some, None, length, get_or, reverse}
use Rattle.std.proofs.Common.{take, if◌then◌else◌, refl, sym, ap, subst, ◌∙◌, arith, All, MatchOption}
use Rattle.std.proofs.lemmas.Bool.{ltb-true, ltb-false}
use Rattle.std.proofs.lemmas.List.{append_assoc, take_more}
use Rattle.std.proofs.lemmas.List.Elements.{All-push}
use Rattle.std.proofs.lemmas.List.Sorted.{sum_by-IsPermutation, IsPermutation-reverse}
use Rattle.dp_board.specs.Difference.{told_to, FirstDiffers}
use Rattle.dp_app.specs.Rows.{Meanings}
use Rattle.dp_machine.specs.World.{World}
use Rattle.dp_board.specs.Log.{Log, Replays, AreSeated}
use Rattle.dp_board.specs.Settled.{Agrees, AllPresent, IsLeastDifference, IsWholeHistory, lesser, calls_of}
use Rattle.dp_board.specs.Sittings.{SeatSitting}
use Rattle.dp_board.specs.declared.difference.Disagree.{Disagree}
use Rattle.dp_board.specs.declared.entry.Entry.{Entry}

-- what is found about some seats
abbrev pub Finds : List Entry → List SeatSitting → Option Disagree → Type 0
Finds entries seats least = MatchOption least (All (Agrees entries) seats) (IsLeastDifference entries seats)

-- what is found about one seat
abbrev pub FindsOne : List Entry → SeatSitting → Option Disagree → Type 0
FindsOne entries seat found = MatchOption found (Agrees entries seat) (λ d. (d.seat ≡ seat.number) × FirstDiffers (told_to seat.number entries) seat.told d.index)

-- one more seat, which agrees
still-least : (entries : List Entry) (before : List SeatSitting) (seat : SeatSitting) (least : Disagree) → IsLeastDifference entries before least → (seat.number < least.seat → Agrees entries seat) → IsLeastDifference entries (before ++ seat ∷ []) least
still-least entries before seat least d agrees = record {
  before = d.before;
  seat = d.seat;
  after = d.after ++ seat ∷ [];
  among = ap (λ (l : List SeatSitting). l ++ seat ∷ []) d.among ∙ append_assoc d.before (d.seat ∷ d.after) (seat ∷ []);
  number = d.number;
  differs = d.differs;
  least = All-push (λ (other : SeatSitting). other.number < least.seat → Agrees entries other) before seat d.least agrees;
}

-- one more seat, which differs and is the least so far
now-least : (entries : List Entry) (before : List SeatSitting) (seat : SeatSitting) (found : Disagree) → (found.seat ≡ seat.number) × FirstDiffers (told_to seat.number entries) seat.told found.index → All (λ (other : SeatSitting). other.number < found.seat → Agrees entries other) before → IsLeastDifference entries (before ++ seat ∷ []) found
now-least entries before seat found one least = record {
  before = before;
  seat = seat;
  after = [];
  among = refl;
  number = sym one.0;
  differs = subst (λ n. FirstDiffers (told_to n entries) seat.told found.index) (sym one.0) one.1;
  least = All-push (λ (other : SeatSitting). other.number < found.seat → Agrees entries other) before seat least (λ lt. absurd (omega (arith, lt, one.0)));
}

-- one more seat
Finds-more : (entries : List Entry) (before : List SeatSitting) (seat : SeatSitting) (least found : Option Disagree) → Finds entries before least → FindsOne entries seat found → Finds entries (before ++ seat ∷ []) (lesser least found)
Finds-more entries before seat None None so_far one = All-push (Agrees entries) before seat so_far one
Finds-more entries before seat None (Some e) so_far one = now-least entries before seat e one (λ k d lt less. so_far k d lt)
Finds-more entries before seat (Some d) None so_far one = still-least entries before seat d so_far (λ less. one)
Finds-more entries before seat (Some d) (Some e) so_far one = by (nat_lt e.seat d.seat) refl where
  by : (b : Bool) → nat_lt e.seat d.seat ≡ b → Finds entries (before ++ seat ∷ []) (if b then Some e else Some d)
  by true less = now-least entries before seat e one (λ k x lt below. so_far.least k x lt (omega (arith, below, ltb-true e.seat d.seat less)))
  by false more = still-least entries before seat d so_far (λ below. absurd (omega (arith, below, ltb-false e.seat d.seat more, one.0)))

-- and so on over the seats
pub Finds-next : (entries : List Entry) (seats : List SeatSitting) (index : ℕ) (seat : SeatSitting) (least found next : Option Disagree)
    → index < length seats → get_or seats index seat ≡ seat → next ≡ lesser least found
    → Finds entries (take index seats) least → FindsOne entries seat found → Finds entries (take (index + 1) seats) next
Finds-next entries seats index seat least found next lt there is so_far one =
    let more : take (index + 1) seats ≡ take index seats ++ seat ∷ [] =
    take_more seats index seat lt ∙ ap (λ (s : SeatSitting). take index seats ++ s ∷ []) there in
    subst (λ (l : List SeatSitting). Finds entries l next) (sym more)
    (subst (λ (o : Option Disagree). Finds entries (take index seats ++ seat ∷ []) o) (sym is)
    (Finds-more entries (take index seats) seat least found so_far one))

-- the counts of seats, in either order
pub calls-reverse : (seats : List SeatSitting) → calls_of (reverse seats) ≡ calls_of seats
calls-reverse seats = sum_by-IsPermutation (λ (s : SeatSitting). length s.told) seats (reverse seats) (IsPermutation-reverse seats)

-- the seats of a board
pub seated-within : (parts count : ℕ) (entries : List Entry) → parts ≡ count + 1 → AreSeated parts entries → All (λ (e : Entry). e.seat < count) entries
seated-within parts count entries is seated k d lt = omega (arith, is, seated k d lt)

-- the history of a board whose parts were joined
pub IsWhole-of : (meanings : Meanings) (first : World) (parts count amount : ℕ) (seats : List SeatSitting) (history shared : Log) → history ≡ shared → Replays meanings first shared → AllPresent count seats → length shared.entries ≡ amount → amount ≡ calls_of seats → AreSeated parts shared.entries → parts ≡ count + 1 → IsWholeHistory meanings first count seats history
IsWhole-of meanings first parts count amount seats history shared same replays present calls counted seated is =
    subst (IsWholeHistory meanings first count seats) (sym same)
    (record { replays = replays; present = present; calls = calls ∙ counted; seated = seated-within parts count shared.entries is seated })
