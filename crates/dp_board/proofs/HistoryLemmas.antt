-- The places of a seat's entries, and a history without the calls of one channel.
use Rattle.std.proofs.Common.{zero, suc, ◌≡◌, ℕ, ◌+◌, ◌<◌, ◌≤◌, ◌==◌, Bool, true, false, not, List, [], ◌∷◌, map, filter, get_or, if◌then◌else◌, refl, sym, ap, subst, ◌∙◌, arith, All}
use Rattle.std.specs.List.{zip}
use Rattle.std.specs.List.Sorted.{IsStrictlyIncreasing}
use Rattle.dp_app.specs.Rows.{Meanings}
use Rattle.dp_machine.proofs.IsolationLemmas.{IsIsolated, isolated-from-start}
use Rattle.dp_machine.specs.Isolation.{AreSameBut, IsUnseen, is_of, replies_without, without}
use Rattle.dp_machine.specs.Replay.{world_after}
use Rattle.dp_machine.specs.World.{World}
use Rattle.dp_machine.specs.declared.event.Event.{Event}
use Rattle.dp_machine.specs.declared.reply.Reply.{Reply}
use Rattle.dp_board.specs.Difference.{told_of, told_from}
use Rattle.dp_board.specs.Log.{Log, Replays, events_in, replies_in}
use Rattle.dp_board.specs.Settled.{Agrees}
use Rattle.dp_board.specs.Silence.{MayBeSilent, entries_without}
use Rattle.dp_board.specs.Sittings.{PlacesRise, SeatSitting}
use Rattle.dp_board.specs.declared.seat_call.SeatCall.{SeatCall}
use Rattle.dp_board.specs.declared.entry.Entry.{Entry}

-- the places in a record
abbrev places : List SeatCall → List ℕ
places told = map (λ call. call.place) told

-- numbers that rise, from this one on
record RiseFrom (place : ℕ) (numbers : List ℕ) : Type 0 where
  above : All (λ number. place ≤ number) numbers
  rise : IsStrictlyIncreasing numbers

RiseFrom-none : (place : ℕ) → RiseFrom place []
RiseFrom-none place = record { above = λ k d l. absurd (omega (arith, l)); rise = λ k l. absurd (omega (arith, l)) }

-- one number at the front
RiseFrom-here : (place : ℕ) (numbers : List ℕ) → RiseFrom (place + 1) numbers → RiseFrom place (place ∷ numbers)
RiseFrom-here place numbers later = record { above = above; rise = rise } where
  above : All (λ number. place ≤ number) (place ∷ numbers)
  above zero d l = omega arith
  above (suc k) d l = let next : place + 1 ≤ get_or numbers k d = later.above k d (omega (arith, l)) in omega (arith, next)

  rise : IsStrictlyIncreasing (place ∷ numbers)
  rise zero l = let next : place + 1 ≤ get_or numbers 0 0 = later.above 0 0 (omega (arith, l)) in omega (arith, next)
  rise (suc k) l =
      let next : get_or numbers k 0 < get_or numbers (k + 1) 0 = later.rise k (omega (arith, l)) in
      let same : suc k + 1 ≡ suc (k + 1) = omega arith in
      subst (λ n. get_or numbers k 0 < get_or (place ∷ numbers) n 0) (sym same) next

-- none at the front
RiseFrom-later : (place : ℕ) (numbers : List ℕ) → RiseFrom (place + 1) numbers → RiseFrom place numbers
RiseFrom-later place numbers later =
    record { above = λ k d l. let next : place + 1 ≤ get_or numbers k d = later.above k d l in omega (arith, next); rise = later.rise }

-- the places of a seat's entries
told_from-rises : (seat place : ℕ) (entries : List Entry) → RiseFrom place (places (told_from seat place entries))
told_from-rises seat place [] = RiseFrom-none place
told_from-rises seat place (entry ∷ entries) = by (told_from-rises seat (place + 1) entries) (entry.seat == seat) where
  by : RiseFrom (place + 1) (places (told_from seat (place + 1) entries)) → (own : Bool)
      → RiseFrom place (places (if own then told_of place entry ∷ told_from seat (place + 1) entries else told_from seat (place + 1) entries))
  by later true = RiseFrom-here place (places (told_from seat (place + 1) entries)) later
  by later false = RiseFrom-later place (places (told_from seat (place + 1) entries)) later

-- and so those in the record of a seat that agrees
pub PlacesRise-of : (entries : List Entry) (seat : SeatSitting) → Agrees entries seat → PlacesRise seat
PlacesRise-of entries seat agrees = subst (λ (told : List SeatCall). IsStrictlyIncreasing (places told)) agrees (told_from-rises seat.number 0 entries).rise

-- the replies to the events of others are those in the entries of others
replies-without : (number : ℕ) (entries : List Entry) → replies_without number (events_in entries) (replies_in entries) ≡ replies_in (entries_without number entries)
replies-without number [] = refl
replies-without number (entry ∷ entries) = by (replies-without number entries) (is_of number entry.event) where
  told : List (Event × Reply)
  told = filter (λ t. not (is_of number t.0)) (zip (events_in entries) (replies_in entries))

  by : replies_without number (events_in entries) (replies_in entries) ≡ replies_in (entries_without number entries) → (own : Bool)
      → map (λ t. t.1) (if not own then (entry.event, entry.reply) ∷ told else told)
      ≡ replies_in (if not own then entry ∷ entries_without number entries else entries_without number entries)
  by later true = later
  by later false = ap (λ (replies : List Reply). entry.reply ∷ replies) later

-- a log that replays, in which a channel is unseen
pub MayBeSilent-of : (meanings : Meanings) (first : World) (number : ℕ) (history : Log) → Replays meanings first history
    → IsUnseen meanings number first (events_in history.entries) → MayBeSilent meanings first number history
MayBeSilent-of meanings first number history replays unseen =
    let events = events_in history.entries in
    let apart : IsIsolated meanings number first first events = isolated-from-start meanings first events number unseen in
    record {
      replies = apart.replies ∙ (ap (replies_without number events) (sym replays.replies) ∙ replies-without number history.entries);
      world = subst (AreSameBut number (world_after meanings first (without number events))) (sym replays.world) apart.world;
    }
