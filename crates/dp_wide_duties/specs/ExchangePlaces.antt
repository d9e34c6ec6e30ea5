-- Where a real exchange may lead a call that runs an application with known arguments, besides where this program's machine does: a relation of
-- the call's own place, the arguments, and a place to which the call, or another one that begins there, may come. It follows the pages of the
-- Asterisk documentation on the applications and on the technology `Local`. What options and names that are set run is not in it.
use Rattle.std.specs.Prelude.{◌≡◌, ◌⊎◌, ℕ, zero, suc, Bool, true, false, ◌||◌, ◌==◌, List, [], ◌∷◌, Option, Some, None, slice_get, unwrap_or, codes, if◌then◌else◌}
use Rattle.std.specs.List.{list_any}
use Rattle.std.specs.Str.{byte}
use Rattle.dp_app.specs.declared.place.Place.{Place}
use Rattle.dp_conf.specs.Blanks.{trim}
use Rattle.dp_conf.specs.Cut.{cut_once}
use Rattle.dp_conf.specs.Levels.{arguments_of}
use Rattle.dp_conf.specs.Words.{same_word}
use Rattle.dp_pieces.specs.Bytes.{Within}
use Rattle.dp_pieces.specs.Pieces.{Fits, PieceOf}
use Rattle.dp_reach.specs.Areas.{Area, Covers, IsIn}
use Rattle.dp_reach.specs.Bounds.{Duties, MeetsAll}
use Rattle.dp_reach.specs.Holding.{Claim}
use Rattle.dp_wide.specs.Choices.{exec_if_application, exec_if_title}
use Rattle.dp_wide_duties.specs.Places.{dialled_bytes, mailbox_bytes}

-- the place is an extension of a context
abbrev pub StandsAt : List ℕ → List ℕ → Place → Type 0
StandsAt context exten place = (place.context ≡ context) × (place.exten ≡ exten)

-- ---- devices

-- the text before the first such byte, or the whole text if it has none, given the cut there
abbrev pub before_cut : List ℕ → Option (List ℕ × List ℕ) → List ℕ
before_cut text None = text
before_cut text (Some cut) = cut.0

abbrev pub before : ℕ → List ℕ → List ℕ
before mark text = before_cut text (cut_once mark text)

-- the place is `EXTEN@CONTEXT`, given the cut at the `@`; without one the context is `default`
abbrev pub IsAtCut : List ℕ → Option (List ℕ × List ℕ) → Place → Type 0
IsAtCut text None place = StandsAt (codes "default") text place
IsAtCut text (Some cut) place = StandsAt cut.1 cut.0 place

abbrev pub IsAt : List ℕ → Place → Type 0
IsAt text place = IsAtCut text (cut_once (byte "@") text) place

-- a device leads to the place, given the cut between its technology and the rest: only `Local/EXTEN@CONTEXT/OPTIONS` does
abbrev pub IsDeviceCut : Option (List ℕ × List ℕ) → Place → Type 0
IsDeviceCut None place = ⊥
IsDeviceCut (Some cut) place = (same_word cut.0 (codes "Local") ≡ true) × IsAt (before (byte "/") cut.1) place

abbrev pub IsDevice : List ℕ → Place → Type 0
IsDevice device place = IsDeviceCut (cut_once (byte "/") (trim device)) place

-- one of these devices leads to the place
abbrev pub IsOneDevice : List (List ℕ) → Place → Type 0
IsOneDevice [] place = ⊥
IsOneDevice (device ∷ devices) place = IsDevice device place ⊎ IsOneDevice devices place

-- the devices of a text: one begins at its start, and one after each `&`
abbrev pub later_devices : List ℕ → List (List ℕ)
later_devices [] = []
later_devices (b ∷ text) = if b == byte "&" then before (byte "&") text ∷ later_devices text else later_devices text

abbrev pub devices : List ℕ → List (List ℕ)
devices text = before (byte "&") text ∷ later_devices text

-- ---- applications

-- a relation of the call's own place, the arguments, and a place to which they lead
abbrev pub Leading : Type 1
Leading = Place → List ℕ → Place → Type 0

-- the argument with a number; one that is missing is empty
abbrev pub argument_text : ℕ → List ℕ → List ℕ
argument_text number arguments = unwrap_or (slice_get (arguments_of arguments) number) []

-- an argument, or another text if it is empty
abbrev pub or_text : List ℕ → List ℕ → List ℕ
or_text [] other = other
or_text (b ∷ text) other = b ∷ text

-- one of the devices of an argument leads to the place
abbrev pub device_leads : ℕ → Leading
device_leads number own arguments place = IsOneDevice (devices (argument_text number arguments)) place

-- an option has this letter
abbrev pub has_letter : ℕ → List ℕ → Bool
has_letter letter text = list_any (λ b. b == letter) text

-- a phone transfers the call, as the option `t` or `T` lets it: to what it dials, in the call's own context
abbrev pub transfer_leads : ℕ → Leading
transfer_leads number own arguments place =
    ((has_letter (byte "t") (argument_text number arguments) || has_letter (byte "T") (argument_text number arguments)) ≡ true)
    × (place.context ≡ own.context) × Within dialled_bytes place.exten

-- the devices of `Dial`, and its transfers
abbrev pub dial_leading : Leading
dial_leading own arguments place = device_leads 0 own arguments place ⊎ transfer_leads 2 own arguments place

-- what the other side of `Originate` runs: an extension of a context, by default `s`
abbrev pub other_side_leads : Leading
other_side_leads own arguments place =
    (same_word (argument_text 1 arguments) (codes "exten") ≡ true)
    × StandsAt (argument_text 2 arguments) (or_text (argument_text 3 arguments) (codes "s")) place

abbrev pub originate_leading : Leading
originate_leading own arguments place = device_leads 0 own arguments place ⊎ other_side_leads own arguments place

-- what is dialled into a context, or `i` if that does not exist
abbrev pub IsDialledInto : List ℕ → Place → Type 0
IsDialledInto context place = (place.context ≡ context) × (Within dialled_bytes place.exten ⊎ (place.exten ≡ codes "i"))

-- `DISA`: into the context of its second argument, by default `disa`
abbrev pub disa_leading : Leading
disa_leading own arguments place = IsDialledInto (or_text (argument_text 1 arguments) (codes "disa")) place

-- `Directory`: a mailbox, in the context of its second argument, by default the one of the first, by default `default`
abbrev pub directory_leading : Leading
directory_leading own arguments place =
    (place.context ≡ or_text (argument_text 1 arguments) (or_text (argument_text 0 arguments) (codes "default"))) × Within mailbox_bytes place.exten

-- voice mail: the operator and the assistant, in the call's own context
abbrev pub mail_leading : Leading
mail_leading own arguments place = (place.context ≡ own.context) × ((place.exten ≡ codes "o") ⊎ (place.exten ≡ codes "a"))

abbrev pub no_leading : Leading
no_leading own arguments place = ⊥

-- ---- the table

abbrev pub chosen_leading : Bool → Leading → Leading → Leading
chosen_leading true leading other = leading
chosen_leading false leading other = other

abbrev pub with_leading : List ℕ → Leading → (List ℕ → Leading) → List ℕ → Leading
with_leading title leading others name = chosen_leading (same_word name title) leading (others name)

-- those of the applications that call no devices
abbrev pub listed_leading : List ℕ → Leading
listed_leading =
    with_leading (codes "DISA") disa_leading
    (with_leading (codes "Directory") directory_leading
    (with_leading (codes "VoiceMail") mail_leading
    (with_leading (codes "VoiceMailMain") mail_leading
    (with_leading (codes "VMAuthenticate") mail_leading (λ name. no_leading)))))

-- the application with a name leads from a place to another
unfoldable pub leading : List ℕ → Leading
leading =
    with_leading (codes "Set") no_leading
    (with_leading (codes "Dial") dial_leading
    (with_leading (codes "Queue") (transfer_leads 1)
    (with_leading (codes "Page") (device_leads 0)
    (with_leading (codes "Originate") originate_leading
    (with_leading (codes "AddQueueMember") (device_leads 1) listed_leading)))))

-- where the application that an `ExecIf` runs leads, if there is one
abbrev pub LeadsIn : (List ℕ → Leading) → Place → Place → Option (List ℕ × List ℕ) → Type 0
LeadsIn leads own place None = ⊥
LeadsIn leads own place (Some call) = leads call.0 own call.1 place

-- the same, when so many may still run inside each other, including this one
abbrev pub exec_if_leading : ℕ → (List ℕ → Leading) → Leading
exec_if_leading zero leads own arguments place = ⊥
exec_if_leading (suc more) leads own arguments place =
    LeadsIn (with_leading exec_if_title (exec_if_leading more leads) leads) own place (exec_if_application arguments)

-- the application with a name, which may be `ExecIf`, leads from a place to another
abbrev pub leading_besides : List ℕ → Leading
leading_besides = with_leading exec_if_title (exec_if_leading 8 leading) leading

-- what meets these duties covers each place to which the application leads
abbrev pub CoversLeading : Duties → Leading → Type 0
CoversLeading duties leading = (claim : Claim) (area : Area) (pieces : List PieceOf) (own : Place) (arguments : List ℕ) → IsIn area own → Fits pieces arguments
    → MeetsAll claim (duties area pieces) → (place : Place) → leading own arguments place → Covers claim.plan claim.reach place
