-- What meets the duties of an application covers each place to which it leads in a real exchange, and what its options run.
use Rattle.std.proofs.Common.{◌≡◌, ◌⊎◌, inl, inr, ℕ, zero, suc, Bool, true, false, ◌||◌, ◌==◌, List, [], ◌∷◌, ◌++◌, slice_get, unwrap_or, Option, Some, None, refl, sym, subst, eqb-true, codes, if◌then◌else◌}
use Rattle.std.specs.List.{AllByRecursion, list_any}
use Rattle.dp_app.specs.declared.place.Place.{Place}
use Rattle.dp_conf.specs.Levels.{arguments_of}
use Rattle.dp_conf.specs.Words.{same_word}
use Rattle.dp_conf.proofs.TextLemmas.{each-front, each-rest}
use Rattle.dp_pieces.specs.Arguments.{are_clean, shapes_of}
use Rattle.dp_pieces.specs.Bytes.{Bytes, Within}
use Rattle.dp_pieces.specs.Fitting.{AllFit}
use Rattle.dp_pieces.specs.Pieces.{AnyOf, Fits, Known, OneOf, PieceOf, any_bytes_of, exactly, pieces_set, text_known}
use Rattle.dp_pieces.proofs.ArgumentLemmas.{fits-arguments}
use Rattle.dp_pieces.proofs.FitsLemmas.{fits-any_bytes_of, fits-exactly, fits-nothing, fits-set, fits-text_known}
use Rattle.dp_pieces.proofs.WithinLemmas.{either-left, either-right}
use Rattle.dp_wide.specs.Choices.{exec_if_application, exec_if_title}
use Rattle.dp_reach.specs.Areas.{Area, Covers, IsIn, area_at, may_be_empty}
use Rattle.dp_reach.specs.Bounds.{Duties, Duty, Leads, Meets, MeetsAll}
use Rattle.dp_reach.specs.Holding.{Claim}
use Rattle.dp_reach.specs.Standard.{no_names, with_duties}
use Rattle.dp_reach.proofs.TargetLemmas.{arguments-within}
use Rattle.dp_wide_reach.specs.Choices.{anything_owed, exec_if_duties}
use Rattle.dp_wide_reach.proofs.ExecIfRows.{OfCall, exec_if-held}
use Rattle.dp_wide_reach.specs.Wide.{inner_duties}
use Rattle.dp_wide_duties.specs.Arguments.{argument}
use Rattle.dp_wide_duties.specs.Calling.{dial_leads, exten_in, exten_or_start, is_exten, member_leads, originate_leads, page_leads, queue_leads, second_owed}
use Rattle.dp_wide_duties.specs.Devices.{devices_owed}
use Rattle.dp_wide_duties.specs.Exchange.{besides, exchange_duties, listed_besides, met_duties, plain_duties}
use Rattle.dp_wide_duties.specs.ExchangePlaces.{CoversLeading, IsDialledInto, Leading, StandsAt, argument_text, chosen_leading, device_leads as leading_by_device, dial_leading, directory_leading, disa_leading, exec_if_leading, has_letter, leading, leading_besides, listed_leading, mail_leading, no_leading, or_text, originate_leading, transfer_leads, with_leading, LeadsIn}
use Rattle.dp_wide_duties.specs.Naming.{naming_leads}
use Rattle.dp_wide_duties.specs.OptionTexts.{CoversMemberAt, CoversOptionsAt}
use Rattle.dp_wide_duties.specs.Options.{options_owed, started_owed}
use Rattle.dp_wide_duties.specs.Places.{any_in, dialled_bytes, dialled_into, directory_leads, disa_leads, first_listed, if_empty, invalid_in, mailbox_bytes, mail_leads}
use Rattle.dp_wide_duties.specs.Transfers.{may_transfer, transfer_owed}
use Rattle.dp_wide_duties.proofs.DeviceLemmas.{devices-led, led}
use Rattle.dp_wide_duties.proofs.OptionLemmas.{member-covers, options-covers}

-- ---- arguments

fit-get : (shapes : List (List PieceOf)) (texts : List (List ℕ)) → AllFit shapes texts → (number : ℕ)
    → Fits (unwrap_or (slice_get shapes number) []) (unwrap_or (slice_get texts number) [])
fit-get [] [] fit number = fits-nothing
fit-get [] (text ∷ texts) fit number = absurd fit
fit-get (shape ∷ shapes) [] fit number = absurd fit
fit-get (shape ∷ shapes) (text ∷ texts) fit zero = fit.0
fit-get (shape ∷ shapes) (text ∷ texts) fit (suc number) = fit-get shapes texts fit.1 number

within-get : (set : Bytes) (texts : List (List ℕ)) → AllByRecursion (Within set) texts → (number : ℕ) → Within set (unwrap_or (slice_get texts number) [])
within-get set [] all number = tt
within-get set (text ∷ texts) all zero = all.0
within-get set (text ∷ texts) all (suc number) = within-get set texts all.1 number

-- an argument fits the pieces of the argument with this number
fits-argument : (number : ℕ) (pieces : List PieceOf) (arguments : List ℕ) → Fits pieces arguments → Fits (argument number pieces) (argument_text number arguments)
fits-argument number pieces arguments fits = by (are_clean 0 pieces) refl
  where
    by : (clean : Bool) → are_clean 0 pieces ≡ clean
        → Fits (if clean then unwrap_or (slice_get (shapes_of pieces) number) [] else any_bytes_of (pieces_set pieces)) (argument_text number arguments)
    by true is = fit-get (shapes_of pieces) (arguments_of arguments) (fits-arguments pieces arguments is fits) number
    by false is =
        fits-any_bytes_of (pieces_set pieces) (argument_text number arguments)
        (within-get (pieces_set pieces) (arguments_of arguments) (arguments-within (pieces_set pieces) arguments (fits-set pieces arguments fits)) number)

-- what the empty text fits may be empty
none-after : (front rest : List ℕ) → [] ≡ front ++ rest → rest ≡ []
none-after [] rest is = sym is
none-after (b ∷ front) rest is = absurd cc

fits-empty : (pieces : List PieceOf) → Fits pieces [] → may_be_empty pieces ≡ true
unfolding Fits
fits-empty [] fits = refl
fits-empty (Known b ∷ pieces) fits = absurd (let no : [] ≡ b ∷ fits.0 = fits.1 in let never : ⊥ = cc in never)
fits-empty (OneOf set ∷ pieces) fits = absurd (let no : [] ≡ fits.0.0 ∷ fits.0.1 = fits.1 in let never : ⊥ = cc in never)
fits-empty (AnyOf set ∷ pieces) fits = fits-empty pieces (subst (Fits pieces) (none-after fits.0.0 fits.0.1 fits.1) fits.3)

fits-some : (b : ℕ) (text : List ℕ) → Fits [] (b ∷ text) → ⊥
unfolding Fits
fits-some b text fits = let no : b ∷ text ≡ [] = fits in let never : ⊥ = cc in never

-- a letter of a text is among the bytes of what it fits
letter-within : (set : Bytes) (letter : ℕ) (text : List ℕ) → Within set text → has_letter letter text ≡ true → set letter ≡ true
letter-within set letter [] within is = absurd cc
letter-within set letter (b ∷ text) within is = by (λ any. letter-within set letter text within.1 any) (b == letter) refl is
  where
    by : (list_any (λ c. c == letter) text ≡ true → set letter ≡ true) → (here : Bool) → (b == letter) ≡ here
        → (here || list_any (λ c. c == letter) text) ≡ true → set letter ≡ true
    by later true same any = subst (λ c. set c ≡ true) (eqb-true b letter same) within.0
    by later false other any = later any

-- ---- parts of duties

module _ (claim : Claim) where
  met-front : (front rest : List Duty) → MeetsAll claim (front ++ rest) → MeetsAll claim front
  met-front front rest met = each-front (Meets claim) front rest met

  met-rest : (front rest : List Duty) → MeetsAll claim (front ++ rest) → MeetsAll claim rest
  met-rest front rest met = each-rest (Meets claim) front rest met

  met-empty : (pieces : List PieceOf) (duties : List Duty) → Fits pieces [] → MeetsAll claim (if_empty pieces duties) → MeetsAll claim duties
  met-empty pieces duties fits met = subst (λ b. MeetsAll claim (if b then duties else [])) (fits-empty pieces fits) met

  -- an extension with bytes of a set, in a context that an argument names
  any_in-led : (set : Bytes) (context : List PieceOf) (b : ℕ) (text : List ℕ) → Fits context (b ∷ text) → MeetsAll claim (any_in set context) → (place : Place)
      → place.context ≡ b ∷ text → Within set place.exten → Covers claim.plan claim.reach place
  any_in-led set [] b text fits met place same within = absurd (fits-some b text fits)
  any_in-led set (piece ∷ pieces) b text fits met place same within =
      led claim (piece ∷ pieces) (any_bytes_of set) met.0 (b ∷ text) place.exten fits (fits-any_bytes_of set place.exten within) place (same, refl)

  invalid_in-led : (context : List PieceOf) (b : ℕ) (text : List ℕ) → Fits context (b ∷ text) → MeetsAll claim (invalid_in context) → (place : Place)
      → StandsAt (b ∷ text) (codes "i") place → Covers claim.plan claim.reach place
  invalid_in-led [] b text fits met place at = absurd (fits-some b text fits)
  invalid_in-led (piece ∷ pieces) b text fits met place at =
      led claim (piece ∷ pieces) (exactly (codes "i")) met.0 (b ∷ text) (codes "i") fits (fits-exactly (codes "i")) place at

  dialled-led : (context : List PieceOf) (b : ℕ) (text : List ℕ) → Fits context (b ∷ text) → MeetsAll claim (dialled_into context) → (place : Place)
      → IsDialledInto (b ∷ text) place → Covers claim.plan claim.reach place
  dialled-led context b text fits met place is = by is.1
    where
      by : Within dialled_bytes place.exten ⊎ (place.exten ≡ codes "i") → Covers claim.plan claim.reach place
      by (inl within) = any_in-led dialled_bytes context b text fits (met-front (any_in dialled_bytes context) (invalid_in context) met) place is.0 within
      by (inr exten) = invalid_in-led context b text fits (met-rest (any_in dialled_bytes context) (invalid_in context) met) place (is.0, exten)

  transfer-led : (area : Area) (own : Place) → IsIn area own → (options : List PieceOf) (text : List ℕ) → Fits options text → MeetsAll claim (transfer_owed area options)
      → (has_letter 116 text || has_letter 84 text) ≡ true → (place : Place) → place.context ≡ own.context → Within dialled_bytes place.exten
      → Covers claim.plan claim.reach place
  transfer-led area own inside options text fits met has place same within =
      led claim area.context (any_bytes_of dialled_bytes) (subst (λ b. MeetsAll claim (if b then Leads (area_at area.context (any_bytes_of dialled_bytes)) ∷ [] else [])) may met).0
      own.context place.exten inside.context (fits-any_bytes_of dialled_bytes place.exten within) place (same, refl)
    where
      by : (small : Bool) → has_letter 116 text ≡ small → (small || has_letter 84 text) ≡ true → may_transfer options ≡ true
      by true is any = either-left (pieces_set options 116) (pieces_set options 84) (letter-within (pieces_set options) 116 text (fits-set options text fits) is)
      by false is any = either-right (pieces_set options 116) (pieces_set options 84) (letter-within (pieces_set options) 84 text (fits-set options text fits) any)

      may : may_transfer options ≡ true
      may = by (has_letter 116 text) refl has

  -- an extension, or `s`
  exten-led : (context exten : List PieceOf) (c : List ℕ) → Fits context c → (e : List ℕ) → Fits exten e → MeetsAll claim (exten_or_start context exten) → (place : Place)
      → StandsAt c (or_text e (codes "s")) place → Covers claim.plan claim.reach place
  exten-led context exten c first [] second met place at =
      led claim context (exactly (codes "s"))
      (met-empty exten (Leads (area_at context (exactly (codes "s"))) ∷ []) second
      (met-rest (exten_in context exten) (if_empty exten (Leads (area_at context (exactly (codes "s"))) ∷ [])) met)).0
      c (codes "s") first (fits-exactly (codes "s")) place at
  exten-led context [] c first (b ∷ e) second met place at = absurd (fits-some b e second)
  exten-led context (piece ∷ pieces) c first (b ∷ e) second met place at = led claim context (piece ∷ pieces) met.0 c (b ∷ e) first second place at

-- ---- applications

dial-covers : CoversLeading dial_leads dial_leading
dial-covers claim area pieces own arguments inside fits met place (inl device) =
    devices-led claim (argument 0 pieces) (argument_text 0 arguments) (fits-argument 0 pieces arguments fits)
    (met-front claim (devices_owed (argument 0 pieces)) (transfer_owed area (argument 2 pieces) ++ options_owed area (argument 2 pieces)) met) place device
dial-covers claim area pieces own arguments inside fits met place (inr transfer) =
    transfer-led claim area own inside (argument 2 pieces) (argument_text 2 arguments) (fits-argument 2 pieces arguments fits)
    (met-front claim (transfer_owed area (argument 2 pieces)) (options_owed area (argument 2 pieces))
    (met-rest claim (devices_owed (argument 0 pieces)) (transfer_owed area (argument 2 pieces) ++ options_owed area (argument 2 pieces)) met))
    transfer.0 place transfer.1 transfer.2

queue-covers : CoversLeading queue_leads (transfer_leads 1)
queue-covers claim area pieces own arguments inside fits met place transfer =
    transfer-led claim area own inside (argument 1 pieces) (argument_text 1 arguments) (fits-argument 1 pieces arguments fits)
    (met-front claim (transfer_owed area (argument 1 pieces)) (options_owed area (argument 1 pieces))
    (met-front claim (transfer_owed area (argument 1 pieces) ++ options_owed area (argument 1 pieces)) (started_owed area (argument 6 pieces) (argument 7 pieces)) met))
    transfer.0 place transfer.1 transfer.2

page-covers : CoversLeading page_leads (leading_by_device 0)
page-covers claim area pieces own arguments inside fits met place device =
    devices-led claim (argument 0 pieces) (argument_text 0 arguments) (fits-argument 0 pieces arguments fits)
    (met-front claim (devices_owed (argument 0 pieces)) (options_owed area (argument 1 pieces)) met) place device

added-covers : CoversLeading member_leads (leading_by_device 1)
added-covers claim area pieces own arguments inside fits met place device =
    devices-led claim (argument 1 pieces) (argument_text 1 arguments) (fits-argument 1 pieces arguments fits) met place device

originate-covers : CoversLeading originate_leads originate_leading
originate-covers claim area pieces own arguments inside fits met place (inl device) =
    devices-led claim (argument 0 pieces) (argument_text 0 arguments) (fits-argument 0 pieces arguments fits)
    (met-front claim (devices_owed (argument 0 pieces)) (second_owed pieces) met) place device
originate-covers claim area pieces own arguments inside fits met place (inr side) =
    exten-led claim (argument 2 pieces) (argument 3 pieces) (argument_text 2 arguments) (fits-argument 2 pieces arguments fits)
    (argument_text 3 arguments) (fits-argument 3 pieces arguments fits)
    (subst (λ b. MeetsAll claim (if b then exten_or_start (argument 2 pieces) (argument 3 pieces) else [])) (is-known (text_known (argument 1 pieces)) refl)
    (met-rest claim (devices_owed (argument 0 pieces)) (second_owed pieces) met)) place side.1
  where
    is-known : (known : Option (List ℕ)) → text_known (argument 1 pieces) ≡ known → is_exten known ≡ true
    is-known None is = refl
    is-known (Some bytes) is =
        subst (λ n. same_word n (codes "exten") ≡ true)
        (fits-text_known (argument 1 pieces) (argument_text 1 arguments) bytes is (fits-argument 1 pieces arguments fits)) side.0

disa-covers : CoversLeading disa_leads disa_leading
disa-covers claim area pieces own arguments inside fits met place into =
    by (argument_text 1 arguments) (fits-argument 1 pieces arguments fits) into
  where
    by : (text : List ℕ) → Fits (argument 1 pieces) text → IsDialledInto (or_text text (codes "disa")) place → Covers claim.plan claim.reach place
    by [] fits is =
        dialled-led claim (exactly (codes "disa")) 100 (codes "isa") (fits-exactly (codes "disa"))
        (met-empty claim (argument 1 pieces) (dialled_into (exactly (codes "disa"))) fits
        (met-rest claim (dialled_into (argument 1 pieces)) (if_empty (argument 1 pieces) (dialled_into (exactly (codes "disa")))) met)) place is
    by (b ∷ text) fits is =
        dialled-led claim (argument 1 pieces) b text fits
        (met-front claim (dialled_into (argument 1 pieces)) (if_empty (argument 1 pieces) (dialled_into (exactly (codes "disa")))) met) place is

directory-covers : CoversLeading directory_leads directory_leading
directory-covers claim area pieces own arguments inside fits met place leads =
    by (argument_text 1 arguments) (fits-argument 1 pieces arguments fits) leads.0
  where
    first : (text : List ℕ) → Fits (argument 0 pieces) text → MeetsAll claim (first_listed (argument 0 pieces)) → place.context ≡ or_text text (codes "default")
        → Covers claim.plan claim.reach place
    first [] fits met same =
        any_in-led claim mailbox_bytes (exactly (codes "default")) 100 (codes "efault") (fits-exactly (codes "default"))
        (met-empty claim (argument 0 pieces) (any_in mailbox_bytes (exactly (codes "default"))) fits
        (met-rest claim (any_in mailbox_bytes (argument 0 pieces)) (if_empty (argument 0 pieces) (any_in mailbox_bytes (exactly (codes "default")))) met)) place same leads.1
    first (b ∷ text) fits met same =
        any_in-led claim mailbox_bytes (argument 0 pieces) b text fits
        (met-front claim (any_in mailbox_bytes (argument 0 pieces)) (if_empty (argument 0 pieces) (any_in mailbox_bytes (exactly (codes "default")))) met) place same leads.1

    by : (text : List ℕ) → Fits (argument 1 pieces) text → place.context ≡ or_text text (or_text (argument_text 0 arguments) (codes "default"))
        → Covers claim.plan claim.reach place
    by [] second same =
        first (argument_text 0 arguments) (fits-argument 0 pieces arguments fits)
        (met-empty claim (argument 1 pieces) (first_listed (argument 0 pieces)) second
        (met-rest claim (any_in mailbox_bytes (argument 1 pieces)) (if_empty (argument 1 pieces) (first_listed (argument 0 pieces))) met)) same
    by (b ∷ text) second same =
        any_in-led claim mailbox_bytes (argument 1 pieces) b text second
        (met-front claim (any_in mailbox_bytes (argument 1 pieces)) (if_empty (argument 1 pieces) (first_listed (argument 0 pieces))) met) place same leads.1

mail-covers : CoversLeading mail_leads mail_leading
mail-covers claim area pieces own arguments inside fits met place leads = by leads.1
  where
    by : (place.exten ≡ codes "o") ⊎ (place.exten ≡ codes "a") → Covers claim.plan claim.reach place
    by (inl operator) = led claim area.context (exactly (codes "o")) met.0 own.context (codes "o") inside.context (fits-exactly (codes "o")) place (leads.0, operator)
    by (inr assistant) = led claim area.context (exactly (codes "a")) met.1.0 own.context (codes "a") inside.context (fits-exactly (codes "a")) place (leads.0, assistant)

none-covers : (duties : Duties) → CoversLeading duties no_leading
none-covers duties claim area pieces own arguments inside fits met place leads = absurd leads

-- ---- the table

with-covers : (title : List ℕ) (own : Duties) (lead : Leading) (duties : List ℕ → Duties) (leads : List ℕ → Leading) → CoversLeading own lead
    → ((name : List ℕ) → CoversLeading (duties name) (leads name)) → (name : List ℕ)
    → CoversLeading (with_duties title own duties name) (with_leading title lead leads name)
with-covers title own lead duties leads here there name = by (same_word name title)
  where
    by : (b : Bool) → CoversLeading (if b then own else duties name) (chosen_leading b lead (leads name))
    by true = here
    by false = there name

listed-covers : (name : List ℕ) → CoversLeading (listed_besides name) (listed_leading name)
listed-covers =
    with-covers (codes "DISA") _ _ _ _ disa-covers
    (with-covers (codes "Directory") _ _ _ _ directory-covers
    (with-covers (codes "VoiceMail") _ _ _ _ mail-covers
    (with-covers (codes "VoiceMailMain") _ _ _ _ mail-covers
    (with-covers (codes "VMAuthenticate") _ _ _ _ mail-covers (λ name. none-covers (no_names name))))))

besides-covers : (name : List ℕ) → CoversLeading (besides name) (leading name)
unfolding besides leading
besides-covers =
    with-covers (codes "Set") _ _ _ _ (none-covers naming_leads)
    (with-covers (codes "Dial") _ _ _ _ dial-covers
    (with-covers (codes "Queue") _ _ _ _ queue-covers
    (with-covers (codes "Page") _ _ _ _ page-covers
    (with-covers (codes "Originate") _ _ _ _ originate-covers
    (with-covers (codes "AddQueueMember") _ _ _ _ added-covers listed-covers)))))

met-covers : (name : List ℕ) → CoversLeading (met_duties name) (leading name)
met-covers name claim area pieces own arguments inside fits met place leads =
    besides-covers name claim area pieces own arguments inside fits (met-rest claim (inner_duties name area pieces) (besides name area pieces) met) place leads

-- nothing is known of an `ExecIf` that runs an application with these duties
plain-covers : (name : List ℕ) → CoversLeading (plain_duties name) (leading name)
plain-covers name = by (same_word name exec_if_title)
  where
    by : (b : Bool) → CoversLeading (if b then anything_owed else met_duties name) (leading name)
    by true = λ claim area pieces own arguments inside fits met place leads. absurd met.0
    by false = met-covers name

exec_if-covers : (count : ℕ) → CoversLeading (exec_if_duties count plain_duties) (exec_if_leading count leading)
exec_if-covers zero claim area pieces own arguments inside fits met place leads = absurd leads
exec_if-covers (suc more) claim area pieces own arguments inside fits met place leads =
    by (exec_if_application arguments)
    (exec_if-held (with_duties exec_if_title (exec_if_duties more plain_duties) plain_duties) claim area
    (λ name given. (spot : Place) → with_leading exec_if_title (exec_if_leading more leading) leading name own given spot → Covers claim.plan claim.reach spot)
    (λ name side given fits met spot leads.
    with-covers exec_if_title _ _ _ _ (exec_if-covers more) plain-covers name claim area side own given inside fits met spot leads)
    pieces arguments fits met) leads
  where
    by : (o : Option (List ℕ × List ℕ))
        → OfCall (λ name given. (spot : Place) → with_leading exec_if_title (exec_if_leading more leading) leading name own given spot → Covers claim.plan claim.reach spot) o
        → LeadsIn (with_leading exec_if_title (exec_if_leading more leading) leading) own place o → Covers claim.plan claim.reach place
    by None held leads = absurd leads
    by (Some call) held leads = held place leads

pub exchange-covers : (name : List ℕ) → CoversLeading (exchange_duties name) (leading_besides name)
unfolding exchange_duties
exchange-covers = with-covers exec_if_title _ _ _ _ (exec_if-covers 8) plain-covers

-- ---- options

pub dial-options : CoversOptionsAt 2 (exchange_duties (codes "Dial"))
unfolding exchange_duties besides
dial-options claim area pieces arguments cell good inside own fits met =
    options-covers claim area (argument 2 pieces) (argument_text 2 arguments) cell good inside own (fits-argument 2 pieces arguments fits)
    (met-rest claim (transfer_owed area (argument 2 pieces)) (options_owed area (argument 2 pieces))
    (met-rest claim (devices_owed (argument 0 pieces)) (transfer_owed area (argument 2 pieces) ++ options_owed area (argument 2 pieces))
    (met-rest claim (inner_duties (codes "Dial") area pieces) (dial_leads area pieces) met)))

pub queue-options : CoversOptionsAt 1 (exchange_duties (codes "Queue"))
unfolding exchange_duties besides
queue-options claim area pieces arguments cell good inside own fits met =
    options-covers claim area (argument 1 pieces) (argument_text 1 arguments) cell good inside own (fits-argument 1 pieces arguments fits)
    (met-rest claim (transfer_owed area (argument 1 pieces)) (options_owed area (argument 1 pieces))
    (met-front claim (transfer_owed area (argument 1 pieces) ++ options_owed area (argument 1 pieces)) (started_owed area (argument 6 pieces) (argument 7 pieces))
    (met-rest claim (inner_duties (codes "Queue") area pieces) (queue_leads area pieces) met)))

pub page-options : CoversOptionsAt 1 (exchange_duties (codes "Page"))
unfolding exchange_duties besides
page-options claim area pieces arguments cell good inside own fits met =
    options-covers claim area (argument 1 pieces) (argument_text 1 arguments) cell good inside own (fits-argument 1 pieces arguments fits)
    (met-rest claim (devices_owed (argument 0 pieces)) (options_owed area (argument 1 pieces))
    (met-rest claim (inner_duties (codes "Page") area pieces) (page_leads area pieces) met))

pub member-runs : CoversMemberAt 6 7 (exchange_duties (codes "Queue"))
unfolding exchange_duties besides
member-runs claim area pieces arguments cell good inside own fits met =
    member-covers claim area (argument 6 pieces) (argument 7 pieces) (argument_text 6 arguments) (argument_text 7 arguments) cell good inside own
    (fits-argument 6 pieces arguments fits) (fits-argument 7 pieces arguments fits)
    (met-rest claim (transfer_owed area (argument 1 pieces) ++ options_owed area (argument 1 pieces)) (started_owed area (argument 6 pieces) (argument 7 pieces))
    (met-rest claim (inner_duties (codes "Queue") area pieces) (queue_leads area pieces) met))
