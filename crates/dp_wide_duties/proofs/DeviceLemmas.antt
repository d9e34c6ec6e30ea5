-- Where a device of a text leads is covered by what meets the duties of pieces that the text fits.
use Rattle.std.proofs.Common.{◌≡◌, inl, inr, ℕ, ◌+◌, Bool, true, false, cond, nat_lt, nat_eq, ◌&&◌, ◌||◌, ◌==◌, List, [], ◌∷◌, ◌++◌, map, Option, Some, None, refl, sym, subst, ◌∙◌, eqb-true, codes, if◌then◌else◌, arith}
use Rattle.std.specs.List.{AllByRecursion}
use Rattle.std.specs.Char.{to_ascii_lowercase}
use Rattle.std.specs.Cmp.Lexicographic.{pointwise}
use Rattle.std.specs.Str.{byte}
use Rattle.dp_app.specs.declared.place.Place.{Place}
use Rattle.dp_conf.specs.Blanks.{trim}
use Rattle.dp_conf.specs.Cut.{cut_once}
use Rattle.dp_conf.specs.Words.{same_word}
use Rattle.dp_conf.proofs.TextLemmas.{Avoids, cut_once-is, each-cut_front, each-cut_rest, each-front, each-rest, each-trim, each-weaker}
use Rattle.dp_pieces.specs.Bytes.{Bytes, Within}
use Rattle.dp_pieces.specs.Cuts.{At, CuttingOf, Nowhere, Unsure, cut_pieces, with_piece}
use Rattle.dp_pieces.specs.Fitting.{IsCutAs}
use Rattle.dp_pieces.specs.Pieces.{AnyOf, Fits, Known, OneOf, PieceOf, any_bytes_of, exactly, pieces_set, text_known}
use Rattle.dp_pieces.specs.Trimmed.{without_end_blanks}
use Rattle.dp_pieces.proofs.ArgumentLemmas.{and-both, other}
use Rattle.dp_pieces.proofs.CutLemmas.{cut-pieces}
use Rattle.dp_pieces.proofs.FitsLemmas.{fits-any_bytes_of, fits-exactly, fits-set, fits-text_known}
use Rattle.dp_pieces.proofs.TrimmedLemmas.{fits-without_end_blanks}
use Rattle.dp_pieces.proofs.WithinLemmas.{either-left, either-right}
use Rattle.dp_reach.specs.Areas.{Covers, area_at}
use Rattle.dp_reach.specs.Bounds.{Leads, Meets, MeetsAll}
use Rattle.dp_reach.specs.Holding.{Claim}
use Rattle.dp_wide_duties.specs.Devices.{anywhere, device_by, device_owed, devices_from, devices_owed, first_by, is_local, local_by, may_be_local, place_by, separates, technology_owed, unsure_owed}
use Rattle.dp_wide_duties.specs.ExchangePlaces.{IsAt, IsAtCut, IsDevice, IsDeviceCut, IsOneDevice, StandsAt, before, before_cut, devices, later_devices}

-- ---- texts

-- the text before a cut has only bytes of the whole
pub within-before : (set : Bytes) (mark : ℕ) (text : List ℕ) (cut : Option (List ℕ × List ℕ)) → cut_once mark text ≡ cut → Within set text → Within set (before_cut text cut)
within-before set mark text None is within = within
within-before set mark text (Some cut) is within =
    each-cut_front (λ b. set b ≡ true) mark text cut.0 cut.1 (cut_once-is mark text cut.0 cut.1 is) within

-- a set with a byte whose small letter is this one has it, small or large
letter : (set : Bytes) (b small large : ℕ) → small ≡ large + 32 → set b ≡ true → nat_eq (to_ascii_lowercase b) small ≡ true → (set small || set large) ≡ true
letter set b small large far here is = by (nat_lt b 65) (nat_lt b 91) is
  where
    by : (t u : Bool) → nat_eq (cond t b (cond u (b + 32) b)) small ≡ true → (set small || set large) ≡ true
    by true u same = either-left (set small) (set large) (subst (λ c. set c ≡ true) (eqb-true b small same) here)
    by false true same =
        let sum : b + 32 ≡ small = eqb-true (b + 32) small same in
        let is_large : b ≡ large = omega (arith, sum, far) in
        either-right (set small) (set large) (subst (λ c. set c ≡ true) is_large here)
    by false false same = either-left (set small) (set large) (subst (λ c. set c ≡ true) (eqb-true b small same) here)

-- each small letter of a word is that of a byte of the set
abbrev HasSmall : Bytes → ℕ → Type 0
HasSmall set small = (b : ℕ) × (set b ≡ true) × (nat_eq (to_ascii_lowercase b) small ≡ true)

small-letters : (set : Bytes) (text word : List ℕ) → Within set text → pointwise nat_eq (map to_ascii_lowercase text) word ≡ true → AllByRecursion (HasSmall set) word
small-letters set [] [] within is = tt
small-letters set [] (w ∷ word) within is = absurd cc
small-letters set (b ∷ text) [] within is = absurd cc
small-letters set (b ∷ text) (w ∷ word) within is =
    let both = and-both (nat_eq (to_ascii_lowercase b) w) (pointwise nat_eq (map to_ascii_lowercase text) word) is in
    ((b, within.0, both.0), small-letters set text word within.1 both.1)

-- the bytes of `local`, in any case
local-letters : (set : Bytes) (text : List ℕ) → Within set text → same_word text (codes "Local") ≡ true → may_be_local set ≡ true
local-letters set text within is =
    let all : AllByRecursion (HasSmall set) (map to_ascii_lowercase (codes "Local")) = small-letters set text (map to_ascii_lowercase (codes "Local")) within is in
    let l = letter set all.0.0 108 76 refl all.0.1 all.0.2 in
    let o = letter set all.1.0.0 111 79 refl all.1.0.1 all.1.0.2 in
    let c = letter set all.1.1.0.0 99 67 refl all.1.1.0.1 all.1.1.0.2 in
    let a = letter set all.1.1.1.0.0 97 65 refl all.1.1.1.0.1 all.1.1.1.0.2 in
    λ i. l i && o i && c i && a i

-- no device begins in a text without `&`
later-skip : (front rest : List ℕ) → Avoids 38 front → later_devices (front ++ rest) ≡ later_devices rest
later-skip [] rest avoids = refl
later-skip (b ∷ front) rest avoids =
    (λ i. if avoids.0 i then before 38 (front ++ rest) ∷ later_devices (front ++ rest) else later_devices (front ++ rest)) ∙ later-skip front rest avoids.1

-- it is known whether pieces are cut
abbrev IsSure : CuttingOf → Type 0
IsSure Nowhere = Unit {0}
IsSure Unsure = ⊥
IsSure (At front rest) = Unit {0}

sure-after : (piece : PieceOf) (cutting : CuttingOf) → IsSure (with_piece piece cutting) → IsSure cutting
sure-after piece Nowhere is = tt
sure-after piece Unsure is = is
sure-after piece (At front rest) is = tt

-- ---- places

module _ (claim : Claim) where
  -- a place whose texts fit an area
  pub led : (context exten : List PieceOf) → Meets claim (Leads (area_at context exten)) → (c e : List ℕ) → Fits context c → Fits exten e → (place : Place)
      → StandsAt c e place → Covers claim.plan claim.reach place
  led context exten includes c e first second place at =
      includes place (record { context = subst (Fits context) (sym at.0) first; exten = subst (Fits exten) (sym at.1) second })

  -- `EXTEN@CONTEXT` with bytes of a set
  anywhere-led : (set : Bytes) (text : List ℕ) → Within set text → MeetsAll claim (anywhere set) → (cut : Option (List ℕ × List ℕ)) → cut_once 64 text ≡ cut
      → (place : Place) → IsAtCut text cut place → Covers claim.plan claim.reach place
  anywhere-led set text within met None is place at =
      led (exactly (codes "default")) (any_bytes_of set) met.1.0 (codes "default") text (fits-exactly (codes "default")) (fits-any_bytes_of set text within) place at
  anywhere-led set text within met (Some cut) is place at =
      let parts = cut_once-is 64 text cut.0 cut.1 is in
      led (any_bytes_of set) (any_bytes_of set) met.0 cut.1 cut.0
      (fits-any_bytes_of set cut.1 (each-cut_rest (λ b. set b ≡ true) 64 text cut.0 cut.1 parts within))
      (fits-any_bytes_of set cut.0 (each-cut_front (λ b. set b ≡ true) 64 text cut.0 cut.1 parts within)) place at

  -- `EXTEN@CONTEXT` that fits pieces
  place-led : (pieces : List PieceOf) (text : List ℕ) → Fits pieces text → MeetsAll claim (place_by pieces (cut_pieces 64 pieces)) → (place : Place) → IsAt text place
      → Covers claim.plan claim.reach place
  place-led pieces text fits met place at = by (cut_pieces 64 pieces) (cut_once 64 text) refl (cut-pieces 64 pieces text fits) met at
    where
      by : (cutting : CuttingOf) (cut : Option (List ℕ × List ℕ)) → cut_once 64 text ≡ cut → IsCutAs cutting cut → MeetsAll claim (place_by pieces cutting)
          → IsAtCut text cut place → Covers claim.plan claim.reach place
      by Nowhere None is like met at = led (exactly (codes "default")) pieces met.0 (codes "default") text (fits-exactly (codes "default")) fits place at
      by Nowhere (Some cut) is like met at = absurd cc
      by Unsure cut is like met at = anywhere-led (pieces_set pieces) text (fits-set pieces text fits) met cut is place at
      by (At exten context) None is like met at = absurd like
      by (At exten context) (Some cut) is like met at = led context exten met.0 cut.1 cut.0 like.1 like.0 place at

  -- `EXTEN@CONTEXT/OPTIONS` that fits pieces
  local-led : (pieces : List PieceOf) (text : List ℕ) → Fits pieces text → MeetsAll claim (local_by pieces (cut_pieces 47 pieces)) → (place : Place)
      → IsAt (before 47 text) place → Covers claim.plan claim.reach place
  local-led pieces text fits met place at = by (cut_pieces 47 pieces) (cut_once 47 text) refl (cut-pieces 47 pieces text fits) met at
    where
      by : (cutting : CuttingOf) (cut : Option (List ℕ × List ℕ)) → cut_once 47 text ≡ cut → IsCutAs cutting cut → MeetsAll claim (local_by pieces cutting)
          → IsAt (before_cut text cut) place → Covers claim.plan claim.reach place
      by Nowhere None is like met at = place-led pieces text fits met place at
      by Nowhere (Some cut) is like met at = absurd cc
      by Unsure cut is like met at =
          anywhere-led (pieces_set pieces) (before_cut text cut) (within-before (pieces_set pieces) 47 text cut is (fits-set pieces text fits)) met
          (cut_once 64 (before_cut text cut)) refl place at
      by (At front rest) None is like met at = absurd like
      by (At front rest) (Some cut) is like met at = place-led front cut.0 like.0 met place at

  -- a device with a technology
  technology-led : (technology pieces : List PieceOf) (name text : List ℕ) → Fits technology name → Fits pieces text → MeetsAll claim (technology_owed technology pieces)
      → same_word name (codes "Local") ≡ true → (place : Place) → IsAt (before 47 text) place → Covers claim.plan claim.reach place
  technology-led technology pieces name text named fits met local place at =
      local-led pieces text fits (subst (λ b. MeetsAll claim (if b then local_by pieces (cut_pieces 47 pieces) else [])) (is-known (text_known technology) refl) met) place at
    where
      is-known : (known : Option (List ℕ)) → text_known technology ≡ known → is_local known (pieces_set technology) ≡ true
      is-known None is = local-letters (pieces_set technology) name (fits-set technology name named) local
      is-known (Some bytes) is = subst (λ n. same_word n (codes "Local") ≡ true) (fits-text_known technology name bytes is named) local

  -- a device with bytes of a set
  unsure-led : (set : Bytes) (device : List ℕ) → Within set device → MeetsAll claim (unsure_owed set) → (cut : Option (List ℕ × List ℕ)) → cut_once 47 device ≡ cut
      → (place : Place) → IsDeviceCut cut place → Covers claim.plan claim.reach place
  unsure-led set device within met None is place at = absurd at
  unsure-led set device within met (Some cut) is place at =
      let parts = cut_once-is 47 device cut.0 cut.1 is in
      let letters = local-letters set cut.0 (each-cut_front (λ b. set b ≡ true) 47 device cut.0 cut.1 parts within) at.0 in
      let rest : Within set (before 47 cut.1) =
      within-before set 47 cut.1 (cut_once 47 cut.1) refl (each-cut_rest (λ b. set b ≡ true) 47 device cut.0 cut.1 parts within) in
      anywhere-led set (before 47 cut.1) rest (subst (λ b. MeetsAll claim (if b then anywhere set else [])) letters met)
      (cut_once 64 (before 47 cut.1)) refl place at.1

  -- a device that fits pieces
  device-led : (pieces : List PieceOf) (text : List ℕ) → Fits pieces text → MeetsAll claim (device_owed pieces) → (place : Place) → IsDevice text place
      → Covers claim.plan claim.reach place
  device-led pieces text fits met place at =
      by (cut_pieces 47 (without_end_blanks pieces)) (cut_once 47 (trim text)) refl (cut-pieces 47 (without_end_blanks pieces) (trim text) trimmed) met at
    where
      trimmed : Fits (without_end_blanks pieces) (trim text)
      trimmed = fits-without_end_blanks pieces text fits

      by : (cutting : CuttingOf) (cut : Option (List ℕ × List ℕ)) → cut_once 47 (trim text) ≡ cut → IsCutAs cutting cut
          → MeetsAll claim (device_by (without_end_blanks pieces) cutting) → IsDeviceCut cut place → Covers claim.plan claim.reach place
      by Nowhere None is like met at = absurd at
      by Nowhere (Some cut) is like met at = absurd cc
      by Unsure cut is like met at =
          unsure-led (pieces_set (without_end_blanks pieces)) (trim text) (fits-set (without_end_blanks pieces) (trim text) trimmed) met cut is place at
      by (At front rest) None is like met at = absurd like
      by (At front rest) (Some cut) is like met at = technology-led front rest cut.0 cut.1 like.0 like.1 met at.0 place at.1

  -- the first of several devices
  first-led : (pieces : List PieceOf) (text : List ℕ) → Fits pieces text → MeetsAll claim (first_by pieces (cut_pieces 38 pieces)) → (place : Place)
      → IsDevice (before 38 text) place → Covers claim.plan claim.reach place
  first-led pieces text fits met place at = by (cut_pieces 38 pieces) (cut_once 38 text) refl (cut-pieces 38 pieces text fits) met at
    where
      by : (cutting : CuttingOf) (cut : Option (List ℕ × List ℕ)) → cut_once 38 text ≡ cut → IsCutAs cutting cut → MeetsAll claim (first_by pieces cutting)
          → IsDevice (before_cut text cut) place → Covers claim.plan claim.reach place
      by Nowhere None is like met at = device-led pieces text fits met place at
      by Nowhere (Some cut) is like met at = absurd cc
      by Unsure cut is like met at =
          unsure-led (pieces_set pieces) (trim (before_cut text cut))
          (each-trim (λ b. pieces_set pieces b ≡ true) (before_cut text cut) (within-before (pieces_set pieces) 38 text cut is (fits-set pieces text fits))) met
          (cut_once 47 (trim (before_cut text cut))) refl place at
      by (At front rest) None is like met at = absurd like
      by (At front rest) (Some cut) is like met at = device-led front cut.0 like.0 met place at

  -- the later ones of devices with bytes of a set
  unsure-later : (set : Bytes) (text : List ℕ) → Within set text → MeetsAll claim (unsure_owed set) → (place : Place) → IsOneDevice (later_devices text) place
      → Covers claim.plan claim.reach place
  unsure-later set [] within met place at = absurd at
  unsure-later set (b ∷ text) within met place at = by (λ later. unsure-later set text within.1 met place later) (b == byte "&") at
    where
      by : (IsOneDevice (later_devices text) place → Covers claim.plan claim.reach place) → (begins : Bool)
          → IsOneDevice (if begins then before 38 text ∷ later_devices text else later_devices text) place → Covers claim.plan claim.reach place
      by others true (inl here) =
          unsure-led set (trim (before 38 text))
          (each-trim (λ c. set c ≡ true) (before 38 text) (within-before set 38 text (cut_once 38 text) refl within.1)) met
          (cut_once 47 (trim (before 38 text))) refl place here
      by others true (inr later) = others later
      by others false later = others later

  -- all devices, and the later ones alone, of texts that fit pieces
  record AreLed (pieces : List PieceOf) : Type 0 where
    all : (text : List ℕ) → Fits pieces text → MeetsAll claim (devices_from true pieces) → (place : Place) → IsOneDevice (devices text) place
        → Covers claim.plan claim.reach place
    later : (text : List ℕ) → Fits pieces text → IsSure (cut_pieces 38 pieces) → MeetsAll claim (devices_from false pieces) → (place : Place)
        → IsOneDevice (later_devices text) place → Covers claim.plan claim.reach place

  all-led : (piece : PieceOf) (pieces : List PieceOf)
      → ((text : List ℕ) → Fits (piece ∷ pieces) text → IsSure (cut_pieces 38 (piece ∷ pieces)) → MeetsAll claim (devices_from (separates piece) pieces) → (place : Place)
      → IsOneDevice (later_devices text) place → Covers claim.plan claim.reach place)
      → (text : List ℕ) → Fits (piece ∷ pieces) text → MeetsAll claim (devices_from true (piece ∷ pieces)) → (place : Place) → IsOneDevice (devices text) place
      → Covers claim.plan claim.reach place
  all-led piece pieces later text fits met place at = either at
    where
      first : MeetsAll claim (first_by (piece ∷ pieces) (cut_pieces 38 (piece ∷ pieces)))
      first = each-front (Meets claim) (first_by (piece ∷ pieces) (cut_pieces 38 (piece ∷ pieces))) (devices_from (separates piece) pieces) met

      rest : MeetsAll claim (devices_from (separates piece) pieces)
      rest = each-rest (Meets claim) (first_by (piece ∷ pieces) (cut_pieces 38 (piece ∷ pieces))) (devices_from (separates piece) pieces) met

      by : (cutting : CuttingOf) → cut_pieces 38 (piece ∷ pieces) ≡ cutting → IsOneDevice (later_devices text) place → Covers claim.plan claim.reach place
      by Nowhere is there = later text fits (subst IsSure (sym is) tt) rest place there
      by Unsure is there =
          unsure-later (pieces_set (piece ∷ pieces)) text (fits-set (piece ∷ pieces) text fits)
          (subst (λ c. MeetsAll claim (first_by (piece ∷ pieces) c)) is first) place there
      by (At f r) is there = later text fits (subst IsSure (sym is) tt) rest place there

      either : IsOneDevice (devices text) place → Covers claim.plan claim.reach place
      either (inl here) = first-led (piece ∷ pieces) text fits first place here
      either (inr there) = by (cut_pieces 38 (piece ∷ pieces)) refl there

  later-known : (b : ℕ) (pieces : List PieceOf) → AreLed pieces → (text : List ℕ) → Fits (Known b ∷ pieces) text → IsSure (cut_pieces 38 (Known b ∷ pieces))
      → MeetsAll claim (devices_from (separates (Known b)) pieces) → (place : Place) → IsOneDevice (later_devices text) place → Covers claim.plan claim.reach place
  unfolding Fits
  later-known b pieces are text fits sure met place at = by (b == 38) met sure (subst (λ t. IsOneDevice (later_devices t) place) fits.1 at)
    where
      by : (begins : Bool) → MeetsAll claim (devices_from begins pieces) → IsSure (if begins then At [] pieces else with_piece (Known b) (cut_pieces 38 pieces))
          → IsOneDevice (if begins then before 38 fits.0 ∷ later_devices fits.0 else later_devices fits.0) place → Covers claim.plan claim.reach place
      by true met sure at = are.all fits.0 fits.2 met place at
      by false met sure at = are.later fits.0 fits.2 (sure-after (Known b) (cut_pieces 38 pieces) sure) met place at

  later-one : (set : Bytes) (pieces : List PieceOf) → AreLed pieces → (text : List ℕ) → Fits (OneOf set ∷ pieces) text → IsSure (cut_pieces 38 (OneOf set ∷ pieces))
      → MeetsAll claim (devices_from false pieces) → (place : Place) → IsOneDevice (later_devices text) place → Covers claim.plan claim.reach place
  unfolding Fits
  later-one set pieces are text fits sure met place at = by (set 38) refl sure
    where
      by : (has : Bool) → set 38 ≡ has → IsSure (if has then Unsure else with_piece (OneOf set) (cut_pieces 38 pieces)) → Covers claim.plan claim.reach place
      by true is sure = absurd sure
      by false is sure =
          are.later fits.0.1 fits.3 (sure-after (OneOf set) (cut_pieces 38 pieces) sure) met place
          (subst (λ c. IsOneDevice (if c then before 38 fits.0.1 ∷ later_devices fits.0.1 else later_devices fits.0.1) place) (other set fits.0.0 38 fits.2 is)
          (subst (λ t. IsOneDevice (later_devices t) place) fits.1 at))

  later-any : (set : Bytes) (pieces : List PieceOf) → AreLed pieces → (text : List ℕ) → Fits (AnyOf set ∷ pieces) text → IsSure (cut_pieces 38 (AnyOf set ∷ pieces))
      → MeetsAll claim (devices_from false pieces) → (place : Place) → IsOneDevice (later_devices text) place → Covers claim.plan claim.reach place
  unfolding Fits
  later-any set pieces are text fits sure met place at = by (set 38) refl sure
    where
      by : (has : Bool) → set 38 ≡ has → IsSure (if has then Unsure else with_piece (AnyOf set) (cut_pieces 38 pieces)) → Covers claim.plan claim.reach place
      by true is sure = absurd sure
      by false is sure =
          are.later fits.0.1 fits.3 (sure-after (AnyOf set) (cut_pieces 38 pieces) sure) met place
          (subst (λ ds. IsOneDevice ds place)
          (later-skip fits.0.0 fits.0.1 (each-weaker (λ b. set b ≡ true) (λ b. (b == 38) ≡ false) (λ b here. other set b 38 here is) fits.0.0 fits.2))
          (subst (λ t. IsOneDevice (later_devices t) place) fits.1 at))

  each-led : (pieces : List PieceOf) → AreLed pieces
  unfolding Fits
  each-led [] = record {
    all = λ text fits met place at. none place (subst (λ t. IsOneDevice (devices t) place) fits at);
    later = λ text fits sure met place at. absurd (subst (λ t. IsOneDevice (later_devices t) place) fits at);
  }
    where
      none : (place : Place) → IsOneDevice (devices []) place → Covers claim.plan claim.reach place
      none place (inl here) = absurd here
      none place (inr there) = absurd there
  each-led (Known b ∷ pieces) =
      let later = later-known b pieces (each-led pieces) in
      record { all = all-led (Known b) pieces later; later = later }
  each-led (OneOf set ∷ pieces) =
      let later = later-one set pieces (each-led pieces) in
      record { all = all-led (OneOf set) pieces later; later = later }
  each-led (AnyOf set ∷ pieces) =
      let later = later-any set pieces (each-led pieces) in
      record { all = all-led (AnyOf set) pieces later; later = later }

  -- the devices of a text that fits pieces
  pub devices-led : (pieces : List PieceOf) (text : List ℕ) → Fits pieces text → MeetsAll claim (devices_owed pieces) → (place : Place) → IsOneDevice (devices text) place
      → Covers claim.plan claim.reach place
  devices-led pieces text fits met place at = (each-led pieces).all text fits met place at
