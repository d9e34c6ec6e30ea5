-- What options run is covered by what meets the duties of pieces that the options fit.
use Rattle.std.proofs.Common.{◌≡◌, ◌≢◌, ℕ, Bool, true, false, ◌||◌, ◌==◌, List, [], ◌∷◌, ◌++◌, Option, Some, None, refl, sym, subst, ◌∙◌, eqb-true, eq-eqb, codes, if◌then◌else◌}
use Rattle.std.proofs.lemmas.List.{map-append}
use Rattle.std.specs.Str.{byte}
use Rattle.dp_app.specs.Cells.{CellOf}
use Rattle.dp_app.specs.declared.place.Place.{Place}
use Rattle.dp_conf.specs.Blanks.{trim}
use Rattle.dp_conf.specs.Levels.{cut_outside}
use Rattle.dp_conf.proofs.TextLemmas.{each-front, each-rest, either-false}
use Rattle.dp_pieces.specs.Bytes.{Bytes, Within, either}
use Rattle.dp_pieces.specs.Cuts.{At, CuttingOf, Nowhere, Unsure, cut_level}
use Rattle.dp_pieces.specs.Fitting.{IsCutAs}
use Rattle.dp_pieces.specs.Pieces.{AnyOf, Fits, Known, OneOf, PieceOf, any_bytes_of, bytes_in, exactly, piece_set, pieces_set}
use Rattle.dp_pieces.specs.Trimmed.{without_end_blanks}
use Rattle.dp_pieces.proofs.CutLemmas.{cut-level}
use Rattle.dp_pieces.proofs.FitsLemmas.{fits-any_bytes_of, fits-exactly, fits-set}
use Rattle.dp_pieces.proofs.TrimmedLemmas.{fits-without_end_blanks}
use Rattle.dp_pieces.proofs.WithinLemmas.{either-left, either-right, within-trim}
use Rattle.dp_reach.specs.Areas.{Area, Covers, IsIn}
use Rattle.dp_reach.specs.Bounds.{Meets, MeetsAll}
use Rattle.dp_reach.specs.Holding.{Claim, IsGood, IsInside}
use Rattle.dp_reach.proofs.ChoiceRows.{cut-within}
use Rattle.dp_wide.specs.Macros.{macro_row}
use Rattle.dp_wide.specs.Subroutines.{gosub_row}
use Rattle.dp_wide_reach.proofs.SubroutineRows.{counted_gosub-bounded, macro-bounded}
use Rattle.dp_wide_reach.specs.Subroutines.{counted_duties, macro_duties}
use Rattle.dp_wide_duties.specs.ExchangePlaces.{StandsAt, before_cut}
use Rattle.dp_wide_duties.specs.OptionTexts.{CoversOptions, IsOption, RunsMember, commas, names_place}
use Rattle.dp_wide_duties.specs.Options.{are_unsure, begin_open, call_owed, comma_set, hides_letter, inside_by, known_owed, letter_owed, macro_owed, may_be_place, may_open, opens, option_owed, option_text, options_owed, place_owed, routine_by, routine_owed, started_macro, started_owed, started_routine, with_commas}
use Rattle.dp_wide_duties.proofs.DeviceLemmas.{led}

-- ---- texts with commas

abbrev comma : ℕ → ℕ
comma b = if b == byte "^" then byte "," else b

comma-set : (set : Bytes) (b : ℕ) → set b ≡ true → comma_set set (if b == byte "^" then byte "," else b) ≡ true
comma-set set b here = by (b == byte "^") refl (set (byte "^")) refl
  where
    by : (is : Bool) → (b == byte "^") ≡ is → (has : Bool) → set (byte "^") ≡ has
        → (if has then either set (bytes_in (codes ",")) else set) (if is then byte "," else b) ≡ true
    by true same true has = either-right (set (byte ",")) (bytes_in (codes ",") (byte ",")) refl
    by true same false has =
        let there : set (byte "^") ≡ true = subst (λ c. set c ≡ true) (eqb-true b (byte "^") same) here in
        let never : false ≡ true = sym has ∙ there in absurd cc
    by false other true has = either-left (set b) (bytes_in (codes ",") b) here
    by false other false has = here

commas-within : (set : Bytes) (text : List ℕ) → Within set text → Within (comma_set set) (commas text)
commas-within set [] within = tt
commas-within set (b ∷ text) within = (comma-set set b within.0, commas-within set text within.1)

fits-commas : (pieces : List PieceOf) (text : List ℕ) → Fits pieces text → Fits (with_commas pieces) (commas text)
unfolding Fits
fits-commas [] text fits = subst (λ t. Fits [] (commas t)) (sym fits) refl
fits-commas (Known c ∷ pieces) text fits =
    subst (λ t. Fits (with_commas (Known c ∷ pieces)) (commas t)) (sym fits.1) (by (c == byte "^") (fits-commas pieces fits.0 fits.2))
  where
    by : (is : Bool) → Fits (with_commas pieces) (commas fits.0)
        → Fits ((if is then Known (byte ",") else Known c) ∷ with_commas pieces) ((if is then byte "," else c) ∷ commas fits.0)
    by true later = (commas fits.0, refl, later)
    by false later = (commas fits.0, refl, later)
fits-commas (OneOf set ∷ pieces) text fits =
    subst (λ t. Fits (with_commas (OneOf set ∷ pieces)) (commas t)) (sym fits.1)
    ((comma fits.0.0, commas fits.0.1), refl, comma-set set fits.0.0 fits.2, fits-commas pieces fits.0.1 fits.3)
fits-commas (AnyOf set ∷ pieces) text fits =
    subst (λ t. Fits (with_commas (AnyOf set ∷ pieces)) (commas t)) (sym fits.1)
    ((commas fits.0.0, commas fits.0.1), map-append comma fits.0.0 fits.0.1, commas-within set fits.0.0 fits.2, fits-commas pieces fits.0.1 fits.3)

-- ---- the text of an option

within-outside : (set : Bytes) (mark : ℕ) (text : List ℕ) → Within set text → (cut : Option (List ℕ × List ℕ)) → cut_outside mark text ≡ cut → Within set (before_cut text cut)
unfolding cut_outside
within-outside set mark text within None is = within
within-outside set mark text within (Some cut) is = (cut-within set mark text [] cut.0 cut.1 within tt is).0

inside-fits : (pieces : List PieceOf) (text : List ℕ) → Fits pieces text → Fits (inside_by pieces (cut_level 41 0 pieces)) (before_cut text (cut_outside 41 text))
inside-fits pieces text fits = by (cut_level 41 0 pieces) (cut_outside 41 text) refl (cut-level 41 pieces text fits)
  where
    by : (cutting : CuttingOf) (cut : Option (List ℕ × List ℕ)) → cut_outside 41 text ≡ cut → IsCutAs cutting cut → Fits (inside_by pieces cutting) (before_cut text cut)
    by Nowhere None is like = fits
    by Nowhere (Some cut) is like = absurd cc
    by Unsure cut is like = fits-any_bytes_of (pieces_set pieces) (before_cut text cut) (within-outside (pieces_set pieces) 41 text (fits-set pieces text fits) cut is)
    by (At front rest) None is like = absurd like
    by (At front rest) (Some cut) is like = like.0

option_text-fits : (pieces : List PieceOf) (text : List ℕ) → Fits pieces text → Fits (option_text pieces) (commas (before_cut text (cut_outside 41 text)))
option_text-fits pieces text fits = fits-commas (inside_by pieces (cut_level 41 0 pieces)) (before_cut text (cut_outside 41 text)) (inside-fits pieces text fits)

-- ---- where the text of an option opens

-- the pieces begin with a `(`, and the rest fits the text after it
abbrev BeginsOpen : List PieceOf → List ℕ → Type 0
BeginsOpen [] text = ⊥
BeginsOpen (Known b ∷ pieces) text = (opens (Known b) ≡ true) × Fits pieces text
BeginsOpen (OneOf set ∷ pieces) text = ⊥
BeginsOpen (AnyOf set ∷ pieces) text = ⊥

begins-open : (pieces : List PieceOf) (text : List ℕ) → BeginsOpen pieces text → begin_open pieces ≡ true
begins-open [] text is = absurd is
begins-open (Known b ∷ pieces) text is = is.0
begins-open (OneOf set ∷ pieces) text is = absurd is
begins-open (AnyOf set ∷ pieces) text is = absurd is

-- what is known of pieces that are sure
record IsSure (piece : PieceOf) (pieces : List PieceOf) : Type 0 where
  closed : may_open piece ≡ false
  shows : hides_letter piece pieces ≡ false
  later : are_unsure pieces ≡ false

sure : (piece : PieceOf) (pieces : List PieceOf) → are_unsure (piece ∷ pieces) ≡ false → IsSure piece pieces
sure piece pieces is =
    let first = either-false (may_open piece) (hides_letter piece pieces || are_unsure pieces) is in
    let second = either-false (hides_letter piece pieces) (are_unsure pieces) first.1 in
    record { closed = first.0; shows = second.0; later = second.1 }

never : (a : Bool) → a ≡ true → a ≡ false → ⊥
never a is not = let no : true ≡ false = sym is ∙ not in absurd cc

begins_open : (pieces : List PieceOf) → are_unsure pieces ≡ false → (text : List ℕ) → Fits pieces (40 ∷ text) → BeginsOpen pieces text
unfolding Fits
begins_open [] is text fits = let no : 40 ∷ text ≡ [] = fits in absurd cc
begins_open (Known b ∷ pieces) is text fits =
    let same : b ≡ 40 = cc in
    let rest : fits.0 ≡ text = cc in
    (eq-eqb b 40 same, subst (Fits pieces) rest fits.2)
begins_open (OneOf set ∷ pieces) is text fits =
    let same : fits.0.0 ≡ 40 = cc in
    never (set 40) (subst (λ c. set c ≡ true) same fits.2) (sure (OneOf set) pieces is).closed
begins_open (AnyOf set ∷ pieces) is text fits = by (λ f. begins_open pieces (sure (AnyOf set) pieces is).later text f) fits.0.0 fits.0.1 fits.1 fits.2 fits.3
  where
    by : (Fits pieces (40 ∷ text) → BeginsOpen pieces text) → (front rest : List ℕ) → 40 ∷ text ≡ front ++ rest → Within set front → Fits pieces rest → ⊥
    by later [] rest same within fits =
        never (begin_open pieces) (begins-open pieces text (later (subst (Fits pieces) (sym same) fits))) (sure (AnyOf set) pieces is).shows
    by later (b ∷ front) rest same within fits =
        let first : b ≡ 40 = cc in
        never (set 40) (subst (λ c. set c ≡ true) first within.0) (sure (AnyOf set) pieces is).closed

-- ---- the duties of an option

no-more : (front : List ℕ) (b : ℕ) (rest : List ℕ) → [] ≡ front ++ b ∷ rest → ⊥
no-more [] b rest is = absurd cc
no-more (x ∷ front) b rest is = absurd cc

module _ (claim : Claim) (area : Area) where
  -- the duties of an option with a letter and a text are met
  record IsOwed (letter : ℕ) (text : List ℕ) : Type 0 where
    set : Bytes
    shape : List PieceOf
    has : set letter ≡ true
    fits : Fits shape text
    met : MeetsAll claim (option_owed area set shape)

  module _ (letter : ℕ) (rest : List ℕ) where
    abbrev inner : List ℕ
    inner = commas (before_cut rest (cut_outside 41 rest))

    here-owed : (piece : PieceOf) (pieces : List PieceOf) → piece_set piece letter ≡ true → MeetsAll claim (letter_owed area piece pieces) → BeginsOpen pieces rest
        → IsOwed letter inner
    here-owed piece [] has met is = absurd is
    here-owed piece (OneOf set ∷ pieces) has met is = absurd is
    here-owed piece (AnyOf set ∷ pieces) has met is = absurd is
    here-owed piece (Known b ∷ pieces) has met is = record {
      set = piece_set piece;
      shape = option_text pieces;
      has = has;
      fits = option_text-fits pieces rest is.1;
      met = subst (λ t. MeetsAll claim (if t then option_owed area (piece_set piece) (option_text pieces) else [])) is.0 met;
    }

    -- the option in texts that fit pieces
    abbrev Finds : List PieceOf → Type 0
    Finds pieces = (options before : List ℕ) → Fits pieces options → options ≡ before ++ letter ∷ 40 ∷ rest → IsOwed letter inner

    -- a byte before the texts
    step-owed : (piece : PieceOf) (pieces : List PieceOf) → are_unsure (piece ∷ pieces) ≡ false → MeetsAll claim (letter_owed area piece pieces) → Finds pieces
        → (b : ℕ) (later before : List ℕ) → piece_set piece b ≡ true → Fits pieces later → b ∷ later ≡ before ++ letter ∷ 40 ∷ rest → IsOwed letter inner
    step-owed piece pieces is met finds b later [] has fits whole =
        let same : b ≡ letter = cc in
        let after : later ≡ 40 ∷ rest = cc in
        here-owed piece pieces (subst (λ c. piece_set piece c ≡ true) same has) met
        (begins_open pieces (sure piece pieces is).later rest (subst (Fits pieces) after fits))
    step-owed piece pieces is met finds b later (x ∷ before) has fits whole =
        finds later before fits (let after : later ≡ before ++ letter ∷ 40 ∷ rest = cc in after)

    any-owed : (set : Bytes) (pieces : List PieceOf) → are_unsure (AnyOf set ∷ pieces) ≡ false → Finds pieces → (front later before : List ℕ) → Within set front
        → Fits pieces later → front ++ later ≡ before ++ letter ∷ 40 ∷ rest → IsOwed letter inner
    unfolding Fits
    any-owed set pieces is finds [] later before within fits whole = finds later before fits whole
    any-owed set pieces is finds (b ∷ front) later [] within fits whole =
        let after : 40 ∷ rest ≡ front ++ later = cc in
        absurd (begins_open (AnyOf set ∷ pieces) is rest ((front, later), after, within.1, fits))
    any-owed set pieces is finds (b ∷ front) later (x ∷ before) within fits whole =
        any-owed set pieces is finds front later before within.1 fits (let after : front ++ later ≡ before ++ letter ∷ 40 ∷ rest = cc in after)

    finds-owed : (pieces : List PieceOf) → are_unsure pieces ≡ false → MeetsAll claim (known_owed area pieces) → Finds pieces
    unfolding Fits
    finds-owed [] is met options before fits whole = absurd (no-more before letter (40 ∷ rest) (sym fits ∙ whole))
    finds-owed (Known b ∷ pieces) is met options before fits whole =
        step-owed (Known b) pieces is (each-front (Meets claim) (letter_owed area (Known b) pieces) (known_owed area pieces) met)
        (finds-owed pieces (sure (Known b) pieces is).later (each-rest (Meets claim) (letter_owed area (Known b) pieces) (known_owed area pieces) met))
        b fits.0 before (eq-eqb b b refl) fits.2 (sym fits.1 ∙ whole)
    finds-owed (OneOf set ∷ pieces) is met options before fits whole =
        step-owed (OneOf set) pieces is (each-front (Meets claim) (letter_owed area (OneOf set) pieces) (known_owed area pieces) met)
        (finds-owed pieces (sure (OneOf set) pieces is).later (each-rest (Meets claim) (letter_owed area (OneOf set) pieces) (known_owed area pieces) met))
        fits.0.0 fits.0.1 before fits.2 fits.3 (sym fits.1 ∙ whole)
    finds-owed (AnyOf set ∷ pieces) is met options before fits whole =
        any-owed set pieces is
        (finds-owed pieces (sure (AnyOf set) pieces is).later (each-rest (Meets claim) (letter_owed area (AnyOf set) pieces) (known_owed area pieces) met))
        fits.0.0 fits.0.1 before fits.2 fits.3 (sym fits.1 ∙ whole)

  -- each option of a text that fits pieces
  each-owed : (pieces : List PieceOf) (options : List ℕ) → Fits pieces options → MeetsAll claim (options_owed area pieces) → (letter : ℕ) (text : List ℕ)
      → IsOption options letter text → IsOwed letter text
  each-owed pieces options fits met letter text option = subst (IsOwed letter) (sym option.inside) (by (are_unsure pieces) refl met)
    where
      set : Bytes
      set = pieces_set pieces

      within : Within set (letter ∷ 40 ∷ option.rest)
      within = each-rest (λ b. set b ≡ true) option.before (letter ∷ 40 ∷ option.rest) (subst (Within set) option.whole (fits-set pieces options fits))

      by : (unsure : Bool) → are_unsure pieces ≡ unsure
          → MeetsAll claim (if unsure then option_owed area (pieces_set pieces) (with_commas (any_bytes_of (pieces_set pieces))) else known_owed area pieces)
          → IsOwed letter (commas (before_cut option.rest (cut_outside 41 option.rest)))
      by true is met = record {
        set = set;
        shape = with_commas (any_bytes_of set);
        has = within.0;
        fits = fits-commas (any_bytes_of set) (before_cut option.rest (cut_outside 41 option.rest))
            (fits-any_bytes_of set (before_cut option.rest (cut_outside 41 option.rest))
            (within-outside set 41 option.rest within.1.1 (cut_outside 41 option.rest) refl));
        met = met;
      }
      by false is met = finds-owed letter option.rest pieces is met options option.before fits option.whole

-- ---- what options run

place-letter : (set : Bytes) (letter : ℕ) → set letter ≡ true → names_place letter ≡ true → may_be_place set ≡ true
place-letter set letter has is = by (letter == byte "b") refl (letter == byte "B") refl (letter == byte "F") refl (letter == byte "G") refl is
  where
    at : (wanted : ℕ) → (letter == wanted) ≡ true → set wanted ≡ true
    at wanted same = subst (λ c. set c ≡ true) (eqb-true letter wanted same) has

    b : Bool
    b = set (byte "b")

    large : Bool
    large = set (byte "B")

    f : Bool
    f = set (byte "F")

    by : (i : Bool) → (letter == byte "b") ≡ i → (j : Bool) → (letter == byte "B") ≡ j → (k : Bool) → (letter == byte "F") ≡ k → (l : Bool) → (letter == byte "G") ≡ l
        → (i || (j || (k || l))) ≡ true → may_be_place set ≡ true
    by true is j jj k kk l ll any = either-left (b || large || f) (set (byte "G")) (either-left (b || large) f (either-left b large (at (byte "b") is)))
    by false ii true is k kk l ll any = either-left (b || large || f) (set (byte "G")) (either-left (b || large) f (either-right b large (at (byte "B") is)))
    by false ii false jj true is l ll any = either-left (b || large || f) (set (byte "G")) (either-right (b || large) f (at (byte "F") is))
    by false ii false jj false kk true is any = either-right (b || large || f) (set (byte "G")) (at (byte "G") is)
    by false ii false jj false kk false ll any = absurd cc

-- the start of a subroutine
routine-led : (claim : Claim) (pieces : List PieceOf) (text : List ℕ) → Fits pieces text → MeetsAll claim (routine_by pieces (cut_level 44 0 pieces)) → (place : Place)
    → StandsAt (trim (before_cut text (cut_outside 44 text))) (codes "s") place → Covers claim.plan claim.reach place
routine-led claim pieces text fits met place at = by (cut_level 44 0 pieces) (cut_outside 44 text) refl (cut-level 44 pieces text fits) met at
  where
    by : (cutting : CuttingOf) (cut : Option (List ℕ × List ℕ)) → cut_outside 44 text ≡ cut → IsCutAs cutting cut → MeetsAll claim (routine_by pieces cutting)
        → StandsAt (trim (before_cut text cut)) (codes "s") place → Covers claim.plan claim.reach place
    by Nowhere None is like met at =
        led claim (without_end_blanks pieces) (exactly (codes "s")) met.0 (trim text) (codes "s") (fits-without_end_blanks pieces text fits) (fits-exactly (codes "s")) place at
    by Nowhere (Some cut) is like met at = absurd cc
    by Unsure cut is like met at =
        led claim (any_bytes_of (pieces_set pieces)) (exactly (codes "s")) met.0 (trim (before_cut text cut)) (codes "s")
        (fits-any_bytes_of (pieces_set pieces) (trim (before_cut text cut))
        (within-trim (pieces_set pieces) (before_cut text cut) (within-outside (pieces_set pieces) 44 text (fits-set pieces text fits) cut is)))
        (fits-exactly (codes "s")) place at
    by (At name rest) None is like met at = absurd like
    by (At name rest) (Some cut) is like met at =
        led claim (without_end_blanks name) (exactly (codes "s")) met.0 (trim cut.0) (codes "s") (fits-without_end_blanks name cut.0 like.0) (fits-exactly (codes "s")) place at

pub options-covers : CoversOptions options_owed
options-covers claim area pieces options cell good inside own fits met = record {
  places = λ letter text option is. place text letter is (each-owed claim area pieces options fits met letter text option);
  macros = λ text option. macro text (each-owed claim area pieces options fits met (byte "M") text option);
  routines = λ text option spot at. routine text spot at (each-owed claim area pieces options fits met (byte "U") text option);
}
  where
    place : (text : List ℕ) (letter : ℕ) → names_place letter ≡ true → IsOwed claim area letter text → IsInside claim cell.place (gosub_row text cell)
    place text letter is owed =
        counted_gosub-bounded claim area owed.shape text cell good inside own owed.fits
        (subst (λ t. MeetsAll claim (if t then counted_duties area owed.shape else [])) (place-letter owed.set letter owed.has is)
        (each-front (Meets claim) (place_owed area owed.set owed.shape) (call_owed owed.set owed.shape ++ macro_owed area owed.set owed.shape) owed.met))

    later : (letter : ℕ) (text : List ℕ) (owed : IsOwed claim area letter text) → MeetsAll claim (call_owed owed.set owed.shape ++ macro_owed area owed.set owed.shape)
    later letter text owed =
        each-rest (Meets claim) (place_owed area owed.set owed.shape) (call_owed owed.set owed.shape ++ macro_owed area owed.set owed.shape) owed.met

    macro : (text : List ℕ) → IsOwed claim area (byte "M") text → IsInside claim cell.place (macro_row text cell)
    macro text owed =
        macro-bounded claim area owed.shape text cell good inside own owed.fits
        (subst (λ t. MeetsAll claim (if t then macro_duties area owed.shape else [])) owed.has
        (each-rest (Meets claim) (call_owed owed.set owed.shape) (macro_owed area owed.set owed.shape) (later (byte "M") text owed)))

    routine : (text : List ℕ) (spot : Place) → StandsAt (trim (before_cut text (cut_outside 44 text))) (codes "s") spot → IsOwed claim area (byte "U") text
        → Covers claim.plan claim.reach spot
    routine text spot at owed =
        routine-led claim owed.shape text owed.fits
        (subst (λ t. MeetsAll claim (if t then routine_owed owed.shape else [])) owed.has
        (each-front (Meets claim) (call_owed owed.set owed.shape) (macro_owed area owed.set owed.shape) (later (byte "U") text owed))).1 spot at

-- ---- what a member of a queue runs

fits-some : (b : ℕ) (text : List ℕ) → Fits [] (b ∷ text) → ⊥
unfolding Fits
fits-some b text fits = let no : b ∷ text ≡ [] = fits in absurd cc

started-macro : (claim : Claim) (area : Area) (cell : CellOf) → IsGood claim cell → IsIn area cell.place → Covers claim.plan claim.reach cell.place → (pieces : List PieceOf)
    (text : List ℕ) → Fits pieces text → MeetsAll claim (started_macro area pieces) → text ≢ [] → IsInside claim cell.place (macro_row (commas text) cell)
started-macro claim area cell good inside own [] [] fits met some = absurd (some refl)
started-macro claim area cell good inside own [] (b ∷ text) fits met some = absurd (fits-some b text fits)
started-macro claim area cell good inside own (piece ∷ pieces) text fits met some =
    macro-bounded claim area (with_commas (piece ∷ pieces)) (commas text) cell good inside own (fits-commas (piece ∷ pieces) text fits) met

started-routine : (claim : Claim) (pieces : List PieceOf) (text : List ℕ) → Fits pieces text → MeetsAll claim (started_routine pieces) → text ≢ [] → (place : Place)
    → StandsAt (trim (before_cut (commas text) (cut_outside 44 (commas text)))) (codes "s") place → Covers claim.plan claim.reach place
started-routine claim [] [] fits met some place at = absurd (some refl)
started-routine claim [] (b ∷ text) fits met some place at = absurd (fits-some b text fits)
started-routine claim (piece ∷ pieces) text fits met some place at =
    routine-led claim (with_commas (piece ∷ pieces)) (commas text) (fits-commas (piece ∷ pieces) text fits) met.1 place at

pub member-covers : (claim : Claim) (area : Area) (macro routine : List PieceOf) (macro_text routine_text : List ℕ) (cell : CellOf) → IsGood claim cell → IsIn area cell.place
    → Covers claim.plan claim.reach cell.place → Fits macro macro_text → Fits routine routine_text → MeetsAll claim (started_owed area macro routine)
    → RunsMember claim macro_text routine_text cell
member-covers claim area macro routine macro_text routine_text cell good inside own first second met = record {
  macros = started-macro claim area cell good inside own macro macro_text first (each-front (Meets claim) (started_macro area macro) (started_routine routine) met);
  routines = started-routine claim routine routine_text second (each-rest (Meets claim) (started_macro area macro) (started_routine routine) met);
}
