-- A text is cut where its pieces are.
use Rattle.std.proofs.Common.{◌≡◌, ℕ, ◌==◌, Bool, true, false, ◌&&◌, ◌||◌, List, [], ◌∷◌, ◌++◌, Option, Some, None, refl, sym, ap, ◌∙◌, subst, append_assoc, if◌then◌else◌}
use Rattle.std.proofs.lemmas.List.{append-nil}
use borrow.Author.Tests.{eqb-true}
use Rattle.dp_conf.proofs.LevelLemmas.{level_of-push}
use Rattle.dp_conf.proofs.TextLemmas.{Avoids, cut_once-here, cut_once-nowhere, each-append, each-weaker, either-false}
use Rattle.dp_conf.specs.Cut.{cut_once}
use Rattle.dp_conf.specs.Levels.{cut_after, cut_outside, level_of, next_level, stands_outside}
use Rattle.dp_pieces.specs.Bytes.{Bytes, Within}
use Rattle.dp_pieces.specs.Cuts.{At, CuttingOf, Nowhere, Unsure, cut_level, cut_pieces, may_cut, with_piece}
use Rattle.dp_pieces.specs.Fitting.{IsCutAs}
use Rattle.dp_pieces.specs.Pieces.{AnyOf, Fits, Known, OneOf, PieceOf}
use Rattle.dp_pieces.proofs.ArgumentLemmas.{no-mark, other, same_level}

-- a text that is cut like its pieces, given the text before and after the byte
record IsBetween (mark : ℕ) (front rest : List PieceOf) (text : List ℕ) : Type 0 where
  before : List ℕ
  after : List ℕ
  whole : text ≡ before ++ mark ∷ after
  avoids : Avoids mark before
  front_fits : Fits front before
  rest_fits : Fits rest after

IsParted : ℕ → CuttingOf → List ℕ → Type 0
IsParted mark Nowhere text = Avoids mark text
IsParted mark Unsure text = Unit {0}
IsParted mark (At front rest) text = IsBetween mark front rest text

parted-known : (mark byte : ℕ) → (byte == mark) ≡ false → (cutting : CuttingOf) (text : List ℕ) → IsParted mark cutting text → IsParted mark (with_piece (Known byte) cutting) (byte ∷ text)
unfolding IsParted Fits
parted-known mark byte differs Nowhere text is = (differs, is)
parted-known mark byte differs Unsure text is = tt
parted-known mark byte differs (At front rest) text is = record {
  before = byte ∷ is.before;
  after = is.after;
  whole = ap (λ bs. byte ∷ bs) is.whole;
  avoids = (differs, is.avoids);
  front_fits = (is.before, refl, is.front_fits);
  rest_fits = is.rest_fits;
}

parted-one : (mark byte : ℕ) (set : Bytes) → set byte ≡ true → (byte == mark) ≡ false → (cutting : CuttingOf) (text : List ℕ) → IsParted mark cutting text
    → IsParted mark (with_piece (OneOf set) cutting) (byte ∷ text)
unfolding IsParted Fits
parted-one mark byte set here differs Nowhere text is = (differs, is)
parted-one mark byte set here differs Unsure text is = tt
parted-one mark byte set here differs (At front rest) text is = record {
  before = byte ∷ is.before;
  after = is.after;
  whole = ap (λ bs. byte ∷ bs) is.whole;
  avoids = (differs, is.avoids);
  front_fits = ((byte, is.before), refl, here, is.front_fits);
  rest_fits = is.rest_fits;
}

avoids-within : (set : Bytes) (mark : ℕ) → set mark ≡ false → (text : List ℕ) → Within set text → Avoids mark text
avoids-within set mark none text is = each-weaker (λ b. set b ≡ true) (λ b. (b == mark) ≡ false) (λ b here. other set b mark here none) text is

parted-any : (mark : ℕ) (set : Bytes) → set mark ≡ false → (cutting : CuttingOf) (front text : List ℕ) → Within set front → IsParted mark cutting text
    → IsParted mark (with_piece (AnyOf set) cutting) (front ++ text)
unfolding IsParted Fits
parted-any mark set none Nowhere front text within is = each-append (λ b. (b == mark) ≡ false) front text (avoids-within set mark none front within) is
parted-any mark set none Unsure front text within is = tt
parted-any mark set none (At f r) front text within is = record {
  before = front ++ is.before;
  after = is.after;
  whole = ap (λ bs. front ++ bs) is.whole ∙ sym (append_assoc front is.before (mark ∷ is.after));
  avoids = each-append (λ b. (b == mark) ≡ false) front is.before (avoids-within set mark none front within) is.avoids;
  front_fits = ((front, is.before), refl, within, is.front_fits);
  rest_fits = is.rest_fits;
}

parted-pieces : (mark : ℕ) (pieces : List PieceOf) (text : List ℕ) → Fits pieces text → IsParted mark (cut_pieces mark pieces) text
unfolding IsParted Fits
parted-pieces mark [] text fits = subst (Avoids mark) (sym fits) tt
parted-pieces mark (Known byte ∷ pieces) text fits =
    subst (IsParted mark (cut_pieces mark (Known byte ∷ pieces))) (sym fits.1) (by (byte == mark) refl (parted-pieces mark pieces fits.0 fits.2))
  where
    by : (b : Bool) → (byte == mark) ≡ b → IsParted mark (cut_pieces mark pieces) fits.0
        → IsParted mark (if b then At [] pieces else with_piece (Known byte) (cut_pieces mark pieces)) (byte ∷ fits.0)
    by true here later = record { before = []; after = fits.0; whole = ap (λ b. b ∷ fits.0) (eqb-true byte mark here); avoids = tt; front_fits = refl; rest_fits = fits.2 }
    by false differs later = parted-known mark byte differs (cut_pieces mark pieces) fits.0 later
parted-pieces mark (OneOf set ∷ pieces) text fits =
    subst (IsParted mark (cut_pieces mark (OneOf set ∷ pieces))) (sym fits.1) (by (set mark) refl (parted-pieces mark pieces fits.0.1 fits.3))
  where
    by : (b : Bool) → set mark ≡ b → IsParted mark (cut_pieces mark pieces) fits.0.1
        → IsParted mark (if b then Unsure else with_piece (OneOf set) (cut_pieces mark pieces)) (fits.0.0 ∷ fits.0.1)
    by true here later = tt
    by false none later = parted-one mark fits.0.0 set fits.2 (other set fits.0.0 mark fits.2 none) (cut_pieces mark pieces) fits.0.1 later
parted-pieces mark (AnyOf set ∷ pieces) text fits =
    subst (IsParted mark (cut_pieces mark (AnyOf set ∷ pieces))) (sym fits.1) (by (set mark) refl (parted-pieces mark pieces fits.0.1 fits.3))
  where
    by : (b : Bool) → set mark ≡ b → IsParted mark (cut_pieces mark pieces) fits.0.1
        → IsParted mark (if b then Unsure else with_piece (AnyOf set) (cut_pieces mark pieces)) (fits.0.0 ++ fits.0.1)
    by true here later = tt
    by false none later = parted-any mark set none (cut_pieces mark pieces) fits.0.0 fits.0.1 fits.2 later

-- a text is cut at the first such byte where its pieces are
pub cut-pieces : (mark : ℕ) (pieces : List PieceOf) (text : List ℕ) → Fits pieces text → IsCutAs (cut_pieces mark pieces) (cut_once mark text)
unfolding IsParted
cut-pieces mark pieces text fits = by (cut_pieces mark pieces) (parted-pieces mark pieces text fits)
  where
    by : (cutting : CuttingOf) → IsParted mark cutting text → IsCutAs cutting (cut_once mark text)
    by Nowhere is = cut_once-nowhere mark text is
    by Unsure is = tt
    by (At front rest) is = subst (IsCutAs (At front rest)) (sym (ap (cut_once mark) is.whole ∙ cut_once-here mark is.before is.after is.avoids)) (is.front_fits, is.rest_fits)

-- pieces before a later cut
abbrev IsCutLater : List ℕ → CuttingOf → Option (List ℕ × List ℕ) → Type 0
IsCutLater before Nowhere cut = cut ≡ None
IsCutLater before Unsure cut = Unit {0}
IsCutLater before (At front rest) None = ⊥
IsCutLater before (At front rest) (Some cut) = (own : List ℕ) × (cut.0 ≡ before ++ own) × Fits front own × Fits rest cut.1

later-known : (before : List ℕ) (byte : ℕ) (cutting : CuttingOf) (cut : Option (List ℕ × List ℕ)) → IsCutLater (before ++ byte ∷ []) cutting cut
    → IsCutLater before (with_piece (Known byte) cutting) cut
unfolding Fits
later-known before byte Nowhere cut is = is
later-known before byte Unsure cut is = tt
later-known before byte (At front rest) None is = is
later-known before byte (At front rest) (Some cut) is = (byte ∷ is.0, is.1 ∙ append_assoc before (byte ∷ []) is.0, (is.0, refl, is.2), is.3)

later-one : (before : List ℕ) (byte : ℕ) (set : Bytes) → set byte ≡ true → (cutting : CuttingOf) (cut : Option (List ℕ × List ℕ)) → IsCutLater (before ++ byte ∷ []) cutting cut
    → IsCutLater before (with_piece (OneOf set) cutting) cut
unfolding Fits
later-one before byte set here Nowhere cut is = is
later-one before byte set here Unsure cut is = tt
later-one before byte set here (At front rest) None is = is
later-one before byte set here (At front rest) (Some cut) is = (byte ∷ is.0, is.1 ∙ append_assoc before (byte ∷ []) is.0, ((byte, is.0), refl, here, is.2), is.3)

later-byte : (before : List ℕ) (byte : ℕ) (set : Bytes) → set byte ≡ true → (cutting : CuttingOf) (cut : Option (List ℕ × List ℕ))
    → IsCutLater (before ++ byte ∷ []) (with_piece (AnyOf set) cutting) cut → IsCutLater before (with_piece (AnyOf set) cutting) cut
unfolding Fits
later-byte before byte set here Nowhere cut is = is
later-byte before byte set here Unsure cut is = tt
later-byte before byte set here (At front rest) None is = is
later-byte before byte set here (At front rest) (Some cut) is =
    (byte ∷ is.0, is.1 ∙ append_assoc before (byte ∷ []) is.0, ((byte ∷ is.2.0.0, is.2.0.1), ap (λ bs. byte ∷ bs) is.2.1, (here, is.2.2), is.2.3), is.3)

later-any : (before : List ℕ) (set : Bytes) (cutting : CuttingOf) (cut : Option (List ℕ × List ℕ)) → IsCutLater before cutting cut
    → IsCutLater before (with_piece (AnyOf set) cutting) cut
unfolding Fits
later-any before set Nowhere cut is = is
later-any before set Unsure cut is = tt
later-any before set (At front rest) None is = is
later-any before set (At front rest) (Some cut) is = (is.0, is.1, (([], is.0), refl, tt, is.2), is.3)

record MayNot (mark level : ℕ) (set : Bytes) : Type 0 where
  opening : set 40 ≡ false
  closing : set 41 ≡ false
  none : (set mark && level == 0) ≡ false

may-not : (mark level : ℕ) (set : Bytes) → may_cut mark level set ≡ false → MayNot mark level set
may-not mark level set is =
    let first = either-false (set 40 || set 41) (set mark && level == 0) is in
    let second = either-false (set 40) (set 41) first.0 in
    record { opening = second.0; closing = second.1; none = first.1 }

cut-any : (mark : ℕ) (set : Bytes) (level : ℕ) → MayNot mark level set → (cutting : CuttingOf) (front rest : List ℕ) → Within set front
    → ((before : List ℕ) → level_of before ≡ level → IsCutLater before cutting (cut_after (stands_outside mark) before rest))
    → (before : List ℕ) → level_of before ≡ level → IsCutLater before (with_piece (AnyOf set) cutting) (cut_after (stands_outside mark) before (front ++ rest))
cut-any mark set level not cutting [] rest within later before at = later-any before set cutting _ (later before at)
cut-any mark set level not cutting (byte ∷ front) rest within later before at =
    subst (λ b. IsCutLater before (with_piece (AnyOf set) cutting) (if b then Some (before, front ++ rest) else cut_after (stands_outside mark) (before ++ byte ∷ []) (front ++ rest)))
    (sym (ap (λ l. byte == mark && l == 0) at ∙ no-mark set byte mark level within.0 not.none))
    (later-byte before byte set within.0 cutting _
    (cut-any mark set level not cutting front rest within.1 later (before ++ byte ∷ [])
    (level_of-push before byte ∙ (ap (λ l. next_level l byte) at ∙ same_level set byte level not.opening not.closing within.0))))

cut-from : (mark : ℕ) (pieces : List PieceOf) (text before : List ℕ) (level : ℕ) → level_of before ≡ level → Fits pieces text
    → IsCutLater before (cut_level mark level pieces) (cut_after (stands_outside mark) before text)
unfolding Fits
cut-from mark [] text before level at fits = subst (λ t. IsCutLater before Nowhere (cut_after (stands_outside mark) before t)) (sym fits) refl
cut-from mark (Known byte ∷ pieces) text before level at fits =
    subst (λ t. IsCutLater before (cut_level mark level (Known byte ∷ pieces)) (cut_after (stands_outside mark) before t)) (sym fits.1)
    (subst (λ l. IsCutLater before (cut_level mark level (Known byte ∷ pieces))
    (if byte == mark && l == 0 then Some (before, fits.0) else cut_after (stands_outside mark) (before ++ byte ∷ []) fits.0)) (sym at)
    (by (byte == mark && level == 0)
    (cut-from mark pieces fits.0 (before ++ byte ∷ []) (next_level level byte) (level_of-push before byte ∙ ap (λ l. next_level l byte) at) fits.2)))
  where
    by : (cut : Bool) → IsCutLater (before ++ byte ∷ []) (cut_level mark (next_level level byte) pieces) (cut_after (stands_outside mark) (before ++ byte ∷ []) fits.0)
        → IsCutLater before (if cut then At [] pieces else with_piece (Known byte) (cut_level mark (next_level level byte) pieces))
        (if cut then Some (before, fits.0) else cut_after (stands_outside mark) (before ++ byte ∷ []) fits.0)
    by true later = ([], sym (append-nil before), refl, fits.2)
    by false later = later-known before byte (cut_level mark (next_level level byte) pieces) _ later
cut-from mark (OneOf set ∷ pieces) text before level at fits =
    subst (λ t. IsCutLater before (cut_level mark level (OneOf set ∷ pieces)) (cut_after (stands_outside mark) before t)) (sym fits.1)
    (by (may_cut mark level set) refl (λ b l. cut-from mark pieces fits.0.1 b level l fits.3))
  where
    by : (may : Bool) → may_cut mark level set ≡ may
        → ((b : List ℕ) → level_of b ≡ level → IsCutLater b (cut_level mark level pieces) (cut_after (stands_outside mark) b fits.0.1))
        → IsCutLater before (if may then Unsure else with_piece (OneOf set) (cut_level mark level pieces)) (cut_after (stands_outside mark) before (fits.0.0 ∷ fits.0.1))
    by true is later = tt
    by false is later =
        let not = may-not mark level set is in
        subst (λ b. IsCutLater before (with_piece (OneOf set) (cut_level mark level pieces))
        (if b then Some (before, fits.0.1) else cut_after (stands_outside mark) (before ++ fits.0.0 ∷ []) fits.0.1))
        (sym (ap (λ l. fits.0.0 == mark && l == 0) at ∙ no-mark set fits.0.0 mark level fits.2 not.none))
        (later-one before fits.0.0 set fits.2 (cut_level mark level pieces) _
        (later (before ++ fits.0.0 ∷ []) (level_of-push before fits.0.0 ∙ (ap (λ l. next_level l fits.0.0) at ∙ same_level set fits.0.0 level not.opening not.closing fits.2))))
cut-from mark (AnyOf set ∷ pieces) text before level at fits =
    subst (λ t. IsCutLater before (cut_level mark level (AnyOf set ∷ pieces)) (cut_after (stands_outside mark) before t)) (sym fits.1)
    (by (may_cut mark level set) refl (λ b l. cut-from mark pieces fits.0.1 b level l fits.3))
  where
    by : (may : Bool) → may_cut mark level set ≡ may
        → ((b : List ℕ) → level_of b ≡ level → IsCutLater b (cut_level mark level pieces) (cut_after (stands_outside mark) b fits.0.1))
        → IsCutLater before (if may then Unsure else with_piece (AnyOf set) (cut_level mark level pieces)) (cut_after (stands_outside mark) before (fits.0.0 ++ fits.0.1))
    by true is later = tt
    by false is later = cut-any mark set level (may-not mark level set is) (cut_level mark level pieces) fits.0.0 fits.0.1 fits.2 later before at

-- a text is cut at the first such byte of level 0 where its pieces are
pub cut-level : (mark : ℕ) (pieces : List PieceOf) (text : List ℕ) → Fits pieces text → IsCutAs (cut_level mark 0 pieces) (cut_outside mark text)
unfolding cut_outside
cut-level mark pieces text fits = by (cut_level mark 0 pieces) (cut_after (stands_outside mark) [] text) (cut-from mark pieces text [] 0 refl fits)
  where
    by : (cutting : CuttingOf) (cut : Option (List ℕ × List ℕ)) → IsCutLater [] cutting cut → IsCutAs cutting cut
    by Nowhere cut is = is
    by Unsure cut is = tt
    by (At front rest) None is = is
    by (At front rest) (Some cut) is = (subst (Fits front) (sym is.1) is.2, is.3)
