-- The commas cut a text that fits pieces where they cut the pieces.
use Rattle.std.proofs.Common.{◌≡◌, ℕ, ◌+◌, ◌-◌, ◌==◌, Bool, true, false, not, ◌&&◌, List, [], ◌∷◌, ◌++◌, map, refl, sym, ap, ◌∙◌, subst, if◌then◌else◌}
use borrow.Author.Tests.{eqb-true}
use Rattle.std.specs.List.{onto_first}
use Rattle.dp_conf.proofs.LevelLemmas.{level_of-push}
use Rattle.dp_conf.specs.Blanks.{trim}
use Rattle.dp_conf.specs.Levels.{arguments_of, level_of, next_level, parts_arguments, parts_of, split_after}
use Rattle.dp_pieces.specs.Bytes.{Bytes, Within}
use Rattle.dp_pieces.specs.Arguments.{are_clean, is_clean_set, shapes_of, split_pieces}
use Rattle.dp_pieces.specs.Fitting.{AllFit}
use Rattle.dp_pieces.specs.Pieces.{AnyOf, Fits, Known, OneOf, PieceOf}
use Rattle.dp_pieces.specs.Trimmed.{without_end_blanks}
use Rattle.dp_pieces.proofs.TrimmedLemmas.{fits-without_end_blanks}

-- and there is one
abbrev pub SomeFit : List (List PieceOf) → List (List ℕ) → Type 0
SomeFit [] texts = ⊥
SomeFit (pieces ∷ more) texts = AllFit (pieces ∷ more) texts

-- a known byte before the first
some-known : (byte : ℕ) (parts : List (List PieceOf)) (texts : List (List ℕ)) → SomeFit parts texts → SomeFit (onto_first (Known byte) parts) (onto_first byte texts)
unfolding Fits
some-known byte [] texts fit = absurd fit
some-known byte (pieces ∷ more) [] fit = absurd fit
some-known byte (pieces ∷ more) (text ∷ texts) fit = ((text, refl, fit.0), fit.1)

-- an unknown piece before the first, which is empty so far
some-any : (set : Bytes) (parts : List (List PieceOf)) (texts : List (List ℕ)) → SomeFit parts texts → SomeFit (onto_first (AnyOf set) parts) texts
unfolding Fits
some-any set [] texts fit = absurd fit
some-any set (pieces ∷ more) [] fit = absurd fit
some-any set (pieces ∷ more) (text ∷ texts) fit = ((([], text), refl, tt, fit.0), fit.1)

-- one byte of a set before the first
some-one : (set : Bytes) (byte : ℕ) → set byte ≡ true → (parts : List (List PieceOf)) (texts : List (List ℕ)) → SomeFit parts texts
    → SomeFit (onto_first (OneOf set) parts) (onto_first byte texts)
unfolding Fits
some-one set byte here [] texts fit = absurd fit
some-one set byte here (pieces ∷ more) [] fit = absurd fit
some-one set byte here (pieces ∷ more) (text ∷ texts) fit = (((byte, text), refl, here, fit.0), fit.1)

-- one more byte of it
some-byte : (set : Bytes) (byte : ℕ) → set byte ≡ true → (parts : List (List PieceOf)) (texts : List (List ℕ)) → SomeFit (onto_first (AnyOf set) parts) texts
    → SomeFit (onto_first (AnyOf set) parts) (onto_first byte texts)
unfolding Fits
some-byte set byte here [] [] fit = absurd fit
some-byte set byte here [] (text ∷ texts) fit =
    (((byte ∷ fit.0.0.0, fit.0.0.1), ap (λ bs. byte ∷ bs) fit.0.1, (here, fit.0.2), fit.0.3), fit.1)
some-byte set byte here (pieces ∷ more) [] fit = absurd fit
some-byte set byte here (pieces ∷ more) (text ∷ texts) fit =
    (((byte ∷ fit.0.0.0, fit.0.0.1), ap (λ bs. byte ∷ bs) fit.0.1, (here, fit.0.2), fit.0.3), fit.1)

-- a byte of a clean set separates nothing
record IsClean (level : ℕ) (set : Bytes) : Type 0 where
  opening : set 40 ≡ false
  closing : set 41 ≡ false
  comma : (set 44 && level == 0) ≡ false

clean-set : (level : ℕ) (set : Bytes) → is_clean_set level set ≡ true → IsClean level set
clean-set level set is = by (set 40) (set 41) (set 44 && level == 0) refl refl refl is
  where
    by : (a b c : Bool) → set 40 ≡ a → set 41 ≡ b → (set 44 && level == 0) ≡ c → (not a && not b && not c) ≡ true → IsClean level set
    by true b c x y z is = absurd cc
    by false true c x y z is = absurd cc
    by false false true x y z is = absurd cc
    by false false false x y z is = record { opening = x; closing = y; comma = z }

pub other : (set : Bytes) (byte mark : ℕ) → set byte ≡ true → set mark ≡ false → (byte == mark) ≡ false
other set byte mark here gone = by (byte == mark) refl
  where
    by : (b : Bool) → (byte == mark) ≡ b → b ≡ false
    by true is = let same : byte ≡ mark = eqb-true byte mark is in absurd cc
    by false is = refl

pub same_level : (set : Bytes) (byte level : ℕ) → set 40 ≡ false → set 41 ≡ false → set byte ≡ true → next_level level byte ≡ level
same_level set byte level opening closing here =
    (λ i. if other set byte 40 here opening i then level + 1 else (if byte == 41 then level - 1 else level))
    ∙ (λ i. if other set byte 41 here closing i then level - 1 else level)

-- a byte of a set without such a mark at the level
pub no-mark : (set : Bytes) (byte mark level : ℕ) → set byte ≡ true → (set mark && level == 0) ≡ false → (byte == mark && level == 0) ≡ false
no-mark set byte mark level here none = by (byte == mark) refl
  where
    by : (b : Bool) → (byte == mark) ≡ b → (b && level == 0) ≡ false
    by false is = refl
    by true is =
        let same : byte ≡ mark = eqb-true byte mark is in
        let yes : set mark ≡ true = ap set (sym same) ∙ here in
        ap (λ t. t && level == 0) (sym yes) ∙ none

-- the bytes of an unknown piece
split-any : (set : Bytes) (level : ℕ) → IsClean level set → (front rest : List ℕ) (parts : List (List PieceOf)) → Within set front
    → ((before : List ℕ) → level_of before ≡ level → SomeFit parts (split_after parts_arguments before rest))
    → (before : List ℕ) → level_of before ≡ level → SomeFit (onto_first (AnyOf set) parts) (split_after parts_arguments before (front ++ rest))
split-any set level clean [] rest parts within later before at = some-any set parts (split_after parts_arguments before rest) (later before at)
split-any set level clean (byte ∷ front) rest parts within later before at =
    subst (λ b. SomeFit (onto_first (AnyOf set) parts) (if b then [] ∷ next else onto_first byte next)) (sym (ap (λ l. byte == 44 && l == 0) at ∙ no-mark set byte 44 level within.0 clean.comma))
    (some-byte set byte within.0 parts next
    (split-any set level clean front rest parts within.1 later (before ++ byte ∷ [])
    (level_of-push before byte ∙ (ap (λ l. next_level l byte) at ∙ same_level set byte level clean.opening clean.closing within.0))))
  where
    next : List (List ℕ)
    next = split_after parts_arguments (before ++ byte ∷ []) (front ++ rest)

pub and-both : (a b : Bool) → (a && b) ≡ true → (a ≡ true) × (b ≡ true)
and-both true b is = (refl, is)
and-both false b is = absurd cc

-- the commas cut the text as they cut the pieces
pub split-fits : (pieces : List PieceOf) (text before : List ℕ) (level : ℕ) → level_of before ≡ level → are_clean level pieces ≡ true → Fits pieces text
    → SomeFit (split_pieces level pieces) (split_after parts_arguments before text)
unfolding Fits split_pieces
split-fits [] text before level at clean fits = subst (λ t. SomeFit ([] ∷ []) (split_after parts_arguments before t)) (sym fits) (refl, tt)
split-fits (Known byte ∷ pieces) text before level at clean fits =
    subst (λ t. SomeFit (split_pieces level (Known byte ∷ pieces)) (split_after parts_arguments before t)) (sym fits.1)
    (subst (λ l. SomeFit (if byte == 44 && level == 0 then [] ∷ more else onto_first (Known byte) more) (if byte == 44 && l == 0 then [] ∷ next else onto_first byte next)) (sym at)
    (by (byte == 44 && level == 0)
    (split-fits pieces fits.0 (before ++ byte ∷ []) (next_level level byte) (level_of-push before byte ∙ ap (λ l. next_level l byte) at) clean fits.2)))
  where
    more : List (List PieceOf)
    more = split_pieces (next_level level byte) pieces

    next : List (List ℕ)
    next = split_after parts_arguments (before ++ byte ∷ []) fits.0

    some-all : (parts : List (List PieceOf)) (texts : List (List ℕ)) → SomeFit parts texts → AllFit parts texts
    some-all [] texts fit = absurd fit
    some-all (pieces ∷ more) texts fit = fit

    by : (cut : Bool) → SomeFit more next → SomeFit (if cut then [] ∷ more else onto_first (Known byte) more) (if cut then [] ∷ next else onto_first byte next)
    by true fit = (refl, some-all more next fit)
    by false fit = some-known byte more next fit
split-fits (OneOf set ∷ pieces) text before level at clean fits =
    let both = and-both (is_clean_set level set) (are_clean level pieces) clean in
    let is = clean-set level set both.0 in
    subst (λ t. SomeFit (split_pieces level (OneOf set ∷ pieces)) (split_after parts_arguments before t)) (sym fits.1)
    (subst (λ b. SomeFit (onto_first (OneOf set) (split_pieces level pieces)) (if b then [] ∷ after_one else onto_first fits.0.0 after_one))
    (sym (ap (λ l. fits.0.0 == 44 && l == 0) at ∙ no-mark set fits.0.0 44 level fits.2 is.comma))
    (some-one set fits.0.0 fits.2 (split_pieces level pieces) after_one
    (split-fits pieces fits.0.1 (before ++ fits.0.0 ∷ []) level
    (level_of-push before fits.0.0 ∙ (ap (λ l. next_level l fits.0.0) at ∙ same_level set fits.0.0 level is.opening is.closing fits.2)) both.1 fits.3)))
  where
    after_one : List (List ℕ)
    after_one = split_after parts_arguments (before ++ fits.0.0 ∷ []) fits.0.1
split-fits (AnyOf set ∷ pieces) text before level at clean fits =
    let both = and-both (is_clean_set level set) (are_clean level pieces) clean in
    subst (λ t. SomeFit (split_pieces level (AnyOf set ∷ pieces)) (split_after parts_arguments before t)) (sym fits.1)
    (split-any set level (clean-set level set both.0) fits.0.0 fits.0.1 (split_pieces level pieces) fits.2
    (λ b l. split-fits pieces fits.0.1 b level l both.1 fits.3) before at)

all-without_end_blanks : (parts : List (List PieceOf)) (texts : List (List ℕ)) → AllFit parts texts → AllFit (map without_end_blanks parts) (map trim texts)
all-without_end_blanks [] [] fit = tt
all-without_end_blanks [] (text ∷ texts) fit = absurd fit
all-without_end_blanks (pieces ∷ more) [] fit = absurd fit
all-without_end_blanks (pieces ∷ more) (text ∷ texts) fit = (fits-without_end_blanks pieces text fit.0, all-without_end_blanks more texts fit.1)

-- the arguments of a text fit the shapes of its pieces
pub fits-arguments : (pieces : List PieceOf) (text : List ℕ) → are_clean 0 pieces ≡ true → Fits pieces text → AllFit (shapes_of pieces) (arguments_of text)
unfolding parts_of shapes_of
fits-arguments pieces text clean fits = some (split_pieces 0 pieces) (split_after parts_arguments [] text) (split-fits pieces text [] 0 refl clean fits)
  where
    some : (parts : List (List PieceOf)) (texts : List (List ℕ)) → SomeFit parts texts → AllFit (map without_end_blanks parts) (map trim texts)
    some [] texts fit = absurd fit
    some (pieces ∷ more) texts fit = all-without_end_blanks (pieces ∷ more) texts fit
