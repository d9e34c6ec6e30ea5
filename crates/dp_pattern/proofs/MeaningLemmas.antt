-- The meaning of a name, whatever text it was read from.
use Rattle.std.proofs.Common.{◌≡◌, ℕ, ◌<◌, Bool, true, false, cond, not, ◌||◌, ◌==◌, List, [], ◌∷◌, Result, Ok, Err, true≢false, refl, sym, ap, ◌∙◌, subst}
use Rattle.std.specs.List.{AllByRecursion, list_all, list_any}
use Rattle.dp_pattern.specs.Dashes.{is_dash, without_dashes, from_first}
use Rattle.dp_pattern.specs.Name.{◌>>=◌, Meaning, Plain, Pattern, PatternPieceOf, Dash, Wild, Byte, Set, Unclosed, is_bad, class_of, class_of_set, is_dash_piece, pieces_of, Parts, parts_of, with_class, pattern_of, pattern_reading, plain_of, reading_of, meaning_of, IsName}
use Rattle.dp_pattern.specs.declared.fault.NameFault.{NameFault}
use Rattle.dp_pattern.specs.declared.fault.NameFault.TheVariants.{BadByte, AfterWildcard}
use Rattle.dp_pattern.specs.declared.tail.Tail.{Tail}
use Rattle.dp_pattern.specs.declared.tail.Tail.TheVariants.{End, Dot, Bang}
use Rattle.dp_pattern.proofs.NameLemmas.{IsClass, IsPiece, class_of-class, pieces_after-each, each_by_index}
use Rattle.dp_pattern.proofs.SetLemmas.{class_of_set-class}

abbrev pub IsByte : ℕ → Type 0
IsByte b = b < 256

-- the text of a plain name
pub record IsPlainText (text : List ℕ) : Type 0 where
  pub first : ℕ
  pub after : List ℕ
  pub begins : text ≡ first ∷ after
  pub no_dash : is_dash first ≡ false
  pub no_pattern : (first == 95) ≡ false
  pub fine : list_any is_bad text ≡ false
  pub dashless : without_dashes text ≡ text
  pub bytes : AllByRecursion IsByte text

abbrev pub IsMeaning : Meaning → Type 0
IsMeaning (Plain text) = IsPlainText text
IsMeaning (Pattern classes tail) = AllByRecursion IsClass classes × (pattern_of (classes, tail) ≡ Ok (Pattern classes tail))

-- ---- the parts of a pattern

pub record IsFront (class : Result (List ℕ) NameFault) (parts : Result Parts NameFault) (whole : Parts) : Type 0 where
  pub first : List ℕ
  pub after : Parts
  pub read : class ≡ Ok first
  pub later : parts ≡ Ok after
  pub both : first ∷ after.0 ≡ whole.0

pub with_class-ok : (class : Result (List ℕ) NameFault) (parts : Result Parts NameFault) (whole : Parts) → with_class class parts ≡ Ok whole → IsFront class parts whole
with_class-ok (Err fault) parts whole e = absurd cc
with_class-ok (Ok c) (Err fault) whole e = absurd cc
with_class-ok (Ok c) (Ok p) whole e =
    let same : (c ∷ p.0, p.1) ≡ whole = cc in
    record { first = c; after = p; read = refl; later = refl; both = ap (λ (parts : Parts). parts.0) same }

parts_of-classes : (pieces : List PatternPieceOf) → AllByRecursion IsPiece pieces → (parts : Parts) → parts_of pieces ≡ Ok parts → AllByRecursion IsClass parts.0
parts_of-classes [] each parts e =
    let same : ([], End) ≡ parts = cc in subst (λ (p : Parts). AllByRecursion IsClass p.0) same tt
parts_of-classes (Dash ∷ pieces) each parts e = parts_of-classes pieces each.1 parts e
parts_of-classes (Wild tail ∷ pieces) each parts e = by_test (list_all is_dash_piece pieces) e
  where
    by_test : (t : Bool) → cond t (Ok ([], tail)) (Err AfterWildcard) ≡ Ok parts → AllByRecursion IsClass parts.0
    by_test true e = let same : ([], tail) ≡ parts = cc in subst (λ (p : Parts). AllByRecursion IsClass p.0) same tt
    by_test false e = absurd cc
parts_of-classes (Byte b ∷ pieces) each parts e =
    let front = with_class-ok (class_of b) (parts_of pieces) parts e in
    subst (AllByRecursion IsClass) front.both (class_of-class b each.0.0 each.0.1 front.first front.read, parts_of-classes pieces each.1 front.after front.later)
parts_of-classes (Set bytes ∷ pieces) each parts e =
    let front = with_class-ok (class_of_set bytes) (parts_of pieces) parts e in
    subst (AllByRecursion IsClass) front.both (class_of_set-class bytes each.0 front.first front.read, parts_of-classes pieces each.1 front.after front.later)
parts_of-classes (Unclosed ∷ pieces) each parts e = absurd cc

-- ---- the name

pub pattern_of-ok : (classes : List (List ℕ)) (tail : Tail) (name : Meaning) → pattern_of (classes, tail) ≡ Ok name → Pattern classes tail ≡ name
pattern_of-ok [] End name e = absurd cc
pattern_of-ok (c ∷ classes) End name e = cc
pattern_of-ok classes Dot name e = cc
pattern_of-ok classes Bang name e = cc

pattern_means : (text : List ℕ) → AllByRecursion IsByte text → (name : Meaning) → pattern_reading text ≡ Ok name → IsMeaning name
pattern_means text bytes name e = by_parts (parts_of (pieces_of text)) refl e
  where
    by_parts : (parts : Result Parts NameFault) → parts_of (pieces_of text) ≡ parts → (parts >>= pattern_of) ≡ Ok name → IsMeaning name
    by_parts (Err fault) read e = absurd cc
    by_parts (Ok parts) read e =
        let same = pattern_of-ok parts.0 parts.1 name e in
        subst IsMeaning same (parts_of-classes (pieces_of text) (pieces_after-each 0 text bytes) parts read, e ∙ ap Ok (sym same))

without_dashes-fine : (text : List ℕ) → list_any is_bad text ≡ false → list_any is_bad (without_dashes text) ≡ false
without_dashes-fine [] fine = refl
without_dashes-fine (b ∷ text) fine = by_tests (without_dashes-fine text) (is_bad b) refl (is_dash b) fine
  where
    by_tests : (list_any is_bad text ≡ false → list_any is_bad (without_dashes text) ≡ false) → (bad : Bool) → is_bad b ≡ bad → (dash : Bool) → (bad || list_any is_bad text) ≡ false → list_any is_bad (cond (not dash) (b ∷ without_dashes text) (without_dashes text)) ≡ false
    by_tests later true e dash fine = absurd (true≢false fine)
    by_tests later false e true fine = later fine
    by_tests later false e false fine = ap (λ t. t || list_any is_bad (without_dashes text)) e ∙ later fine

without_dashes-bytes : (text : List ℕ) → AllByRecursion IsByte text → AllByRecursion IsByte (without_dashes text)
without_dashes-bytes [] bytes = tt
without_dashes-bytes (b ∷ text) bytes = by_test (without_dashes-bytes text bytes.1) (is_dash b)
  where
    by_test : AllByRecursion IsByte (without_dashes text) → (dash : Bool) → AllByRecursion IsByte (cond (not dash) (b ∷ without_dashes text) (without_dashes text))
    by_test later true = later
    by_test later false = (bytes.0, later)

pub without_dashes-without_dashes : (text : List ℕ) → without_dashes (without_dashes text) ≡ without_dashes text
without_dashes-without_dashes [] = refl
without_dashes-without_dashes (b ∷ text) = by_test (without_dashes-without_dashes text) (is_dash b) refl
  where
    by_test : without_dashes (without_dashes text) ≡ without_dashes text → (dash : Bool) → is_dash b ≡ dash → without_dashes (cond (not dash) (b ∷ without_dashes text) (without_dashes text)) ≡ cond (not dash) (b ∷ without_dashes text) (without_dashes text)
    by_test later true e = later
    by_test later false e = rw (e, later) refl

plain_means : (b : ℕ) (text : List ℕ) → AllByRecursion IsByte (b ∷ text) → is_dash b ≡ false → (b == 95) ≡ false → (name : Meaning) → plain_of (b ∷ text) ≡ Ok name → IsMeaning name
plain_means b text bytes dash under name e = by_test (list_any is_bad (b ∷ text)) refl e
  where
    by_test : (t : Bool) → list_any is_bad (b ∷ text) ≡ t → cond t (Err BadByte) (Ok (Plain (without_dashes (b ∷ text)))) ≡ Ok name → IsMeaning name
    by_test true bad e = absurd cc
    by_test false fine e =
        let same : Plain (without_dashes (b ∷ text)) ≡ name = cc in
        subst IsMeaning same (record {
          first = b;
          after = without_dashes text;
          begins = ap (λ t. cond (not t) (b ∷ without_dashes text) (without_dashes text)) dash;
          no_dash = dash;
          no_pattern = under;
          fine = without_dashes-fine (b ∷ text) fine;
          dashless = without_dashes-without_dashes (b ∷ text);
          bytes = without_dashes-bytes (b ∷ text) bytes;
        })

-- the text that is read does not begin with a dash
reading_means : (text : List ℕ) → AllByRecursion IsByte text → (name : Meaning) → reading_of (from_first text) ≡ Ok name → IsMeaning name
reading_means [] bytes name e = absurd cc
reading_means (b ∷ text) bytes name e = by_test (reading_means text bytes.1 name) (is_dash b) refl e
  where
    by_pattern : is_dash b ≡ false → (t : Bool) → (b == 95) ≡ t → cond t (pattern_reading text) (plain_of (b ∷ text)) ≡ Ok name → IsMeaning name
    by_pattern dash true under e = pattern_means text bytes.1 name e
    by_pattern dash false under e = plain_means b text bytes dash under name e

    by_test : (reading_of (from_first text) ≡ Ok name → IsMeaning name) → (t : Bool) → is_dash b ≡ t → reading_of (cond t (from_first text) (b ∷ text)) ≡ Ok name → IsMeaning name
    by_test later true dash e = later e
    by_test later false dash e = by_pattern dash (b == 95) refl e

-- facts about each name
pub name_means : (name : Meaning) → IsName name → IsMeaning name
unfolding meaning_of
name_means name named =
    reading_means named.text (each_by_index IsByte named.text (λ k within. named.bytes k within)) name named.read
