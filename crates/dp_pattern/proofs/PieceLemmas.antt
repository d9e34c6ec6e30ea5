-- A pattern that is read piece by piece.
use Rattle.std.proofs.Common.{◌≡◌, ℕ, zero, suc, Bool, true, false, cond, ◌&&◌, ◌==◌, ◌-◌, ◌≤◌, List, [], ◌∷◌, ◌++◌, length, take, drop, append-nil, Option, Some, None, Result, Ok, Err, append_assoc, refl, sym, ap, ◌∙◌, arith}
use Rattle.std.specs.List.{list_all, position}
use Rattle.std.proofs.lemmas.Bool.Decides.{nat_tests}
use Rattle.dp_pattern.specs.Dashes.{is_dash}
use Rattle.dp_pattern.specs.Name.{◌>>=◌, PatternPieceOf, Dash, Wild, Byte, pieces_after, pieces_of, piece_of, set_piece, set_size, is_end, is_dash_piece, Parts, parts_of, with_class}
use Rattle.dp_pattern.specs.declared.tail.Tail.{Tail}
use Rattle.dp_pattern.specs.declared.fault.NameFault.{NameFault}
use Rattle.dp_pattern.specs.declared.fault.NameFault.TheVariants.{AfterWildcard}
use Rattle.std.proofs.lemmas.Grind.{common_steps}

-- the bytes of the piece before are skipped
pub pieces_after-drop : (n : ℕ) (text : List ℕ) → pieces_after n text ≡ pieces_of (drop n text)
pieces_after-drop zero [] = refl
pieces_after-drop (suc n) [] = refl
pieces_after-drop zero (b ∷ text) = refl
pieces_after-drop (suc n) (b ∷ text) = pieces_after-drop n text

set_is_no_dash : (place : Option ℕ) (text : List ℕ) → is_dash_piece (set_piece place text) ≡ false
set_is_no_dash None text = refl
set_is_no_dash (Some n) text = refl

byte_is_dash : (b : ℕ) → is_dash_piece (piece_of b) ≡ is_dash b
byte_is_dash b = by_tests (is_dash b) (b == 46) (b == 33)
  where
    by_tests : (dash dot bang : Bool) → is_dash_piece (cond dash Dash (cond dot (Wild Tail.Dot) (cond bang (Wild Tail.Bang) (Byte b)))) ≡ dash
    by_tests true dot bang = refl
    by_tests false true bang = refl
    by_tests false false true = refl
    by_tests false false false = refl

-- a text that begins with `[`, and one that does not
pub pieces_of-set : (b : ℕ) (text : List ℕ) → (b == 91) ≡ true → pieces_of (b ∷ text) ≡ set_piece (position is_end text) text ∷ pieces_after (set_size (position is_end text) text) text
pieces_of-set b text e = ap (λ (t : Bool). elim t as (λ _. List PatternPieceOf) [
  | true ↦ set_piece (position is_end text) text ∷ pieces_after (set_size (position is_end text) text) text
  | false ↦ piece_of b ∷ pieces_after zero text
]) e

pub pieces_of-byte : (b : ℕ) (text : List ℕ) → (b == 91) ≡ false → pieces_of (b ∷ text) ≡ piece_of b ∷ pieces_of text
pieces_of-byte b text e = ap (λ (t : Bool). elim t as (λ _. List PatternPieceOf) [
  | true ↦ set_piece (position is_end text) text ∷ pieces_after (set_size (position is_end text) text) text
  | false ↦ piece_of b ∷ pieces_after zero text
]) e

-- only dashes are left if each byte is one
pub list_all-pieces_of : (text : List ℕ) → list_all is_dash_piece (pieces_of text) ≡ list_all is_dash text
list_all-pieces_of [] = refl
list_all-pieces_of (b ∷ text) = by_test (list_all-pieces_of text) (b == 91) refl
  where
    by_test : list_all is_dash_piece (pieces_of text) ≡ list_all is_dash text → (t : Bool) → (b == 91) ≡ t → list_all is_dash_piece (pieces_of (b ∷ text)) ≡ list_all is_dash (b ∷ text)
    by_test after true e =
        let other : is_dash b ≡ false = grind (arith, nat_tests) in
        let dashless = set_is_no_dash (position is_end text) text in
        let set = ap (list_all is_dash_piece) (pieces_of-set b text e) in
        set ∙ ap (λ t. t && list_all is_dash_piece (pieces_after (set_size (position is_end text) text) text)) dashless ∙ sym (ap (λ t. t && list_all is_dash text) other)
    by_test after false e =
        ap (list_all is_dash_piece) (pieces_of-byte b text e) ∙ ap (λ t. t && list_all is_dash_piece (pieces_of text)) (byte_is_dash b) ∙ ap (λ t. is_dash b && t) after

-- classes before the rest that is read
abbrev pub with_front : List (List ℕ) → Result Parts NameFault → Result Parts NameFault
with_front front parts = parts >>= (λ p. Ok (front ++ p.0, p.1))

pub with_front-nothing : (parts : Result Parts NameFault) → with_front [] parts ≡ parts
with_front-nothing (Ok parts) = refl
with_front-nothing (Err fault) = refl

-- one more class
pub with_front-more : (front : List (List ℕ)) (class : List ℕ) (parts : Result Parts NameFault) → with_front (front ++ class ∷ []) parts ≡ with_front front (with_class (Ok class) parts)
with_front-more front class (Ok parts) = ap (λ classes. Ok (classes, parts.1)) (append_assoc front (class ∷ []) parts.0)
with_front-more front class (Err fault) = refl

-- the text after a set of n bytes
pub pieces_of-after : (n : ℕ) (place : Option ℕ) (text : List ℕ) → set_size place text ≡ n → n ≤ length text → pieces_of (take (length text - n) (drop n text)) ≡ pieces_after (set_size place text) text
pieces_of-after n place text e within =
    let whole : take (length text - n) (drop n text) ≡ drop n text = grind (arith, common_steps) in
    ap pieces_of whole ∙ sym (pieces_after-drop n text) ∙ ap (λ m. pieces_after m text) (sym e)

-- a `.` or a `!` with only dashes after it, and with anything else
pub ends_wild : (front : List (List ℕ)) (pieces : List PatternPieceOf) (tail : Tail) (after : List ℕ) (whole : Result Parts NameFault) → with_front front (parts_of pieces) ≡ whole → pieces ≡ Wild tail ∷ pieces_of after → list_all is_dash after ≡ true → whole ≡ Ok (front, tail)
ends_wild front pieces tail after whole invariant e dashes =
    sym invariant
    ∙ ap (λ ps. with_front front (parts_of ps)) e
    ∙ ap (λ t. with_front front (cond t (Ok ([], tail)) (Err AfterWildcard))) (list_all-pieces_of after ∙ dashes)
    ∙ ap (λ classes. Ok (classes, tail)) (append-nil front)

pub ends_wild-fault : (front : List (List ℕ)) (pieces : List PatternPieceOf) (tail : Tail) (after : List ℕ) (whole : Result Parts NameFault) → with_front front (parts_of pieces) ≡ whole → pieces ≡ Wild tail ∷ pieces_of after → list_all is_dash after ≡ false → whole ≡ Err AfterWildcard
ends_wild-fault front pieces tail after whole invariant e dashes =
    sym invariant
    ∙ ap (λ ps. with_front front (parts_of ps)) e
    ∙ ap (λ t. with_front front (cond t (Ok ([], tail)) (Err AfterWildcard))) (list_all-pieces_of after ∙ dashes)
