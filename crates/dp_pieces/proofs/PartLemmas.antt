-- The remaining parts of pieces.
use Rattle.std.proofs.Common.{◌≡◌, ℕ, zero, suc, ◌-◌, ◌<◌, List, [], ◌∷◌, ◌++◌, Option, Some, None, length, map, sym, ap, ◌∙◌, append_assoc, arith, refl, Vec, Global}
use Rattle.std.proofs.lemmas.List.{map-append}
use Rattle.std.specs.Borrow.{Bor}
use Rattle.std.specs.Prelude.{IfSome, MatchOption}
use Rattle.dp_pieces.specs.Arguments.{split_pieces}
use Rattle.dp_pieces.specs.Pieces.{PieceOf, front, any_bytes_of, pieces_set}
use Rattle.dp_pieces.specs.Shown.{shown_piece, shown_all}
use Rattle.dp_pieces.specs.Trimmed.{without_end_blanks}
use Rattle.dp_pieces.specs.declared.byte_set.ByteSet.{ByteSet}
use Rattle.dp_pieces.specs.declared.piece.Piece.{Piece as KeptPiece}
use Rattle.dp_pieces.specs.declared.piece.Piece.TheVariants.{Known as kept_known, OneOf as kept_one, AnyOf as kept_any}

abbrev pub parts_left : Option (Bor (List KeptPiece)) → List (List PieceOf)
parts_left None = []
parts_left (Some left) = split_pieces 0 (shown_all left.now)

-- and the number of pieces in them
abbrev pub left_count : Option (Bor (List KeptPiece)) → ℕ
left_count None = 0
left_count (Some left) = suc (length left.now)

pub count-less : (left : List KeptPiece) (after : Option (Bor (List KeptPiece))) → IfSome after (λ rest. length rest.now < length left) → left_count after < suc (length left)
count-less left None less = omega arith
count-less left (Some rest) less = omega (arith, less)

-- the first part, and those after it
pub parts-first : (left part : List KeptPiece) (after : Option (Bor (List KeptPiece)))
    → MatchOption after (split_pieces 0 (shown_all left) ≡ shown_all part ∷ []) (λ rest. split_pieces 0 (shown_all left) ≡ shown_all part ∷ split_pieces 0 (shown_all rest.now))
    → split_pieces 0 (shown_all left) ≡ shown_all part ∷ parts_left after
parts-first left part None is = is
parts-first left part (Some rest) is = is

-- one more argument
pub shapes-left : (shapes new : List (Vec KeptPiece Global)) (shape : Vec KeptPiece Global) (part left : List KeptPiece) (after : Option (Bor (List KeptPiece)))
    → new ≡ shapes ++ shape ∷ [] → shown_all shape.items ≡ without_end_blanks (shown_all part)
    → MatchOption after (split_pieces 0 (shown_all left) ≡ shown_all part ∷ []) (λ rest. split_pieces 0 (shown_all left) ≡ shown_all part ∷ split_pieces 0 (shown_all rest.now))
    → map (λ s. shown_all s.items) new ++ map without_end_blanks (parts_left after) ≡ map (λ s. shown_all s.items) shapes ++ map without_end_blanks (split_pieces 0 (shown_all left))
shapes-left shapes new shape part left after pushed is parts =
    ap (λ ss. map (λ s. shown_all s.items) ss ++ map without_end_blanks (parts_left after)) pushed
    ∙ (ap (λ ss. ss ++ map without_end_blanks (parts_left after)) (map-append (λ s. shown_all s.items) shapes (shape ∷ []))
    ∙ (append_assoc (map (λ s. shown_all s.items) shapes) (shown_all shape.items ∷ []) (map without_end_blanks (parts_left after))
    ∙ ((λ i. map (λ s. shown_all s.items) shapes ++ is i ∷ map without_end_blanks (parts_left after))
    ∙ ap (λ ps. map (λ s. shown_all s.items) shapes ++ map without_end_blanks ps) (sym (parts-first left part after parts)))))

-- the first bytes, starting with a piece with any number of bytes, and with a piece with one byte
pub front-any : (count : ℕ) (left rest : List KeptPiece) (first : KeptPiece) (set : ByteSet) → left ≡ first ∷ rest → first ≡ kept_any set → 0 < count
    → any_bytes_of (pieces_set (shown_all left)) ≡ front count (shown_all left)
front-any zero left rest first set is any some = absurd (omega (arith, some))
front-any (suc count) left rest first set is any some =
    let whole : left ≡ kept_any set ∷ rest = is ∙ ap (λ (f : KeptPiece). f ∷ rest) any in
    ap (λ ps. any_bytes_of (pieces_set (shown_all ps))) whole ∙ sym (ap (λ ps. front (suc count) (shown_all ps)) whole)

front-one : (count : ℕ) (first : KeptPiece) (rest : List PieceOf) → ((set : ByteSet) → first ≡ kept_any set → ⊥) → front (suc count) (shown_piece first ∷ rest) ≡ shown_piece first ∷ front count rest
front-one count (kept_known byte) rest not = refl
front-one count (kept_one set) rest not = refl
front-one count (kept_any set) rest not = absurd (not set refl)

pub front-push : (count : ℕ) (kept new left rest : List KeptPiece) (first : KeptPiece) → new ≡ kept ++ first ∷ [] → left ≡ first ∷ rest
    → ((set : ByteSet) → first ≡ kept_any set → ⊥) → 0 < count → shown_all new ++ front (count - 1) (shown_all rest) ≡ shown_all kept ++ front count (shown_all left)
front-push zero kept new left rest first pushed is not some = absurd (omega (arith, some))
front-push (suc count) kept new left rest first pushed is not some =
    let back : suc count - 1 ≡ count = omega arith in
    (λ i. shown_all (pushed i) ++ front (back i) (shown_all rest))
    ∙ (ap (λ ps. ps ++ front count (shown_all rest)) (map-append shown_piece kept (first ∷ []))
    ∙ (append_assoc (shown_all kept) (shown_piece first ∷ []) (front count (shown_all rest))
    ∙ ap (λ ps. shown_all kept ++ ps) (sym (front-one count first (shown_all rest) not) ∙ ap (λ ps. front (suc count) (shown_all ps)) (sym is))))

-- pieces after the kept ones
pub shown_piece-after : (kept new more : List KeptPiece) → new ≡ kept ++ more → shown_all new ≡ shown_all kept ++ shown_all more
shown_piece-after kept new more is = ap shown_all is ∙ map-append shown_piece kept more
