-- Pieces without the blanks at the end: the known ones at the end are left out, and each other piece that may be a blank is softened.
use Rattle.std.proofs.Common.{◌≡◌, ℕ, suc, ◌<◌, ◌≤◌, ◌||◌, ◌==◌, Bool, true, false, List, [], ◌∷◌, ◌++◌, length, map, drop, Some, None, refl, sym, ap, ◌∙◌, append_assoc, if◌then◌else◌}
use Rattle.std.proofs.lemmas.List.{append-nil, map-append}
use Rattle.std.specs.Prelude.{slice_index_or}
use Rattle.std.specs.Option.{option_map_or}
use Rattle.dp_conf.specs.Blanks.{is_blank}
use Rattle.dp_pieces.specs.Bytes.{Bytes, has_blank}
use Rattle.dp_pieces.specs.Pieces.{AnyOf, Known, OneOf, PieceOf, byte_of, any_bytes_of, piece_set, pieces_set}
use Rattle.dp_pieces.specs.Shown.{shown_piece, shown_all}
use Rattle.dp_pieces.specs.Trimmed.{before_kept, known_before, loose_front, starts_kept, trimmed_end, trimmed_start}
use Rattle.dp_pieces.specs.declared.piece.Piece.{Piece as KeptPiece}
use Rattle.dp_pieces.specs.steps.Softened.{before_last_kept, blank_of, loosened_by, soft_piece, start_by, without_blanks, without_last}
use Rattle.dp_pieces.proofs.RuleLemmas.{from-end, from-place}

-- the last piece
last-blank : (pieces : List PieceOf) (piece : PieceOf) → blank_of piece ≡ true → without_last (pieces ++ piece ∷ []) ≡ without_last pieces
last-blank [] piece is = ap (λ b. if b then [] else piece ∷ []) is
last-blank (p ∷ pieces) piece is = ap (before_last_kept p) (last-blank pieces piece is)

last-kept : (pieces : List PieceOf) (piece : PieceOf) → blank_of piece ≡ false → without_last (pieces ++ piece ∷ []) ≡ pieces ++ piece ∷ []
last-kept [] piece is = ap (λ b. if b then [] else piece ∷ []) is
last-kept (p ∷ pieces) piece is = ap (before_last_kept p) (last-kept pieces piece is) ∙ some pieces
  where
    some : (pieces : List PieceOf) → before_last_kept p (pieces ++ piece ∷ []) ≡ p ∷ (pieces ++ piece ∷ [])
    some [] = refl
    some (q ∷ pieces) = refl

-- the same for pieces as they are kept
pub kept-blank : (left front : List KeptPiece) (last : KeptPiece) → left ≡ front ++ last ∷ [] → blank_of (shown_piece last) ≡ true
    → without_last (shown_all left) ≡ without_last (shown_all front)
kept-blank left front last is blank = ap (λ ps. without_last (shown_all ps)) is ∙ (ap without_last (map-append shown_piece front (last ∷ [])) ∙ last-blank (shown_all front) (shown_piece last) blank)

pub kept-last : (left front : List KeptPiece) (last : KeptPiece) → left ≡ front ++ last ∷ [] → blank_of (shown_piece last) ≡ false
    → without_last (shown_all left) ≡ shown_all left
kept-last left front last is kept =
    ap (λ ps. without_last (shown_all ps)) is ∙ (ap without_last (map-append shown_piece front (last ∷ []))
    ∙ (last-kept (shown_all front) (shown_piece last) kept ∙ (sym (map-append shown_piece front (last ∷ [])) ∙ ap shown_all (sym is))))

-- the definition in terms of these
soft-known : (byte : ℕ) (pieces : List PieceOf) → known_before byte (map soft_piece pieces) ≡ map soft_piece (before_last_kept (Known byte) pieces)
soft-known byte [] = by (is_blank byte) refl
  where
    by : (b : Bool) → is_blank byte ≡ b → (if b then [] else Known byte ∷ []) ≡ map soft_piece (if b then [] else Known byte ∷ [])
    by true is = refl
    by false is = ap (λ t. (if t then AnyOf (λ b. b == byte) else Known byte) ∷ []) (sym is)
soft-known byte (piece ∷ pieces) = by (is_blank byte)
  where
    by : (b : Bool) → before_kept b (λ x. x == byte) (Known byte) (map soft_piece (piece ∷ pieces)) ≡ (if b then AnyOf (λ x. x == byte) else Known byte) ∷ map soft_piece (piece ∷ pieces)
    by true = refl
    by false = refl

soft-other : (piece : PieceOf) (pieces : List PieceOf) → byte_of piece ≡ None → map soft_piece (before_last_kept piece pieces) ≡ soft_piece piece ∷ map soft_piece pieces
soft-other piece [] is = (λ i. map soft_piece (if option_map_or is_blank (is i) false then [] else piece ∷ []))
soft-other piece (next ∷ pieces) is = refl

pub soft-end : (pieces : List PieceOf) → trimmed_end pieces ≡ map soft_piece (without_last pieces)
soft-end [] = refl
soft-end (Known byte ∷ pieces) = ap (known_before byte) (soft-end pieces) ∙ soft-known byte (without_last pieces)
soft-end (OneOf set ∷ pieces) =
    ap (before_kept (has_blank set) set (OneOf set)) (soft-end pieces) ∙ (by (has_blank set) ∙ sym (soft-other (OneOf set) (without_last pieces) refl))
  where
    by : (b : Bool) → before_kept b set (OneOf set) (map soft_piece (without_last pieces)) ≡ (if b then AnyOf set else OneOf set) ∷ map soft_piece (without_last pieces)
    by true = refl
    by false = refl
soft-end (AnyOf set ∷ pieces) = ap (λ ps. AnyOf set ∷ ps) (soft-end pieces) ∙ sym (soft-other (AnyOf set) (without_last pieces) refl)

-- the bytes of the pieces from a place on
or-assoc : (a b c : Bool) → ((a || b) || c) ≡ (a || (b || c))
or-assoc true b c = refl
or-assoc false b c = refl

or-false : (a : Bool) → (a || false) ≡ a
or-false true = refl
or-false false = refl

pub bytes-next : (at b : ℕ) (has next : Bool) (pieces : List KeptPiece) (piece : KeptPiece) → at < length pieces → piece ≡ slice_index_or pieces at piece
    → next ≡ (has || piece_set (shown_piece piece) b) → (next || pieces_set (drop (suc at) (shown_all pieces)) b) ≡ (has || pieces_set (drop at (shown_all pieces)) b)
unfolding pieces_set
bytes-next at b has next pieces piece below is same =
    ap (λ t. t || pieces_set (drop (suc at) (shown_all pieces)) b) same
    ∙ (or-assoc has (piece_set (shown_piece piece) b) (pieces_set (drop (suc at) (shown_all pieces)) b)
    ∙ ap (λ ps. has || pieces_set ps b) (sym (from-place at pieces piece below is)))

pub bytes-over : (at b : ℕ) (has : Bool) (pieces : List KeptPiece) → length pieces ≤ at → has ≡ (has || pieces_set (drop at (shown_all pieces)) b)
unfolding pieces_set
bytes-over at b has pieces far = sym (or-false has) ∙ ap (λ ps. has || pieces_set ps b) (sym (from-end at pieces far))

-- one more piece is softened
pub soft-next : (at : ℕ) (kept new left : List KeptPiece) (piece soft : KeptPiece) → new ≡ kept ++ soft ∷ [] → shown_piece soft ≡ soft_piece (shown_piece piece)
    → at < length left → piece ≡ slice_index_or left at piece
    → shown_all new ++ map soft_piece (drop (suc at) (shown_all left)) ≡ shown_all kept ++ map soft_piece (drop at (shown_all left))
soft-next at kept new left piece soft pushed is below here =
    ap (λ ps. shown_all ps ++ map soft_piece (drop (suc at) (shown_all left))) pushed
    ∙ (ap (λ ps. ps ++ map soft_piece (drop (suc at) (shown_all left))) (map-append shown_piece kept (soft ∷ []))
    ∙ (append_assoc (shown_all kept) (shown_piece soft ∷ []) (map soft_piece (drop (suc at) (shown_all left)))
    ∙ ((λ i. shown_all kept ++ is i ∷ map soft_piece (drop (suc at) (shown_all left)))
    ∙ ap (λ ps. shown_all kept ++ map soft_piece ps) (sym (from-place at left piece below here)))))

pub soft-over : (at : ℕ) (kept left : List KeptPiece) → length left ≤ at → shown_all kept ≡ shown_all kept ++ map soft_piece (drop at (shown_all left))
soft-over at kept left far = sym (append-nil (shown_all kept)) ∙ ap (λ ps. shown_all kept ++ map soft_piece ps) (sym (from-end at left far))

-- the blanks at the start are left out first
pub start-kept : (pieces : List PieceOf) → start_by (without_blanks pieces) ≡ trimmed_start pieces
start-kept [] = refl
start-kept (Known byte ∷ pieces) = by (is_blank byte) (start-kept pieces)
  where
    by : (b : Bool) → start_by (without_blanks pieces) ≡ trimmed_start pieces
        → start_by (if b then without_blanks pieces else Known byte ∷ pieces) ≡ (if b then trimmed_start pieces else Known byte ∷ pieces)
    by true later = later
    by false later = refl
start-kept (OneOf set ∷ pieces) = by (has_blank set)
  where
    by : (b : Bool) → loosened_by (if b then Some set else None) (OneOf set) pieces ≡ (if b then loose_front set pieces else OneOf set ∷ pieces)
    by true = refl
    by false = refl
start-kept (AnyOf set ∷ pieces) = refl

-- any number of bytes of all
pub loose_front-all : (set all : Bytes) (pieces : List PieceOf) → starts_kept pieces ≡ false → ((b : ℕ) → all b ≡ (set b || pieces_set pieces b)) → AnyOf all ∷ [] ≡ loose_front set pieces
unfolding pieces_set
loose_front-all set all pieces loose same =
    (λ i. AnyOf (λ b. same b i) ∷ []) ∙ sym (ap (λ k. if k then AnyOf set ∷ pieces else any_bytes_of (pieces_set (AnyOf set ∷ pieces))) loose)
