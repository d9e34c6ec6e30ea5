-- Pieces as values of the definition, after the pieces of a group replace it.
use Rattle.std.proofs.Common.{◌≡◌, ◌+◌, ℕ, List, [], ◌∷◌, ◌++◌, take, drop, refl, ap, ◌∙◌, zero, suc}
use Rattle.std.proofs.lemmas.List.{map-append}
use Rattle.dp_conf.specs.declared.groups.GroupKind.{GroupKind}
use Rattle.dp_pieces.specs.steps.Reader.{with_group}
use Rattle.dp_pieces.specs.Shown.{shown_piece, shown_all}
use Rattle.dp_pieces.specs.Texts.{GroupMeaning}
use Rattle.dp_pieces.specs.declared.piece.Piece.{Piece}

shown_piece-take : (n : ℕ) (pieces : List Piece) → shown_all (take n pieces) ≡ take n (shown_all pieces)
shown_piece-take zero pieces = refl
shown_piece-take (suc n) [] = refl
shown_piece-take (suc n) (p ∷ pieces) = ap (λ ps. shown_piece p ∷ ps) (shown_piece-take n pieces)

shown_piece-drop : (n : ℕ) (pieces : List Piece) → shown_all (drop n pieces) ≡ drop n (shown_all pieces)
shown_piece-drop zero pieces = refl
shown_piece-drop (suc n) [] = refl
shown_piece-drop (suc n) (p ∷ pieces) = shown_piece-drop n pieces

pub put-shown_piece : (groups : GroupMeaning) (kind : GroupKind) (start : ℕ) (old new cut body value : List Piece) → cut ≡ take start old → new ≡ cut ++ value
    → body ≡ drop (start + 2) old → shown_all value ≡ groups kind (shown_all body)
    → shown_all new ≡ with_group groups (record { kind = kind; start = start }) (shown_all old)
put-shown_piece groups kind start old new cut body value front put back is =
    ap shown_all put ∙ (map-append shown_piece cut value
    ∙ (λ i. (ap shown_all front ∙ shown_piece-take start old) i ++ (is ∙ ap (groups kind) (ap shown_all back ∙ shown_piece-drop (start + 2) old)) i))
