-- Pieces cut by a rule, starting with the first.
use Rattle.std.proofs.Common.{◌≡◌, ℕ, zero, suc, ◌+◌, ◌-◌, ◌<◌, ◌≤◌, ◌&&◌, ◌||◌, ◌==◌, not, Bool, true, false, List, [], ◌∷◌, ◌++◌, Option, Some, None, append_assoc, length, take, drop, refl, sym, ap, ◌∙◌, arith, if◌then◌else◌}
use Rattle.std.proofs.lemmas.List.{append-nil, drop-map, map-append, take-map, take_rest}
use borrow.Author.Tests.{eqb-true}
use Rattle.std.specs.Prelude.{slice_index_or}
use Rattle.std.specs.List.{onto_first}
use Rattle.std.specs.Option.{option_map}
use Rattle.dp_pieces.specs.Arguments.{are_clean, split_pieces}
use Rattle.dp_pieces.proofs.ArgumentLemmas.{and-both}
use Rattle.dp_conf.specs.Levels.{next_level}
use Rattle.dp_pieces.specs.Bytes.{Bytes}
use Rattle.dp_pieces.specs.Cuts.{At, CuttingOf, Nowhere, Unsure, cut_known, cut_last, cut_level, cut_pieces, last_known, last_unknown, may_cut, with_byte, with_piece}
use Rattle.dp_pieces.specs.Pieces.{AnyOf, Known, OneOf, PieceOf, byte_of, exactly}
use Rattle.dp_pieces.specs.Shown.{shown_piece, shown_all}
use Rattle.dp_pieces.specs.declared.cuts.Rule.{Rule}
use Rattle.dp_pieces.specs.declared.cuts.Rule.TheVariants.{First, Outside, Comma}
use Rattle.dp_pieces.specs.declared.cuts.Stand.{Stand}
use Rattle.dp_pieces.specs.declared.cuts.Stand.TheVariants.{Here, Maybe, Apart}
use Rattle.dp_pieces.specs.declared.piece.Piece.{Piece as KeptPiece}
use Rattle.dp_pieces.specs.steps.Stands.{cut_by, cut_rule, is_clean_piece, level_after, stand_of}

-- one piece opens at most one level
pub level-bound : (level at : ℕ) (piece : PieceOf) → level ≤ at → level_after level piece ≤ at + 1
level-bound level at (Known byte) is = by (byte == 40) (byte == 41)
  where
    by : (opens closes : Bool) → (if opens then level + 1 else if closes then level - 1 else level) ≤ at + 1
    by true closes = omega (arith, is)
    by false true = omega (arith, is)
    by false false = omega (arith, is)
level-bound level at (OneOf set) is = omega (arith, is)
level-bound level at (AnyOf set) is = omega (arith, is)

-- the pieces after a place, and those before it too
pub rest-at : (at : ℕ) (pieces : List KeptPiece) → drop (suc at) (shown_all pieces) ≡ shown_all (take (length pieces - (at + 1)) (drop (at + 1) pieces))
rest-at at pieces =
    let next : suc at ≡ at + 1 = omega arith in
    ap (λ n. drop n (shown_all pieces)) next ∙ (drop-map shown_piece (at + 1) pieces ∙ ap shown_all (sym (take_rest pieces (at + 1))))

pub parts-at : (at : ℕ) (pieces : List KeptPiece)
    → At (shown_all (take at pieces)) (shown_all (take (length pieces - (at + 1)) (drop (at + 1) pieces))) ≡ At (take at (shown_all pieces)) (drop (suc at) (shown_all pieces))
parts-at at pieces = λ i. At (sym (take-map shown_piece at pieces) i) (sym (rest-at at pieces) i)

-- pieces before a cut
abbrev pub before : List PieceOf → CuttingOf → CuttingOf
before [] cutting = cutting
before (piece ∷ pieces) cutting = with_piece piece (before pieces cutting)

pub before-nowhere : (pieces : List PieceOf) → before pieces Nowhere ≡ Nowhere
before-nowhere [] = refl
before-nowhere (piece ∷ pieces) = ap (with_piece piece) (before-nowhere pieces)

pub before-unsure : (pieces : List PieceOf) → before pieces Unsure ≡ Unsure
before-unsure [] = refl
before-unsure (piece ∷ pieces) = ap (with_piece piece) (before-unsure pieces)

pub before-at : (pieces rest : List PieceOf) → before pieces (At [] rest) ≡ At pieces rest
before-at [] rest = refl
before-at (piece ∷ pieces) rest = ap (with_piece piece) (before-at pieces rest)

-- the cut of all pieces, given the cut from a place on
abbrev pub cut_from : Rule → ℕ → ℕ → List KeptPiece → CuttingOf
cut_from rule level at pieces = before (take at (shown_all pieces)) (cut_rule rule level (drop at (shown_all pieces)))

-- a piece at a place
pub cut_from-piece : (rule : Rule) (level at : ℕ) (pieces : List KeptPiece) (piece : KeptPiece) → at < length pieces → piece ≡ slice_index_or pieces at piece
    → cut_from rule level at pieces ≡ before (take at (shown_all pieces)) (cut_by (stand_of rule level (shown_piece piece)) (shown_piece piece) (drop (suc at) (shown_all pieces))
    (cut_rule rule (level_after level (shown_piece piece)) (drop (suc at) (shown_all pieces))))
cut_from-piece rule level at [] piece below is = absurd (omega (arith, below))
cut_from-piece rule level zero (p ∷ pieces) piece below is =
    ap (λ (x : KeptPiece). cut_by (stand_of rule level (shown_piece x)) (shown_piece x) (shown_all pieces) (cut_rule rule (level_after level (shown_piece x)) (shown_all pieces))) (sym is)
cut_from-piece rule level (suc at) (p ∷ pieces) piece below is = ap (with_piece (shown_piece p)) (cut_from-piece rule level at pieces piece (omega (arith, below)) is)

before-push : (pieces : List KeptPiece) (at : ℕ) (piece : KeptPiece) (cutting : CuttingOf) → at < length pieces → piece ≡ slice_index_or pieces at piece
    → before (take at (shown_all pieces)) (with_piece (shown_piece piece) cutting) ≡ before (take (suc at) (shown_all pieces)) cutting
before-push [] at piece cutting below is = absurd (omega (arith, below))
before-push (p ∷ pieces) zero piece cutting below is = ap (λ (x : KeptPiece). with_piece (shown_piece x) cutting) is
before-push (p ∷ pieces) (suc at) piece cutting below is = ap (with_piece (shown_piece p)) (before-push pieces at piece cutting (omega (arith, below)) is)

-- a piece without any of the bytes
pub cut_from-apart : (rule : Rule) (level at : ℕ) (pieces : List KeptPiece) (piece : KeptPiece) → at < length pieces → piece ≡ slice_index_or pieces at piece
    → Apart ≡ stand_of rule level (shown_piece piece) → cut_from rule (level_after level (shown_piece piece)) (suc at) pieces ≡ cut_from rule level at pieces
cut_from-apart rule level at pieces piece below is apart =
    sym (before-push pieces at piece (cut_rule rule (level_after level (shown_piece piece)) (drop (suc at) (shown_all pieces))) below is)
    ∙ (ap (λ s. before (take at (shown_all pieces)) (cut_by s (shown_piece piece) (drop (suc at) (shown_all pieces))
    (cut_rule rule (level_after level (shown_piece piece)) (drop (suc at) (shown_all pieces))))) apart
    ∙ sym (cut_from-piece rule level at pieces piece below is))

-- and a piece that contains one, or may contain one
pub cut_from-here : (rule : Rule) (level at : ℕ) (pieces : List KeptPiece) (piece : KeptPiece) → at < length pieces → piece ≡ slice_index_or pieces at piece
    → Here ≡ stand_of rule level (shown_piece piece) → At (take at (shown_all pieces)) (drop (suc at) (shown_all pieces)) ≡ cut_from rule level at pieces
cut_from-here rule level at pieces piece below is here =
    sym (before-at (take at (shown_all pieces)) (drop (suc at) (shown_all pieces)))
    ∙ (ap (λ s. before (take at (shown_all pieces)) (cut_by s (shown_piece piece) (drop (suc at) (shown_all pieces))
    (cut_rule rule (level_after level (shown_piece piece)) (drop (suc at) (shown_all pieces))))) here
    ∙ sym (cut_from-piece rule level at pieces piece below is))

pub cut_from-maybe : (rule : Rule) (level at : ℕ) (pieces : List KeptPiece) (piece : KeptPiece) → at < length pieces → piece ≡ slice_index_or pieces at piece
    → Maybe ≡ stand_of rule level (shown_piece piece) → Unsure ≡ cut_from rule level at pieces
cut_from-maybe rule level at pieces piece below is maybe =
    sym (before-unsure (take at (shown_all pieces)))
    ∙ (ap (λ s. before (take at (shown_all pieces)) (cut_by s (shown_piece piece) (drop (suc at) (shown_all pieces))
    (cut_rule rule (level_after level (shown_piece piece)) (drop (suc at) (shown_all pieces))))) maybe
    ∙ sym (cut_from-piece rule level at pieces piece below is))

pub cut_from-over : (rule : Rule) (level at : ℕ) (pieces : List KeptPiece) → length pieces ≤ at → Nowhere ≡ cut_from rule level at pieces
cut_from-over rule level at pieces far = sym (ap (λ ps. before (take at (shown_all pieces)) (cut_rule rule level ps)) (none at pieces far) ∙ before-nowhere (take at (shown_all pieces)))
  where
    none : (at : ℕ) (pieces : List KeptPiece) → length pieces ≤ at → drop at (shown_all pieces) ≡ []
    none zero [] far = refl
    none zero (p ∷ pieces) far = absurd (omega (arith, far))
    none (suc at) [] far = refl
    none (suc at) (p ∷ pieces) far = none at pieces (omega (arith, far))

-- the two cuts and their rules
first-by : (b : Bool) (piece : PieceOf) (pieces : List PieceOf) (later : CuttingOf) → cut_by (if b then Here else Apart) piece pieces later ≡ (if b then At [] pieces else with_piece piece later)
first-by true piece pieces later = refl
first-by false piece pieces later = refl

maybe-by : (b : Bool) (piece : PieceOf) (pieces : List PieceOf) (later : CuttingOf) → cut_by (if b then Maybe else Apart) piece pieces later ≡ (if b then Unsure else with_piece piece later)
maybe-by true piece pieces later = refl
maybe-by false piece pieces later = refl

pub rule-first : (mark level : ℕ) (pieces : List PieceOf) → cut_rule (First mark) level pieces ≡ cut_pieces mark pieces
rule-first mark level [] = refl
rule-first mark level (Known byte ∷ pieces) =
    ap (cut_by (if byte == mark then Here else Apart) (Known byte) pieces) (rule-first mark (next_level level byte) pieces) ∙ first-by (byte == mark) (Known byte) pieces (cut_pieces mark pieces)
rule-first mark level (OneOf set ∷ pieces) =
    ap (cut_by (if set mark then Maybe else Apart) (OneOf set) pieces) (rule-first mark level pieces) ∙ maybe-by (set mark) (OneOf set) pieces (cut_pieces mark pieces)
rule-first mark level (AnyOf set ∷ pieces) =
    ap (cut_by (if set mark then Maybe else Apart) (AnyOf set) pieces) (rule-first mark level pieces) ∙ maybe-by (set mark) (AnyOf set) pieces (cut_pieces mark pieces)

pub rule-outside : (mark level : ℕ) (pieces : List PieceOf) → cut_rule (Outside mark) level pieces ≡ cut_level mark level pieces
rule-outside mark level [] = refl
rule-outside mark level (Known byte ∷ pieces) =
    ap (cut_by (if byte == mark && level == 0 then Here else Apart) (Known byte) pieces) (rule-outside mark (next_level level byte) pieces)
    ∙ first-by (byte == mark && level == 0) (Known byte) pieces (cut_level mark (next_level level byte) pieces)
rule-outside mark level (OneOf set ∷ pieces) =
    ap (cut_by (if may_cut mark level set then Maybe else Apart) (OneOf set) pieces) (rule-outside mark level pieces)
    ∙ maybe-by (may_cut mark level set) (OneOf set) pieces (cut_level mark level pieces)
rule-outside mark level (AnyOf set ∷ pieces) =
    ap (cut_by (if may_cut mark level set then Maybe else Apart) (AnyOf set) pieces) (rule-outside mark level pieces)
    ∙ maybe-by (may_cut mark level set) (AnyOf set) pieces (cut_level mark level pieces)

-- the parts of pieces at their first known comma
abbrev pub IsSplit : ℕ → List PieceOf → CuttingOf → Type 0
IsSplit level pieces Nowhere = split_pieces level pieces ≡ pieces ∷ []
IsSplit level pieces Unsure = ⊥
IsSplit level pieces (At part rest) = (split_pieces level pieces ≡ part ∷ split_pieces 0 rest) × (length rest < length pieces)

split-push : (level next : ℕ) (piece : PieceOf) (pieces : List PieceOf) → split_pieces level (piece ∷ pieces) ≡ onto_first piece (split_pieces next pieces)
    → (cutting : CuttingOf) → IsSplit next pieces cutting → IsSplit level (piece ∷ pieces) (with_piece piece cutting)
split-push level next piece pieces is Nowhere split = is ∙ ap (onto_first piece) split
split-push level next piece pieces is Unsure split = split
split-push level next piece pieces is (At part rest) split = (is ∙ ap (onto_first piece) split.0, omega (arith, split.1))

pub split-comma : (level : ℕ) (pieces : List PieceOf) → IsSplit level pieces (cut_rule Comma level pieces)
unfolding split_pieces
split-comma level [] = refl
split-comma level (Known byte ∷ pieces) = by (byte == 44 && level == 0) refl (split-comma (next_level level byte) pieces)
  where
    known : (b : Bool) → (byte == 44 && level == 0) ≡ b → split_pieces level (Known byte ∷ pieces)
        ≡ (if b then [] ∷ split_pieces (next_level level byte) pieces else onto_first (Known byte) (split_pieces (next_level level byte) pieces))
    known b is = ap (λ t. if t then [] ∷ split_pieces (next_level level byte) pieces else onto_first (Known byte) (split_pieces (next_level level byte) pieces)) is

    by : (b : Bool) → (byte == 44 && level == 0) ≡ b → IsSplit (next_level level byte) pieces (cut_rule Comma (next_level level byte) pieces)
        → IsSplit level (Known byte ∷ pieces) (cut_by (if b then Here else Apart) (Known byte) pieces (cut_rule Comma (next_level level byte) pieces))
    by true is later =
        let both = and-both (byte == 44) (level == 0) is in
        let start : next_level level byte ≡ 0 = (λ i. next_level (eqb-true level 0 both.1 i) (eqb-true byte 44 both.0 i)) in
        (known true is ∙ ap (λ n. [] ∷ split_pieces n pieces) start, omega arith)
    by false is later = split-push level (next_level level byte) (Known byte) pieces (known false is) (cut_rule Comma (next_level level byte) pieces) later
split-comma level (OneOf set ∷ pieces) = split-push level level (OneOf set) pieces refl (cut_rule Comma level pieces) (split-comma level pieces)
split-comma level (AnyOf set ∷ pieces) = split-push level level (AnyOf set) pieces refl (cut_rule Comma level pieces) (split-comma level pieces)

-- the last piece decides where the last cut is, or the pieces before it do
abbrev pub last_by : Stand → List PieceOf → CuttingOf → CuttingOf
last_by Here pieces later = At pieces []
last_by Maybe pieces later = Unsure
last_by Apart pieces later = later

last-one : (mark : ℕ) (piece : PieceOf) → cut_last mark (piece ∷ []) ≡ last_by (stand_of (First mark) 0 piece) [] Nowhere
last-one mark (Known byte) = by (byte == mark)
  where
    by : (b : Bool) → (if b then At [] [] else Nowhere) ≡ last_by (if b then Here else Apart) [] Nowhere
    by true = refl
    by false = refl
last-one mark (OneOf set) = by (set mark)
  where
    by : (b : Bool) → (if b then Unsure else Nowhere) ≡ last_by (if b then Maybe else Apart) [] Nowhere
    by true = refl
    by false = refl
last-one mark (AnyOf set) = by (set mark)
  where
    by : (b : Bool) → (if b then Unsure else Nowhere) ≡ last_by (if b then Maybe else Apart) [] Nowhere
    by true = refl
    by false = refl

last-known : (mark byte : ℕ) (s : Stand) (pieces : List PieceOf) (later : CuttingOf) → last_known mark byte (last_by s pieces later) ≡ last_by s (Known byte ∷ pieces) (last_known mark byte later)
last-known mark byte Here pieces later = refl
last-known mark byte Maybe pieces later = refl
last-known mark byte Apart pieces later = refl

last-unknown : (mark : ℕ) (set : Bytes) (piece : PieceOf) (s : Stand) (pieces : List PieceOf) (later : CuttingOf)
    → last_unknown mark set piece (last_by s pieces later) ≡ last_by s (piece ∷ pieces) (last_unknown mark set piece later)
last-unknown mark set piece Here pieces later = refl
last-unknown mark set piece Maybe pieces later = refl
last-unknown mark set piece Apart pieces later = refl

pub last-push : (mark : ℕ) (pieces : List PieceOf) (piece : PieceOf) → cut_last mark (pieces ++ piece ∷ []) ≡ last_by (stand_of (First mark) 0 piece) pieces (cut_last mark pieces)
last-push mark [] piece = last-one mark piece
last-push mark (Known byte ∷ pieces) piece =
    ap (last_known mark byte) (last-push mark pieces piece) ∙ last-known mark byte (stand_of (First mark) 0 piece) pieces (cut_last mark pieces)
last-push mark (OneOf set ∷ pieces) piece =
    ap (last_unknown mark set (OneOf set)) (last-push mark pieces piece) ∙ last-unknown mark set (OneOf set) (stand_of (First mark) 0 piece) pieces (cut_last mark pieces)
last-push mark (AnyOf set ∷ pieces) piece =
    ap (last_unknown mark set (AnyOf set)) (last-push mark pieces piece) ∙ last-unknown mark set (AnyOf set) (stand_of (First mark) 0 piece) pieces (cut_last mark pieces)

-- the same for pieces as they are kept
pub last-kept : (mark : ℕ) (left front : List KeptPiece) (last : KeptPiece) → left ≡ front ++ last ∷ []
    → cut_last mark (shown_all left) ≡ last_by (stand_of (First mark) 0 (shown_piece last)) (shown_all front) (cut_last mark (shown_all front))
last-kept mark left front last is = ap (λ ps. cut_last mark (shown_all ps)) is ∙ (ap (cut_last mark) (map-append shown_piece front (last ∷ [])) ∙ last-push mark (shown_all front) (shown_piece last))

-- the pieces from a place on
pub from-place : (at : ℕ) (pieces : List KeptPiece) (piece : KeptPiece) → at < length pieces → piece ≡ slice_index_or pieces at piece
    → drop at (shown_all pieces) ≡ shown_piece piece ∷ drop (suc at) (shown_all pieces)
from-place at [] piece below is = absurd (omega (arith, below))
from-place zero (p ∷ pieces) piece below is = ap (λ (x : KeptPiece). shown_piece x ∷ shown_all pieces) (sym is)
from-place (suc at) (p ∷ pieces) piece below is = from-place at pieces piece (omega (arith, below)) is

pub from-end : (at : ℕ) (pieces : List KeptPiece) → length pieces ≤ at → drop at (shown_all pieces) ≡ []
from-end zero [] far = refl
from-end zero (p ∷ pieces) far = absurd (omega (arith, far))
from-end (suc at) [] far = refl
from-end (suc at) (p ∷ pieces) far = from-end at pieces (omega (arith, far))

-- pieces are clean if the first is, and those after it are
not-any : (a b c : Bool) → (not a && not b && not c) ≡ not (a || b || c)
not-any true b c = refl
not-any false true c = refl
not-any false false c = refl

clean-first : (level : ℕ) (piece : PieceOf) (pieces : List PieceOf) → are_clean level (piece ∷ pieces) ≡ (is_clean_piece level piece && are_clean (level_after level piece) pieces)
clean-first level (Known byte) pieces = refl
clean-first level (OneOf set) pieces = ap (λ b. b && are_clean level pieces) (not-any (set 40) (set 41) (set 44 && level == 0))
clean-first level (AnyOf set) pieces = ap (λ b. b && are_clean level pieces) (not-any (set 40) (set 41) (set 44 && level == 0))

pub clean-at : (level at : ℕ) (pieces : List KeptPiece) (piece : KeptPiece) → at < length pieces → piece ≡ slice_index_or pieces at piece
    → are_clean level (drop at (shown_all pieces)) ≡ (is_clean_piece level (shown_piece piece) && are_clean (level_after level (shown_piece piece)) (drop (suc at) (shown_all pieces)))
clean-at level at pieces piece below is =
    ap (are_clean level) (from-place at pieces piece below is) ∙ clean-first level (shown_piece piece) (drop (suc at) (shown_all pieces))

-- a known text before a cut
abbrev pub with_bytes : List ℕ → Option (List ℕ × List PieceOf) → Option (List ℕ × List PieceOf)
with_bytes name cut = option_map (λ c. (name ++ c.0, c.1)) cut

with_bytes-push : (name : List ℕ) (byte : ℕ) (cut : Option (List ℕ × List PieceOf)) → with_bytes name (with_byte byte cut) ≡ with_bytes (name ++ byte ∷ []) cut
with_bytes-push name byte None = refl
with_bytes-push name byte (Some cut) = (λ i. Some (sym (append_assoc name (byte ∷ []) cut.0) i, cut.1))

-- the pieces before a place are known and none is the byte, so the cut comes after them
pub record IsKnownFront (mark at : ℕ) (pieces : List KeptPiece) : Type 0 where
  pub name : List ℕ
  pub front : take at (shown_all pieces) ≡ exactly name
  pub cut : cut_known mark (shown_all pieces) ≡ with_bytes name (cut_known mark (drop at (shown_all pieces)))

pub front-none : (mark : ℕ) (pieces : List KeptPiece) → IsKnownFront mark 0 pieces
front-none mark pieces = record { name = []; front = refl; cut = by (cut_known mark (shown_all pieces)) }
  where
    by : (o : Option (List ℕ × List PieceOf)) → o ≡ with_bytes [] o
    by None = refl
    by (Some cut) = refl

exactly-push : (name : List ℕ) (byte : ℕ) → exactly (name ++ byte ∷ []) ≡ exactly name ++ Known byte ∷ []
exactly-push [] byte = refl
exactly-push (b ∷ name) byte = ap (λ ps. Known b ∷ ps) (exactly-push name byte)

take-push : (at : ℕ) (pieces : List KeptPiece) (piece : KeptPiece) → at < length pieces → piece ≡ slice_index_or pieces at piece
    → take (suc at) (shown_all pieces) ≡ take at (shown_all pieces) ++ shown_piece piece ∷ []
take-push at [] piece below is = absurd (omega (arith, below))
take-push zero (p ∷ pieces) piece below is = ap (λ (x : KeptPiece). shown_piece x ∷ []) (sym is)
take-push (suc at) (p ∷ pieces) piece below is = ap (λ ps. shown_piece p ∷ ps) (take-push at pieces piece (omega (arith, below)) is)

known-at : (mark byte : ℕ) (b : Bool) → (byte == mark) ≡ b → (rest : List PieceOf) → cut_known mark (Known byte ∷ rest) ≡ (if b then Some ([], rest) else with_byte byte (cut_known mark rest))
known-at mark byte b is rest = ap (λ t. if t then Some ([], rest) else with_byte byte (cut_known mark rest)) is

pub front-push : (mark at byte : ℕ) (pieces : List KeptPiece) (piece : KeptPiece) → at < length pieces → piece ≡ slice_index_or pieces at piece → shown_piece piece ≡ Known byte
    → (byte == mark) ≡ false → IsKnownFront mark at pieces → IsKnownFront mark (suc at) pieces
front-push mark at byte pieces piece below is known other front = record {
  name = front.name ++ byte ∷ [];
  front = take-push at pieces piece below is ∙ ((λ i. front.front i ++ known i ∷ []) ∙ sym (exactly-push front.name byte));
  cut = front.cut ∙ (ap (λ ps. with_bytes front.name (cut_known mark ps)) (from-place at pieces piece below is ∙ ap (λ p. p ∷ drop (suc at) (shown_all pieces)) known)
      ∙ (ap (with_bytes front.name) (known-at mark byte false other (drop (suc at) (shown_all pieces)))
      ∙ with_bytes-push front.name byte (cut_known mark (drop (suc at) (shown_all pieces)))));
}

pub front-here : (mark at byte : ℕ) (pieces : List KeptPiece) (piece : KeptPiece) → at < length pieces → piece ≡ slice_index_or pieces at piece → shown_piece piece ≡ Known byte
    → (byte == mark) ≡ true → (front : IsKnownFront mark at pieces) → cut_known mark (shown_all pieces) ≡ Some (front.name, drop (suc at) (shown_all pieces))
front-here mark at byte pieces piece below is known same front =
    front.cut ∙ (ap (λ ps. with_bytes front.name (cut_known mark ps)) (from-place at pieces piece below is ∙ ap (λ p. p ∷ drop (suc at) (shown_all pieces)) known)
    ∙ (ap (with_bytes front.name) (known-at mark byte true same (drop (suc at) (shown_all pieces)))
    ∙ (λ i. Some (append-nil front.name i, drop (suc at) (shown_all pieces)))))

pub front-unknown : (mark at : ℕ) (pieces : List KeptPiece) (piece : KeptPiece) → at < length pieces → piece ≡ slice_index_or pieces at piece
    → byte_of (shown_piece piece) ≡ None → IsKnownFront mark at pieces → cut_known mark (shown_all pieces) ≡ None
front-unknown mark at pieces piece below is unknown front =
    front.cut ∙ (ap (λ ps. with_bytes front.name (cut_known mark ps)) (from-place at pieces piece below is)
    ∙ ap (with_bytes front.name) (none (shown_piece piece) (drop (suc at) (shown_all pieces)) unknown))
  where
    none : (piece : PieceOf) (rest : List PieceOf) → byte_of piece ≡ None → cut_known mark (piece ∷ rest) ≡ None
    none (Known byte) rest is = absurd cc
    none (OneOf set) rest is = refl
    none (AnyOf set) rest is = refl

-- a known piece
pub is-known : (piece : PieceOf) (byte : ℕ) → byte_of piece ≡ Some byte → piece ≡ Known byte
is-known (Known b) byte is = let same : b ≡ byte = cc in ap (λ x. Known x) same
is-known (OneOf set) byte is = absurd cc
is-known (AnyOf set) byte is = absurd cc

pub front-over : (mark at : ℕ) (pieces : List KeptPiece) → length pieces ≤ at → IsKnownFront mark at pieces → cut_known mark (shown_all pieces) ≡ None
front-over mark at pieces far front = front.cut ∙ ap (λ ps. with_bytes front.name (cut_known mark ps)) (from-end at pieces far)
