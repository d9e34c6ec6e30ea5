-- The pieces read so far, the waiting openings in them, and the text still to be read give the pieces of the whole.
use Rattle.std.proofs.Common.{◌≡◌, ℕ, List, [], ◌∷◌, ◌++◌, length, append_assoc, sym, ap, ◌∙◌}
use Rattle.std.proofs.lemmas.List.{append-nil}
use Rattle.std.proofs.Math.Seq.{take-append_seam, drop-append-add}
use Rattle.dp_conf.proofs.GroupsLemmas.{levels-last}
use Rattle.dp_conf.specs.declared.groups.GroupKind.{GroupKind}
use Rattle.dp_conf.specs.declared.groups.Mark.{Mark}
use Rattle.dp_conf.specs.declared.groups.Mark.TheVariants.{End, Opening, Byte}
use Rattle.dp_conf.specs.Groups.{Over, opener}
use Rattle.dp_conf.specs.GroupsRead.{Levels, Last, Within, with_byte, with_opening, with_mark, levels, outer_of, reading_of}
use Rattle.dp_pieces.specs.Pieces.{Known, PieceOf}
use Rattle.dp_pieces.specs.Texts.{GroupMeaning, pieces_by}
use Rattle.dp_pieces.specs.steps.Reader.{OpenOf, Read, after, after_group, kinds_of, with_group}

module _ (groups : GroupMeaning) where
  -- the pieces of the whole, given those read so far, the waiting openings in them, and the levels after
  abbrev pub come : List OpenOf → List PieceOf → Levels → List PieceOf
  come waiting pieces (Last rest) = pieces ++ pieces_by groups rest
  come [] pieces (Within rest outer) = come [] (pieces ++ pieces_by groups rest) outer
  come (w ∷ waiting) pieces (Within rest outer) = come waiting (with_group groups w (pieces ++ pieces_by groups rest)) outer

  come-with_byte : (waiting : List OpenOf) (pieces : List PieceOf) (byte : ℕ) (l : Levels) → come waiting (pieces ++ Known byte ∷ []) l ≡ come waiting pieces (with_byte byte l)
  unfolding pieces_by
  come-with_byte waiting pieces byte (Last rest) = append_assoc pieces (Known byte ∷ []) (pieces_by groups rest)
  come-with_byte [] pieces byte (Within rest outer) = ap (λ ps. come [] ps outer) (append_assoc pieces (Known byte ∷ []) (pieces_by groups rest))
  come-with_byte (w ∷ waiting) pieces byte (Within rest outer) =
      ap (λ ps. come waiting (with_group groups w ps) outer) (append_assoc pieces (Known byte ∷ []) (pieces_by groups rest))

  -- a group whose opening was read last
  group_at_end : (pieces body : List PieceOf) (kind : GroupKind)
      → with_group groups (record { kind = kind; start = length pieces }) ((pieces ++ Known 36 ∷ Known (opener kind) ∷ []) ++ body) ≡ pieces ++ groups kind body
  group_at_end pieces body kind =
      ap (with_group groups (record { kind = kind; start = length pieces })) (append_assoc pieces (Known 36 ∷ Known (opener kind) ∷ []) body)
      ∙ (λ i. take-append_seam pieces (Known 36 ∷ Known (opener kind) ∷ body) i ++ groups kind (drop-append-add pieces (Known 36 ∷ Known (opener kind) ∷ body) 2 i))

  come-with_opening : (waiting : List OpenOf) (pieces : List PieceOf) (kind : GroupKind) (l : Levels)
      → come (record { kind = kind; start = length pieces } ∷ waiting) (pieces ++ Known 36 ∷ Known (opener kind) ∷ []) l ≡ come waiting pieces (with_opening kind l)
  unfolding pieces_by
  come-with_opening waiting pieces kind (Last rest) = append_assoc pieces (Known 36 ∷ Known (opener kind) ∷ []) (pieces_by groups rest)
  come-with_opening waiting pieces kind (Within inside (Last rest)) =
      ap (λ ps. ps ++ pieces_by groups rest) (group_at_end pieces (pieces_by groups inside) kind)
      ∙ append_assoc pieces (groups kind (pieces_by groups inside)) (pieces_by groups rest)
  come-with_opening [] pieces kind (Within inside (Within rest outer)) =
      ap (λ ps. come [] (ps ++ pieces_by groups rest) outer) (group_at_end pieces (pieces_by groups inside) kind)
      ∙ ap (λ ps. come [] ps outer) (append_assoc pieces (groups kind (pieces_by groups inside)) (pieces_by groups rest))
  come-with_opening (w ∷ waiting) pieces kind (Within inside (Within rest outer)) =
      ap (λ ps. come waiting (with_group groups w (ps ++ pieces_by groups rest)) outer) (group_at_end pieces (pieces_by groups inside) kind)
      ∙ ap (λ ps. come waiting (with_group groups w ps) outer) (append_assoc pieces (groups kind (pieces_by groups inside)) (pieces_by groups rest))

  come-end : (waiting : List OpenOf) (pieces : List PieceOf) (beyond : List GroupKind → ℕ → Levels)
      → come (after_group groups waiting pieces).waiting (after_group groups waiting pieces).pieces (beyond (kinds_of (after_group groups waiting pieces).waiting) 0)
      ≡ come waiting pieces (Within Over (beyond (outer_of (kinds_of waiting)) 0))
  unfolding pieces_by
  come-end [] pieces beyond = ap (λ ps. come [] ps (beyond [] 0)) (sym (append-nil pieces))
  come-end (w ∷ waiting) pieces beyond = ap (λ ps. come waiting (with_group groups w ps) (beyond (kinds_of waiting) 0)) (sym (append-nil pieces))

  -- a mark does not change the pieces of the whole
  pub come-mark : (m : Mark) (read : Read) (beyond : List GroupKind → ℕ → Levels)
      → come (after groups m read).waiting (after groups m read).pieces (beyond (kinds_of (after groups m read).waiting) 0)
      ≡ come read.waiting read.pieces (with_mark m beyond 0 (kinds_of read.waiting))
  come-mark End read beyond = come-end read.waiting read.pieces beyond
  come-mark (Opening kind) read beyond = come-with_opening read.waiting read.pieces kind (beyond (kind ∷ kinds_of read.waiting) 0)
  come-mark (Byte byte) read beyond = come-with_byte read.waiting read.pieces byte (beyond (kinds_of read.waiting) 0)

  -- nothing is left
  pub come-over : (waiting : List OpenOf) (pieces : List PieceOf) → come waiting pieces (levels [] (kinds_of waiting) 0) ≡ pieces
  unfolding levels pieces_by
  come-over waiting pieces = append-nil pieces

  -- nothing has been read yet
  pub come-text : (text : List ℕ) → come [] [] (levels text [] 0) ≡ pieces_by groups (reading_of text)
  come-text text = ap (come [] []) (levels-last text)
