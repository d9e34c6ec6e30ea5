-- Reading a text into pieces.
use Rattle.std.proofs.Common.{◌≡◌, ◌≤◌, ◌+◌, ℕ, List, [], ◌∷◌, ◌++◌, length, take, drop, sym, ap, ◌∙◌, subst, arith}
use Rattle.std.proofs.lemmas.List.{length-append, length-take}
use Rattle.dp_conf.specs.declared.groups.Mark.{Mark}
use Rattle.dp_conf.specs.declared.groups.Mark.TheVariants.{End, Opening, Byte}
use Rattle.dp_conf.specs.Groups.{opener}
use Rattle.dp_conf.specs.GroupsRead.{levels, reading_of, with_mark}
use Rattle.dp_pieces.specs.Pieces.{Known}
use Rattle.dp_pieces.specs.Texts.{GroupMeaning, pieces_by}
use Rattle.dp_pieces.specs.steps.Reader.{OpenOf, Read, after, after_group, kinds_of, with_group}
use Rattle.dp_pieces.specs.steps.ReadSoFar.{StandIn}
use Rattle.dp_pieces.proofs.ReaderLemmas.{come, come-mark, come-over, come-text}

pub record IsOnWay (groups : GroupMeaning) (text : List ℕ) (read : Read) (rest : List ℕ) : Type 0 where
  pub comes : come groups read.waiting read.pieces (levels rest (kinds_of read.waiting) 0) ≡ pieces_by groups (reading_of text)
  pub stands : StandIn read.waiting (length read.pieces)

stand-more : (waiting : List OpenOf) (size more : ℕ) → size ≤ more → StandIn waiting size → StandIn waiting more
stand-more [] size more larger stand = tt
stand-more (w ∷ waiting) size more larger stand = (omega (arith, stand.0), stand.1)

stand-after : (groups : GroupMeaning) (m : Mark) (read : Read) → StandIn read.waiting (length read.pieces) → StandIn (after groups m read).waiting (length (after groups m read).pieces)
stand-after groups End read stand = by read.waiting stand
  where
    by : (ws : List OpenOf) → StandIn ws (length read.pieces) → StandIn (after_group groups ws read.pieces).waiting (length (after_group groups ws read.pieces).pieces)
    by [] stand = tt
    by (w ∷ ws) stand =
        stand-more ws w.start (length (with_group groups w read.pieces))
        (omega (arith, stand.0, length-append (take w.start read.pieces) (groups w.kind (drop (w.start + 2) read.pieces)), length-take w.start read.pieces)) stand.1
stand-after groups (Opening kind) read stand = (omega (arith, length-append read.pieces (Known 36 ∷ Known (opener kind) ∷ [])), stand)
stand-after groups (Byte byte) read stand =
    stand-more read.waiting (length read.pieces) (length (read.pieces ++ Known byte ∷ [])) (omega (arith, length-append read.pieces (Known byte ∷ []))) stand

pub on_way-first : (groups : GroupMeaning) (text : List ℕ) → IsOnWay groups text (record { pieces = []; waiting = [] }) text
on_way-first groups text = record { comes = come-text groups text; stands = tt }

pub on_way-after : (groups : GroupMeaning) (text : List ℕ) (before next : Read) (rest beyond : List ℕ) (mark : Mark) → IsOnWay groups text before rest
    → levels rest (kinds_of before.waiting) 0 ≡ with_mark mark (levels beyond) 0 (kinds_of before.waiting) → next ≡ after groups mark before → IsOnWay groups text next beyond
on_way-after groups text before next rest beyond mark on marked is =
    subst (λ read. IsOnWay groups text read beyond) (sym is) (record {
      comes = come-mark groups mark before (levels beyond) ∙ (ap (come groups before.waiting before.pieces) (sym marked) ∙ on.comes);
      stands = stand-after groups mark before on.stands;
    })

pub on_way-over : (groups : GroupMeaning) (text : List ℕ) (read : Read) (rest : List ℕ) → IsOnWay groups text read rest → rest ≡ [] → read.pieces ≡ pieces_by groups (reading_of text)
on_way-over groups text read rest on is =
    sym (come-over groups read.waiting read.pieces) ∙ (ap (λ r. come groups read.waiting read.pieces (levels r (kinds_of read.waiting) 0)) (sym is) ∙ on.comes)
