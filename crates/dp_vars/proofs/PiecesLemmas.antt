-- The pieces of a text, and the text still to be read, give the expansion of the whole.
use Rattle.std.proofs.Common.{◌≡◌, ◌≤◌, ◌+◌, ◌-◌, ℕ, zero, suc, Bool, true, false, cond, List, [], ◌∷◌, ◌++◌, Some, length, take, drop, fold, reverse, length-append, append_assoc, refl, sym, ap, subst, ◌∙◌, arith, nat_lt}
use Rattle.std.proofs.lemmas.Bool.{ltb-false}
use Rattle.std.proofs.lemmas.List.{append-nil, drop-drop, drop_at, reverse-append, take_rest}
use Rattle.dp_conf.proofs.GroupsLemmas.{levels-text_of_reading, levels-last, printed_levels}
use Rattle.dp_conf.specs.declared.groups.GroupKind.{GroupKind}
use Rattle.dp_conf.specs.declared.groups.Mark.{Mark}
use Rattle.dp_conf.specs.declared.groups.Mark.TheVariants.{End, Opening, Byte}
use Rattle.dp_conf.specs.Groups.{opener, closer, text_of_reading, Over}
use Rattle.dp_conf.specs.GroupsRead.{Levels, Last, Within, with_byte, with_opening, with_mark, levels, outer_of, reading_of}
use Rattle.dp_vars.specs.Expanding.{WrittenSoFar, after_group, after}
use Rattle.dp_vars.specs.steps.Expanding.{kinds_of, AreWritten}
use Rattle.dp_vars.specs.Heads.{head_seen, part_seen}
use Rattle.dp_vars.specs.Pieces.{Come, with_bytes, past, blank, past_all}
use Rattle.dp_vars.specs.steps.Pieces.{ReadSoFar, past_last, written_in, waiting_after, StandsAfter, GoesAfter, IsGroup, opening_last, opening_of, without_last, with_run, with_group}
use Rattle.dp_vars.specs.Functions.{FunctionTable}
use Rattle.dp_vars.specs.Sights.{Sight}
use Rattle.dp_vars.specs.Spans.{text_at}
use Rattle.dp_vars.specs.steps.Spans.{span_at}
use Rattle.dp_vars.specs.Values.{expansion_with, value_read}
use Rattle.dp_vars.specs.Unknown.{earlier, unknown_group, unknown_of}
use Rattle.dp_vars.specs.declared.head.Head.TheVariants as heads
use Rattle.dp_vars.specs.declared.expanding.WaitingOpening.{WaitingOpening}
use Rattle.dp_vars.specs.declared.text_piece.TextPiece.{TextPiece}
use Rattle.dp_vars.specs.declared.text_piece.TextPiece.TheVariants.{Run, Name, Call, Other, Part, Known, Empty, Begins, Ends}
use Rattle.dp_vars.specs.declared.span.Span.{Span}
use Rattle.dp_vars.proofs.UnknownLemmas.{first, first-mark, first-over, first-text, body_at_end}
use Rattle.dp_vars.proofs.ExpandingLemmas.{come, come-mark, come-over, come-text, value_at_end, StandIn-more, AreWritten-after}

-- ---- the text at a mark

-- the bytes of a mark inside these groups
abbrev pub mark_bytes : Mark → List GroupKind → List ℕ
mark_bytes (Byte byte) kinds = byte ∷ []
mark_bytes (Opening kind) kinds = 36 ∷ opener kind ∷ []
mark_bytes End [] = []
mark_bytes End (kind ∷ kinds) = closer kind ∷ []

byte-text_of_reading : (kinds : List GroupKind) (byte : ℕ) (l : Levels) → printed_levels kinds (with_byte byte l) ≡ byte ∷ printed_levels kinds l
unfolding text_of_reading
byte-text_of_reading kinds byte (Last rest) = refl
byte-text_of_reading [] byte (Within rest outer) = refl
byte-text_of_reading (kind ∷ kinds) byte (Within rest outer) = refl

opening-text_of_reading : (kinds : List GroupKind) (kind : GroupKind) (l : Levels)
    → printed_levels kinds (with_opening kind l) ≡ 36 ∷ opener kind ∷ printed_levels (kind ∷ kinds) l
unfolding text_of_reading
opening-text_of_reading kinds kind (Last rest) = refl
opening-text_of_reading kinds kind (Within inside (Last rest)) = refl
opening-text_of_reading [] kind (Within inside (Within rest outer)) = refl
opening-text_of_reading (k ∷ kinds) kind (Within inside (Within rest outer)) =
    ap (λ bytes. 36 ∷ opener kind ∷ bytes) (append_assoc (text_of_reading inside) (closer kind ∷ text_of_reading rest) (closer k ∷ printed_levels kinds outer))

-- outside groups nothing ends
no_end : (rest beyond : List ℕ) → levels rest [] 0 ≡ with_mark End (levels beyond) 0 [] → ⊥
no_end rest beyond is = let both : Last (reading_of rest) ≡ Within Over (levels beyond [] 0) = sym (levels-last rest) ∙ is in cc

-- a text begins with the bytes of its first mark
pub text-mark : (m : Mark) (kinds : List GroupKind) (rest beyond : List ℕ) → levels rest kinds 0 ≡ with_mark m (levels beyond) 0 kinds
    → rest ≡ mark_bytes m kinds ++ beyond
unfolding text_of_reading
text-mark (Byte byte) kinds rest beyond is =
    sym (levels-text_of_reading rest kinds 0) ∙ ap (printed_levels kinds) is ∙ byte-text_of_reading kinds byte (levels beyond kinds 0)
    ∙ ap (λ bytes. byte ∷ bytes) (levels-text_of_reading beyond kinds 0)
text-mark (Opening kind) kinds rest beyond is =
    sym (levels-text_of_reading rest kinds 0) ∙ ap (printed_levels kinds) is ∙ opening-text_of_reading kinds kind (levels beyond (kind ∷ kinds) 0)
    ∙ ap (λ bytes. 36 ∷ opener kind ∷ bytes) (levels-text_of_reading beyond (kind ∷ kinds) 0)
text-mark End [] rest beyond is = absurd (no_end rest beyond is)
text-mark End (kind ∷ kinds) rest beyond is =
    sym (levels-text_of_reading rest (kind ∷ kinds) 0) ∙ ap (printed_levels (kind ∷ kinds)) is ∙ ap (λ bytes. closer kind ∷ bytes) (levels-text_of_reading beyond kinds 0)

-- ---- plain bytes

take-next : (n : ℕ) (xs : List ℕ) (b : ℕ) (ys : List ℕ) → drop n xs ≡ b ∷ ys → take (suc n) xs ≡ take n xs ++ b ∷ []
take-next zero xs b ys is = ap (take 1) is
take-next (suc n) [] b ys is = cc
take-next (suc n) (x ∷ xs) b ys is = ap (λ bytes. x ∷ bytes) (take-next n xs b ys is)

-- a byte after plain bytes is one of them
text_at-next : (text : List ℕ) (run : Span) (b : ℕ) (beyond : List ℕ) → run.from ≤ run.to → drop run.to text ≡ b ∷ beyond
    → text_at text (record { from = run.from; to = run.to + 1 }) ≡ text_at text run ++ b ∷ []
text_at-next text run b beyond ordered is =
    let size : run.to + 1 - run.from ≡ suc (run.to - run.from) = omega arith in
    let end : run.from + (run.to - run.from) ≡ run.to = omega arith in
    ap (λ n. take n (drop run.from text)) size
    ∙ take-next (run.to - run.from) (drop run.from text) b beyond (drop-drop (run.to - run.from) run.from text ∙ ap (λ n. drop n text) end ∙ is)

text_at-at : (text : List ℕ) (place : ℕ) → text_at text (span_at place) ≡ []
text_at-at text place = let none : place - place ≡ 0 = omega arith in ap (λ n. take n (drop place text)) none

-- ---- what is written after a mark

with_none : (written : WrittenSoFar) (bytes : List ℕ) → bytes ≡ [] → with_bytes written bytes ≡ written
with_none written bytes is = ap (with_bytes written) is ∙ ap (λ bs. record written { bytes = bs }) (append-nil written.bytes)

text_at-none : (text : List ℕ) (run : Span) → run.to ≤ run.from → text_at text run ≡ []
text_at-none text run none = let size : run.to - run.from ≡ 0 = omega arith in ap (λ n. take n (drop run.from text)) size

AreWritten-more : (written : WrittenSoFar) (bytes : List ℕ) → AreWritten written → AreWritten (with_bytes written bytes)
AreWritten-more written bytes stand =
    StandIn-more written.waiting (length written.bytes) (length (written.bytes ++ bytes)) (omega (arith, length-append written.bytes bytes)) stand

module _ (functions : FunctionTable) (sight : Sight) (text : List ℕ) where
  -- plain bytes are written even if they make a piece
  past-run : (run : Span) (pieces : List TextPiece) → past_last functions sight text (with_run run pieces) ≡ with_bytes (past_last functions sight text pieces) (text_at text run)
  past-run run pieces = by (nat_lt run.from run.to) refl
    where
      by : (b : Bool) → nat_lt run.from run.to ≡ b
          → past_last functions sight text (cond b (Run run ∷ pieces) pieces) ≡ with_bytes (past_last functions sight text pieces) (text_at text run)
      by true is = refl
      by false is = sym (with_none (past_last functions sight text pieces) (text_at text run) (text_at-none text run (ltb-false run.from run.to is)))

  -- after a group that contains no group, which replaces its opening
  past-leaf : (run : Span) (place : ℕ) (kind : GroupKind) (written : WrittenSoFar)
      → with_bytes (with_group functions sight kind written (text_at text run)) (text_at text (span_at place))
      ≡ after functions sight End (with_bytes (after functions sight (Opening kind) written) (text_at text run))
  past-leaf run place kind written =
      with_none (with_group functions sight kind written (text_at text run)) (text_at text (span_at place)) (text_at-at text place)
      ∙ (λ i. record {
        bytes = sym (value_at_end functions sight written.bytes (text_at text run) kind) i;
        waiting = written.waiting;
        unknown = earlier written.unknown (unknown_group functions sight kind (sym (body_at_end functions sight written.bytes (text_at text run) kind) i));
      })

  -- pieces with the last one first are the same pieces
  onto : WrittenSoFar → List TextPiece → WrittenSoFar
  onto written [] = written
  onto written (piece ∷ pieces) = past functions sight text (onto written pieces) piece

  onto-blank : (pieces : List TextPiece) → past_last functions sight text pieces ≡ onto blank pieces
  unfolding onto
  onto-blank [] = refl
  onto-blank (piece ∷ pieces) = ap (λ w. past functions sight text w piece) (onto-blank pieces)

  onto-append : (written : WrittenSoFar) (xs ys : List TextPiece) → onto written (xs ++ ys) ≡ onto (onto written ys) xs
  unfolding onto
  onto-append written [] ys = refl
  onto-append written (x ∷ xs) ys = ap (λ w. past functions sight text w x) (onto-append written xs ys)

  onto-reverse : (written : WrittenSoFar) (pieces : List TextPiece) → onto written (reverse pieces) ≡ fold (past functions sight text) written pieces
  unfolding onto
  onto-reverse written [] = refl
  onto-reverse written (piece ∷ pieces) =
      ap (onto written) (reverse-append (piece ∷ []) pieces) ∙ onto-append written (reverse pieces) (piece ∷ []) ∙ onto-reverse (past functions sight text written piece) pieces

  pub past-reverse : (pieces : List TextPiece) → past_last functions sight text (reverse pieces) ≡ past_all functions sight text pieces
  past-reverse pieces = onto-blank (reverse pieces) ∙ onto-reverse blank pieces

  -- the waiting openings are within what is written
  pub AreWritten-past : (piece : TextPiece) (written : WrittenSoFar) → AreWritten written → AreWritten (past functions sight text written piece)
  AreWritten-past (Run span) written stand = AreWritten-more written (text_at text span) stand
  AreWritten-past (Name name) written stand = AreWritten-more written (head_seen functions sight text (heads.Name name)) stand
  AreWritten-past (Call function argument) written stand = AreWritten-more written (head_seen functions sight text (heads.Call function argument)) stand
  AreWritten-past (Other call) written stand = AreWritten-more written (head_seen functions sight text (heads.Other call.value.name call.value.argument)) stand
  AreWritten-past (Part cut) written stand = AreWritten-more written (part_seen text cut.value (head_seen functions sight text cut.value.head)) stand
  AreWritten-past (Known known) written stand =
      AreWritten-more written (value_read (functions.expression (text_at text known.value.body)) known.value.value.items) stand
  AreWritten-past Empty written stand = AreWritten-more written [] stand
  AreWritten-past (Begins kind) written stand = AreWritten-after functions sight (Opening kind) written stand
  AreWritten-past Ends written stand = AreWritten-after functions sight End written stand

  -- the waiting openings are within what is written, and the remaining pieces give the whole
  pub record IsWriting (written : WrittenSoFar) (left whole : List TextPiece) : Type 0 where
    pub stands : AreWritten written
    pub comes : fold (past functions sight text) written left ≡ past_all functions sight text whole

  pub writing-first : (whole : List TextPiece) → IsWriting blank whole whole
  writing-first whole = record { stands = tt; comes = refl }

  pub writing-next : (written new : WrittenSoFar) (piece : TextPiece) (left beyond whole : List TextPiece) → left ≡ piece ∷ beyond → new ≡ past functions sight text written piece
      → IsWriting written left whole → IsWriting new beyond whole
  writing-next written new piece left beyond whole left_is new_is writing = record {
    stands = subst AreWritten (sym new_is) (AreWritten-past piece written writing.stands);
    comes = ap (λ w. fold (past functions sight text) w beyond) new_is ∙ ap (fold (past functions sight text) written) (sym left_is) ∙ writing.comes;
  }

-- ---- reading a text into its pieces

-- what is read so far and the rest of the text give the expansion of the text, whatever is seen
pub record IsOnWay (text : List ℕ) (so_far : ReadSoFar) (rest : List ℕ) : Type 0 where
  pub kinds : (functions : FunctionTable) (sight : Sight) → kinds_of (written_in functions sight text so_far).waiting ≡ so_far.waiting
  pub comes : (functions : FunctionTable) (sight : Sight)
      → come functions sight (written_in functions sight text so_far).waiting (written_in functions sight text so_far).bytes (levels rest so_far.waiting 0) ≡ expansion_with functions sight text
  pub first_comes : (functions : FunctionTable) (sight : Sight)
      → first functions sight (written_in functions sight text so_far).waiting (written_in functions sight text so_far).bytes
      (written_in functions sight text so_far).unknown (levels rest so_far.waiting 0)
      ≡ unknown_of functions sight (reading_of text)
  pub begins : so_far.run.from ≤ so_far.run.to
  pub size : so_far.run.to + length rest ≡ length text
  pub is_rest : drop so_far.run.to text ≡ rest

-- a piece that is an opening
is-opening : (kind : GroupKind) (piece : TextPiece) → Some kind ≡ opening_of piece → piece ≡ Begins kind
is-opening kind (Begins other) is = let one : other ≡ kind = cc in ap (λ k. Begins k) one
is-opening kind (Run span) is = cc
is-opening kind (Name name) is = cc
is-opening kind (Call function argument) is = cc
is-opening kind (Other call) is = cc
is-opening kind (Part cut) is = cc
is-opening kind (Known value) is = cc
is-opening kind Empty is = cc
is-opening kind Ends is = cc

-- after the end of a group that contains no group
pub goes-leaf : (text : List ℕ) (place : ℕ) (old : ReadSoFar) (kind : GroupKind) (piece : TextPiece) → Some kind ≡ opening_last old.pieces → IsGroup text kind old.run piece
    → GoesAfter text End place old (record { pieces = piece ∷ without_last old.pieces; waiting = outer_of old.waiting; run = span_at place })
goes-leaf text place old kind piece opening group = record {
  written = λ functions sight. by functions sight old.pieces opening;
  waiting = refl;
  ends = refl;
  begins = omega arith;
}
  where
    by : (functions : FunctionTable) (sight : Sight) (pieces : List TextPiece) → Some kind ≡ opening_last pieces
        → with_bytes (past_last functions sight text (piece ∷ without_last pieces)) (text_at text (span_at place))
        ≡ after functions sight End (with_bytes (past_last functions sight text pieces) (text_at text old.run))
    by functions sight [] is = cc
    by functions sight (last ∷ pieces) is =
        ap (λ w. with_bytes w (text_at text (span_at place))) (group functions sight (past_last functions sight text pieces))
        ∙ past-leaf functions sight text old.run place kind (past_last functions sight text pieces)
        ∙ ap (λ p. after functions sight End (with_bytes (past functions sight text (past_last functions sight text pieces) p) (text_at text old.run)))
        (sym (is-opening kind last is))

-- after the end of a group that contains groups
pub goes-end : (text : List ℕ) (place : ℕ) (old : ReadSoFar)
    → GoesAfter text End place old (record { pieces = Ends ∷ with_run old.run old.pieces; waiting = outer_of old.waiting; run = span_at place })
goes-end text place old = record {
  written = λ functions sight.
      with_none (after functions sight End (past_last functions sight text (with_run old.run old.pieces))) (text_at text (span_at place)) (text_at-at text place)
      ∙ ap (after functions sight End) (past-run functions sight text old.run old.pieces);
  waiting = refl;
  ends = refl;
  begins = omega arith;
}

-- nothing has been read yet
pub on_way-first : (text : List ℕ) → IsOnWay text (record { pieces = []; waiting = []; run = span_at 0 }) text
on_way-first text = record {
  kinds = λ functions sight. refl;
  comes = λ functions sight. come-text functions sight text;
  first_comes = λ functions sight. first-text functions sight text;
  begins = omega arith;
  size = omega arith;
  is_rest = refl;
}

-- everything has been read
pub on_way-over : (text : List ℕ) (so_far : ReadSoFar) (rest : List ℕ) → IsOnWay text so_far rest → rest ≡ []
    → (functions : FunctionTable) (sight : Sight) → Come functions sight text (past_last functions sight text so_far.pieces) so_far.run.from
on_way-over text so_far rest on_way none functions sight = record { bytes = bytes; unknown = unknown }
  where
    tail : drop so_far.run.from text ≡ text_at text so_far.run
    tail =
        let end : length text - so_far.run.from ≡ so_far.run.to - so_far.run.from = let s = on_way.size in let e = ap length none in omega arith in
        sym (take_rest text so_far.run.from) ∙ ap (λ n. take n (drop so_far.run.from text)) end

    bytes : (past_last functions sight text so_far.pieces).bytes ++ drop so_far.run.from text ≡ expansion_with functions sight text
    bytes =
        ap (λ bytes. (past_last functions sight text so_far.pieces).bytes ++ bytes) tail
        ∙ sym (come-over functions sight (written_in functions sight text so_far).waiting (written_in functions sight text so_far).bytes)
        ∙ (λ i. come functions sight (written_in functions sight text so_far).waiting (written_in functions sight text so_far).bytes (levels (sym none i) (on_way.kinds functions sight i) 0))
        ∙ on_way.comes functions sight

    unknown : (past_last functions sight text so_far.pieces).unknown ≡ unknown_of functions sight (reading_of text)
    unknown =
        sym (first-over functions sight (written_in functions sight text so_far).waiting (written_in functions sight text so_far).bytes (written_in functions sight text so_far).unknown)
        ∙ (λ i. first functions sight (written_in functions sight text so_far).waiting (written_in functions sight text so_far).bytes
        (written_in functions sight text so_far).unknown (levels (sym none i) (on_way.kinds functions sight i) 0))
        ∙ on_way.first_comes functions sight

-- a plain byte comes after those before it
stands-mark : (m : Mark) (kinds : List GroupKind) (text rest beyond : List ℕ) (run : Span) (place : ℕ) → run.from ≤ run.to → drop run.to text ≡ rest
    → rest ≡ mark_bytes m kinds ++ beyond → place ≡ run.to + length (mark_bytes m kinds) → StandsAfter text run m place
stands-mark End kinds text rest beyond run place ordered is_rest is place_is = tt
stands-mark (Opening kind) kinds text rest beyond run place ordered is_rest is place_is = tt
stands-mark (Byte byte) kinds text rest beyond run place ordered is_rest is place_is =
    ap (λ p. text_at text (record { from = run.from; to = p })) place_is ∙ text_at-next text run byte beyond ordered (is_rest ∙ is)

kinds_of-after : (functions : FunctionTable) (sight : Sight) (m : Mark) (written : WrittenSoFar) → kinds_of (after functions sight m written).waiting ≡ waiting_after m (kinds_of written.waiting)
kinds_of-after functions sight (Opening kind) written = refl
kinds_of-after functions sight (Byte byte) written = refl
kinds_of-after functions sight End written = by written.waiting
  where
    by : (ws : List WaitingOpening) → kinds_of (after_group functions sight ws written.bytes written.unknown).waiting ≡ outer_of (kinds_of ws)
    by [] = refl
    by (w ∷ ws) = refl

module _ (text : List ℕ) (so_far : ReadSoFar) (rest : List ℕ) (m : Mark) (beyond : List ℕ) (on_way : IsOnWay text so_far rest)
    (marked : levels rest so_far.waiting 0 ≡ with_mark m (levels beyond) 0 so_far.waiting) where
  -- the text after the mark, given the size of the mark
  sizes : length rest ≡ length (mark_bytes m so_far.waiting) + length beyond
  sizes = ap length (text-mark m so_far.waiting rest beyond marked) ∙ length-append (mark_bytes m so_far.waiting) beyond

  pub place_is : length text - length beyond ≡ so_far.run.to + length (mark_bytes m so_far.waiting)
  place_is = let e = sizes in let s = on_way.size in omega arith

  pub stands : StandsAfter text so_far.run m (length text - length beyond)
  stands = stands-mark m so_far.waiting text rest beyond so_far.run (length text - length beyond) on_way.begins on_way.is_rest
      (text-mark m so_far.waiting rest beyond marked) place_is

  after_is : drop (length text - length beyond) text ≡ beyond
  after_is =
      ap (λ n. drop n text) place_is
      ∙ sym (drop-drop (length (mark_bytes m so_far.waiting)) so_far.run.to text)
      ∙ ap (drop (length (mark_bytes m so_far.waiting))) (on_way.is_rest ∙ text-mark m so_far.waiting rest beyond marked)
      ∙ drop_at (mark_bytes m so_far.waiting) beyond (length (mark_bytes m so_far.waiting)) refl

  -- a mark has been read
  pub on_way-after : (new : ReadSoFar) → GoesAfter text m (length text - length beyond) so_far new → IsOnWay text new beyond
  on_way-after new goes = record {
    kinds = kinds_new;
    comes = λ functions sight. ap (λ ks. come functions sight (written_in functions sight text new).waiting (written_in functions sight text new).bytes (levels beyond ks 0)) (sym (kinds_new functions sight))
        ∙ ap (λ w. come functions sight w.waiting w.bytes (levels beyond (kinds_of w.waiting) 0)) (goes.written functions sight)
        ∙ come-mark functions sight m (written_in functions sight text so_far) (levels beyond)
        ∙ ap (come functions sight (written_in functions sight text so_far).waiting (written_in functions sight text so_far).bytes)
        (ap (with_mark m (levels beyond) 0) (on_way.kinds functions sight) ∙ sym marked)
        ∙ on_way.comes functions sight;
    first_comes = λ functions sight. ap (λ ks. first functions sight (written_in functions sight text new).waiting (written_in functions sight text new).bytes
        (written_in functions sight text new).unknown (levels beyond ks 0)) (sym (kinds_new functions sight))
        ∙ ap (λ w. first functions sight w.waiting w.bytes w.unknown (levels beyond (kinds_of w.waiting) 0)) (goes.written functions sight)
        ∙ first-mark functions sight m (written_in functions sight text so_far) (levels beyond)
        ∙ ap (first functions sight (written_in functions sight text so_far).waiting (written_in functions sight text so_far).bytes
        (written_in functions sight text so_far).unknown)
        (ap (with_mark m (levels beyond) 0) (on_way.kinds functions sight) ∙ sym marked)
        ∙ on_way.first_comes functions sight;
    begins = let e = goes.ends in let b = goes.begins in omega arith;
    size = let e = goes.ends in let p = place_is in let s = sizes in let t = on_way.size in omega arith;
    is_rest = ap (λ n. drop n text) goes.ends ∙ after_is;
  }
    where
      kinds_new : (functions : FunctionTable) (sight : Sight) → kinds_of (written_in functions sight text new).waiting ≡ new.waiting
      kinds_new functions sight =
          ap (λ w. kinds_of w.waiting) (goes.written functions sight) ∙ kinds_of-after functions sight m (written_in functions sight text so_far)
          ∙ ap (waiting_after m) (on_way.kinds functions sight) ∙ sym goes.waiting
