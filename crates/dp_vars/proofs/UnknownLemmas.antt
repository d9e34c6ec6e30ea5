-- The first name, call or expression that is not known, given what is written, the waiting openings in it, and the text still to be read.
use Rattle.std.proofs.Common.{◌≡◌, ◌≢◌, ◌+◌, ℕ, List, [], ◌∷◌, ◌++◌, length, drop, append_assoc, refl, sym, ap, ◌∙◌}
use Rattle.std.proofs.lemmas.List.{append-nil}
use Rattle.std.proofs.Math.Seq.{drop-append-add}
use Rattle.dp_conf.proofs.GroupsLemmas.{levels-last}
use Rattle.dp_conf.specs.declared.groups.GroupKind.{GroupKind}
use Rattle.dp_conf.specs.declared.groups.GroupKind.TheVariants.{Brackets}
use Rattle.dp_conf.specs.declared.groups.Mark.{Mark}
use Rattle.dp_conf.specs.declared.groups.Mark.TheVariants.{End, Opening, Byte}
use Rattle.dp_conf.specs.Groups.{Over, opener}
use Rattle.dp_conf.specs.GroupsRead.{Levels, Last, Within, with_byte, with_opening, with_mark, levels, outer_of, reading_of}
use Rattle.dp_expr.specs.Expression.{expression_value}
use Rattle.dp_vars.specs.Functions.{FunctionTable}
use Rattle.dp_vars.specs.Sights.{Sight}
use Rattle.dp_vars.specs.Values.{group_value_with, expansion_of_with, value_read}
use Rattle.dp_vars.specs.Expanding.{WrittenSoFar, body_in, with_value, after_group, after}
use Rattle.dp_vars.specs.Pieces.{with_expression, with_found}
use Rattle.dp_vars.specs.Spans.{text_at}
use Rattle.dp_vars.specs.Unknown.{earlier, unknown_expression, unknown_group, unknown_of}
use Rattle.dp_vars.specs.steps.Expanding.{kinds_of}
use Rattle.dp_vars.specs.steps.Pieces.{with_group}
use Rattle.dp_vars.specs.declared.expanding.WaitingOpening.{WaitingOpening}
use Rattle.dp_vars.specs.declared.span.Span.{Span}
use Rattle.dp_vars.specs.declared.text_piece.KnownExpression.{KnownExpression}
use Rattle.dp_vars.proofs.ExpandingLemmas.{value_at_end}

pub earlier-none : (text : List ℕ) → earlier text [] ≡ text
earlier-none [] = refl
earlier-none (byte ∷ bytes) = refl

pub earlier-assoc : (a b c : List ℕ) → earlier (earlier a b) c ≡ earlier a (earlier b c)
earlier-assoc [] b c = refl
earlier-assoc (byte ∷ a) b c = refl

-- nothing has been kept yet
pub earlier-first : (old new : List ℕ) → length old ≡ 0 → new ≡ earlier old new
earlier-first [] new none = refl
earlier-first (byte ∷ old) new none = cc

-- something was kept
pub earlier-kept : (old new : List ℕ) → length old ≢ 0 → old ≡ earlier old new
earlier-kept [] new some = absurd (some refl)
earlier-kept (byte ∷ old) new some = refl

-- an expression whose value is known
pub with_brackets : (functions : FunctionTable) (sight : Sight) (text : List ℕ) (written : WrittenSoFar) (known : KnownExpression) (place : Span)
    → known.body ≡ place → known.value.items ≡ expression_value (text_at text place)
    → with_expression functions text written known ≡ with_group functions sight Brackets written (text_at text place)
unfolding group_value_with unknown_group
with_brackets functions sight text written known place there is =
    λ i. with_found written (value_read (functions.expression (text_at text (there i))) (is i))
    (unknown_expression (functions.expression (text_at text (there i))) (text_at text (there i)))

module _ (functions : FunctionTable) (sight : Sight) where
  -- the first one in the whole, given what is written, the waiting openings in it, the first one so far, and the levels after
  abbrev pub first : List WaitingOpening → List ℕ → List ℕ → Levels → List ℕ
  first waiting bytes unknown (Last rest) = earlier unknown (unknown_of functions sight rest)
  first [] bytes unknown (Within rest outer) =
      first [] (bytes ++ expansion_of_with functions sight rest) (earlier unknown (unknown_of functions sight rest)) outer
  first (w ∷ waiting) bytes unknown (Within rest outer) =
      first waiting (with_value functions sight w (bytes ++ expansion_of_with functions sight rest))
      (earlier (earlier unknown (unknown_of functions sight rest))
      (unknown_group functions sight w.kind (body_in w (bytes ++ expansion_of_with functions sight rest)))) outer

  first-with_byte : (waiting : List WaitingOpening) (bytes unknown : List ℕ) (byte : ℕ) (l : Levels)
      → first waiting (bytes ++ byte ∷ []) unknown l ≡ first waiting bytes unknown (with_byte byte l)
  unfolding expansion_of_with unknown_of
  first-with_byte waiting bytes unknown byte (Last rest) = refl
  first-with_byte [] bytes unknown byte (Within rest outer) =
      ap (λ bs. first [] bs (earlier unknown (unknown_of functions sight rest)) outer) (append_assoc bytes (byte ∷ []) (expansion_of_with functions sight rest))
  first-with_byte (w ∷ waiting) bytes unknown byte (Within rest outer) =
      ap (λ bs. first waiting (with_value functions sight w bs)
      (earlier (earlier unknown (unknown_of functions sight rest)) (unknown_group functions sight w.kind (body_in w bs))) outer)
      (append_assoc bytes (byte ∷ []) (expansion_of_with functions sight rest))

  -- the body of a group whose opening was written last
  pub body_at_end : (bytes body : List ℕ) (kind : GroupKind)
      → body_in (record { kind = kind; start = length bytes }) ((bytes ++ 36 ∷ opener kind ∷ []) ++ body) ≡ body
  body_at_end bytes body kind =
      ap (drop (length bytes + 2)) (append_assoc bytes (36 ∷ opener kind ∷ []) body) ∙ drop-append-add bytes (36 ∷ opener kind ∷ body) 2

  -- the bytes after a group, and those after them
  value_then : (bytes inside rest : List ℕ) (kind : GroupKind)
      → with_value functions sight (record { kind = kind; start = length bytes }) ((bytes ++ 36 ∷ opener kind ∷ []) ++ inside) ++ rest
      ≡ bytes ++ (group_value_with functions sight kind inside ++ rest)
  value_then bytes inside rest kind =
      ap (λ bs. bs ++ rest) (value_at_end functions sight bytes inside kind) ∙ append_assoc bytes (group_value_with functions sight kind inside) rest

  -- the first one before, inside, at and after a group
  first_then : (bytes unknown inside called rest : List ℕ) (kind : GroupKind)
      → earlier (earlier (earlier unknown called)
      (unknown_group functions sight kind (body_in (record { kind = kind; start = length bytes }) ((bytes ++ 36 ∷ opener kind ∷ []) ++ inside)))) rest
      ≡ earlier unknown (earlier called (earlier (unknown_group functions sight kind inside) rest))
  first_then bytes unknown inside called rest kind =
      ap (λ body. earlier (earlier (earlier unknown called) (unknown_group functions sight kind body)) rest) (body_at_end bytes inside kind)
      ∙ earlier-assoc (earlier unknown called) (unknown_group functions sight kind inside) rest
      ∙ earlier-assoc unknown called (earlier (unknown_group functions sight kind inside) rest)

  first-with_opening : (waiting : List WaitingOpening) (bytes unknown : List ℕ) (kind : GroupKind) (l : Levels)
      → first (record { kind = kind; start = length bytes } ∷ waiting) (bytes ++ 36 ∷ opener kind ∷ []) unknown l ≡ first waiting bytes unknown (with_opening kind l)
  unfolding expansion_of_with unknown_of
  first-with_opening waiting bytes unknown kind (Last rest) = refl
  first-with_opening waiting bytes unknown kind (Within inside (Last rest)) =
      first_then bytes unknown (expansion_of_with functions sight inside) (unknown_of functions sight inside) (unknown_of functions sight rest) kind
  first-with_opening [] bytes unknown kind (Within inside (Within rest outer)) =
      let value = value_then bytes (expansion_of_with functions sight inside) (expansion_of_with functions sight rest) kind in
      let call = first_then bytes unknown (expansion_of_with functions sight inside) (unknown_of functions sight inside) (unknown_of functions sight rest) kind in
      λ i. first [] (value i) (call i) outer
  first-with_opening (w ∷ waiting) bytes unknown kind (Within inside (Within rest outer)) =
      let value = value_then bytes (expansion_of_with functions sight inside) (expansion_of_with functions sight rest) kind in
      let call = first_then bytes unknown (expansion_of_with functions sight inside) (unknown_of functions sight inside) (unknown_of functions sight rest) kind in
      λ i. first waiting (with_value functions sight w (value i)) (earlier (call i) (unknown_group functions sight w.kind (body_in w (value i)))) outer

  first-end : (waiting : List WaitingOpening) (bytes unknown : List ℕ) (beyond : List GroupKind → ℕ → Levels)
      → first (after_group functions sight waiting bytes unknown).waiting (after_group functions sight waiting bytes unknown).bytes
      (after_group functions sight waiting bytes unknown).unknown (beyond (kinds_of (after_group functions sight waiting bytes unknown).waiting) 0)
      ≡ first waiting bytes unknown (Within Over (beyond (outer_of (kinds_of waiting)) 0))
  unfolding expansion_of_with unknown_of
  first-end [] bytes unknown beyond = λ i. first [] (sym (append-nil bytes) i) (sym (earlier-none unknown) i) (beyond [] 0)
  first-end (w ∷ waiting) bytes unknown beyond =
      λ i. first waiting (with_value functions sight w (sym (append-nil bytes) i))
      (earlier (sym (earlier-none unknown) i) (unknown_group functions sight w.kind (body_in w (sym (append-nil bytes) i)))) (beyond (kinds_of waiting) 0)

  -- a mark does not change the result for the whole
  pub first-mark : (m : Mark) (written : WrittenSoFar) (beyond : List GroupKind → ℕ → Levels)
      → first (after functions sight m written).waiting (after functions sight m written).bytes (after functions sight m written).unknown
      (beyond (kinds_of (after functions sight m written).waiting) 0)
      ≡ first written.waiting written.bytes written.unknown (with_mark m beyond 0 (kinds_of written.waiting))
  first-mark End written beyond = first-end written.waiting written.bytes written.unknown beyond
  first-mark (Opening kind) written beyond =
      first-with_opening written.waiting written.bytes written.unknown kind (beyond (kind ∷ kinds_of written.waiting) 0)
  first-mark (Byte byte) written beyond = first-with_byte written.waiting written.bytes written.unknown byte (beyond (kinds_of written.waiting) 0)

  -- nothing is left
  pub first-over : (waiting : List WaitingOpening) (bytes unknown : List ℕ) → first waiting bytes unknown (levels [] (kinds_of waiting) 0) ≡ unknown
  unfolding levels unknown_of
  first-over waiting bytes unknown = earlier-none unknown

  -- nothing has been read yet
  pub first-text : (text : List ℕ) → first [] [] [] (levels text [] 0) ≡ unknown_of functions sight (reading_of text)
  first-text text = ap (first [] [] []) (levels-last text)
