-- What is written, the waiting openings in it, and the text still to be read give the expansion of the whole.
use Rattle.std.proofs.Common.{◌≡◌, ◌≤◌, ◌+◌, ℕ, Bool, cond, List, [], ◌∷◌, ◌++◌, length, take, drop, length-append, append_assoc, sym, ap, ◌∙◌, arith}
use Rattle.std.proofs.lemmas.List.{append-nil, length-take}
use Rattle.std.proofs.Math.Seq.{take-append_seam, drop-append-add}
use Rattle.dp_conf.proofs.GroupsLemmas.{levels-last}
use Rattle.dp_conf.specs.declared.groups.GroupKind.{GroupKind}
use Rattle.dp_conf.specs.declared.groups.Mark.{Mark}
use Rattle.dp_conf.specs.declared.groups.Mark.TheVariants.{End, Opening, Byte}
use Rattle.dp_conf.specs.Groups.{Over, opener}
use Rattle.dp_conf.specs.GroupsRead.{Levels, Last, Within, with_byte, with_opening, with_mark, levels, outer_of}
use Rattle.dp_vars.specs.Functions.{FunctionTable}
use Rattle.dp_vars.specs.Sights.{Sight}
use Rattle.dp_conf.specs.Levels.{cut_outside}
use Rattle.dp_conf.specs.declared.groups.GroupKind.TheVariants.{Braces, Brackets}
use Rattle.dp_expr.specs.Expression.{expression_value}
use Rattle.dp_vars.specs.Unknown.{earlier, unknown_body, unknown_expression, unknown_group}
use Rattle.dp_vars.specs.Values.{group_value_with, body_by_with, expansion_of_with, expansion_with, value_read}
use Rattle.dp_vars.specs.Expanding.{WrittenSoFar, with_value, after_group, after}
use Rattle.dp_vars.specs.steps.Expanding.{kinds_of, StandIn, AreWritten}
use Rattle.dp_vars.specs.steps.Told.{body_name, knows_body}
use Rattle.dp_vars.specs.declared.expanding.WaitingOpening.{WaitingOpening}
use Rattle.dp_vars.proofs.ToldLemmas.{told-body}

-- the openings are within any larger size too
pub StandIn-more : (waiting : List WaitingOpening) (size more : ℕ) → size ≤ more → StandIn waiting size → StandIn waiting more
StandIn-more [] size more larger stand = tt
StandIn-more (w ∷ waiting) size more larger stand = (omega (arith, stand.0), stand.1)

module _ (functions : FunctionTable) (sight : Sight) where
  -- a group in braces, replaced with its value
  pub put-braces : (start : ℕ) (old cut new value body : List ℕ) → new ≡ cut ++ value → cut ≡ take start old
      → value ≡ body_by_with functions sight body (cut_outside 58 body) → body ≡ drop (start + 2) old
      → new ≡ take start old ++ group_value_with functions sight Braces (drop (start + 2) old)
  unfolding group_value_with
  put-braces start old cut new value body put kept is from =
      put ∙ (λ i. kept i ++ (is ∙ ap (λ b. body_by_with functions sight b (cut_outside 58 b)) from) i)

  -- the name or the call in braces that is not known
  pub put-unknown : (start : ℕ) (old kept new body : List ℕ) (is_known : Bool)
      → new ≡ earlier kept (cond is_known [] (body_name body (cut_outside 58 body)))
      → is_known ≡ knows_body functions sight body (cut_outside 58 body) → body ≡ drop (start + 2) old
      → new ≡ earlier kept (unknown_group functions sight Braces (drop (start + 2) old))
  unfolding unknown_group
  put-unknown start old kept new body is_known is known from =
      is ∙ ap (λ k. earlier kept (cond k [] (body_name body (cut_outside 58 body)))) known
      ∙ ap (earlier kept) (told-body functions sight body (cut_outside 58 body))
      ∙ ap (λ b. earlier kept (unknown_body functions sight b (cut_outside 58 b))) from

  -- the same, if nothing was kept before
  pub named-unknown : (kept new body : List ℕ) (is_known : Bool) → kept ≡ []
      → new ≡ earlier kept (cond is_known [] (body_name body (cut_outside 58 body)))
      → is_known ≡ knows_body functions sight body (cut_outside 58 body)
      → new ≡ unknown_group functions sight Braces body
  unfolding unknown_group
  named-unknown kept new body is_known none is known =
      is ∙ (λ i. earlier (none i) (cond (known i) [] (body_name body (cut_outside 58 body)))) ∙ told-body functions sight body (cut_outside 58 body)

  -- a group in brackets, replaced with its value
  pub put-brackets : (start : ℕ) (old cut new value body : List ℕ) → new ≡ cut ++ value → cut ≡ take start old
      → value ≡ value_read (functions.expression body) (expression_value body) → body ≡ drop (start + 2) old
      → new ≡ take start old ++ group_value_with functions sight Brackets (drop (start + 2) old)
  unfolding group_value_with
  put-brackets start old cut new value body put kept is from =
      put ∙ (λ i. kept i ++ (is ∙ ap (λ b. value_read (functions.expression b) (expression_value b)) from) i)

  -- the expression in brackets that is not known
  pub put-unknown_expression : (start : ℕ) (old kept new body : List ℕ) → new ≡ earlier kept (unknown_expression (functions.expression body) body)
      → body ≡ drop (start + 2) old → new ≡ earlier kept (unknown_group functions sight Brackets (drop (start + 2) old))
  unfolding unknown_group
  put-unknown_expression start old kept new body is from =
      is ∙ ap (λ b. earlier kept (unknown_expression (functions.expression b) b)) from

  -- the expansion of the whole, given what is written, the waiting openings in it, and the levels after
  abbrev pub come : List WaitingOpening → List ℕ → Levels → List ℕ
  come waiting bytes (Last rest) = bytes ++ expansion_of_with functions sight rest
  come [] bytes (Within rest outer) = come [] (bytes ++ expansion_of_with functions sight rest) outer
  come (w ∷ waiting) bytes (Within rest outer) = come waiting (with_value functions sight w (bytes ++ expansion_of_with functions sight rest)) outer

  come-with_byte : (waiting : List WaitingOpening) (bytes : List ℕ) (byte : ℕ) (l : Levels) → come waiting (bytes ++ byte ∷ []) l ≡ come waiting bytes (with_byte byte l)
  unfolding expansion_of_with
  come-with_byte waiting bytes byte (Last rest) = append_assoc bytes (byte ∷ []) (expansion_of_with functions sight rest)
  come-with_byte [] bytes byte (Within rest outer) = ap (λ bs. come [] bs outer) (append_assoc bytes (byte ∷ []) (expansion_of_with functions sight rest))
  come-with_byte (w ∷ waiting) bytes byte (Within rest outer) =
      ap (λ bs. come waiting (with_value functions sight w bs) outer) (append_assoc bytes (byte ∷ []) (expansion_of_with functions sight rest))

  -- a group whose opening was written last
  pub value_at_end : (bytes body : List ℕ) (kind : GroupKind)
      → with_value functions sight (record { kind = kind; start = length bytes }) ((bytes ++ 36 ∷ opener kind ∷ []) ++ body) ≡ bytes ++ group_value_with functions sight kind body
  value_at_end bytes body kind =
      ap (with_value functions sight (record { kind = kind; start = length bytes })) (append_assoc bytes (36 ∷ opener kind ∷ []) body)
      ∙ (λ i. take-append_seam bytes (36 ∷ opener kind ∷ body) i ++ group_value_with functions sight kind (drop-append-add bytes (36 ∷ opener kind ∷ body) 2 i))

  come-with_opening : (waiting : List WaitingOpening) (bytes : List ℕ) (kind : GroupKind) (l : Levels)
      → come (record { kind = kind; start = length bytes } ∷ waiting) (bytes ++ 36 ∷ opener kind ∷ []) l ≡ come waiting bytes (with_opening kind l)
  unfolding expansion_of_with
  come-with_opening waiting bytes kind (Last rest) = append_assoc bytes (36 ∷ opener kind ∷ []) (expansion_of_with functions sight rest)
  come-with_opening waiting bytes kind (Within inside (Last rest)) =
      ap (λ bs. bs ++ expansion_of_with functions sight rest) (value_at_end bytes (expansion_of_with functions sight inside) kind)
      ∙ append_assoc bytes (group_value_with functions sight kind (expansion_of_with functions sight inside)) (expansion_of_with functions sight rest)
  come-with_opening [] bytes kind (Within inside (Within rest outer)) =
      ap (λ bs. come [] (bs ++ expansion_of_with functions sight rest) outer) (value_at_end bytes (expansion_of_with functions sight inside) kind)
      ∙ ap (λ bs. come [] bs outer) (append_assoc bytes (group_value_with functions sight kind (expansion_of_with functions sight inside)) (expansion_of_with functions sight rest))
  come-with_opening (w ∷ waiting) bytes kind (Within inside (Within rest outer)) =
      ap (λ bs. come waiting (with_value functions sight w (bs ++ expansion_of_with functions sight rest)) outer) (value_at_end bytes (expansion_of_with functions sight inside) kind)
      ∙ ap (λ bs. come waiting (with_value functions sight w bs) outer) (append_assoc bytes (group_value_with functions sight kind (expansion_of_with functions sight inside)) (expansion_of_with functions sight rest))

  come-end : (waiting : List WaitingOpening) (bytes unknown : List ℕ) (beyond : List GroupKind → ℕ → Levels)
      → come (after_group functions sight waiting bytes unknown).waiting (after_group functions sight waiting bytes unknown).bytes
      (beyond (kinds_of (after_group functions sight waiting bytes unknown).waiting) 0)
      ≡ come waiting bytes (Within Over (beyond (outer_of (kinds_of waiting)) 0))
  unfolding expansion_of_with
  come-end [] bytes unknown beyond = ap (λ bs. come [] bs (beyond [] 0)) (sym (append-nil bytes))
  come-end (w ∷ waiting) bytes unknown beyond = ap (λ bs. come waiting (with_value functions sight w bs) (beyond (kinds_of waiting) 0)) (sym (append-nil bytes))

  -- a mark does not change the expansion of the whole
  pub come-mark : (m : Mark) (written : WrittenSoFar) (beyond : List GroupKind → ℕ → Levels)
      → come (after functions sight m written).waiting (after functions sight m written).bytes (beyond (kinds_of (after functions sight m written).waiting) 0)
      ≡ come written.waiting written.bytes (with_mark m beyond 0 (kinds_of written.waiting))
  come-mark End written beyond = come-end written.waiting written.bytes written.unknown beyond
  come-mark (Opening kind) written beyond = come-with_opening written.waiting written.bytes kind (beyond (kind ∷ kinds_of written.waiting) 0)
  come-mark (Byte byte) written beyond = come-with_byte written.waiting written.bytes byte (beyond (kinds_of written.waiting) 0)

  -- nothing is left
  pub come-over : (waiting : List WaitingOpening) (bytes : List ℕ) → come waiting bytes (levels [] (kinds_of waiting) 0) ≡ bytes
  unfolding levels expansion_of_with
  come-over waiting bytes = append-nil bytes

  -- nothing has been read yet
  pub come-text : (text : List ℕ) → come [] [] (levels text [] 0) ≡ expansion_with functions sight text
  come-text text = ap (come [] []) (levels-last text)

  -- the waiting openings are within what is written
  pub AreWritten-after : (m : Mark) (written : WrittenSoFar) → AreWritten written → AreWritten (after functions sight m written)
  AreWritten-after End written stand = by written.waiting stand
    where
      by : (ws : List WaitingOpening) → StandIn ws (length written.bytes) → AreWritten (after_group functions sight ws written.bytes written.unknown)
      by [] stand = tt
      by (w ∷ ws) stand =
          StandIn-more ws w.start (length (with_value functions sight w written.bytes))
          (omega (arith, stand.0, length-append (take w.start written.bytes) (group_value_with functions sight w.kind (drop (w.start + 2) written.bytes)), length-take w.start written.bytes)) stand.1
  AreWritten-after (Opening kind) written stand = (omega (arith, length-append written.bytes (36 ∷ opener kind ∷ [])), stand)
  AreWritten-after (Byte byte) written stand =
      StandIn-more written.waiting (length written.bytes) (length (written.bytes ++ byte ∷ [])) (omega (arith, length-append written.bytes (byte ∷ []))) stand
