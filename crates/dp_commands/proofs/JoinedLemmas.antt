-- A joined text cut at a separator, line by line.
use Rattle.std.proofs.Common.{◌≡◌, ℕ, ◌-◌, true, false, cond, eqb, List, [], ◌∷◌, ◌++◌, Option, Some, None, Bor, length, take, refl, ap, ◌∙◌, sym, arith}
use Rattle.std.specs.List.{join_with_byte}
use Rattle.std.specs.Option.{option_map}
use Rattle.std.specs.Prelude.{unwrap_or}
use Rattle.std.proofs.lemmas.List.{append_assoc, append-nil, length-append, take_all}
use Rattle.std.proofs.lemmas.List.Splits.{join_with_byte-slice_split, length-slice_split}
use Rattle.std.proofs.Math.Seq.{take-append_seam}
use Rattle.dp_conf.specs.Lines.{parts_of}
use Rattle.dp_commands.specs.Joined.{is_separator, lines_before, lines_after, text_before, text_after, text_left}
use Rattle.dp_conf.proofs.LinesLemmas.{parts_left}

-- the bytes that are left to read, if there are any
abbrev pub bytes_left : Option (Bor (List ℕ)) → List ℕ
bytes_left after = text_left (option_map (λ text. text.now) after)

-- the joined parts of what is left
join-parts_left : (after : Option (Bor (List ℕ))) → join_with_byte 10 (parts_left after) ≡ bytes_left after
join-parts_left None = refl
join-parts_left (Some rest) = join_with_byte-slice_split 10 rest.now

-- a text that was cut at its first line feed
cut-whole : (left part rest : List ℕ) → parts_of left ≡ part ∷ parts_of rest → left ≡ (part ++ 10 ∷ []) ++ rest
cut-whole left part rest e = by (parts_of rest) refl where
  by : (ps : List (List ℕ)) → parts_of rest ≡ ps → left ≡ (part ++ 10 ∷ []) ++ rest
  by [] none = absurd (omega (arith, length-slice_split (λ b. eqb b 10) rest, ap length none))
  by (y ∷ ys) some =
      sym (join_with_byte-slice_split 10 left)
      ∙ (ap (join_with_byte 10) (e ∙ ap (λ (ps : List (List ℕ)). part ∷ ps) some)
      ∙ (ap (λ (t : List ℕ). part ++ 10 ∷ t) (ap (join_with_byte 10) (sym some) ∙ join_with_byte-slice_split 10 rest)
      ∙ sym (append_assoc part (10 ∷ []) rest)))

-- the part that was read, then what is left, is the whole text
front-whole : (text left part rest : List ℕ) (start : ℕ) → take start text ++ left ≡ text → parts_of left ≡ part ∷ parts_of rest → (take start text ++ (part ++ 10 ∷ [])) ++ rest ≡ text
front-whole text left part rest start place cut =
    append_assoc (take start text) (part ++ 10 ∷ []) rest ∙ (ap (λ (t : List ℕ). take start text ++ t) (sym (cut-whole left part rest cut)) ∙ place)

front-taken : (text front rest : List ℕ) → front ++ rest ≡ text → take (length text - length rest) text ≡ front
front-taken text front rest whole =
    let len : length text - length rest ≡ length front = omega (arith, ap length whole, length-append front rest) in
    ap (λ n. take n text) len ∙ (ap (λ (t : List ℕ). take (length front) t) (sym whole) ∙ take-append_seam front rest)

-- the position of the reading after a line
pub place-turn : (text left part : List ℕ) (after : Option (Bor (List ℕ))) (start : ℕ) → take start text ++ left ≡ text → parts_of left ≡ part ∷ parts_left after → take (length text - length (bytes_left after)) text ++ bytes_left after ≡ text
place-turn text left part None start place cut = append-nil (take (length text - 0) text) ∙ take_all (length text - 0) text (omega arith)
place-turn text left part (Some rest) start place cut =
    let whole = front-whole text left part rest.now start place cut in
    ap (λ (t : List ℕ). t ++ rest.now) (front-taken text (take start text ++ (part ++ 10 ∷ [])) rest.now whole) ∙ whole

option_map-option_map : (front more : List ℕ) (o : Option (List ℕ)) → option_map (λ (later : List ℕ). front ++ later) (option_map (λ (later : List ℕ). more ++ later) o) ≡ option_map (λ (later : List ℕ). (front ++ more) ++ later) o
option_map-option_map front more None = refl
option_map-option_map front more (Some x) = ap (λ (t : List ℕ). Some t) (sym (append_assoc front more x))

module _ (separator : List ℕ) where
  -- a line that is not a separator is in the part before it
  pub lines_before-turn : (text left part : List ℕ) (after : Option (Bor (List ℕ))) (start : ℕ)
      → take start text ++ left ≡ text
      → parts_of left ≡ part ∷ parts_left after
      → is_separator separator part ≡ false
      → option_map (λ (later : List ℕ). take start text ++ later) (lines_before separator (parts_of left)) ≡ option_map (λ (later : List ℕ). take (length text - length (bytes_left after)) text ++ later) (lines_before separator (parts_left after))
  lines_before-turn text left part None start place cut other =
      ap (λ (ps : List (List ℕ)). option_map (λ (later : List ℕ). take start text ++ later) (lines_before separator ps)) cut
      ∙ ap (λ t. option_map (λ (later : List ℕ). take start text ++ later) (cond {A = Option (List ℕ)} t (Some []) None)) other
  lines_before-turn text left part (Some rest) start place cut other =
      let whole = front-whole text left part rest.now start place cut in
      let front = front-taken text (take start text ++ (part ++ 10 ∷ [])) rest.now whole in
      ap (λ (ps : List (List ℕ)). option_map (λ (later : List ℕ). take start text ++ later) (lines_before separator ps)) cut
      ∙ (ap (λ t. option_map (λ (later : List ℕ). take start text ++ later) (cond {A = Option (List ℕ)} t (Some []) (option_map (λ (later : List ℕ). (part ++ 10 ∷ []) ++ later) (lines_before separator (parts_of rest.now))))) other
      ∙ (option_map-option_map (take start text) (part ++ 10 ∷ []) (lines_before separator (parts_of rest.now))
      ∙ ap (λ (f : List ℕ). option_map (λ (later : List ℕ). f ++ later) (lines_before separator (parts_of rest.now))) (sym front)))

  -- and is not among the lines after it
  pub lines_after-turn : (left part : List ℕ) (parts : List (List ℕ)) → parts_of left ≡ part ∷ parts → is_separator separator part ≡ false → lines_after separator (parts_of left) ≡ lines_after separator parts
  lines_after-turn left part parts cut other =
      ap (lines_after separator) cut ∙ ap (λ t. cond {A = Option (List (List ℕ))} t (Some parts) (lines_after separator parts)) other

  -- at the separator the lines that were passed are the part before it
  pub text_before-found : (text left part : List ℕ) (parts : List (List ℕ)) (start : ℕ) → lines_before separator (parts_of text) ≡ option_map (λ later. take start text ++ later) (lines_before separator (parts_of left)) → parts_of left ≡ part ∷ parts → is_separator separator part ≡ true → take start text ≡ text_before separator text
  unfolding text_before
  text_before-found text left part parts start so_far cut here =
      sym (ap (λ (o : Option (List ℕ)). unwrap_or o text) (so_far
      ∙ (ap (λ (ps : List (List ℕ)). option_map (λ (later : List ℕ). take start text ++ later) (lines_before separator ps)) cut
      ∙ ap (λ t. option_map (λ (later : List ℕ). take start text ++ later) (cond {A = Option (List ℕ)} t (Some []) (option_map (λ (later : List ℕ). (part ++ 10 ∷ []) ++ later) (lines_before separator parts)))) here))
      ∙ append-nil (take start text))

  -- and what is left is the part after it
  pub text_after-found : (text left part : List ℕ) (after : Option (Bor (List ℕ))) → lines_after separator (parts_of text) ≡ lines_after separator (parts_of left) → parts_of left ≡ part ∷ parts_left after → is_separator separator part ≡ true → Some (bytes_left after) ≡ text_after separator text
  unfolding text_after
  text_after-found text left part after so_far cut here =
      sym (ap (λ (o : Option (List (List ℕ))). option_map (join_with_byte 10) o) (so_far ∙ (ap (lines_after separator) cut
      ∙ ap (λ t. cond {A = Option (List (List ℕ))} t (Some (parts_left after)) (lines_after separator (parts_left after))) here))
      ∙ ap (λ (t : List ℕ). Some t) (join-parts_left after))

  -- without a separator the whole text is the part before it, and no part comes after it
  pub text_before-absent : (text : List ℕ) (start : ℕ) → lines_before separator (parts_of text) ≡ option_map (λ later. take start text ++ later) (lines_before separator []) → text ≡ text_before separator text
  unfolding text_before
  text_before-absent text start so_far = sym (ap (λ (o : Option (List ℕ)). unwrap_or o text) so_far)

  pub text_after-absent : (text : List ℕ) → lines_after separator (parts_of text) ≡ None → None ≡ text_after separator text
  unfolding text_after
  text_after-absent text so_far = sym (ap (λ (o : Option (List (List ℕ))). option_map (join_with_byte 10) o) so_far)
