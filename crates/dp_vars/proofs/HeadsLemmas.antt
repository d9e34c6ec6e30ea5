-- The known parts of a body that contains no group give the value of that body.
use Rattle.std.proofs.Common.{◌≡◌, ◌≤◌, ◌<◌, ◌+◌, ◌-◌, ◌^◌, ◌==◌, ℕ, zero, suc, Bool, true, false, cond, List, [], ◌∷◌, ◌++◌, Option, Some, None, length, take, drop, min, append_assoc, refl, sym, ap, subst, ◌∙◌, arith, nat_lt, ⊎_elim}
use Rattle.std.specs.Option.{option_map_or}
use Rattle.std.specs.List.{position_or_len, before_first, after_first}
use Rattle.std.proofs.Math.Seq.{take-append_seam, drop-append-add}
use Rattle.std.proofs.lemmas.Bool.{ltb-true, ltb-false}
use Rattle.std.proofs.lemmas.Bool.Decides.{leb_tells}
use Rattle.std.proofs.lemmas.List.{drop-drop, drop-take, drop_all, take_min, drop_min, length-take, length-drop}
use Rattle.dp_conf.specs.Cut.{before_last, cut_once}
use Rattle.dp_conf.specs.Levels.{cut_after, cut_outside, stands_outside}
use Rattle.dp_conf.specs.declared.groups.GroupKind.TheVariants.{Braces}
use Rattle.dp_vars.specs.Far.{asked_at_most}
use Rattle.dp_vars.specs.Heads.{head_seen, part_seen}
use Rattle.dp_vars.specs.Parts.{asked_of, part}
use Rattle.dp_vars.specs.Functions.{FunctionTable}
use Rattle.dp_vars.specs.Sights.{Sight}
use Rattle.dp_vars.specs.Spans.{text_at}
use Rattle.dp_vars.specs.steps.Spans.{front_of, after_of}
use Rattle.dp_vars.specs.Expanding.{WrittenSoFar}
use Rattle.dp_vars.specs.Pieces.{with_cut, with_found, with_head}
use Rattle.dp_vars.specs.steps.Pieces.{with_group}
use Rattle.dp_vars.specs.Unknown.{unknown_body, unknown_calls, unknown_group, unknown_head}
use Rattle.dp_vars.specs.Values.{call_argument_with, head_by_with, head_value_with, body_by_with, group_value_with, function_of}
use Rattle.dp_vars.specs.declared.head.CutPart.{CutPart}
use Rattle.dp_vars.specs.declared.head.Head.{Head}
use Rattle.dp_vars.specs.declared.head.Head.TheVariants.{Call, Other}
use Rattle.dp_vars.specs.declared.value.Function.{Function}
use Rattle.dp_vars.specs.declared.span.Span.{Span}
use Rattle.dp_vars.proofs.FunctionsLemmas.{name-of}
use Rattle.dp_vars.proofs.PartsLemmas.{part-at_most}

-- ---- parts of the text at a place

take-take_min : (m n : ℕ) (xs : List ℕ) → take m (take n xs) ≡ take (min m n) xs
take-take_min zero n xs = let none : 0 ≡ min 0 n = omega arith in ap (λ k. take k xs) none
take-take_min (suc m) zero xs = let none : 0 ≡ min (suc m) 0 = omega arith in ap (λ k. take k xs) none
take-take_min (suc m) (suc n) [] = let more : suc (min m n) ≡ min (suc m) (suc n) = omega arith in ap (λ k. take k []) more
take-take_min (suc m) (suc n) (x ∷ xs) =
    let more : suc (min m n) ≡ min (suc m) (suc n) = omega arith in
    ap (λ bytes. x ∷ bytes) (take-take_min m n xs) ∙ ap (λ k. take k (x ∷ xs)) more

pub text_at-front : (text : List ℕ) (span : Span) (size : ℕ) → text_at text (front_of span size) ≡ take size (text_at text span)
text_at-front text span size =
    let sizes : min span.to (span.from + size) - span.from ≡ min size (span.to - span.from) = omega arith in
    ap (λ n. take n (drop span.from text)) sizes ∙ sym (take-take_min size (span.to - span.from) (drop span.from text))

text_at-within : (text : List ℕ) (span : Span) (size : ℕ) → span.from + size ≤ span.to → text_at text (after_of span size) ≡ drop size (text_at text span)
text_at-within text span size within =
    let place : min span.to (span.from + size) ≡ span.from + size = omega arith in
    let sizes : span.to - span.from ≡ size + (span.to - (span.from + size)) = omega arith in
    ap (λ k. take (span.to - k) (drop k text)) place
    ∙ ap (take (span.to - (span.from + size))) (sym (drop-drop size span.from text))
    ∙ sym (drop-take size (span.to - (span.from + size)) (drop span.from text))
    ∙ ap (λ n. drop size (take n (drop span.from text))) (sym sizes)

text_at-past : (text : List ℕ) (span : Span) (size : ℕ) → span.to < span.from + size → text_at text (after_of span size) ≡ drop size (text_at text span)
text_at-past text span size past =
    let none : span.to - min span.to (span.from + size) ≡ 0 = omega arith in
    ap (λ n. take n (drop (min span.to (span.from + size)) text)) none
    ∙ sym (drop_all size (text_at text span) (omega (arith, length-take (span.to - span.from) (drop span.from text))))

pub text_at-after : (text : List ℕ) (span : Span) (size : ℕ) → text_at text (after_of span size) ≡ drop size (text_at text span)
text_at-after text span size =
    ⊎_elim (λ t. text_at-within text span size t.1) (λ t. text_at-past text span size t.1) (leb_tells (span.from + size) span.to)

-- ---- the text before a cut is at the start, and the text after it at the end

pub record IsCutOf (text head tail : List ℕ) : Type 0 where
  pub front : take (length head) text ≡ head
  pub back : drop (length text - length tail) text ≡ tail

front_kept : (text head : List ℕ) (n : ℕ) → take n text ≡ head → take (length head) text ≡ head
front_kept text head n is =
    ap (λ k. take k text) (sym (ap length is) ∙ length-take n text) ∙ take_min n text ∙ is

back_kept : (text tail : List ℕ) (n : ℕ) → drop n text ≡ tail → drop (length text - length tail) text ≡ tail
back_kept text tail n is =
    let size : length tail ≡ length text - n = sym (ap length is) ∙ length-drop n text in
    let place : length text - length tail ≡ min n (length text) = omega arith in
    ap (λ k. drop k text) place ∙ drop_min n text ∙ is

same_cut : (before after head tail : List ℕ) → (let cut : Option (List ℕ × List ℕ) = Some (before, after) in cut ≡ Some (head, tail)) → (before ≡ head) × (after ≡ tail)
same_cut before after head tail e =
    let pair : (let p : List ℕ × List ℕ = (before, after) in p ≡ (head, tail)) = cc in
    (ap (λ (p : List ℕ × List ℕ). p.0) pair, ap (λ (p : List ℕ × List ℕ). p.1) pair)

pub cut_once-parts : (byte : ℕ) (text head tail : List ℕ) → cut_once byte text ≡ Some (head, tail) → IsCutOf text head tail
cut_once-parts byte text head tail is = by (nat_lt place (length text)) is
  where
    place : ℕ
    place = position_or_len (λ b. b == byte) text

    by : (t : Bool)
        → (let cut : Option (List ℕ × List ℕ) = cond t (Some (before_first (λ b. b == byte) text, after_first (λ b. b == byte) text)) None in cut ≡ Some (head, tail))
        → IsCutOf text head tail
    by true e =
        let same = same_cut (before_first (λ b. b == byte) text) (after_first (λ b. b == byte) text) head tail e in
        record { front = front_kept text head place same.0; back = back_kept text tail (place + 1) same.1 }
    by false e = cc

cut_after-parts : (cuts : List ℕ → ℕ → Bool) (before xs head tail : List ℕ) → cut_after cuts before xs ≡ Some (head, tail) → IsCutOf (before ++ xs) head tail
cut_after-parts cuts before [] head tail is = cc
cut_after-parts cuts before (x ∷ xs) head tail is = by (cuts before x) (cut_after-parts cuts (before ++ x ∷ []) xs head tail) is
  where
    by : (t : Bool) → (cut_after cuts (before ++ x ∷ []) xs ≡ Some (head, tail) → IsCutOf ((before ++ x ∷ []) ++ xs) head tail)
        → cond t (Some (before, xs)) (cut_after cuts (before ++ x ∷ []) xs) ≡ Some (head, tail) → IsCutOf (before ++ x ∷ xs) head tail
    by true after e = let same = same_cut before xs head tail e in record {
      front = front_kept (before ++ x ∷ xs) head (length before) (take-append_seam before (x ∷ xs) ∙ same.0);
      back = back_kept (before ++ x ∷ xs) tail (length before + 1) (drop-append-add before (x ∷ xs) 1 ∙ same.1);
    }
    by false after e = subst (λ text. IsCutOf text head tail) (append_assoc before (x ∷ []) xs) (after e)

pub cut_outside-parts : (byte : ℕ) (text head tail : List ℕ) → cut_outside byte text ≡ Some (head, tail) → IsCutOf text head tail
unfolding cut_outside
cut_outside-parts byte text head tail is = cut_after-parts (stands_outside byte) [] text head tail is

pub before_last-front : (byte : ℕ) (text front : List ℕ) → before_last byte text ≡ Some front → take (length front) text ≡ front
before_last-front byte [] front is = cc
before_last-front byte (b ∷ bs) front is = by (before_last byte bs) (before_last-front byte bs) is
  where
    here : (t : Bool) → (let cut : Option (List ℕ) = cond t (Some []) None in cut ≡ Some front) → take (length front) (b ∷ bs) ≡ front
    here true e = let same : [] ≡ front = cc in front_kept (b ∷ bs) front 0 same
    here false e = cc

    by : (o : Option (List ℕ)) → ((f : List ℕ) → o ≡ Some f → take (length f) bs ≡ f)
        → option_map_or (λ f. Some (b ∷ f)) o (cond (b == byte) (Some []) None) ≡ Some front → take (length front) (b ∷ bs) ≡ front
    by None after e = here (b == byte) e
    by (Some f) after e =
        let same : b ∷ f ≡ front = cc in
        front_kept (b ∷ bs) front (suc (length f)) (ap (λ bytes. b ∷ bytes) (after f refl) ∙ same)

-- ---- heads

module _ (functions : FunctionTable) (sight : Sight) (text : List ℕ) where
  -- the argument of a call, given its place
  argument-seen : (name argument : List ℕ) (after : Span) → Some argument ≡ before_last 41 (text_at text after)
      → functions.value sight name (text_at text (front_of after (length argument))) ≡ call_argument_with functions sight name (before_last 41 (text_at text after))
  argument-seen name argument after argument_is =
      ap (functions.value sight name)
      (text_at-front text after (length argument) ∙ before_last-front 41 (text_at text after) argument (sym argument_is))
      ∙ ap (call_argument_with functions sight name) argument_is

  -- one of the five functions, given its name and the text after the `(`
  pub call-seen : (function : Function) (name argument : List ℕ) (after : Span) → Some function ≡ function_of name
      → Some argument ≡ before_last 41 (text_at text after)
      → head_seen functions sight text (Call function (front_of after (length argument))) ≡ call_argument_with functions sight name (before_last 41 (text_at text after))
  call-seen function name argument after function_is argument_is =
      ap (λ n. functions.value sight n (text_at text (front_of after (length argument)))) (name-of name function (sym function_is))
      ∙ argument-seen name argument after argument_is

  -- another function, given the places of its name and its argument
  pub other-seen : (name : Span) (argument : List ℕ) (after : Span) → Some argument ≡ before_last 41 (text_at text after)
      → head_seen functions sight text (Other name (front_of after (length argument)))
      ≡ call_argument_with functions sight (text_at text name) (before_last 41 (text_at text after))
  other-seen name argument after argument_is = argument-seen (text_at text name) argument after argument_is

  pub name-seen : (place : Span) → cut_once 40 (text_at text place) ≡ None → functions.variable sight (text_at text place) ≡ head_value_with functions sight (text_at text place)
  unfolding head_value_with
  name-seen place none = ap (head_by_with functions sight (text_at text place)) (sym none)

  pub head-seen : (place : Span) (name after : List ℕ) (head : Head) → cut_once 40 (text_at text place) ≡ Some (name, after)
      → head_seen functions sight text head ≡ call_argument_with functions sight (text_at text (front_of place (length name)))
      (before_last 41 (text_at text (after_of place (length (text_at text place) - length after))))
      → head_seen functions sight text head ≡ head_value_with functions sight (text_at text place)
  unfolding head_value_with
  head-seen place name after head cut is =
      let parts = cut_once-parts 40 (text_at text place) name after cut in
      is
      ∙ (λ i. call_argument_with functions sight ((text_at-front text place (length name) ∙ parts.front) i)
      (before_last 41 ((text_at-after text place (length (text_at text place) - length after) ∙ parts.back) i)))
      ∙ ap (head_by_with functions sight (text_at text place)) (sym cut)

-- ---- parts

-- the length of a value fits into 64 bits
pub part_seen-small : (text : List ℕ) (cut : CutPart) (value : List ℕ) → length value < 2 ^ 64 → part_seen text cut value ≡ part cut.asked value
part_seen-small text cut value small = by (nat_lt (length value) (2 ^ 64)) refl
  where
    by : (t : Bool) → nat_lt (length value) (2 ^ 64) ≡ t
        → cond t (part cut.asked value) (part (asked_of (Some (text_at text cut.tail))) value) ≡ part cut.asked value
    by true is = refl
    by false is = absurd (omega (arith, ltb-false (length value) (2 ^ 64) is))

part_seen-asked : (text : List ℕ) (cut : CutPart) (tail value : List ℕ) → text_at text cut.tail ≡ tail → cut.asked ≡ asked_at_most (asked_of (Some tail))
    → part_seen text cut value ≡ part (asked_of (Some tail)) value
part_seen-asked text cut tail value tail_is asked_is = by (nat_lt (length value) (2 ^ 64)) refl
  where
    by : (t : Bool) → nat_lt (length value) (2 ^ 64) ≡ t
        → cond t (part cut.asked value) (part (asked_of (Some (text_at text cut.tail))) value) ≡ part (asked_of (Some tail)) value
    by true is = ap (λ asked. part asked value) asked_is ∙ part-at_most (asked_of (Some tail)) value (ltb-true (length value) (2 ^ 64) is)
    by false is = ap (λ bytes. part (asked_of (Some bytes)) value) tail_is

module _ (functions : FunctionTable) (sight : Sight) (text : List ℕ) where
  -- a body that requests no part
  pub full-seen : (place : Span) (head : Head) → cut_outside 58 (text_at text place) ≡ None
      → head_seen functions sight text head ≡ head_value_with functions sight (text_at text place) → head_seen functions sight text head ≡ group_value_with functions sight Braces (text_at text place)
  unfolding group_value_with
  full-seen place head none is = is ∙ ap (body_by_with functions sight (text_at text place)) (sym none)

  -- a body that requests a part
  pub part-seen : (place : Span) (head tail : List ℕ) (cut : CutPart) → cut_outside 58 (text_at text place) ≡ Some (head, tail)
      → head_seen functions sight text cut.head ≡ head_value_with functions sight (text_at text (front_of place (length head)))
      → cut.tail ≡ after_of place (length (text_at text place) - length tail)
      → cut.asked ≡ asked_at_most (asked_of (Some tail))
      → part_seen text cut (head_seen functions sight text cut.head) ≡ group_value_with functions sight Braces (text_at text place)
  unfolding group_value_with
  part-seen place head tail cut cut_is head_is tail_is asked_is =
      let parts = cut_outside-parts 58 (text_at text place) head tail cut_is in
      part_seen-asked text cut tail (head_seen functions sight text cut.head)
      (ap (text_at text) tail_is ∙ text_at-after text place (length (text_at text place) - length tail) ∙ parts.back) asked_is
      ∙ ap (part (asked_of (Some tail))) (head_is ∙ ap (head_value_with functions sight) (text_at-front text place (length head) ∙ parts.front))
      ∙ ap (body_by_with functions sight (text_at text place)) (sym cut_is)

  -- the same with the names and calls that are not known
  pub full-found : (place : Span) (head : Head) (written : WrittenSoFar) → cut_outside 58 (text_at text place) ≡ None
      → ((f : FunctionTable) (s : Sight) → head_seen f s text head ≡ head_value_with f s (text_at text place))
      → with_head functions sight text written head ≡ with_group functions sight Braces written (text_at text place)
  unfolding unknown_group
  full-found place head written none is =
      let value = full-seen place head none (is functions sight) in
      let call = is (unknown_calls functions sight) sight ∙ ap (unknown_body functions sight (text_at text place)) (sym none) in
      λ i. with_found written (value i) (call i)

  pub part-found : (place : Span) (head tail : List ℕ) (cut : CutPart) (written : WrittenSoFar) → cut_outside 58 (text_at text place) ≡ Some (head, tail)
      → ((f : FunctionTable) (s : Sight) → head_seen f s text cut.head ≡ head_value_with f s (text_at text (front_of place (length head))))
      → cut.tail ≡ after_of place (length (text_at text place) - length tail)
      → cut.asked ≡ asked_at_most (asked_of (Some tail))
      → with_cut functions sight text written cut ≡ with_group functions sight Braces written (text_at text place)
  unfolding unknown_group
  part-found place head tail cut written cut_is head_is tail_is asked_is =
      let parts = cut_outside-parts 58 (text_at text place) head tail cut_is in
      let value = part-seen place head tail cut cut_is (head_is functions sight) tail_is asked_is in
      let call = head_is (unknown_calls functions sight) sight
      ∙ ap (unknown_head functions sight) (text_at-front text place (length head) ∙ parts.front)
      ∙ ap (unknown_body functions sight (text_at text place)) (sym cut_is) in
      λ i. with_found written (value i) (call i)
