-- Differences that are told one after another.
use Rattle.std.proofs.Common.{◌≡◌, ℕ, ◌+◌, ◌-◌, ◌^◌, ◌<◌, Bool, ◌||◌, List, [], ◌∷◌, ◌++◌, Option, Some, None, Result, Ok, Err, length, take, drop, get_or, refl, ap, subst, ◌∙◌, sym, arith, min, add-zero, true, false, cond}
use Rattle.std.specs.Io.KnownBytes.{Appends}
use Rattle.std.specs.List.{find, flat_map}
use Rattle.std.proofs.Math.Bool.{or-false}
use Rattle.std.proofs.lemmas.Grind.{flat_map-append}
use Rattle.std.proofs.lemmas.List.{append_assoc, append-nil, length-append, take-append-drop, take_more}
use Rattle.dp_conf.specs.Fronts.{AppendsFront}
use Rattle.dp_conf.proofs.ToldLemmas.{AppendsFront-more}
use Rattle.dp_plan.specs.Ranking.{shares_place}
use Rattle.dp_plan.specs.declared.entry.Entry.{Entry}
use Rattle.dp_diff.specs.Answering.{has_place}
use Rattle.dp_diff.specs.Differences.{Difference, addition_at, change_at, is_kept}
use Rattle.dp_diff.specs.Faults.{is_write_fault}
use Rattle.dp_diff.specs.Printing.{difference_lines, text_of}
use Rattle.dp_diff.specs.declared.fault.DiffFault.{DiffFault}
use Rattle.dp_diff.specs.steps.Telling.{Flows, HasFailed, HasTold, SheetOf, Tells, WriterOf, capped_number, writer_of}
use Rattle.dp_diff.proofs.FlowLemmas.{Flows-fails, Flows-sent, Flows-trans, Flows-waits}

-- the text of more differences
pub text_of-append : (xs ys : List Difference) → text_of (xs ++ ys) ≡ text_of xs ++ text_of ys
unfolding text_of
text_of-append xs ys = flat_map-append difference_lines xs ys

-- the text of no differences, and of one
pub text_of-nil : text_of [] ≡ []
unfolding text_of
text_of-nil = refl

pub text_of-one : (d : Difference) → text_of (d ∷ []) ≡ difference_lines d
unfolding text_of
text_of-one d = append-nil (difference_lines d)

-- one more is counted
pub capped-one : (number : ℕ) → min (capped_number number + 1) (2 ^ 64 - 1) ≡ capped_number (number + 1)
capped-one number = by (2 ^ 64 - 1) number where
  by : (most n : ℕ) → min (min n most + 1) most ≡ min (n + 1) most
  by most n = omega arith

-- nothing is told
pub told_none : (w : WriterOf) (s : SheetOf) → HasTold w s w s []
told_none w s = record {
  flowed = Flows-waits w.contents s.waiting s.waiting (text_of []) (sym (append-nil s.waiting) ∙ ap (λ (t : List ℕ). s.waiting ++ t) (sym text_of-nil));
  counted = λ number is. is ∙ ap capped_number (sym (add-zero number));
  sound = refl;
}

-- more differences are told
pub told_append : (w v u : WriterOf) (s t r : SheetOf) (xs ys : List Difference) → HasTold w s v t xs → HasTold v t u r ys → HasTold w s u r (xs ++ ys)
told_append w v u s t r xs ys first second =
    let P : List ℕ → Type 0 = λ bytes. Flows w.contents s.waiting u.contents r.waiting bytes in
    record {
      flowed = subst P (sym (text_of-append xs ys)) (Flows-trans w.contents v.contents u.contents s.waiting t.waiting r.waiting (text_of xs) (text_of ys) first.flowed second.flowed);
      counted = λ number is. second.counted (number + length xs) (first.counted number is)
          ∙ ap capped_number (omega (arith, length-append xs ys));
      sound = second.sound ∙ first.sound;
    }

-- what waits is written
pub told_sent : (old new : Option (List ℕ)) (was is : Bool) (s t : SheetOf) → Appends old new s.waiting → t.waiting ≡ [] → t.count ≡ s.count → is ≡ (was || false) → HasTold (writer_of old was) s (writer_of new is) t []
told_sent old new was is s t wrote empty count quiet =
    let P : List ℕ → Type 0 = λ waits. Flows old s.waiting new waits (text_of []) in
    let Q : List ℕ → Type 0 = λ bytes. Flows old s.waiting new [] bytes in
    record {
      flowed = subst P (sym empty) (subst Q (sym text_of-nil) (Flows-sent old new s.waiting wrote));
      counted = λ number at. count ∙ (at ∙ ap capped_number (sym (add-zero number)));
      sound = quiet ∙ or-false was;
    }

-- the lines of one difference wait
told_pushed : (w : WriterOf) (s t : SheetOf) (d : Difference) → t.waiting ≡ s.waiting ++ difference_lines d → t.count ≡ min (s.count + 1) (2 ^ 64 - 1) → HasTold w s w t (d ∷ [])
told_pushed w s t d lines count = record {
  flowed = Flows-waits w.contents s.waiting t.waiting (text_of (d ∷ [])) (lines ∙ ap (λ (bytes : List ℕ). s.waiting ++ bytes) (sym (text_of-one d)));
  counted = λ number at. count ∙ (ap (λ n. min (n + 1) (2 ^ 64 - 1)) at ∙ capped-one number);
  sound = refl;
}

-- telling fails after other differences
pub failed_after : (w v u : WriterOf) (s t : SheetOf) (xs ys : List Difference) (fault : DiffFault) → HasTold w s v t xs → HasFailed v t u ys fault → HasFailed w s u (xs ++ ys) fault
failed_after w v u s t xs ys fault first second =
    let P : List ℕ → Type 0 = λ bytes. AppendsFront w.contents u.contents (s.waiting ++ bytes) in
    record {
      written = subst P (sym (text_of-append xs ys)) (Flows-fails w.contents v.contents u.contents s.waiting t.waiting (text_of xs) (text_of ys) first.flowed second.written);
      failed = second.failed ∙ ap (λ f. f || is_write_fault fault) first.sound;
    }

-- telling fails before other differences
pub failed_before : (w v : WriterOf) (s : SheetOf) (xs ys : List Difference) (fault : DiffFault) → HasFailed w s v xs fault → HasFailed w s v (xs ++ ys) fault
failed_before w v s xs ys fault first =
    let P : List ℕ → Type 0 = λ bytes. AppendsFront w.contents v.contents bytes in
    record {
      written = subst P (append_assoc s.waiting (text_of xs) (text_of ys) ∙ ap (λ (t : List ℕ). s.waiting ++ t) (sym (text_of-append xs ys)))
          (AppendsFront-more w.contents v.contents (s.waiting ++ text_of xs) (text_of ys) first.written);
      failed = first.failed;
    }

-- the outcome of telling more differences
pub tells_after : {X : Type 0} (w v u : WriterOf) (s t r : SheetOf) (xs ys : List Difference) (result : Result X DiffFault) → HasTold w s v t xs → Tells v t u r ys result → Tells w s u r (xs ++ ys) result
tells_after w v u s t r xs ys (Ok x) first second = told_append w v u s t r xs ys first second
tells_after w v u s t r xs ys (Err fault) first second = failed_after w v u s t xs ys fault first second

-- the lines of one difference wait, and some of what waits may be written
pub tells_one : {X : Type 0} (w v : WriterOf) (s t r : SheetOf) (d : Difference) (result : Result X DiffFault) → t.waiting ≡ s.waiting ++ difference_lines d → t.count ≡ min (s.count + 1) (2 ^ 64 - 1) → Tells w t v r [] result → Tells w s v r (d ∷ []) result
tells_one w v s t r d result lines count sent = tells_after w w v s t r (d ∷ []) [] result (told_pushed w s t d lines count) sent

-- no difference is told
pub told_nothing : (w : WriterOf) (s : SheetOf) (xs : List Difference) → xs ≡ [] → HasTold w s w s xs
told_nothing w s xs none = subst (HasTold w s w s) (sym none) (told_none w s)

module _ {X : Type 0} (f : X → List Difference) (xs : List X) (i : ℕ) (x : X) (within : i < length xs) (is : x ≡ get_or xs i x) where
  -- the differences at one more element
  one_more : flat_map f (take (i + 1) xs) ≡ flat_map f (take i xs) ++ f x
  one_more =
      ap (flat_map f) (take_more xs i x within ∙ ap (λ y. take i xs ++ y ∷ []) (sym is))
      ∙ (flat_map-append f (take i xs) (x ∷ []) ∙ ap (λ (ds : List Difference). flat_map f (take i xs) ++ ds) (append-nil (f x)))

  -- and at all elements
  all_of_them : (flat_map f (take i xs) ++ f x) ++ flat_map f (drop (i + 1) xs) ≡ flat_map f xs
  all_of_them =
      ap (λ (ds : List Difference). ds ++ flat_map f (drop (i + 1) xs)) (sym one_more)
      ∙ (sym (flat_map-append f (take (i + 1) xs) (drop (i + 1) xs)) ∙ ap (flat_map f) (take-append-drop (i + 1) xs))

  -- those at one more element are told
  pub told_more : (w v u : WriterOf) (s t r : SheetOf) → HasTold w s v t (flat_map f (take i xs)) → HasTold v t u r (f x) → HasTold w s u r (flat_map f (take (i + 1) xs))
  told_more w v u s t r so_far more =
      subst (HasTold w s u r) (sym one_more) (told_append w v u s t r (flat_map f (take i xs)) (f x) so_far more)

  -- telling fails at one more element
  pub failed_at : (w v u : WriterOf) (s t : SheetOf) (fault : DiffFault) → HasTold w s v t (flat_map f (take i xs)) → HasFailed v t u (f x) fault → HasFailed w s u (flat_map f xs) fault
  failed_at w v u s t fault so_far failed =
      let P : List Difference → Type 0 = λ ds. HasFailed w s u ds fault in
      subst P all_of_them (failed_before w u s (flat_map f (take i xs) ++ f x) (flat_map f (drop (i + 1) xs)) fault
      (failed_after w v u s t (flat_map f (take i xs)) (f x) fault so_far failed))

-- nothing is told of an entry that does the same, and of one whose place was taken
pub not_changed : (context : List ℕ) (after : List Entry) (place entry : Entry) (other : Option Entry) → entry ≡ place → other ≡ find (shares_place place) after → is_kept entry other ≡ true → change_at context after place ≡ []
not_changed context after place entry other is found kept =
    let there : is_kept place (find (shares_place place) after) ≡ true =
    sym (ap (λ e. is_kept e other) is ∙ ap (is_kept place) found) ∙ kept in
    ap (λ t. cond t [] ((record { context = context; before = Some place; after = find (shares_place place) after }) ∷ [])) there

pub not_added : (context : List ℕ) (before : List Entry) (entry : Entry) → has_place before entry ≡ true → addition_at context before entry ≡ []
not_added context before entry there =
    ap (λ t. cond t [] ((record { context = context; before = None; after = Some entry }) ∷ [])) there
