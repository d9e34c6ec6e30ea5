-- What a walk says of the possible endings of a text.
use Rattle.std.proofs.Common.{◌≡◌, ℕ, suc, ◌<◌, Bool, true, false, cond, not, List, [], ◌∷◌, ◌++◌, length, length-append, slice_index, Decides, append_assoc, true≢false, ne_eqb, eq-eqb, refl, sym, ap, ◌∙◌, arith}
use Rattle.std.specs.List.{AllByRecursion}
use Rattle.std.proofs.lemmas.List.Elements.{filter-append}
use Rattle.std.proofs.lemmas.Bool.Decides.{nat_tests}
use Rattle.dp_pattern.specs.Dashes.{is_dash, without_dashes}
use Rattle.dp_pattern.specs.Name.{Meaning, Plain, Pattern, is_one_of}
use Rattle.dp_pattern.specs.GoesOn.{GoesOn, HasNoBang}
use Rattle.dp_pattern.specs.Walk.{Walked, Refused, Short, After, walk_after, singles, classes_of, tail_of, is_match, goes_on}
use Rattle.dp_pattern.specs.declared.tail.Tail.{Tail}
use Rattle.dp_pattern.specs.declared.tail.Tail.TheVariants.{End, Dot, Bang}
use Rattle.dp_pattern.proofs.ClassLemmas.{is_one_of-class_by}
use Rattle.dp_pattern.proofs.NameLemmas.{IsClass, each_by_index, each_of}
use Rattle.dp_pattern.proofs.MeaningLemmas.{IsMeaning, IsByte}
use Rattle.dp_pattern.proofs.WalkLemmas.{walk_decides_match, tail_fits}

-- a byte that may be in an ending
abbrev IsEndingByte : ℕ → Type 0
IsEndingByte b = (b < 256) × (is_dash b ≡ false)

-- a class with a member that may be in an ending
record HasMember (class : List ℕ) : Type 0 where
  member : ℕ
  ends : IsEndingByte member
  stands : is_one_of class member ≡ true

class_has : (class : List ℕ) → IsClass class → HasMember class
class_has class k = record {
  member = k.first;
  ends = (k.below, (k.fine k.first k.below k.passes).0);
  stands = ap (λ c. is_one_of c k.first) k.listed ∙ is_one_of-class_by k.test k.first k.below ∙ k.passes;
}

classes_have : (classes : List (List ℕ)) → AllByRecursion IsClass classes → AllByRecursion HasMember classes
classes_have [] each = tt
classes_have (class ∷ classes) each = (class_has class each.0, classes_have classes each.1)

singles_have : (text : List ℕ) → AllByRecursion IsByte text → without_dashes text ≡ text → AllByRecursion HasMember (singles text)
singles_have [] bytes dashless = tt
singles_have (b ∷ text) bytes dashless = by_test (singles_have text bytes.1) (is_dash b) refl dashless
  where
    by_test : (without_dashes text ≡ text → AllByRecursion HasMember (singles text)) → (t : Bool) → is_dash b ≡ t → cond (not t) (b ∷ without_dashes text) (without_dashes text) ≡ b ∷ text → AllByRecursion HasMember (singles (b ∷ text))
    by_test later true e same = absurd (let shorter = without_dashes-length text in omega (arith, ap length same))
      where
        without_dashes-length : (xs : List ℕ) → length (without_dashes xs) < suc (length xs)
        without_dashes-length [] = omega arith
        without_dashes-length (x ∷ xs) = by (without_dashes-length xs) (is_dash x)
          where
            by : length (without_dashes xs) < suc (length xs) → (t : Bool) → length (cond (not t) (x ∷ without_dashes xs) (without_dashes xs)) < suc (suc (length xs))
            by h true = omega arith
            by h false = omega arith
    by_test later false e same =
        (record { member = b; ends = (bytes.0, e); stands = grind (arith, nat_tests) }, later cc)

-- ---- a text that ends before the classes do

record Completes (classes : List (List ℕ)) (digits : List ℕ) : Type 0 where
  ending : List ℕ
  some : 0 < length ending
  bytes : AllByRecursion IsEndingByte ending
  walk : walk_after classes (digits ++ ending) ≡ After []

record Fills (classes : List (List ℕ)) : Type 0 where
  ending : List ℕ
  long : length ending ≡ length classes
  bytes : AllByRecursion IsEndingByte ending
  walk : walk_after classes ending ≡ After []

fills : (classes : List (List ℕ)) → AllByRecursion HasMember classes → Fills classes
fills [] each = record { ending = []; long = refl; bytes = tt; walk = refl }
fills (class ∷ classes) each =
    let more = fills classes each.1 in
    record {
      ending = each.0.member ∷ more.ending;
      long = ap suc more.long;
      bytes = (each.0.ends, more.bytes);
      walk = ap (λ t. cond t (walk_after classes more.ending) Refused) each.0.stands ∙ more.walk;
    }

completes : (classes : List (List ℕ)) → AllByRecursion HasMember classes → (digits : List ℕ) → walk_after classes digits ≡ Short → Completes classes digits
completes [] each digits e = absurd cc
completes (class ∷ classes) each [] e =
    let all = fills (class ∷ classes) each in
    record { ending = all.ending; some = omega (arith, all.long); bytes = all.bytes; walk = all.walk }
completes (class ∷ classes) each (d ∷ digits) e = by_test (completes classes each.1 digits) (is_one_of class d) refl e
  where
    by_test : (walk_after classes digits ≡ Short → Completes classes digits) → (t : Bool) → is_one_of class d ≡ t → cond t (walk_after classes digits) Refused ≡ Short → Completes (class ∷ classes) (d ∷ digits)
    by_test later true t e =
        let more = later e in
        record { ending = more.ending; some = more.some; bytes = more.bytes; walk = ap (λ t. cond t (walk_after classes (digits ++ more.ending)) Refused) t ∙ more.walk }
    by_test later false t e = absurd cc

-- ---- a text that goes on

walk_after-more : (classes : List (List ℕ)) (digits ending rest : List ℕ) → walk_after classes digits ≡ After rest → walk_after classes (digits ++ ending) ≡ After (rest ++ ending)
walk_after-more [] digits ending rest e = let same : digits ≡ rest = cc in ap (λ ds. After (ds ++ ending)) same
walk_after-more (class ∷ classes) [] ending rest e = absurd cc
walk_after-more (class ∷ classes) (d ∷ digits) ending rest e = by_test (walk_after-more classes digits ending rest) (is_one_of class d) refl e
  where
    by_test : (walk_after classes digits ≡ After rest → walk_after classes (digits ++ ending) ≡ After (rest ++ ending)) → (t : Bool) → is_one_of class d ≡ t → cond t (walk_after classes digits) Refused ≡ After rest → cond (is_one_of class d) (walk_after classes (digits ++ ending)) Refused ≡ After (rest ++ ending)
    by_test later true t e = ap (λ t. cond t (walk_after classes (digits ++ ending)) Refused) t ∙ later e
    by_test later false t e = absurd cc

walk_after-refused : (classes : List (List ℕ)) (digits ending : List ℕ) → walk_after classes digits ≡ Refused → walk_after classes (digits ++ ending) ≡ Refused
walk_after-refused [] digits ending e = absurd cc
walk_after-refused (class ∷ classes) [] ending e = absurd cc
walk_after-refused (class ∷ classes) (d ∷ digits) ending e = by_test (walk_after-refused classes digits ending) (is_one_of class d) refl e
  where
    by_test : (walk_after classes digits ≡ Refused → walk_after classes (digits ++ ending) ≡ Refused) → (t : Bool) → is_one_of class d ≡ t → cond t (walk_after classes digits) Refused ≡ Refused → cond (is_one_of class d) (walk_after classes (digits ++ ending)) Refused ≡ Refused
    by_test later true t e = ap (λ t. cond t (walk_after classes (digits ++ ending)) Refused) t ∙ later e
    by_test later false t e = ap (λ t. cond t (walk_after classes (digits ++ ending)) Refused) t

-- an ending that makes the walk one of a match
record Ends (classes : List (List ℕ)) (tail : Tail) (digits : List ℕ) : Type 0 where
  ending : List ℕ
  some : 0 < length ending
  bytes : AllByRecursion IsEndingByte ending
  taken : is_match tail (walk_after classes (digits ++ ending)) ≡ true

each_push : (bytes : List ℕ) (b : ℕ) → AllByRecursion IsEndingByte bytes → IsEndingByte b → AllByRecursion IsEndingByte (bytes ++ b ∷ [])
each_push [] b each last = (last, tt)
each_push (x ∷ bytes) b each last = (each.0, each_push bytes b each.1 last)

ends : (classes : List (List ℕ)) → AllByRecursion HasMember classes → (tail : Tail) (digits : List ℕ) → goes_on tail (walk_after classes digits) ≡ true → Ends classes tail digits
ends classes each tail digits = by_walk tail (walk_after classes digits) refl
  where
    by_walk : (tail : Tail) (walk : Walked) → walk_after classes digits ≡ walk → goes_on tail walk ≡ true → Ends classes tail digits
    by_walk End Refused e h = absurd (true≢false (sym h))
    by_walk End Short e h =
        let more = completes classes each digits e in
        record { ending = more.ending; some = more.some; bytes = more.bytes; taken = ap (is_match End) more.walk }
    by_walk End (After rest) e h = absurd (true≢false (sym h))
    by_walk Dot Refused e h = absurd (true≢false (sym h))
    by_walk Dot Short e h =
        let more = completes classes each digits e in
        record {
          ending = more.ending ++ 48 ∷ [];
          some = omega (arith, length-append more.ending (48 ∷ []));
          bytes = each_push more.ending 48 more.bytes (omega arith, refl);
          taken =
              ap (λ ds. is_match Dot (walk_after classes ds)) (sym (append_assoc digits more.ending (48 ∷ [])))
              ∙ ap (is_match Dot) (walk_after-more classes (digits ++ more.ending) (48 ∷ []) [] more.walk);
        }
    by_walk Dot (After rest) e h = record {
      ending = 48 ∷ [];
      some = omega arith;
      bytes = ((omega arith, refl), tt);
      taken = ap (is_match Dot) (walk_after-more classes digits (48 ∷ []) rest e) ∙ (tail_fits Dot (rest ++ 48 ∷ [])).1 (omega (arith, length-append rest (48 ∷ [])));
    }
    by_walk Bang walk e h = absurd (true≢false (sym h))

goes : (classes : List (List ℕ)) (tail : Tail) (digits ending : List ℕ) → (tail ≡ Bang → ⊥) → 0 < length ending → is_match tail (walk_after classes (digits ++ ending)) ≡ true → goes_on tail (walk_after classes digits) ≡ true
goes classes tail digits ending bounded some taken = by_walk tail bounded (walk_after classes digits) refl taken
  where
    by_walk : (tail : Tail) → (tail ≡ Bang → ⊥) → (walk : Walked) → walk_after classes digits ≡ walk → is_match tail (walk_after classes (digits ++ ending)) ≡ true → goes_on tail walk ≡ true
    by_walk Bang bounded walk e h = absurd (bounded refl)
    by_walk End bounded Refused e h = absurd (true≢false (sym h ∙ ap (is_match End) (walk_after-refused classes digits ending e)))
    by_walk Dot bounded Refused e h = absurd (true≢false (sym h ∙ ap (is_match Dot) (walk_after-refused classes digits ending e)))
    by_walk End bounded Short e h = refl
    by_walk Dot bounded Short e h = refl
    by_walk End bounded (After rest) e h =
        let empty = (tail_fits End (rest ++ ending)).0 (sym (ap (is_match End) (walk_after-more classes digits ending rest e)) ∙ h) in
        absurd (omega (arith, ap length empty, length-append rest ending))
    by_walk Dot bounded (After rest) e h = refl

-- ---- names

without_dashes-ending : (ending : List ℕ) → AllByRecursion IsEndingByte ending → without_dashes ending ≡ ending
without_dashes-ending [] each = refl
without_dashes-ending (b ∷ ending) each =
    ap (λ t. cond (not t) (b ∷ without_dashes ending) (without_dashes ending)) each.0.1 ∙ ap (λ bytes. b ∷ bytes) (without_dashes-ending ending each.1)

without_dashes-more : (text ending : List ℕ) → AllByRecursion IsEndingByte ending → without_dashes (text ++ ending) ≡ without_dashes text ++ ending
without_dashes-more text ending each =
    filter-append (λ b. not (is_dash b)) text ending ∙ ap (λ bytes. without_dashes text ++ bytes) (without_dashes-ending ending each)

has_members : (name : Meaning) → IsMeaning name → AllByRecursion HasMember (classes_of name)
has_members (Plain text) means = singles_have text means.bytes means.dashless
has_members (Pattern classes tail) means = classes_have classes means.0

not_bang : (name : Meaning) → HasNoBang name → tail_of name ≡ Bang → ⊥
not_bang (Plain text) bounded e = absurd cc
not_bang (Pattern classes End) bounded e = absurd cc
not_bang (Pattern classes Dot) bounded e = absurd cc
not_bang (Pattern classes Bang) bounded e = bounded

no_bang : (name : Meaning) (walk : Walked) → goes_on (tail_of name) walk ≡ true → HasNoBang name
no_bang (Plain text) walk e = tt
no_bang (Pattern classes End) walk e = tt
no_bang (Pattern classes Dot) walk e = tt
no_bang (Pattern classes Bang) walk e = true≢false (sym e)

-- the walk along a name over a text decides whether some ending makes them match
pub going_on : (name : Meaning) (text : List ℕ) → IsMeaning name → Decides (goes_on (tail_of name) (walk_after (classes_of name) (without_dashes text))) (GoesOn name text)
going_on name text means = (there, back)
  where
    there : goes_on (tail_of name) (walk_after (classes_of name) (without_dashes text)) ≡ true → GoesOn name text
    there h =
        let found = ends (classes_of name) (has_members name means) (tail_of name) (without_dashes text) h in
        record {
          ending = found.ending;
          some = found.some;
          bytes = λ k within. (each_of IsEndingByte found.ending found.bytes k within).0;
          dashless = λ k within same. true≢false (sym (eq-eqb (slice_index found.ending k) 45 same) ∙ (each_of IsEndingByte found.ending found.bytes k within).1);
          matching = (walk_decides_match name (text ++ found.ending)).0 (ap (λ ds. is_match (tail_of name) (walk_after (classes_of name) ds)) (without_dashes-more text found.ending found.bytes) ∙ found.taken);
          no_bang = no_bang name (walk_after (classes_of name) (without_dashes text)) h;
        }

    back : GoesOn name text → goes_on (tail_of name) (walk_after (classes_of name) (without_dashes text)) ≡ true
    back found =
        let each = each_by_index IsEndingByte found.ending (λ k within. (found.bytes k within, ne_eqb (slice_index found.ending k) 45 (found.dashless k within))) in
        goes (classes_of name) (tail_of name) (without_dashes text) found.ending (not_bang name found.no_bang) found.some
        (ap (λ ds. is_match (tail_of name) (walk_after (classes_of name) ds)) (sym (without_dashes-more text found.ending each)) ∙ (walk_decides_match name (text ++ found.ending)).1 found.matching)
