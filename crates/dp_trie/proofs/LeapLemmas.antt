-- A leap over the roots of a tree skips nothing that is requested.
use Rattle.std.proofs.Common.{◌≡◌, ◌≢◌, ℕ, zero, suc, ◌+◌, ◌<◌, ◌≤◌, Bool, true, false, cond, ◌||◌, List, [], ◌∷◌, length, get_or, set, Option, Some, arith, refl, sym, ap, subst, ◌∙◌, inl, inr, length-set, get_or-set_same}
use Rattle.std.specs.Prelude.{slice_get, slice_index}
use Rattle.std.specs.Option.{option_map_or}
use Rattle.std.proofs.lemmas.Bool.{cases_eq}
use Rattle.std.proofs.lemmas.Option.{slice_get-get_or, slice_get_within, same_Some}
use Rattle.dp_pattern.specs.Name.{is_one_of}
use Rattle.dp_trie.specs.Asked.{Wanted}
use Rattle.dp_trie.specs.steps.Leaps.{IsOutside, IsPassed, Passes, IsLeap, AreLeaps, Leads}
use Rattle.dp_trie.specs.Tree.{HaveEnds, step_visit}
use Rattle.dp_trie.specs.declared.leap.Leap.{Leap}
use Rattle.dp_trie.specs.declared.node.HeldEntry.{HeldEntry}
use Rattle.dp_trie.specs.declared.node.Node.{Node}
use Rattle.dp_trie.specs.declared.node.Step.TheVariants.{Class}
use Rattle.dp_trie.specs.declared.walk.Visit.TheVariants.{Enters, Fails}
use Rattle.dp_trie.proofs.BuildLemmas.{all-at}
use Rattle.dp_trie.proofs.TreeLemmas.{IsAt, after-fail}

-- ---- marks

get-other : (marks : List Bool) (place b : ℕ) (value : Bool) → b ≢ place → slice_get (set marks place value) b ≡ slice_get marks b
get-other [] place b value other = refl
get-other (x ∷ marks) zero zero value other = absurd (other refl)
get-other (x ∷ marks) zero (suc b) value other = refl
get-other (x ∷ marks) (suc place) zero value other = refl
get-other (x ∷ marks) (suc place) (suc b) value other = get-other marks place b value (λ e. other (ap suc e))

get-same : (marks : List Bool) (place : ℕ) (value : Bool) → place < length marks → slice_get (set marks place value) place ≡ Some value
get-same marks place value within =
    let size = length-set marks place value in
    slice_get-get_or (set marks place value) place false (omega (arith, size, within)) ∙ ap Some (get_or-set_same marks place value false within)

-- the bytes of the class below some byte are marked, and none that was marked before
pub record AreMarked (class : List ℕ) (old : List Bool) (byte : ℕ) (now : List Bool) : Type 0 where
  pub size : length now ≡ 256
  pub kept : (b : ℕ) → slice_get now b ≡ Some false → slice_get old b ≡ Some false
  pub outside : (b : ℕ) → b < byte → slice_get now b ≡ Some false → is_one_of class b ≡ false

pub marked-start : (class : List ℕ) (old : List Bool) → length old ≡ 256 → AreMarked class old 0 old
marked-start class old size = record { size = size; kept = λ b e. e; outside = λ b below e. absurd (omega (arith, below)) }

pub marked-more : (class : List ℕ) (old now : List Bool) (byte : ℕ) → byte < 256 → AreMarked class old byte now
    → AreMarked class old (byte + 1) (set now byte (get_or now byte false || is_one_of class byte))
marked-more class old now byte within marked = record {
  size = length-set now byte value ∙ marked.size;
  kept = λ b e. elim (cases_eq b byte) [
    | inl same ↦ marked.kept b (ap (slice_get now) same ∙ was (subst (λ k. slice_get (set now byte value) k ≡ Some false) same e))
    | inr other ↦ marked.kept b (sym (get-other now byte b value other) ∙ e)
  ];
  outside = λ b below e. elim (cases_eq b byte) [
    | inl same ↦ ap (is_one_of class) same ∙ has (subst (λ k. slice_get (set now byte value) k ≡ Some false) same e)
    | inr other ↦ marked.outside b (omega (arith, below, other)) (sym (get-other now byte b value other) ∙ e)
  ];
}
  where
    value : Bool
    value = get_or now byte false || is_one_of class byte

    inside : byte < length now
    inside = let size = marked.size in omega (arith, size, within)

    none : slice_get (set now byte value) byte ≡ Some false → value ≡ false
    none e = same_Some value false (sym (get-same now byte value inside) ∙ e)

    left : (a b : Bool) → (a || b) ≡ false → a ≡ false
    left true b e = e
    left false b e = refl

    right : (a b : Bool) → (a || b) ≡ false → b ≡ false
    right true b e = absurd cc
    right false b e = e

    was : slice_get (set now byte value) byte ≡ Some false → slice_get now byte ≡ Some false
    was e = slice_get-get_or now byte false inside ∙ ap Some (left (get_or now byte false) (is_one_of class byte) (none e))

    has : slice_get (set now byte value) byte ≡ Some false → is_one_of class byte ≡ false
    has e = right (get_or now byte false) (is_one_of class byte) (none e)

pub marked-outside : (class : List ℕ) (old now : List Bool) (byte : ℕ) → 256 ≤ byte → AreMarked class old byte now → IsOutside now class
marked-outside class old now byte all marked b e =
    let size = marked.size in
    let inside = slice_get_within now b false e in
    marked.outside b (omega (arith, size, inside, all)) e

-- ---- chains of roots

pub passes-kept : (nodes : List Node) (ends : List ℕ) (old now : List Bool) → ((b : ℕ) → slice_get now b ≡ Some false → slice_get old b ≡ Some false)
    → (count from until : ℕ) → Passes nodes ends old count from until → Passes nodes ends now count from until
passes-kept nodes ends old now kept zero from until same = same
passes-kept nodes ends old now kept (suc count) from until passes = (
  record { class = passes.0.class; here = passes.0.here; outside = λ b e. passes.0.outside b (kept b e) },
  passes-kept nodes ends old now kept count (slice_index ends from) until passes.1,
)

passes-push : (nodes : List Node) (ends : List ℕ) (marks : List Bool) (count from until : ℕ) → Passes nodes ends marks count from until
    → IsPassed nodes marks until → Passes nodes ends marks (suc count) from (slice_index ends until)
passes-push nodes ends marks zero from until same passed = (subst (IsPassed nodes marks) (sym same) passed, ap (slice_index ends) same)
passes-push nodes ends marks (suc count) from until passes passed =
    (passes.0, passes-push nodes ends marks count (slice_index ends from) until passes.1 passed)

-- one more root
pub passes-more : (nodes : List Node) (ends : List ℕ) (old now : List Bool) (count from until : ℕ) (class : List ℕ)
    → Passes nodes ends old count from until
    → ((b : ℕ) → slice_get now b ≡ Some false → slice_get old b ≡ Some false)
    → IsOutside now class → slice_get nodes until ≡ Some (record { depth = 0; step = Class class })
    → Passes nodes ends now (count + 1) from (slice_index ends until)
passes-more nodes ends old now count from until class passes kept outside here =
    let more : suc count ≡ count + 1 = omega arith in
    subst (λ n. Passes nodes ends now n from (slice_index ends until)) more
    (passes-push nodes ends now count from until (passes-kept nodes ends old now kept count from until passes)
    (record { class = class; here = here; outside = outside }))

-- ---- a leap of a walk

module _ (held : List HeldEntry) (more : Bool) (wanted : Wanted) (digits : List ℕ) (nodes : List Node) (ends : List ℕ) (linked : HaveEnds nodes ends) where
  after-passes : (marks : List Bool) (byte : ℕ) → slice_get digits 0 ≡ Some byte → slice_get marks byte ≡ Some false
      → (passed place until count : ℕ) → Passes nodes ends marks passed place until
      → IsAt held more wanted digits nodes place count → IsAt held more wanted digits nodes until count
  after-passes marks byte first unmarked zero place until count same at = subst (λ p. IsAt held more wanted digits nodes p count) same at
  after-passes marks byte first unmarked (suc passed) place until count passes at =
      let node : Node = record { depth = 0; step = Class passes.0.class } in
      let fails : step_visit held more wanted digits 0 (Class passes.0.class) ≡ Fails =
      ap (λ (o : Option ℕ). cond (option_map_or (is_one_of passes.0.class) o more) Enters Fails) first
      ∙ ap (λ b. cond b Enters Fails) (passes.0.outside byte unmarked) in
      after-passes marks byte first unmarked passed (slice_index ends place) until count passes.1
      (after-fail held more wanted digits nodes place count at node passes.0.here (slice_index ends place) (linked.each place node passes.0.here) fails)

  -- what is found after a leap is what is found before it
  pub after-leap : (leaps : List Leap) (place until count : ℕ) (digit : Option ℕ) → AreLeaps nodes ends leaps → digit ≡ slice_get digits 0
      → Leads leaps place digit until
      → IsAt held more wanted digits nodes place count → IsAt held more wanted digits nodes until count
  after-leap leaps place until count digit are same leads at =
      let is_leap = all-at (IsLeap nodes ends) leaps leads.number leads.leap are leads.there in
      subst (λ p. IsAt held more wanted digits nodes p count) leads.end
      (after-passes leads.leap.marks leads.byte (sym same ∙ leads.first) leads.unmarked is_leap.count leads.leap.from leads.leap.until count is_leap.passes
      (subst (λ p. IsAt held more wanted digits nodes p count) (sym leads.from) at))
