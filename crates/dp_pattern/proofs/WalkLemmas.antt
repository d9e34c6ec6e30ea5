-- What a walk says of a match.
use Rattle.std.proofs.Common.{◌≡◌, ℕ, suc, ◌<◌, Bool, true, false, cond, ◌||◌, ◌==◌, List, [], ◌∷◌, ◌++◌, length, drop, Contains, Decides, eqb-true, eq-eqb, true≢false, refl, sym, ap, ◌∙◌, arith, slice_index}
use Rattle.std.specs.List.{AllZip}
use Rattle.std.proofs.Math.Seq.{drop-cons}
use Rattle.std.proofs.lemmas.Cmp.{nat_eq_equiv}
use Rattle.std.proofs.lemmas.Map.Views.{list_any-from_Contains, Contains-from_any}
use Rattle.dp_pattern.specs.Dashes.{without_dashes}
use Rattle.dp_pattern.specs.Name.{Meaning, Plain, Pattern, is_one_of}
use Rattle.dp_pattern.specs.Matches.{Matches, MatchesPattern, FitsTail}
use Rattle.dp_pattern.specs.Walk.{Walked, Refused, Short, After, walk_after, singles, classes_of, tail_of, tail_allows, is_match}
use Rattle.dp_pattern.specs.declared.tail.Tail.{Tail}
use Rattle.dp_pattern.specs.declared.tail.Tail.TheVariants.{End, Dot, Bang}

-- a text without a digit at a class of a plain name
pub walk_after-short : (plain digits : List ℕ) (i : ℕ) → i < length plain → digits ≡ [] → walk_after (singles (drop i plain)) digits ≡ Short
walk_after-short plain digits i within none =
    ap (λ bytes. walk_after (singles bytes) digits) (drop-cons plain i 0 within) ∙ ap (λ ds. walk_after (singles (slice_index plain i ∷ drop (suc i) plain)) ds) none

-- the test of a byte decides whether it is a member
pub member : (class : List ℕ) (d : ℕ) → Decides (is_one_of class d) (Contains class d)
member class d = (λ h. Contains-from_any (λ x y e. eqb-true x y e) d class h, λ h. list_any-from_Contains nat_eq_equiv d class h)

pub tail_fits : (tail : Tail) (rest : List ℕ) → Decides (tail_allows tail rest) (FitsTail tail rest)
tail_fits End [] = (λ _. refl, λ _. refl)
tail_fits End (d ∷ digits) = (λ e. absurd (true≢false (sym e)), λ e. cc)
tail_fits Dot [] = (λ e. absurd (true≢false (sym e)), λ e. absurd (omega arith))
tail_fits Dot (d ∷ digits) = (λ _. omega arith, λ _. refl)
tail_fits Bang rest = (λ _. tt, λ _. refl)

-- a walk to the end, and the members on it
pub record Takes (classes : List (List ℕ)) (digits rest : List ℕ) : Type 0 where
  pub begin : List ℕ
  pub whole : digits ≡ begin ++ rest
  pub members : AllZip Contains classes begin

pub takes : (classes : List (List ℕ)) (digits rest : List ℕ) → walk_after classes digits ≡ After rest → Takes classes digits rest
takes [] digits rest e = record { begin = []; whole = cc; members = tt }
takes (class ∷ classes) [] rest e = absurd cc
takes (class ∷ classes) (d ∷ digits) rest e = by_test (takes classes digits rest) (is_one_of class d) refl
  where
    by_test : (walk_after classes digits ≡ After rest → Takes classes digits rest) → (t : Bool) → is_one_of class d ≡ t → Takes (class ∷ classes) (d ∷ digits) rest
    by_test later true t =
        let more = later (rw t at e) in
        record { begin = d ∷ more.begin; whole = ap (λ ds. d ∷ ds) more.whole; members = ((member class d).0 t, more.members) }
    by_test later false t = let stuck : Refused ≡ After rest = rw t at e in absurd cc

pub walk_after-takes : (classes : List (List ℕ)) (begin rest : List ℕ) → AllZip Contains classes begin → walk_after classes (begin ++ rest) ≡ After rest
walk_after-takes [] [] rest members = refl
walk_after-takes [] (d ∷ begin) rest members = absurd members
walk_after-takes (class ∷ classes) [] rest members = absurd members
walk_after-takes (class ∷ classes) (d ∷ begin) rest members = rw ((member class d).1 members.0) (walk_after-takes classes begin rest members.1)

pub matched_pattern : (classes : List (List ℕ)) (tail : Tail) (digits : List ℕ) → Decides (is_match tail (walk_after classes digits)) (MatchesPattern classes tail digits)
matched_pattern classes tail digits = (by_walk (walk_after classes digits) refl, back)
  where
    by_walk : (walk : Walked) → walk_after classes digits ≡ walk → is_match tail walk ≡ true → MatchesPattern classes tail digits
    by_walk Refused e h = absurd (true≢false (sym h))
    by_walk Short e h = absurd (true≢false (sym h))
    by_walk (After rest) e h =
        let way = takes classes digits rest e in
        record { begin = way.begin; rest = rest; whole = way.whole; members = way.members; ending = (tail_fits tail rest).0 h }

    back : MatchesPattern classes tail digits → is_match tail (walk_after classes digits) ≡ true
    back found =
        ap (λ ds. is_match tail (walk_after classes ds)) found.whole
        ∙ ap (is_match tail) (walk_after-takes classes found.begin found.rest found.members)
        ∙ (tail_fits tail found.rest).1 found.ending

pub plain_taken : (plain digits : List ℕ) → Decides (is_match End (walk_after (singles plain) digits)) (digits ≡ plain)
plain_taken [] [] = (λ _. refl, λ _. refl)
plain_taken [] (d ∷ digits) = (λ e. absurd (true≢false (sym e)), λ e. cc)
plain_taken (b ∷ plain) [] = (λ e. absurd (true≢false (sym e)), λ e. cc)
plain_taken (b ∷ plain) (d ∷ digits) = by_test (plain_taken plain digits) (d == b) refl
  where
    by_test : Decides (is_match End (walk_after (singles plain) digits)) (digits ≡ plain) → (t : Bool) → (d == b) ≡ t → Decides (is_match End (cond (t || false) (walk_after (singles plain) digits) Refused)) (d ∷ digits ≡ b ∷ plain)
    by_test later true t = let same : d ≡ b = eqb-true d b t in (λ h. let rest = later.0 h in cc, λ e. later.1 cc)
    by_test later false t = (λ h. absurd (true≢false (sym h)), λ e. let same : d ≡ b = cc in absurd (true≢false (sym (eq-eqb d b same) ∙ t)))

-- the walk along a name over a text decides whether they match
pub walk_decides_match : (name : Meaning) (text : List ℕ) → Decides (is_match (tail_of name) (walk_after (classes_of name) (without_dashes text))) (Matches name text)
unfolding Matches
walk_decides_match (Plain plain) text = plain_taken plain (without_dashes text)
walk_decides_match (Pattern classes tail) text = matched_pattern classes tail (without_dashes text)
