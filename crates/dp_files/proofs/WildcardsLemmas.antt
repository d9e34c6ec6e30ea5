-- A pattern along a name: what the last `*` still has to try, and what depends on it.
use Rattle.std.proofs.Common.{◌≡◌, ℕ, ◌+◌, ◌-◌, ◌*◌, ◌<◌, ◌≤◌, Bool, true, false, cond, eqb, ◌||◌, ◌&&◌, List, [], ◌∷◌, Option, Some, None, drop, length, refl, ap, sym, subst, ◌∙◌, arith}
use Rattle.std.specs.List.{list_any}
use Rattle.std.proofs.Math.Bool.{or-false}
use Rattle.std.proofs.lemmas.Bool.{true≢false, eqb-true}
use Rattle.std.specs.Option.{option_map_or}
use Rattle.dp_conf.specs.Cut.{begins_with, before_last}
use Rattle.dp_files.specs.Wildcards.{ends_of, matches}
use Rattle.dp_files.specs.steps.Wildcards.{first_fits, next_star}

-- the suffixes of a text that are shorter than it
abbrev pub shorter_ends : List ℕ → List (List ℕ)
shorter_ends [] = []
shorter_ends (b ∷ bs) = ends_of bs

-- whether a pattern matches a shorter suffix of a name
abbrev pub matches_later : List ℕ → List ℕ → Bool
matches_later pattern name = list_any (matches pattern) (shorter_ends name)

-- whether what is left to try of a `*` matches the rest of the name
abbrev pub star_matches : Option (List ℕ × List ℕ) → Bool
star_matches None = false
star_matches (Some star) = matches_later star.0 star.1

-- what is left to try matches only if a shorter suffix of the name does
abbrev pub IsCovered : Option (List ℕ × List ℕ) → List ℕ → List ℕ → Type 0
IsCovered star pattern name = star_matches star ≡ true → matches_later pattern name ≡ true

-- the amount of work left
abbrev pub work : ℕ → ℕ → List ℕ → Option (List ℕ × List ℕ) → ℕ
work patterns names pattern None = (patterns + 1 + names) * (patterns + 1) + length pattern
work patterns names pattern (Some star) = (length star.0 + length star.1) * (patterns + 1) + length pattern

-- the progress of the search, given the lengths of the pattern and the name
abbrev pub IsWithin : ℕ → ℕ → Option (List ℕ × List ℕ) → List ℕ → List ℕ → Type 0
IsWithin patterns names None pattern name = (length pattern ≤ patterns) × (length name ≤ names)
IsWithin patterns names (Some star) pattern name = (length pattern ≤ length star.0) × (length name ≤ length star.1) × (length star.0 ≤ patterns)

-- the result depends on what is left to try
pub record IsUnderway (patterns names : ℕ) (whole : Bool) (star : Option (List ℕ × List ℕ)) (pattern name : List ℕ) : Type 0 where
  pub decides : (matches pattern name || star_matches star) ≡ whole
  pub covered : IsCovered star pattern name
  pub within : IsWithin patterns names star pattern name

-- nothing has been tried yet
pub underway_first : (pattern name : List ℕ) → IsUnderway (length pattern) (length name) (matches pattern name) None pattern name
underway_first pattern name = record { decides = or-false (matches pattern name); covered = λ e. absurd cc; within = (omega arith, omega arith) }

or-right : (a b : Bool) → b ≡ true → (a || b) ≡ true
or-right true b e = refl
or-right false b e = e

or-left : (a b : Bool) → a ≡ true → (a || b) ≡ true
or-left true b e = refl
or-left false b e = absurd cc

-- a test that follows from another adds nothing to it
or-covered : (x s : Bool) → (s ≡ true → x ≡ true) → (x || s) ≡ x
or-covered true s f = refl
or-covered false true f = sym (f refl)
or-covered false false f = refl

-- a text is one of its suffixes
matches-ends : (pattern name : List ℕ) → matches pattern name ≡ true → list_any (matches pattern) (ends_of name) ≡ true
matches-ends pattern [] e = or-left (matches pattern []) false e
matches-ends pattern (b ∷ bs) e = or-left (matches pattern (b ∷ bs)) (list_any (matches pattern) (ends_of bs)) e

-- the suffixes of a text are the text and its shorter suffixes
ends-first : (pattern name : List ℕ) → list_any (matches pattern) (ends_of name) ≡ (matches pattern name || matches_later pattern name)
ends-first pattern [] = refl
ends-first pattern (b ∷ bs) = refl

-- a second `*` matches what the first would leave
matches-star : (pattern name : List ℕ) → list_any (matches (42 ∷ pattern)) (ends_of name) ≡ true → list_any (matches pattern) (ends_of name) ≡ true
matches-star pattern [] e = e
matches-star pattern (b ∷ bs) e = by (matches-star pattern bs) (matches pattern (b ∷ bs) || list_any (matches pattern) (ends_of bs)) refl e
  where
    by : (list_any (matches (42 ∷ pattern)) (ends_of bs) ≡ true → list_any (matches pattern) (ends_of bs) ≡ true) → (t : Bool) → (matches pattern (b ∷ bs) || list_any (matches pattern) (ends_of bs)) ≡ t
        → (t || list_any (matches (42 ∷ pattern)) (ends_of bs)) ≡ true → (matches pattern (b ∷ bs) || list_any (matches pattern) (ends_of bs)) ≡ true
    by shorter true same e = same
    by shorter false same e = or-right (matches pattern (b ∷ bs)) (list_any (matches pattern) (ends_of bs)) (shorter e)

later-ends : (pattern name : List ℕ) → matches_later pattern name ≡ true → list_any (matches pattern) (ends_of name) ≡ true
later-ends pattern name e = ends-first pattern name ∙ or-right (matches pattern name) (matches_later pattern name) e

-- if a pattern matches a suffix of a name, its rest matches a shorter suffix
matches_later-byte : (p : ℕ) (pattern name : List ℕ) → eqb p 42 ≡ false → list_any (matches (p ∷ pattern)) (ends_of name) ≡ true → matches_later pattern name ≡ true
matches_later-byte p pattern [] plain e = absurd (true≢false (sym e ∙ ap (λ t. (t && matches pattern []) || false) plain))
matches_later-byte p pattern (b ∷ bs) plain e = by (matches_later-byte p pattern bs plain) (matches (p ∷ pattern) (b ∷ bs)) refl e
  where
    rest : (fits : Bool) → (fits && matches pattern bs) ≡ true → matches pattern bs ≡ true
    rest true e = e
    rest false e = absurd cc

    by : (list_any (matches (p ∷ pattern)) (ends_of bs) ≡ true → matches_later pattern bs ≡ true) → (t : Bool) → matches (p ∷ pattern) (b ∷ bs) ≡ t
        → (t || list_any (matches (p ∷ pattern)) (ends_of bs)) ≡ true → list_any (matches pattern) (ends_of bs) ≡ true
    by shorter true same e = matches-ends pattern bs (rest (eqb p 63 || eqb p b) (sym (ap (λ t. cond t (list_any (matches pattern) (ends_of (b ∷ bs))) ((eqb p 63 || eqb p b) && matches pattern bs)) plain) ∙ same))
    by shorter false same e = later-ends pattern bs (shorter e)

covered-star : (star : Option (List ℕ × List ℕ)) (pattern name : List ℕ) → IsCovered star (42 ∷ pattern) name → star_matches star ≡ true → matches_later pattern name ≡ true
covered-star star pattern [] covered e = covered e
covered-star star pattern (b ∷ bs) covered e = matches-star pattern bs (covered e)

matches-star_first : (pattern name : List ℕ) → matches (42 ∷ pattern) name ≡ (matches pattern name || matches_later pattern name)
matches-star_first pattern [] = sym (or-false (matches pattern []))
matches-star_first pattern (b ∷ bs) = refl

within-star : (patterns names : ℕ) (star : Option (List ℕ × List ℕ)) (p : ℕ) (pattern name : List ℕ) → IsWithin patterns names star (p ∷ pattern) name → length pattern ≤ patterns
within-star patterns names None p pattern name within = omega (arith, within.0)
within-star patterns names (Some star) p pattern name within = omega (arith, within.0, within.1, within.2)

-- at a `*`
pub underway_star : (patterns names : ℕ) (whole : Bool) (star : Option (List ℕ × List ℕ)) (pattern name : List ℕ) → begins_with 42 pattern ≡ true
    → IsUnderway patterns names whole star pattern name → IsUnderway patterns names whole (Some (drop 1 pattern, name)) (drop 1 pattern) name
underway_star patterns names whole star [] name starts u = absurd cc
underway_star patterns names whole star (p ∷ pattern) name starts u =
    let is : p ≡ 42 = eqb-true p 42 starts in
    let v : IsUnderway patterns names whole star (42 ∷ pattern) name = subst (λ b. IsUnderway patterns names whole star (b ∷ pattern) name) is u in
    let found = matches-star_first pattern name in
    record {
      decides =
          sym found ∙ sym (or-covered (matches (42 ∷ pattern) name) (star_matches star) (λ e. found ∙ or-right (matches pattern name) (matches_later pattern name) (covered-star star pattern name v.covered e)))
          ∙ v.decides;
      covered = λ e. e;
      within = (omega arith, omega arith, within-star patterns names star p pattern name u.within);
    }

matches-plain : (p b : ℕ) (pattern name : List ℕ) → eqb p 42 ≡ false → matches (p ∷ pattern) (b ∷ name) ≡ ((eqb p 63 || eqb p b) && matches pattern name)
matches-plain p b pattern name plain = ap (λ t. cond t (list_any (matches pattern) (ends_of (b ∷ name))) ((eqb p 63 || eqb p b) && matches pattern name)) plain

within-byte : (patterns names : ℕ) (star : Option (List ℕ × List ℕ)) (p b : ℕ) (pattern name : List ℕ) → IsWithin patterns names star (p ∷ pattern) (b ∷ name) → IsWithin patterns names star pattern name
within-byte patterns names None p b pattern name within = (omega (arith, within.0), omega (arith, within.1))
within-byte patterns names (Some star) p b pattern name within = (omega (arith, within.0), omega (arith, within.1), within.2)

-- at a byte that fits
pub underway_byte : (patterns names : ℕ) (whole : Bool) (star : Option (List ℕ × List ℕ)) (pattern name : List ℕ) → begins_with 42 pattern ≡ false → first_fits pattern name ≡ true
    → IsUnderway patterns names whole star pattern name → IsUnderway patterns names whole star (drop 1 pattern) (drop 1 name)
underway_byte patterns names whole star [] name plain fits u = absurd cc
underway_byte patterns names whole star (p ∷ pattern) [] plain fits u = absurd cc
underway_byte patterns names whole star (p ∷ pattern) (b ∷ name) plain fits u = record {
  decides = ap (λ t. t || star_matches star) (sym (matches-plain p b pattern name plain ∙ ap (λ t. t && matches pattern name) fits)) ∙ u.decides;
  covered = λ e. matches_later-byte p pattern name plain (u.covered e);
  within = within-byte patterns names star p b pattern name u.within;
}

-- if no byte fits
matches-differs : (pattern name : List ℕ) → begins_with 42 pattern ≡ false → first_fits pattern name ≡ false → 0 < length pattern + length name → matches pattern name ≡ false
matches-differs [] [] plain fits some = absurd (omega (arith, some))
matches-differs [] (b ∷ name) plain fits some = refl
matches-differs (p ∷ pattern) [] plain fits some = ap (λ t. t && matches pattern []) plain
matches-differs (p ∷ pattern) (b ∷ name) plain fits some = matches-plain p b pattern name plain ∙ ap (λ t. t && matches pattern name) fits

-- the last `*` takes one byte more
pub underway_later : (patterns names : ℕ) (whole : Bool) (star : Option (List ℕ × List ℕ)) (pattern name : List ℕ) (next : List ℕ × List ℕ) → begins_with 42 pattern ≡ false → first_fits pattern name ≡ false
    → 0 < length pattern + length name → next_star star ≡ Some next → IsUnderway patterns names whole star pattern name → IsUnderway patterns names whole (Some next) next.0 next.1
underway_later patterns names whole None pattern name next plain fits some e u = absurd cc
underway_later patterns names whole (Some (after, [])) pattern name next plain fits some e u = absurd cc
underway_later patterns names whole (Some (after, b ∷ bs)) pattern name next plain fits some e u =
    let same : next ≡ (after, bs) = cc in
    subst (λ (n : List ℕ × List ℕ). IsUnderway patterns names whole (Some n) n.0 n.1) (sym same) (record {
      decides = sym (ends-first after bs) ∙ ap (λ t. t || matches_later after (b ∷ bs)) (sym (matches-differs pattern name plain fits some)) ∙ u.decides;
      covered = λ e. e;
      within = (omega arith, omega arith, u.within.2);
    })

-- no `*` can take more
pub underway_differs : (patterns names : ℕ) (whole : Bool) (star : Option (List ℕ × List ℕ)) (pattern name : List ℕ) → begins_with 42 pattern ≡ false → first_fits pattern name ≡ false
    → 0 < length pattern + length name → next_star star ≡ None → IsUnderway patterns names whole star pattern name → false ≡ whole
underway_differs patterns names whole None pattern name plain fits some e u =
    ap (λ t. t || false) (sym (matches-differs pattern name plain fits some)) ∙ u.decides
underway_differs patterns names whole (Some (after, [])) pattern name plain fits some e u =
    ap (λ t. t || false) (sym (matches-differs pattern name plain fits some)) ∙ u.decides
underway_differs patterns names whole (Some (after, b ∷ bs)) pattern name plain fits some e u = absurd cc

-- both have ended
pub underway_over : (patterns names : ℕ) (whole : Bool) (star : Option (List ℕ × List ℕ)) (pattern name : List ℕ) → length pattern ≡ 0 → length name ≡ 0 → IsUnderway patterns names whole star pattern name → true ≡ whole
underway_over patterns names whole star [] [] p n u = u.decides
underway_over patterns names whole star (p ∷ pattern) name e n u = absurd (omega (arith, e))
underway_over patterns names whole star [] (b ∷ name) e n u = absurd (omega (arith, n))

less_work : (a b k l m : ℕ) → a < b → l < k → a * k + l < b * k + m
less_work a b k l m below small =
    let e : b ≡ a + 1 + (b - (a + 1)) = omega (arith, below) in
    rw e (omega (arith, small))

-- each turn leaves less work
pub work_star : (patterns names : ℕ) (whole : Bool) (star : Option (List ℕ × List ℕ)) (pattern name : List ℕ) → begins_with 42 pattern ≡ true
    → IsUnderway patterns names whole star pattern name → work patterns names (drop 1 pattern) (Some (drop 1 pattern, name)) < work patterns names pattern star
work_star patterns names whole star [] name starts u = absurd cc
work_star patterns names whole None (p ∷ pattern) name starts u =
    less_work (length pattern + length name) (patterns + 1 + names) (patterns + 1) (length pattern) (length (p ∷ pattern)) (omega (arith, u.within.0, u.within.1)) (omega (arith, u.within.0))
work_star patterns names whole (Some star) (p ∷ pattern) name starts u =
    less_work (length pattern + length name) (length star.0 + length star.1) (patterns + 1) (length pattern) (length (p ∷ pattern)) (omega (arith, u.within.0, u.within.1)) (omega (arith, u.within.0, u.within.2))

pub work_byte : (patterns names : ℕ) (star : Option (List ℕ × List ℕ)) (pattern name : List ℕ) → first_fits pattern name ≡ true → work patterns names (drop 1 pattern) star < work patterns names pattern star
work_byte patterns names star [] name fits = absurd cc
work_byte patterns names None (p ∷ pattern) name fits = omega arith
work_byte patterns names (Some star) (p ∷ pattern) name fits = omega arith

pub work_later : (patterns names : ℕ) (whole : Bool) (star : Option (List ℕ × List ℕ)) (pattern name : List ℕ) (next : List ℕ × List ℕ) → next_star star ≡ Some next
    → IsUnderway patterns names whole star pattern name → work patterns names next.0 (Some next) < work patterns names pattern star
work_later patterns names whole None pattern name next e u = absurd cc
work_later patterns names whole (Some (after, [])) pattern name next e u = absurd cc
work_later patterns names whole (Some (after, b ∷ bs)) pattern name next e u =
    let same : next ≡ (after, bs) = cc in
    subst (λ (n : List ℕ × List ℕ). work patterns names n.0 (Some n) < work patterns names pattern (Some (after, b ∷ bs))) (sym same)
    (less_work (length after + length bs) (length after + length (b ∷ bs)) (patterns + 1) (length after) (length pattern) (omega arith) (omega (arith, u.within.2)))

-- a folder is shorter than the name
pub folder_shorter : (byte : ℕ) (name folder : List ℕ) → before_last byte name ≡ Some folder → length folder + 1 ≤ length name
folder_shorter byte [] folder e = absurd cc
folder_shorter byte (b ∷ bs) folder e = by (folder_shorter byte bs) (before_last byte bs) refl e
  where
    here : (t : Bool) → cond {A = Option (List ℕ)} t (Some []) None ≡ Some folder → length folder + 1 ≤ length (b ∷ bs)
    here true e =
        let none : [] ≡ folder = cc in
        subst (λ (f : List ℕ). length f + 1 ≤ length (b ∷ bs)) none (omega arith)
    here false e = absurd cc

    by : ((front : List ℕ) → before_last byte bs ≡ Some front → length front + 1 ≤ length bs) → (found : Option (List ℕ)) → before_last byte bs ≡ found
        → option_map_or (λ front. Some (b ∷ front)) found (cond (eqb b byte) (Some []) None) ≡ Some folder → length folder + 1 ≤ length (b ∷ bs)
    by shorter None same e = here (eqb b byte) e
    by shorter (Some front) same e =
        let whole : b ∷ front ≡ folder = cc in
        subst (λ (f : List ℕ). length f + 1 ≤ length (b ∷ bs)) whole (omega (arith, shorter front same))
