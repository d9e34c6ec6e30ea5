-- Sets of bytes given by ranges.
use Rattle.std.proofs.Common.{◌≡◌, ℕ, ◌+◌, ◌<◌, ◌≤◌, ◌&&◌, ◌||◌, ◌==◌, Bool, true, false, List, [], ◌∷◌, Some, None, if◌then◌else◌, map, refl, sym, ap, ◌∙◌, arith}
use Rattle.std.specs.Prelude.{nat_le, nat_lt}
use Rattle.std.specs.Option.{option_map_or}
use Rattle.std.proofs.lemmas.Bool.{leb-true, leb-false, ltb-true, ltb-false}
use Rattle.std.proofs.Math.Bool.{or-false}
use Rattle.dp_answer.specs.RangeSteps.{upper}
use Rattle.dp_answer.specs.Ranges.{between, only, ranges}
use Rattle.dp_closed.specs.Answers.{shown_outside}
use Rattle.dp_closed.specs.declared.outside.KeptOutside.{KeptOutside}
use Rattle.dp_pieces.specs.Bytes.{Bytes, either}
use Rattle.dp_pieces.specs.Sets.{set_by}

-- each byte from one to before the end, where the end is the one after the last
pub between-all : (low high end b : ℕ) → high < end → end ≤ high + 1 → (nat_le low b && nat_lt b end) ≡ between low high b
between-all low high end b after most = by (nat_le low b) (nat_lt b end) (nat_le b high) refl refl refl
  where
    by : (from below to : Bool) → nat_le low b ≡ from → nat_lt b end ≡ below → nat_le b high ≡ to → (from && below) ≡ (from && to)
    by false below to x y z = refl
    by true false false x y z = refl
    by true true true x y z = refl
    by true false true x y z = absurd (omega (arith, ltb-false b end y, leb-true b high z))
    by true true false x y z = absurd (omega (arith, leb-true low b x, ltb-true b end y, leb-false b high z))

-- no byte is between if the last is below the first
pub between-none : (low high b : ℕ) → high < low → false ≡ between low high b
between-none low high b above = by (nat_le low b) (nat_le b high) refl refl
  where
    by : (from to : Bool) → nat_le low b ≡ from → nat_le b high ≡ to → false ≡ (from && to)
    by false to x y = refl
    by true false x y = refl
    by true true x y = absurd (omega (arith, above, leb-true low b x, leb-true b high y))

-- what a text of one byte and others names
pub ranges-first : (low : ℕ) (rest : List ℕ) (b : ℕ)
    → ranges (low ∷ rest) b ≡ option_map_or (λ (found : ℕ × List ℕ). between low found.0 b || ranges found.1 b) (upper rest) (b == low || ranges rest b)
ranges-first low [] b = sym (or-false (b == low))
ranges-first low (next ∷ []) b = refl
ranges-first low (next ∷ high ∷ rest) b = by (next == 45)
  where
    by : (dash : Bool)
        → (let set : Bytes = if dash then either (between low high) (ranges rest) else either (only low) (ranges (next ∷ high ∷ rest)) in set b)
        ≡ option_map_or (λ (found : ℕ × List ℕ). between low found.0 b || ranges found.1 b) (if dash then Some (high, rest) else None) (b == low || ranges (next ∷ high ∷ rest) b)
    by true = refl
    by false = refl

-- one of three, in another order
pub or-order : (a b c : Bool) → ((a || b) || c) ≡ (b || (a || c))
or-order false b c = refl
or-order true false c = refl
or-order true true c = refl

-- a range of bytes is added to the set
pub range-put : (set new : List ℕ) (low high : ℕ) (left rest after text : List ℕ) (b : ℕ) → left ≡ low ∷ rest → upper rest ≡ Some (high, after)
    → set_by new b ≡ (between low high b || set_by set b) → (set_by set b || ranges left b) ≡ ranges text b → (set_by new b || ranges after b) ≡ ranges text b
range-put set new low high left rest after text b split up put all =
    ap (λ has. has || ranges after b) put
    ∙ (or-order (between low high b) (set_by set b) (ranges after b)
    ∙ (ap (λ has. set_by set b || has) (sym (ap (λ bytes. ranges bytes b) split ∙ (ranges-first low rest b
    ∙ ap (λ found. option_map_or (λ (f : ℕ × List ℕ). between low f.0 b || ranges f.1 b) found (b == low || ranges rest b)) up)))
    ∙ all))

-- a byte is added
pub byte-put : (set new : List ℕ) (low : ℕ) (left rest text : List ℕ) (b : ℕ) → left ≡ low ∷ rest → upper rest ≡ None
    → set_by new b ≡ (b == low || set_by set b) → (set_by set b || ranges left b) ≡ ranges text b → (set_by new b || ranges rest b) ≡ ranges text b
byte-put set new low left rest text b split up put all =
    ap (λ has. has || ranges rest b) put
    ∙ (or-order (b == low) (set_by set b) (ranges rest b)
    ∙ (ap (λ has. set_by set b || has) (sym (ap (λ bytes. ranges bytes b) split ∙ (ranges-first low rest b
    ∙ ap (λ found. option_map_or (λ (f : ℕ × List ℕ). between low f.0 b || ranges f.1 b) found (b == low || ranges rest b)) up)))
    ∙ all))

-- what may come in, given its sets
pub outside-same : (outside : KeptOutside) (extens callers facts : Bytes) (names : List (List ℕ))
    → ((b : ℕ) → set_by outside.exten b ≡ extens b) → ((b : ℕ) → set_by outside.caller b ≡ callers b) → ((b : ℕ) → set_by outside.facts b ≡ facts b)
    → map (λ name. name.items) outside.contexts.items ≡ names
    → shown_outside outside ≡ record { exten = extens; caller = callers; facts = facts; contexts = names }
outside-same outside extens callers facts names of_exten of_caller of_facts of_contexts =
    λ i. record { exten = λ b. of_exten b i; caller = λ b. of_caller b i; facts = λ b. of_facts b i; contexts = of_contexts i }
