-- How far the classes of a path take the digits: what a node that is entered, and one that is not, says about everything below it.
use Rattle.std.proofs.Common.{◌≡◌, ℕ, zero, suc, Bool, true, false, not, cond, true≢false, List, [], ◌∷◌, ◌++◌, length, take, arith, refl, sym, ap, ◌∙◌}
use Rattle.std.specs.Prelude.{nat_lt}
use Rattle.std.proofs.lemmas.Bool.{ltb-true, ltb-false, lt-ltb, le-ltb}
use Rattle.dp_pattern.specs.Name.{is_one_of}
use Rattle.dp_pattern.specs.Walk.{Walked, Refused, Short, After, walk_after}
use Rattle.dp_pattern.specs.declared.tail.Tail.{Tail}
use Rattle.dp_pattern.specs.declared.tail.Tail.TheVariants.{End, Dot, Bang}
use Rattle.dp_trie.specs.Asked.{fits}
use Rattle.dp_trie.specs.Tree.{is_alive, alive, takes, allows}

-- one more class below a path that takes the digits takes one exactly if the test says so
pub alive-push : (more : Bool) (path : List (List ℕ)) (class digits : List ℕ) → alive more path digits ≡ true → alive more (path ++ class ∷ []) digits ≡ takes more digits class (length path)
alive-push more [] class [] on = refl
alive-push more [] class (d ∷ digits) on = by (is_one_of class d)
  where
    by : (b : Bool) → is_alive more (cond b (After digits) Refused) ≡ b
    by true = refl
    by false = refl
alive-push more (c ∷ path) class [] on = refl
alive-push more (c ∷ path) class (d ∷ digits) on = by (is_one_of c d) on (alive-push more path class digits)
  where
    by : (b : Bool) → is_alive more (cond b (walk_after path digits) Refused) ≡ true → (alive more path digits ≡ true → alive more (path ++ class ∷ []) digits ≡ takes more digits class (length path)) → is_alive more (cond b (walk_after (path ++ class ∷ []) digits) Refused) ≡ takes more digits class (length path)
    by true on rest = rest on
    by false on rest = absurd (true≢false (sym on))

-- the beginning of a path that takes the digits takes them too
pub alive-take : (more : Bool) (n : ℕ) (path : List (List ℕ)) (digits : List ℕ) → alive more path digits ≡ true → alive more (take n path) digits ≡ true
alive-take more zero path digits on = refl
alive-take more (suc n) [] digits on = on
alive-take more (suc n) (c ∷ path) [] on = on
alive-take more (suc n) (c ∷ path) (d ∷ digits) on = by (is_one_of c d) on (alive-take more n path digits)
  where
    by : (b : Bool) → is_alive more (cond b (walk_after path digits) Refused) ≡ true → (alive more path digits ≡ true → alive more (take n path) digits ≡ true) → is_alive more (cond b (walk_after (take n path) digits) Refused) ≡ true
    by true on rest = rest on
    by false on rest = on

-- if a walk finds nothing, no tail fits
dead_fits : (more : Bool) (tail : Tail) (w : Walked) → is_alive more w ≡ false → fits more tail w ≡ false
dead_fits true End Refused dead = refl
dead_fits true Dot Refused dead = refl
dead_fits true Bang Refused dead = refl
dead_fits false tail Refused dead = refl
dead_fits true tail Short dead = absurd (true≢false dead)
dead_fits false tail Short dead = refl
dead_fits more tail (After digits) dead = absurd (true≢false dead)

-- a path that begins with one that does not take the digits does not take them
pub dead-whole : (more : Bool) (n : ℕ) (path : List (List ℕ)) (digits : List ℕ) → alive more (take n path) digits ≡ false → alive more path digits ≡ false
dead-whole more n path digits dead = whole (alive more path digits) refl
  where
    whole : (b : Bool) → alive more path digits ≡ b → alive more path digits ≡ false
    whole true on = absurd (true≢false (sym (alive-take more n path digits on) ∙ dead))
    whole false off = off

-- and it fits no tail
pub dead-fits : (more : Bool) (tail : Tail) (n : ℕ) (path : List (List ℕ)) (digits : List ℕ) → alive more (take n path) digits ≡ false → fits more tail (walk_after path digits) ≡ false
dead-fits more tail n path digits dead = dead_fits more tail (walk_after path digits) (dead-whole more n path digits dead)

-- ---- comparisons, which do not compute at variables

lt_suc : (m n : ℕ) → nat_lt m n ≡ nat_lt (suc m) (suc n)
lt_suc m n = by (nat_lt m n) refl
  where
    by : (b : Bool) → nat_lt m n ≡ b → b ≡ nat_lt (suc m) (suc n)
    by true e = let below = ltb-true m n e in sym (lt-ltb (suc m) (suc n) (omega (arith, below)))
    by false e = let above = ltb-false m n e in sym (le-ltb (suc m) (suc n) (omega (arith, above)))

-- after a path that takes the digits a tail fits exactly if the counts say so
pub fits-allows : (more : Bool) (tail : Tail) (path : List (List ℕ)) (digits : List ℕ) → alive more path digits ≡ true → fits more tail (walk_after path digits) ≡ allows more tail (length path) (length digits)
fits-allows false End [] [] on = refl
fits-allows false End [] (d ∷ digits) on = ap not (sym (lt-ltb 0 (suc (length digits)) (omega arith)))
fits-allows false Dot [] [] on = refl
fits-allows false Dot [] (d ∷ digits) on = sym (lt-ltb 0 (suc (length digits)) (omega arith))
fits-allows false Bang [] digits on = refl
fits-allows true End [] digits on = sym (le-ltb (length digits) 0 (omega arith))
fits-allows true Dot [] digits on = refl
fits-allows true Bang [] digits on = refl
fits-allows false tail (c ∷ path) [] on = absurd (true≢false (sym on))
fits-allows true End (c ∷ path) [] on = sym (lt-ltb 0 (suc (length path)) (omega arith))
fits-allows true Dot (c ∷ path) [] on = refl
fits-allows true Bang (c ∷ path) [] on = refl
fits-allows more tail (c ∷ path) (d ∷ digits) on = by (is_one_of c d) on (fits-allows more tail path digits)
  where
    same : (more : Bool) (tail : Tail) (m n : ℕ) → allows more tail m n ≡ allows more tail (suc m) (suc n)
    same false End m n = ap not (lt_suc m n)
    same false Dot m n = lt_suc m n
    same false Bang m n = refl
    same true End m n = lt_suc n m
    same true Dot m n = refl
    same true Bang m n = refl

    by : (b : Bool) → is_alive more (cond b (walk_after path digits) Refused) ≡ true → (alive more path digits ≡ true → fits more tail (walk_after path digits) ≡ allows more tail (length path) (length digits)) → fits more tail (cond b (walk_after path digits) Refused) ≡ allows more tail (suc (length path)) (suc (length digits))
    by true on rest = rest on ∙ same more tail (length path) (length digits)
    by false on rest = absurd (true≢false (sym on))
