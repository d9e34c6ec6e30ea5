-- The digits of a text without dashes are its bytes.
use Rattle.std.proofs.Common.{◌≡◌, ℕ, zero, suc, ◌+◌, ◌-◌, ◌<◌, ◌≤◌, Bool, true, false, cond, not, eqb, ◌||◌, List, [], ◌∷◌, length, take, Option, Some, None, arith, refl, sym, ap, ◌∙◌, add-one, inl, inr, set}
use Rattle.std.specs.Prelude.{slice_get, nat_lt, is_some}
use Rattle.std.specs.List.{list_any}
use Rattle.std.proofs.lemmas.Bool.{cases_order, ltb-true, ltb-false, lt-ltb, le-ltb}
use Rattle.std.proofs.lemmas.List.{length-set, length-take}
use Rattle.std.proofs.lemmas.Option.{slice_get_past, slice_get_within, slice_get_cases, same_Some}
use Rattle.dp_pattern.specs.Dashes.{is_dash, without_dashes}
use Rattle.dp_trie.specs.steps.Digits.{Stands, IsClear, AreNear}
use Rattle.dp_trie.specs.declared.digits.Cursor.{Cursor}

pub length-without_dashes : (text : List ℕ) → length (without_dashes text) ≤ length text
length-without_dashes [] = omega arith
length-without_dashes (b ∷ text) = by (not (is_dash b)) (length-without_dashes text)
  where
    by : (t : Bool) → length (without_dashes text) ≤ length text → length (cond t (b ∷ without_dashes text) (without_dashes text)) ≤ suc (length text)
    by true rest = omega (arith, rest)
    by false rest = omega (arith, rest)

-- if as many digits as bytes are counted, the digits are the bytes
pub undashed_whole : (text : List ℕ) → length (without_dashes text) ≡ length text → without_dashes text ≡ text
undashed_whole [] e = refl
undashed_whole (b ∷ text) e = by (not (is_dash b)) (length-without_dashes text) (undashed_whole text) e
  where
    by : (t : Bool) → length (without_dashes text) ≤ length text → (length (without_dashes text) ≡ length text → without_dashes text ≡ text) → length (cond t (b ∷ without_dashes text) (without_dashes text)) ≡ suc (length text) → cond t (b ∷ without_dashes text) (without_dashes text) ≡ b ∷ text
    by true few rest e = ap (λ l. b ∷ l) (rest (omega (arith, e)))
    by false few rest e = absurd (omega (arith, few, e))

-- ---- a place in a text

-- the number of digits before a place
abbrev pub digits_before : ℕ → List ℕ → ℕ
digits_before p text = length (without_dashes (take p text))

-- a digit adds one, and a dash adds none
pub digit-step : (text : List ℕ) (p b : ℕ) → slice_get text p ≡ Some b → is_dash b ≡ false → digits_before (suc p) text ≡ suc (digits_before p text)
digit-step [] p b here is = absurd cc
digit-step (x ∷ text) zero b here is =
    let same : x ≡ b = same_Some x b here in
    ap (λ t. length (cond (not t) (x ∷ []) [])) (ap is_dash same ∙ is)
digit-step (x ∷ text) (suc p) b here is = by (not (is_dash x)) (digit-step text p b here is)
  where
    by : (t : Bool) → digits_before (suc p) text ≡ suc (digits_before p text) → length (cond t (x ∷ without_dashes (take (suc p) text)) (without_dashes (take (suc p) text))) ≡ suc (length (cond t (x ∷ without_dashes (take p text)) (without_dashes (take p text))))
    by true rest = ap suc rest
    by false rest = rest

pub dash-step : (text : List ℕ) (p b : ℕ) → slice_get text p ≡ Some b → is_dash b ≡ true → digits_before (suc p) text ≡ digits_before p text
dash-step [] p b here is = absurd cc
dash-step (x ∷ text) zero b here is =
    let same : x ≡ b = same_Some x b here in
    ap (λ t. length (cond (not t) (x ∷ []) [])) (ap is_dash same ∙ is)
dash-step (x ∷ text) (suc p) b here is = by (not (is_dash x)) (dash-step text p b here is)
  where
    by : (t : Bool) → digits_before (suc p) text ≡ digits_before p text → length (cond t (x ∷ without_dashes (take (suc p) text)) (without_dashes (take (suc p) text))) ≡ length (cond t (x ∷ without_dashes (take p text)) (without_dashes (take p text)))
    by true rest = ap suc rest
    by false rest = rest

-- the number of a digit is the number of digits before it
pub digit-at : (text : List ℕ) (p b : ℕ) → slice_get text p ≡ Some b → is_dash b ≡ false → slice_get (without_dashes text) (digits_before p text) ≡ Some b
digit-at [] p b here is = absurd cc
digit-at (x ∷ text) zero b here is =
    let same : x ≡ b = same_Some x b here in
    ap (λ t. slice_get (cond (not t) (x ∷ without_dashes text) (without_dashes text)) 0) (ap is_dash same ∙ is) ∙ ap Some same
digit-at (x ∷ text) (suc p) b here is = by (not (is_dash x)) (digit-at text p b here is)
  where
    by : (t : Bool) → slice_get (without_dashes text) (digits_before p text) ≡ Some b → slice_get (cond t (x ∷ without_dashes text) (without_dashes text)) (length (cond t (x ∷ without_dashes (take p text)) (without_dashes (take p text)))) ≡ Some b
    by true rest = rest
    by false rest = rest

take_end : (text : List ℕ) (p : ℕ) → length text ≤ p → take p text ≡ text
take_end [] zero few = refl
take_end [] (suc p) few = refl
take_end (x ∷ text) zero few = absurd (omega (arith, few))
take_end (x ∷ text) (suc p) few = ap (λ l. x ∷ l) (take_end text p (omega (arith, few)))

-- at the end of the text there are no more digits
pub digits-ended : (text : List ℕ) (p number : ℕ) → length text ≤ p → digits_before p text ≤ number → slice_get (without_dashes text) number ≡ None
digits-ended text p number few most =
    let all : digits_before p text ≡ length (without_dashes text) = ap (λ l. length (without_dashes l)) (take_end text p few) in
    slice_get_past (without_dashes text) number (omega (arith, all, most))

-- ---- bytes that are known not to be dashes

-- the digits of a text without dashes are the text
pub without_dashes-none : (text : List ℕ) → list_any (λ b. eqb b 45) text ≡ false → without_dashes text ≡ text
without_dashes-none [] e = refl
without_dashes-none (b ∷ text) e = by (eqb b 45) (without_dashes-none text) e
  where
    by : (t : Bool) → (list_any (λ b. eqb b 45) text ≡ false → without_dashes text ≡ text) → (t || list_any (λ b. eqb b 45) text) ≡ false → cond (not t) (b ∷ without_dashes text) (without_dashes text) ≡ b ∷ text
    by true later e = absurd cc
    by false later e = ap (λ rest. b ∷ rest) (later e)

pub is-clear : (text : List ℕ) (count : ℕ) → count ≤ length text → list_any (λ b. eqb b 45) (take count text) ≡ false → IsClear text count
is-clear text count few none = record {
  within = few;
  before = (let size = length-take count text in let same = ap length (without_dashes-none (take count text) none) in omega (arith, few, size, same));
}

before-few : (text : List ℕ) (count : ℕ) → digits_before count text ≤ count
before-few text count = let fewer = length-without_dashes (take count text) in let size = length-take count text in omega (arith, fewer, size)

clear-place : (text : List ℕ) (count k : ℕ) → count ≤ length text → count ≡ digits_before count text → k < count → slice_get (without_dashes text) k ≡ slice_get text k
clear-place text zero k within before few = absurd (omega (arith, few))
clear-place [] (suc count) k within before few = absurd (omega (arith, within))
clear-place (x ∷ text) (suc count) k within before few = by (not (is_dash x)) k before few (clear-place text count)
  where
    by : (t : Bool) (k : ℕ) → suc count ≡ length (cond t (x ∷ without_dashes (take count text)) (without_dashes (take count text))) → k < suc count → ((k : ℕ) → count ≤ length text → count ≡ digits_before count text → k < count → slice_get (without_dashes text) k ≡ slice_get text k) → slice_get (cond t (x ∷ without_dashes text) (without_dashes text)) k ≡ slice_get (x ∷ text) k
    by true zero before few rest = refl
    by true (suc k) before few rest = rest k (omega (arith, within)) (omega (arith, before)) (omega (arith, few))
    by false k before few rest = let fewer = before-few text count in absurd (omega (arith, before, fewer))

-- they are the first digits
pub clear-digit : (text : List ℕ) (count k : ℕ) → IsClear text count → k < count → slice_get (without_dashes text) k ≡ slice_get text k
clear-digit text count k clear few = clear-place text count k clear.within clear.before few

-- if they are all bytes, the digits are the text
pub clear-whole : (text : List ℕ) (count : ℕ) → IsClear text count → count ≡ length text → without_dashes text ≡ text
clear-whole text count clear all =
    let before = clear.before in
    let whole : digits_before count text ≡ length (without_dashes text) = ap (λ l. length (without_dashes l)) (take_end text count (omega (arith, all))) in
    undashed_whole text (omega (arith, before, whole, all))

-- a cursor one byte further
pub stands-digit : (text : List ℕ) (p n b : ℕ) → slice_get text p ≡ Some b → is_dash b ≡ false → Stands text (record { place = p; number = n }) → Stands text (record { place = p + 1; number = n + 1 })
stands-digit text p n b here is stands = record {
  within = (let inside = slice_get_within text p b here in omega (arith, inside));
  before = (let step = digit-step text p b here is in let before = stands.before in let same = ap (λ k. digits_before k text) (add-one p) in omega (arith, step, before, same));
}

pub stands-dash : (text : List ℕ) (p n b : ℕ) → slice_get text p ≡ Some b → is_dash b ≡ true → Stands text (record { place = p; number = n }) → Stands text (record { place = p + 1; number = n })
stands-dash text p n b here is stands = record {
  within = (let inside = slice_get_within text p b here in omega (arith, inside));
  before = (let step = dash-step text p b here is in let before = stands.before in let same = ap (λ k. digits_before k text) (add-one p) in omega (arith, step, before, same));
}

-- and one byte back
pub back-digit : (text : List ℕ) (p n b : ℕ) → 0 < p → slice_get text (p - 1) ≡ Some b → is_dash b ≡ false → Stands text (record { place = p; number = n }) → Stands text (record { place = p - 1; number = n - 1 })
back-digit text p n b some here is stands = record {
  within = (let inside = slice_get_within text (p - 1) b here in omega (arith, inside));
  before = (let step = digit-step text (p - 1) b here is in let before = stands.before in let e : suc (p - 1) ≡ p = omega (arith, some) in let same = ap (λ k. digits_before k text) e in omega (arith, step, before, same));
}

pub back-dash : (text : List ℕ) (p n b : ℕ) → 0 < p → slice_get text (p - 1) ≡ Some b → is_dash b ≡ true → Stands text (record { place = p; number = n }) → Stands text (record { place = p - 1; number = n })
back-dash text p n b some here is stands = record {
  within = (let inside = slice_get_within text (p - 1) b here in omega (arith, inside));
  before = (let step = dash-step text (p - 1) b here is in let before = stands.before in let e : suc (p - 1) ≡ p = omega (arith, some) in let same = ap (λ k. digits_before k text) e in omega (arith, step, before, same));
}

-- a cursor with digits before it has bytes before it
pub some-before : (text : List ℕ) (cursor : Cursor) (number : ℕ) → Stands text cursor → number < cursor.number → 0 < cursor.place
some-before text cursor number stands more = by cursor.place refl
  where
    by : (p : ℕ) → cursor.place ≡ p → 0 < p
    by zero e = (let none = stands.before ∙ ap (λ k. digits_before k text) e in absurd (omega (arith, none, more)))
    by (suc p) e = omega arith

-- ---- the first digits

get-set : (near : List ℕ) (n b : ℕ) → n < length near → slice_get (set near n b) n ≡ Some b
get-set [] n b few = absurd (omega (arith, few))
get-set (x ∷ near) zero b few = refl
get-set (x ∷ near) (suc n) b few = get-set near n b (omega (arith, few))

get-set_before : (near : List ℕ) (n k b : ℕ) → k < n → slice_get (set near n b) k ≡ slice_get near k
get-set_before [] n k b less = refl
get-set_before (x ∷ near) zero k b less = absurd (omega (arith, less))
get-set_before (x ∷ near) (suc n) zero b less = refl
get-set_before (x ∷ near) (suc n) (suc k) b less = get-set_before near n k b (omega (arith, less))

-- the digits before a place are kept beside the text
pub record AreKept (text near : List ℕ) (place number : ℕ) : Type 0 where
  pub size : length near ≡ 32
  pub within : place ≤ length text
  pub before : number ≡ digits_before place text
  pub few : number ≤ 32
  pub kept : (k d : ℕ) → k < number → slice_get (without_dashes text) k ≡ Some d → slice_get near k ≡ Some d

pub kept-digit : (text near : List ℕ) (p n b : ℕ) → slice_get text p ≡ Some b → is_dash b ≡ false → n < 32 → AreKept text near p n → AreKept text (set near n b) (p + 1) (n + 1)
kept-digit text near p n b here is low are = record {
  size = length-set near n b ∙ are.size;
  within = (let inside = slice_get_within text p b here in omega (arith, inside));
  before = (let step = digit-step text p b here is in let before = are.before in let same = ap (λ k. digits_before k text) (add-one p) in omega (arith, step, before, same));
  few = omega (arith, low);
  kept = λ k d less there. elim (cases_order k n) [
    | inl same ↦
        let size = are.size in
        let digit : b ≡ d = same_Some b d (sym (ap (slice_get (without_dashes text)) (same ∙ are.before) ∙ digit-at text p b here is) ∙ there) in
        ap (slice_get (set near n b)) same ∙ (get-set near n b (omega (arith, size, low)) ∙ ap Some digit)
    | inr (inl before) ↦ get-set_before near n k b before ∙ are.kept k d before there
    | inr (inr after) ↦ absurd (omega (arith, after, less))
  ];
}

pub kept-dash : (text near : List ℕ) (p n b : ℕ) → slice_get text p ≡ Some b → is_dash b ≡ true → AreKept text near p n → AreKept text near (p + 1) n
kept-dash text near p n b here is are = record {
  size = are.size;
  within = (let inside = slice_get_within text p b here in omega (arith, inside));
  before = (let step = dash-step text p b here is in let before = are.before in let same = ap (λ k. digits_before k text) (add-one p) in omega (arith, step, before, same));
  few = are.few;
  kept = are.kept;
}

-- before a place there are no more digits than in the whole text
before-most : (text : List ℕ) (p : ℕ) → digits_before p text ≤ length (without_dashes text)
before-most text zero = omega arith
before-most [] (suc p) = omega arith
before-most (x ∷ text) (suc p) = by (not (is_dash x)) (before-most text p)
  where
    by : (t : Bool) → digits_before p text ≤ length (without_dashes text) → length (cond t (x ∷ without_dashes (take p text)) (without_dashes (take p text))) ≤ length (cond t (x ∷ without_dashes text) (without_dashes text))
    by true rest = omega (arith, rest)
    by false rest = rest

pub near-full : (text near : List ℕ) (p n : ℕ) → n ≡ 32 → AreKept text near p n → AreNear text (record { bytes = near; count = n })
near-full text near p n full are = record {
  few = (let most = before-most text p in let before = are.before in omega (arith, most, before));
  all = λ less. absurd (omega (arith, full, less));
  kept = λ k d less there. are.kept k d (omega (arith, full, less)) there;
}

pub near-ended : (text near : List ℕ) (p n : ℕ) → length text ≤ p → AreKept text near p n → AreNear text (record { bytes = near; count = n })
near-ended text near p n ended are =
    let all : digits_before p text ≡ length (without_dashes text) = ap (λ l. length (without_dashes l)) (take_end text p ended) in
    let before = are.before in
    record {
      few = omega (arith, all, before);
      all = λ less. omega (arith, all, before);
      kept = λ k d less there. (let inside = slice_get_within (without_dashes text) k d there in are.kept k d (omega (arith, all, inside, before)) there);
    }

-- ---- whether there is a digit

pub is-there : (digits : List ℕ) (number : ℕ) (o : Option ℕ) → o ≡ slice_get digits number → is_some o ≡ nat_lt number (length digits)
is-there digits number None is = elim (slice_get_cases digits number).1 [
  | inl found ↦ (let wrong : None ≡ Some found.0 = is ∙ found.2 in absurd cc)
  | inr past ↦ sym (le-ltb number (length digits) past.0)
]
is-there digits number (Some d) is = sym (lt-ltb number (length digits) (slice_get_within digits number d (sym is)))

-- there are fewer digits if the one before a number does not exist
pub fewer-none : (digits : List ℕ) (number : ℕ) → 0 < number → not (nat_lt (number - 1) (length digits)) ≡ nat_lt (length digits) number
fewer-none digits number some = by (nat_lt (number - 1) (length digits)) refl
  where
    by : (b : Bool) → nat_lt (number - 1) (length digits) ≡ b → not b ≡ nat_lt (length digits) number
    by true is = (let less = ltb-true (number - 1) (length digits) is in sym (le-ltb (length digits) number (omega (arith, some, less))))
    by false is = (let more = ltb-false (number - 1) (length digits) is in sym (lt-ltb (length digits) number (omega (arith, some, more))))
