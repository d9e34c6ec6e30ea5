-- Texts without a given byte, trimmed texts, and texts that are cut at a byte.
use Rattle.std.proofs.Common.{◌≡◌, ℕ, zero, suc, ◌+◌, ◌<◌, Bool, true, false, cond, not, ◌||◌, ◌==◌, eqb, List, [], ◌∷◌, ◌++◌, length, take, drop, get_or, Option, Some, None, refl, ap, ◌∙◌, sym, subst, arith, ltb, ltb-true, ltb-false}
use Rattle.std.specs.List.{AllByRecursion, list_any, position_or_len, before_first, after_first}
use Rattle.std.proofs.lemmas.List.Elements.{recursion_from_All, All-from_get_or}
use Rattle.std.proofs.lemmas.List.Sums.{split_at_first, fails_before_first, passes_at_first}
use Rattle.std.proofs.lemmas.Bool.Decides.{nat_tests}
use Rattle.std.proofs.lemmas.Grind.{common_steps}
use Rattle.dp_conf.specs.Blanks.{is_blank, trim_start, before_kept, trim_end, trim}
use Rattle.dp_conf.specs.Cut.{cut_once}
use Rattle.dp_conf.proofs.CutLemmas.{cut_once-found}

-- ---- what holds of each element

pub each-append : {X : Type 0} (P : X → Type 0) (xs ys : List X) → AllByRecursion P xs → AllByRecursion P ys → AllByRecursion P (xs ++ ys)
each-append P [] ys a b = b
each-append P (x ∷ xs) ys a b = (a.0, each-append P xs ys a.1 b)

pub each-front : {X : Type 0} (P : X → Type 0) (xs ys : List X) → AllByRecursion P (xs ++ ys) → AllByRecursion P xs
each-front P [] ys a = tt
each-front P (x ∷ xs) ys a = (a.0, each-front P xs ys a.1)

pub each-rest : {X : Type 0} (P : X → Type 0) (xs ys : List X) → AllByRecursion P (xs ++ ys) → AllByRecursion P ys
each-rest P [] ys a = a
each-rest P (x ∷ xs) ys a = each-rest P xs ys a.1

pub each-weaker : {X : Type 0} (P Q : X → Type 0) → ((x : X) → P x → Q x) → (xs : List X) → AllByRecursion P xs → AllByRecursion Q xs
each-weaker P Q f [] a = tt
each-weaker P Q f (x ∷ xs) a = (f x a.0, each-weaker P Q f xs a.1)

pub each-take : {X : Type 0} (P : X → Type 0) (n : ℕ) (xs : List X) → AllByRecursion P xs → AllByRecursion P (take n xs)
each-take P zero xs a = tt
each-take P (suc n) [] a = tt
each-take P (suc n) (x ∷ xs) a = (a.0, each-take P n xs a.1)

pub each-drop : {X : Type 0} (P : X → Type 0) (n : ℕ) (xs : List X) → AllByRecursion P xs → AllByRecursion P (drop n xs)
each-drop P zero xs a = a
each-drop P (suc n) [] a = tt
each-drop P (suc n) (x ∷ xs) a = each-drop P n xs a.1

-- ---- tests that no element passes

pub either-false : (a b : Bool) → (a || b) ≡ false → (a ≡ false) × (b ≡ false)
either-false true b e = absurd cc
either-false false b e = (refl, e)

pub any-none : {X : Type 0} (p : X → Bool) (xs : List X) → AllByRecursion (λ x. p x ≡ false) xs → list_any p xs ≡ false
any-none p [] e = refl
any-none p (x ∷ xs) e = ap (λ t. t || list_any p xs) e.0 ∙ any-none p xs e.1

pub none-any : {X : Type 0} (p : X → Bool) (xs : List X) → list_any p xs ≡ false → AllByRecursion (λ x. p x ≡ false) xs
none-any p [] e = tt
none-any p (x ∷ xs) e = let both = either-false (p x) (list_any p xs) e in (both.0, none-any p xs both.1)

-- the byte does not occur in the text
abbrev pub Avoids : ℕ → List ℕ → Type 0
Avoids byte text = AllByRecursion (λ b. (b == byte) ≡ false) text

-- ---- cuts

position-here : (byte : ℕ) (front rest : List ℕ) → Avoids byte front → position_or_len (λ b. eqb b byte) (front ++ byte ∷ rest) ≡ length front
position-here byte [] rest a =
    let same : eqb byte byte ≡ true = grind (arith, nat_tests) in
    ap (λ t. cond (not t) (1 + position_or_len (λ b. eqb b byte) rest) 0) same
position-here byte (b ∷ front) rest a =
    ap (λ t. cond (not t) (1 + position_or_len (λ b. eqb b byte) (front ++ byte ∷ rest)) 0) a.0
    ∙ (ap (λ n. 1 + n) (position-here byte front rest a.1) ∙ omega arith)

take-front : {X : Type 0} (front rest : List X) → take (length front) (front ++ rest) ≡ front
take-front [] rest = refl
take-front (x ∷ front) rest = ap (λ (xs : List _). x ∷ xs) (take-front front rest)

drop-after : {X : Type 0} (front : List X) (x : X) (rest : List X) → drop (length front + 1) (front ++ x ∷ rest) ≡ rest
drop-after [] x rest = refl
drop-after (y ∷ front) x rest =
    let more : length (y ∷ front) + 1 ≡ suc (length front + 1) = omega arith in
    ap (λ n. drop n (y ∷ front ++ x ∷ rest)) more ∙ drop-after front x rest

-- a text is cut at the first such byte
pub cut_once-here : (byte : ℕ) (front rest : List ℕ) → Avoids byte front → cut_once byte (front ++ byte ∷ rest) ≡ Some (front, rest)
cut_once-here byte front rest a =
    let within : length front < length (front ++ byte ∷ rest) = grind (arith, common_steps) in
    cut_once-found byte (front ++ byte ∷ rest) (length front) within (position-here byte front rest a)
    ∙ (λ i. Some (take-front front (byte ∷ rest) i, drop-after front byte rest i))

position-nowhere : (byte : ℕ) (text : List ℕ) → Avoids byte text → position_or_len (λ b. eqb b byte) text ≡ length text
position-nowhere byte [] a = refl
position-nowhere byte (b ∷ text) a =
    ap (λ t. cond (not t) (1 + position_or_len (λ b. eqb b byte) text) 0) a.0
    ∙ (ap (λ n. 1 + n) (position-nowhere byte text a.1) ∙ omega arith)

-- a text without the byte is not cut
pub cut_once-nowhere : (byte : ℕ) (text : List ℕ) → Avoids byte text → cut_once byte text ≡ None
cut_once-nowhere byte text a = rw (position-nowhere byte text a) (grind arith)

-- what a cut says of the text
pub record IsCut (byte : ℕ) (text front rest : List ℕ) : Type 0 where
  pub whole : text ≡ front ++ byte ∷ rest
  pub avoids : Avoids byte front

cut_by : (byte : ℕ) (text front rest : List ℕ) → (t : Bool) → ltb (position_or_len (λ b. eqb b byte) text) (length text) ≡ t → cond {A = Option (List ℕ × List ℕ)} t (Some (before_first (λ b. eqb b byte) text, after_first (λ b. eqb b byte) text)) None ≡ Some (front, rest) → IsCut byte text front rest
cut_by byte text front rest false l e = absurd cc
cut_by byte text front rest true l e =
    let pair : (let p : List ℕ × List ℕ = (before_first (λ b. eqb b byte) text, after_first (λ b. eqb b byte) text) in p ≡ (front, rest)) = cc in
    let before : before_first (λ b. eqb b byte) text ≡ front = ap (λ (p : List ℕ × List ℕ). p.0) pair in
    let after : after_first (λ b. eqb b byte) text ≡ rest = ap (λ (p : List ℕ × List ℕ). p.1) pair in
    let within = ltb-true _ _ l in
    let here : eqb (get_or text (position_or_len (λ b. eqb b byte) text) 0) byte ≡ true = passes_at_first (λ b. eqb b byte) text 0 within in
    let same : get_or text (position_or_len (λ b. eqb b byte) text) 0 ≡ byte = grind (arith, nat_tests) in
    record {
      whole = split_at_first (λ b. eqb b byte) text 0 within ∙ (λ i. before i ++ same i ∷ after i);
      avoids = subst (Avoids byte) before (recursion_from_All (λ b. eqb b byte ≡ false) (before_first (λ b. eqb b byte) text) (λ k d l. let k' : eqb (get_or text k d) byte ≡ false = fails_before_first (λ b. eqb b byte) text k d (grind (arith, common_steps)) in grind (arith, common_steps)));
    }

pub cut_once-is : (byte : ℕ) (text front rest : List ℕ) → cut_once byte text ≡ Some (front, rest) → IsCut byte text front rest
cut_once-is byte text front rest e = cut_by byte text front rest (ltb (position_or_len (λ b. eqb b byte) text) (length text)) refl e

-- ---- trimmed texts

-- the text does not begin with a blank
abbrev pub BeginsFirm : List ℕ → Type 0
BeginsFirm [] = Unit {0}
BeginsFirm (b ∷ bs) = is_blank b ≡ false

-- there is no blank at either end of the text
pub record IsTrimmed (text : List ℕ) : Type 0 where
  pub begins : BeginsFirm text
  pub ends : trim_end text ≡ text

pub trim_start-firm : (text : List ℕ) → BeginsFirm text → trim_start text ≡ text
trim_start-firm [] f = refl
trim_start-firm (b ∷ text) f = ap (λ t. cond t (trim_start text) (b ∷ text)) f

-- a trimmed text is unchanged
pub trim-trimmed : (text : List ℕ) → IsTrimmed text → trim text ≡ text
trim-trimmed text t = ap trim_end (trim_start-firm text t.begins) ∙ t.ends

firm-trim_start : (text : List ℕ) → BeginsFirm (trim_start text)
firm-trim_start [] = tt
firm-trim_start (b ∷ text) = by (is_blank b) refl (firm-trim_start text) where
  by : (t : Bool) → is_blank b ≡ t → BeginsFirm (trim_start text) → BeginsFirm (cond t (trim_start text) (b ∷ text))
  by true e rest = rest
  by false e rest = e

pub before_kept-firm : (b : ℕ) (kept : List ℕ) → is_blank b ≡ false → before_kept b kept ≡ b ∷ kept
before_kept-firm b [] e = ap (λ t. cond t [] (b ∷ [])) e
before_kept-firm b (k ∷ kept) e = refl

firm-trim_end : (text : List ℕ) → BeginsFirm text → BeginsFirm (trim_end text)
firm-trim_end [] f = tt
firm-trim_end (b ∷ text) f = subst BeginsFirm (sym (before_kept-firm b (trim_end text) f)) f

trim_end-twice : (text : List ℕ) → trim_end (trim_end text) ≡ trim_end text
trim_end-twice [] = refl
trim_end-twice (b ∷ text) = by (trim_end text) (trim_end-twice text) (is_blank b) refl where
  by : (kept : List ℕ) → trim_end kept ≡ kept → (t : Bool) → is_blank b ≡ t → trim_end (before_kept b kept) ≡ before_kept b kept
  by [] e true blank = ap (λ t. trim_end (cond t [] (b ∷ []))) blank ∙ sym (ap (λ t. cond t [] (b ∷ [])) blank)
  by [] e false firm = ap trim_end (before_kept-firm b [] firm) ∙ refl
  by (k ∷ kept) e t blank = ap (before_kept b) e

-- trimming gives a trimmed text
pub trimmed-trim : (text : List ℕ) → IsTrimmed (trim text)
trimmed-trim text = record {
  begins = firm-trim_end (trim_start text) (firm-trim_start text);
  ends = trim_end-twice (trim_start text);
}

each-before_kept : (P : ℕ → Type 0) (b : ℕ) (kept : List ℕ) → P b → AllByRecursion P kept → AllByRecursion P (before_kept b kept)
each-before_kept P b [] p a = by (is_blank b) where
  by : (t : Bool) → AllByRecursion P (cond t [] (b ∷ []))
  by true = tt
  by false = (p, tt)
each-before_kept P b (k ∷ kept) p a = (p, a)

each-trim_end : (P : ℕ → Type 0) (text : List ℕ) → AllByRecursion P text → AllByRecursion P (trim_end text)
each-trim_end P [] a = tt
each-trim_end P (b ∷ text) a = each-before_kept P b (trim_end text) a.0 (each-trim_end P text a.1)

each-trim_start : (P : ℕ → Type 0) (text : List ℕ) → AllByRecursion P text → AllByRecursion P (trim_start text)
each-trim_start P [] a = tt
each-trim_start P (b ∷ text) a = by (each-trim_start P text a.1) (is_blank b) where
  by : AllByRecursion P (trim_start text) → (t : Bool) → AllByRecursion P (cond t (trim_start text) (b ∷ text))
  by rest true = rest
  by rest false = a

-- the bytes of a trimmed text are bytes of the text
pub each-trim : (P : ℕ → Type 0) (text : List ℕ) → AllByRecursion P text → AllByRecursion P (trim text)
each-trim P text a = each-trim_end P (trim_start text) (each-trim_start P text a)

before_kept-after : (x : ℕ) (xs : List ℕ) (k : ℕ) (ks : List ℕ) → before_kept x (xs ++ k ∷ ks) ≡ x ∷ (xs ++ k ∷ ks)
before_kept-after x [] k ks = refl
before_kept-after x (y ∷ xs) k ks = refl

-- the text before one that does not end in a blank is kept
pub trim_end-after : (xs : List ℕ) (k : ℕ) (ks : List ℕ) → trim_end (k ∷ ks) ≡ k ∷ ks → trim_end (xs ++ k ∷ ks) ≡ xs ++ k ∷ ks
trim_end-after [] k ks e = e
trim_end-after (x ∷ xs) k ks e = ap (before_kept x) (trim_end-after xs k ks e) ∙ before_kept-after x xs k ks

-- a blank after a text
pub trim_end-blank : (xs : List ℕ) → trim_end (xs ++ 32 ∷ []) ≡ trim_end xs
trim_end-blank [] = refl
trim_end-blank (x ∷ xs) = ap (before_kept x) (trim_end-blank xs)

pub firm-after : (b : ℕ) (front after : List ℕ) → is_blank b ≡ false → trim_start (b ∷ front ++ after) ≡ b ∷ front ++ after
firm-after b front after f = ap (λ t. cond t (trim_start (front ++ after)) (b ∷ front ++ after)) f

pub trim-blank_after : (b : ℕ) (text : List ℕ) → IsTrimmed (b ∷ text) → trim (b ∷ text ++ 32 ∷ []) ≡ b ∷ text
trim-blank_after b text t =
    ap trim_end (firm-after b text (32 ∷ []) t.begins) ∙ (trim_end-blank (b ∷ text) ∙ t.ends)

-- a blank before a trimmed text
pub trim-blank_before : (text : List ℕ) → IsTrimmed text → trim (32 ∷ text) ≡ text
trim-blank_before text t = trim-trimmed text t

-- a text without a blank
pub trimmed-firm : (text : List ℕ) → AllByRecursion (λ b. is_blank b ≡ false) text → IsTrimmed text
trimmed-firm text a = record { begins = firm text a; ends = whole text a }
  where
    firm : (text : List ℕ) → AllByRecursion (λ b. is_blank b ≡ false) text → BeginsFirm text
    firm [] a = tt
    firm (b ∷ text) a = a.0

    whole : (text : List ℕ) → AllByRecursion (λ b. is_blank b ≡ false) text → trim_end text ≡ text
    whole [] a = refl
    whole (b ∷ text) a = ap (before_kept b) (whole text a.1) ∙ before_kept-firm b text a.0

-- a text between two bytes that are not blanks
pub trimmed-between : (b : ℕ) (text : List ℕ) (last : ℕ) → is_blank b ≡ false → is_blank last ≡ false → IsTrimmed ((b ∷ text) ++ last ∷ [])
trimmed-between b text last firm closed = record {
  begins = firm;
  ends = trim_end-after (b ∷ text) last [] (before_kept-firm last [] closed);
}

-- ---- bytes of texts that are cut

nowhere_by : (byte : ℕ) (text : List ℕ) → (t : Bool) → ltb (position_or_len (λ b. eqb b byte) text) (length text) ≡ t → cond {A = Option (List ℕ × List ℕ)} t (Some (before_first (λ b. eqb b byte) text, after_first (λ b. eqb b byte) text)) None ≡ None → Avoids byte text
nowhere_by byte text true l e = absurd cc
nowhere_by byte text false l e =
    recursion_from_All (λ b. eqb b byte ≡ false) text (All-from_get_or (λ b. eqb b byte ≡ false) text 0 (λ i h. fails_before_first (λ b. eqb b byte) text i 0 (omega (arith, ltb-false _ _ l))))

-- a text that is not cut does not contain the byte
pub cut_once-none : (byte : ℕ) (text : List ℕ) → cut_once byte text ≡ None → Avoids byte text
cut_once-none byte text e = nowhere_by byte text (ltb (position_or_len (λ b. eqb b byte) text) (length text)) refl e

pub each-cut_front : (P : ℕ → Type 0) (byte : ℕ) (text front rest : List ℕ) → IsCut byte text front rest → AllByRecursion P text → AllByRecursion P front
each-cut_front P byte text front rest cut a = each-front P front (byte ∷ rest) (subst (AllByRecursion P) cut.whole a)

pub each-cut_rest : (P : ℕ → Type 0) (byte : ℕ) (text front rest : List ℕ) → IsCut byte text front rest → AllByRecursion P text → AllByRecursion P rest
each-cut_rest P byte text front rest cut a = (each-rest P front (byte ∷ rest) (subst (AllByRecursion P) cut.whole a)).1
