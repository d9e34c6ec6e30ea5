-- A line with an escaped text says the text.
use Rattle.std.proofs.Common.{◌≡◌, ◌≢◌, ℕ, ◌+◌, ◌⊎◌, inl, inr, subst, arith, Bool, true, false, not, ◌&&◌, ◌==◌, cond, nat_eq, List, [], ◌∷◌, ◌++◌, length, take, refl, ap, ◌∙◌, sym}
use Rattle.std.proofs.Math.Seq.{take-length}
use Rattle.std.proofs.lemmas.Bool.Decides.{eqb_tells}
use Rattle.std.specs.List.{starts_with}
use Rattle.std.specs.Str.{byte}
use Rattle.dp_conf.specs.Blanks.{trim}
use Rattle.dp_conf.specs.Escape.{escape_text}
use Rattle.dp_conf.specs.Lines.{comment_start, without_escapes, content_of, line_feed}

-- one more byte of an escaped text: a semicolon, or another byte
pub escape_text-semicolon : (b : ℕ) (text : List ℕ) → (b == byte ";") ≡ true → escape_text (b ∷ text) ≡ byte "\\" ∷ b ∷ escape_text text
escape_text-semicolon b text e = ap (λ t. cond t (byte "\\" ∷ b ∷ []) (b ∷ []) ++ escape_text text) e

pub escape_text-other : (b : ℕ) (text : List ℕ) → (b == byte ";") ≡ false → escape_text (b ∷ text) ≡ b ∷ escape_text text
escape_text-other b text e = ap (λ t. cond t (byte "\\" ∷ b ∷ []) (b ∷ []) ++ escape_text text) e

-- no `;` of an escaped text begins a comment
pub comment_start-escape_text : (previous : ℕ) (text : List ℕ) → comment_start previous (escape_text text) ≡ length (escape_text text)
comment_start-escape_text previous [] = refl
comment_start-escape_text previous (b ∷ text) = by (b == byte ";") refl (comment_start-escape_text b text)
  where
    one_more : 1 + length (escape_text text) ≡ length (b ∷ escape_text text)
    one_more = omega arith

    two_more : 1 + (1 + length (escape_text text)) ≡ length (byte "\\" ∷ b ∷ escape_text text)
    two_more = omega arith

    semicolon : (t : Bool) → comment_start b (escape_text text) ≡ length (escape_text text) → cond (t && false) 0 (1 + comment_start b (escape_text text)) ≡ 1 + length (escape_text text)
    semicolon true rest = ap (λ n. 1 + n) rest
    semicolon false rest = ap (λ n. 1 + n) rest

    by : (t : Bool) → (b == byte ";") ≡ t → comment_start b (escape_text text) ≡ length (escape_text text) → comment_start previous (escape_text (b ∷ text)) ≡ length (escape_text (b ∷ text))
    by true e rest =
        ap (comment_start previous) (escape_text-semicolon b text e)
        ∙ (ap (λ n. 1 + n) (semicolon (b == byte ";") rest) ∙ (two_more ∙ ap length (sym (escape_text-semicolon b text e))))
    by false e rest =
        ap (comment_start previous) (escape_text-other b text e)
        ∙ (ap (λ t. cond (t && not (previous == byte "\\")) 0 (1 + comment_start b (escape_text text))) e
        ∙ (ap (λ n. 1 + n) rest ∙ (one_more ∙ ap length (sym (escape_text-other b text e)))))

-- an escaped text does not begin with a `;`
starts_with-escape_text : (text : List ℕ) → starts_with nat_eq (escape_text text) (byte ";" ∷ []) ≡ false
starts_with-escape_text [] = refl
starts_with-escape_text (b ∷ text) =
    elim (eqb_tells b (byte ";")) [
      | inl same ↦ ap (λ (line : List ℕ). starts_with nat_eq line (byte ";" ∷ [])) (escape_text-semicolon b text same.0)
      | inr other ↦ ap (λ (line : List ℕ). starts_with nat_eq line (byte ";" ∷ [])) (escape_text-other b text other.0) ∙ first (eqb_tells (byte ";") b) other.1
    ]
  where
    first : ((nat_eq (byte ";") b ≡ true) × (byte ";" ≡ b)) ⊎ ((nat_eq (byte ";") b ≡ false) × (byte ";" ≢ b)) → b ≢ byte ";" → (nat_eq (byte ";") b && true) ≡ false
    first (inl same) other = absurd (other (sym same.1))
    first (inr other) unlike = ap (λ t. t && true) other.0

without_escapes-escape_text : (text : List ℕ) → without_escapes (escape_text text) ≡ text
without_escapes-escape_text [] = refl
without_escapes-escape_text (b ∷ text) = by (eqb_tells b (byte ";")) (without_escapes-escape_text text) (starts_with-escape_text text)
  where
    plain : (t s : Bool) → s ≡ false → cond (t && s) (without_escapes (escape_text text)) (b ∷ without_escapes (escape_text text)) ≡ b ∷ without_escapes (escape_text text)
    plain true s e = ap (λ x. cond x (without_escapes (escape_text text)) (b ∷ without_escapes (escape_text text))) e
    plain false s e = refl

    by : ((nat_eq b (byte ";") ≡ true) × (b ≡ byte ";")) ⊎ ((nat_eq b (byte ";") ≡ false) × (b ≢ byte ";")) → without_escapes (escape_text text) ≡ text → starts_with nat_eq (escape_text text) (byte ";" ∷ []) ≡ false → without_escapes (escape_text (b ∷ text)) ≡ b ∷ text
    by (inl same) rest start =
        ap without_escapes (escape_text-semicolon b text same.0)
        ∙ subst (λ x. without_escapes (byte "\\" ∷ x ∷ escape_text text) ≡ x ∷ text) (sym same.1) (ap (λ (later : List ℕ). byte ";" ∷ later) rest)
    by (inr other) rest start =
        ap without_escapes (escape_text-other b text other.0)
        ∙ (plain (b == byte "\\") (starts_with nat_eq (escape_text text) (byte ";" ∷ [])) start ∙ ap (λ (later : List ℕ). b ∷ later) rest)

-- a line with an escaped text says the text, without the blanks at its ends
pub content_of-escape_text : (text : List ℕ) → content_of (escape_text text) ≡ trim text
content_of-escape_text text =
    ap (λ n. trim (without_escapes (take n (escape_text text)))) (comment_start-escape_text line_feed text)
    ∙ (ap (λ (line : List ℕ). trim (without_escapes line)) (take-length (escape_text text)) ∙ ap trim (without_escapes-escape_text text))
