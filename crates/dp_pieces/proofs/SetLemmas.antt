-- Pieces made of equal sets, the set of the digits, and the text of known pieces.
use Rattle.std.proofs.Common.{◌≡◌, ℕ, ◌&&◌, ◌||◌, Bool, true, false, List, [], ◌∷◌, Some, None, unwrap_or, refl, sym, ap, ◌∙◌, arith}
use Rattle.std.specs.Option.{option_map}
use Rattle.std.specs.Prelude.{nat_le, nat_lt, replicate}
use Rattle.std.proofs.lemmas.Bool.{leb-true, ltb-true}
use Rattle.dp_pieces.specs.Bytes.{Bytes}
use Rattle.dp_pieces.specs.Sets.{set_by}
use Rattle.dp_pieces.proofs.BlankLemmas.{none-has}
use Rattle.dp_pieces.specs.Pieces.{AnyOf, PieceOf, bytes_in, exactly, text_known, any_bytes_of}

-- any number of bytes of sets with the same bytes
pub any_bytes_of-same : (set other : Bytes) → ((b : ℕ) → set b ≡ other b) → any_bytes_of set ≡ any_bytes_of other
any_bytes_of-same set other same = λ i. AnyOf (λ b. same b i) ∷ []

-- pieces of a known text are all known
pub text_known-exactly : (text : List ℕ) → text_known (exactly text) ≡ Some text
text_known-exactly [] = refl
text_known-exactly (byte ∷ text) = ap (option_map (λ bytes. byte ∷ bytes)) (text_known-exactly text)

or-nothing : (a : Bool) → (a || false) ≡ a
or-nothing true = refl
or-nothing false = refl

-- no byte of a text is left
pub text-end : (old : Bool) (left : List ℕ) (byte : ℕ) → left ≡ [] → old ≡ (old || bytes_in left byte)
text-end old left byte is = sym (ap (λ ps. old || bytes_in ps byte) is ∙ or-nothing old)

-- a set without bytes
pub none-set : (has : List ℕ) → has ≡ replicate 4 0 → (b : ℕ) → set_by has b ≡ false
none-set has none b = ap (λ t. set_by t b) none ∙ none-has 4 b

-- no byte is a digit below the first
pub no-digit : (b : ℕ) → false ≡ (nat_le 48 b && nat_lt b 48)
no-digit b = by (nat_le 48 b) (nat_lt b 48) refl refl
  where
    by : (from below : Bool) → nat_le 48 b ≡ from → nat_lt b 48 ≡ below → false ≡ (from && below)
    by false below x y = refl
    by true false x y = refl
    by true true x y = absurd (omega (arith, leb-true 48 b x, ltb-true b 48 y))

-- a text, given its pieces, which are all known
pub text-exactly : (pieces : List PieceOf) (text name : List ℕ) → text_known pieces ≡ Some text → pieces ≡ exactly name → text ≡ name
text-exactly pieces text name is same = ap (λ t. unwrap_or t []) (sym is ∙ (ap text_known same ∙ text_known-exactly name))

pub never-unknown : (pieces : List PieceOf) (name : List ℕ) → text_known pieces ≡ None → pieces ≡ exactly name → ⊥
never-unknown pieces name is same = let no : None ≡ Some name = sym is ∙ (ap text_known same ∙ text_known-exactly name) in let bottom : ⊥ = cc in bottom
