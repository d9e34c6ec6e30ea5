-- The text before the last byte of a text, given that byte.
use Rattle.std.proofs.Common.{◌≡◌, ℕ, Bool, true, false, cond, eqb, List, [], ◌∷◌, ◌++◌, Option, Some, None, refl, ap, ◌∙◌}
use Rattle.std.specs.Option.{option_map}
use Rattle.dp_files.specs.Directives.{before_end}

with_first : (t : Bool) (f : ℕ) (front : List ℕ) → option_map (λ rest. f ∷ rest) (cond {A = Option (List ℕ)} t (Some front) None) ≡ cond t (Some (f ∷ front)) None
with_first true f front = refl
with_first false f front = refl

before_end-append : (byte : ℕ) (front : List ℕ) (last : ℕ) → before_end byte (front ++ last ∷ []) ≡ cond (eqb last byte) (Some front) None
before_end-append byte [] last = refl
before_end-append byte (f ∷ []) last = with_first (eqb last byte) f []
before_end-append byte (f ∷ g ∷ front) last = ap (option_map (λ rest. f ∷ rest)) (before_end-append byte (g ∷ front) last) ∙ with_first (eqb last byte) f (g ∷ front)

-- a text that ends with the byte, and one that ends with another byte
pub before_end-ends : (byte : ℕ) (text front : List ℕ) (last : ℕ) → text ≡ front ++ last ∷ [] → eqb last byte ≡ true → before_end byte text ≡ Some front
before_end-ends byte text front last e is = ap (before_end byte) e ∙ before_end-append byte front last ∙ ap (λ t. cond {A = Option (List ℕ)} t (Some front) None) is

pub before_end-differs : (byte : ℕ) (text front : List ℕ) (last : ℕ) → text ≡ front ++ last ∷ [] → eqb last byte ≡ false → before_end byte text ≡ None
before_end-differs byte text front last e is = ap (before_end byte) e ∙ before_end-append byte front last ∙ ap (λ t. cond {A = Option (List ℕ)} t (Some front) None) is
