-- A text without a `$` is read as its bytes, and contains no group.
use Rattle.std.proofs.Common.{◌≡◌, ℕ, Bool, true, false, ◌||◌, cond, eqb, List, [], ◌∷◌, Option, None, refl, ap, ◌∙◌}
use Rattle.std.specs.List.{list_any}
use Rattle.dp_conf.specs.Groups.{Reading, Over, Plain, kind_of, opening, depth_of}
use Rattle.dp_conf.specs.GroupsRead.{Levels, Last, mark_of, with_byte, with_mark, levels, first_level, reading_of, nesting_of}
use Rattle.dp_conf.specs.declared.groups.GroupKind.{GroupKind}

-- the bytes of a text, and no group
bytes_of : List ℕ → Reading
bytes_of [] = Over
bytes_of (b ∷ text) = Plain b (bytes_of text)

opening-none : (b : ℕ) (after : List ℕ) → eqb b 36 ≡ false → opening b after ≡ None
opening-none b [] e = refl
opening-none b (next ∷ after) e = ap (λ t. cond {A = Option GroupKind} t (kind_of next) None) e

levels-byte : (b : ℕ) (text : List ℕ) → eqb b 36 ≡ false → levels (b ∷ text) [] 0 ≡ with_byte b (levels text [] 0)
unfolding levels
levels-byte b text e = ap (λ (kind : Option GroupKind). with_mark (mark_of kind b) (levels text) 1 []) (opening-none b text e)

levels-plain : (text : List ℕ) → list_any (λ b. eqb b 36) text ≡ false → levels text [] 0 ≡ Last (bytes_of text)
unfolding levels bytes_of
levels-plain [] e = refl
levels-plain (b ∷ text) e = by (eqb b 36) refl (levels-plain text) e
  where
    by : (t : Bool) → eqb b 36 ≡ t → (list_any (λ b. eqb b 36) text ≡ false → levels text [] 0 ≡ Last (bytes_of text)) → (t || list_any (λ b. eqb b 36) text) ≡ false
        → levels (b ∷ text) [] 0 ≡ with_byte b (Last (bytes_of text))
    by true is later e = absurd cc
    by false is later e = levels-byte b text is ∙ ap (with_byte b) (later e)

depth_of-bytes : (text : List ℕ) → depth_of (bytes_of text) ≡ 0
unfolding depth_of bytes_of
depth_of-bytes [] = refl
depth_of-bytes (b ∷ text) = depth_of-bytes text

-- a text without a `$` contains no group
pub nesting_of-plain : (text : List ℕ) → list_any (λ b. eqb b 36) text ≡ false → nesting_of text ≡ 0
unfolding nesting_of reading_of
nesting_of-plain text e = ap (λ (l : Levels). depth_of (first_level l)) (levels-plain text e) ∙ depth_of-bytes text
