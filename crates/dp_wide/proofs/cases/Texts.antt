-- Texts that are cut, counted and filtered, computed from the definitions themselves.
use Rattle.std.proofs.Common.{◌≡◌, [], ◌∷◌, refl, codes}
use Rattle.dp_wide.specs.Texts.{delimiter_of, field_count, cut_fields, kept_of}

delimiter-first : delimiter_of (codes " x") ≡ 32
delimiter-first = refl

delimiter-empty : delimiter_of [] ≡ 45
delimiter-empty = refl

-- `\,` is a comma, and a `\` alone is itself
delimiter-comma : delimiter_of (92 ∷ 44 ∷ []) ≡ 44
delimiter-comma = refl

delimiter-backslash : delimiter_of (92 ∷ []) ≡ 92
delimiter-backslash = refl

count-empty : field_count 44 [] ≡ 0
count-empty = refl

count-ends : field_count 44 (codes ",a,") ≡ 3
count-ends = refl

cut-one : cut_fields (codes "a-b-c-d") 45 (codes "2") ≡ codes "b"
unfolding cut_fields
cut-one = refl

-- in their own order, and each once
cut-order : cut_fields (codes "a-b-c-d") 45 (codes "3-&1&3-4") ≡ codes "a-c-d"
unfolding cut_fields
cut-order = refl

cut-front : cut_fields (codes "a-b-c-d") 45 (codes "-2") ≡ codes "a-b"
unfolding cut_fields
cut-front = refl

-- no field has the number 0, or a number past the last
cut-outside : cut_fields (codes "a-b") 45 (codes "0&9") ≡ []
unfolding cut_fields
cut-outside = refl

cut-backwards : cut_fields (codes "a-b-c") 45 (codes "3-2") ≡ []
unfolding cut_fields
cut-backwards = refl

-- one part that is not a range leaves nothing
cut-faulty : cut_fields (codes "a-b") 45 (codes "1&x") ≡ []
unfolding cut_fields
cut-faulty = refl

cut-dash : cut_fields (codes "a-b") 45 (codes "-") ≡ []
unfolding cut_fields
cut-dash = refl

-- a number of any length is read exactly
cut-far : cut_fields (codes "a-b") 45 (codes "2-99999999999999999999999") ≡ codes "b"
unfolding cut_fields
cut-far = refl

kept-range : kept_of (codes "0-9x") (codes "a1-x9") ≡ codes "1x9"
kept-range = refl

-- a `-` at either end is itself
kept-dashes : kept_of (codes "-b-") (codes "a-b") ≡ codes "-b"
kept-dashes = refl

kept-backwards : kept_of (codes "9-0") (codes "5-9") ≡ []
kept-backwards = refl
