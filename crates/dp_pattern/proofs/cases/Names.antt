-- Names, computed from the definition.
use Rattle.std.proofs.Common.{◌≡◌, [], ◌∷◌, ◌++◌, Ok, Err, codes, refl}
use Rattle.dp_pattern.specs.Classes.{byte_count}
use Rattle.dp_pattern.specs.Name.{Plain, Pattern, meaning_of}
use Rattle.dp_pattern.specs.declared.tail.Tail.TheVariants.{End, Dot, Bang}
use Rattle.dp_pattern.specs.declared.fault.NameFault.TheVariants.{EmptySet, BadRange, OpenSet, AfterWildcard, BadByte, EmptyName}

plain : meaning_of (codes "-1-00") ≡ Ok (Plain (codes "100"))
unfolding meaning_of
plain = refl

plain_marks : meaning_of (codes "X.[!") ≡ Ok (Plain (codes "X.[!"))
unfolding meaning_of
plain_marks = refl

digits : meaning_of (codes "-_x-Z.-") ≡ Ok (Pattern (codes "0123456789" ∷ codes "123456789" ∷ []) Dot)
unfolding meaning_of
digits = refl

same_set : meaning_of (codes "_[2-9]") ≡ meaning_of (codes "_N")
unfolding meaning_of byte_count
same_set = refl

sets : meaning_of (codes "_[c0-2A-Ba0]![") ≡ Err AfterWildcard
unfolding meaning_of byte_count
sets = refl

ranges : meaning_of (codes "_[c0-2A-Ba0]_]!") ≡ Ok (Pattern (codes "012ABac" ∷ codes "_" ∷ codes "]" ∷ []) Bang)
unfolding meaning_of byte_count
ranges = refl

bracket_in_set : meaning_of (codes "_[[]") ≡ Ok (Pattern (codes "[" ∷ []) End)
unfolding meaning_of byte_count
bracket_in_set = refl

nothing : meaning_of (codes "-_--") ≡ Err EmptyName
unfolding meaning_of
nothing = refl

dashes : meaning_of (codes "--") ≡ Err EmptyName
unfolding meaning_of
dashes = refl

empty_set : meaning_of (codes "_[]") ≡ Err EmptySet
unfolding meaning_of
empty_set = refl

falling : meaning_of (codes "_[9-0]") ≡ Err BadRange
unfolding meaning_of byte_count
falling = refl

sign_alone : meaning_of (codes "_[0-9-]") ≡ Err BadRange
unfolding meaning_of byte_count
sign_alone = refl

open_set : meaning_of (codes "_[12") ≡ Err OpenSet
unfolding meaning_of
open_set = refl

after : meaning_of (codes "_1.2") ≡ Err AfterWildcard
unfolding meaning_of
after = refl

blank : meaning_of (codes "a b") ≡ Err BadByte
unfolding meaning_of
blank = refl

-- `\` is 92: `_[\-]` is a bad byte, `_[\-3]` and `_[3-\]` are bad ranges
slash_alone : meaning_of (codes "_[" ++ 92 ∷ codes "-]") ≡ Err BadByte
unfolding meaning_of byte_count
slash_alone = refl

slash_first : meaning_of (codes "_[" ++ 92 ∷ codes "-3]") ≡ Err BadRange
unfolding meaning_of byte_count
slash_first = refl

slash_last : meaning_of (codes "_[3-" ++ 92 ∷ codes "]") ≡ Err BadRange
unfolding meaning_of byte_count
slash_last = refl
