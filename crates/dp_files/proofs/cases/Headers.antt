-- Headers, computed from the definitions themselves.
use Rattle.std.proofs.Common.{◌≡◌, ℕ, List, [], ◌∷◌, ◌++◌, Ok, Err, Some, None, refl, false, true}
use Rattle.std.specs.Prelude.{codes}
use Rattle.dp_files.specs.Headers.{HeaderOf, header_of, makes_template, is_addition, parents_of, made_header}
use Rattle.dp_conf.specs.declared.fault.LineKind.TheVariants.{BadHeader, Template}

plain : header_of (codes " a ] ") ≡ Ok (record { name = codes "a"; options = None })
plain = refl

-- blanks between `]` and `(`
options : header_of (codes "a]  (!) ") ≡ Ok (record { name = codes "a"; options = Some (codes "!") })
options = refl

empty_options : header_of (codes "a]()") ≡ Ok (record { name = codes "a"; options = Some [] })
empty_options = refl

no_name : header_of (codes "](!)") ≡ Err BadHeader
no_name = refl

no_end : header_of (codes "a(!)") ≡ Err BadHeader
no_end = refl

other_bytes : header_of (codes "a]b(!)") ≡ Err BadHeader
other_bytes = refl

no_closing : header_of (codes "a](!") ≡ Err Template
no_closing = refl

bytes_after : header_of (codes "a](!)b") ≡ Err Template
bytes_after = refl

-- a header with these words in its parentheses
abbrev with_words : List ℕ → HeaderOf
with_words words = record { name = codes "a"; options = Some words }

parents : parents_of (with_words (codes "!, b,,c , +")) ≡ codes "b" ∷ codes "c" ∷ []
parents = refl

template : makes_template (with_words (codes "b, ! ")) ≡ true
template = refl

-- `!b` is the name of a section
no_template : makes_template (with_words (codes "!b")) ≡ false
no_template = refl

addition : is_addition (with_words (codes "b,+")) ≡ true
addition = refl

no_addition : is_addition (record { name = codes "a"; options = None }) ≡ false
no_addition = refl

made_plain : made_header (codes " [a] ; (b)") ≡ codes " [a] ; (b)"
made_plain = refl

made_of_options : made_header (codes "[ a ](b) ; c") ≡ codes "[a]"
made_of_options = refl

-- a `;` in the name is still there
made_escaped : made_header (codes "[a" ++ 92 ∷ 59 ∷ codes "b](!)") ≡ codes "[a" ++ 92 ∷ 59 ∷ codes "b]"
made_escaped = refl
