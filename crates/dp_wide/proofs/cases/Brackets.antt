-- Texts whose groups Asterisk may end elsewhere, computed from the definitions themselves.
use Rattle.std.proofs.Common.{◌≡◌, true, false, refl, codes}
use Rattle.dp_wide.specs.Brackets.{has_counted, reads}

plain-braces : reads (codes "a{b}c") ≡ true
unfolding reads has_counted
plain-braces = refl

nested-groups : reads (codes "${A${B}}$[${C}+1]") ≡ true
unfolding reads has_counted
nested-groups = refl

brace-in-braces : reads (codes "${A{B}}") ≡ false
unfolding reads has_counted
brace-in-braces = refl

brace-in-brackets : reads (codes "$[\"{\"=\"${A}\"]") ≡ true
unfolding reads has_counted
brace-in-brackets = refl

bracket-in-brackets : reads (codes "$[[1]]") ≡ false
unfolding reads has_counted
bracket-in-brackets = refl

bracket-in-braces : reads (codes "${FILTER([0-9],${A})}") ≡ true
unfolding reads has_counted
bracket-in-braces = refl

-- the inner group is not of the kind, but the outer one is
brace-in-inner : reads (codes "${A:$[{]}") ≡ false
unfolding reads has_counted
brace-in-inner = refl

end-in-inner : reads (codes "${A:$[\"}\"]}") ≡ false
unfolding reads has_counted
end-in-inner = refl

-- after the group it is plain for both
brace-behind : reads (codes "${A}{B}") ≡ true
unfolding reads has_counted
brace-behind = refl

-- a group without an end is open to the end of the text
brace-in-open : reads (codes "${A {") ≡ false
unfolding reads has_counted
brace-in-open = refl
