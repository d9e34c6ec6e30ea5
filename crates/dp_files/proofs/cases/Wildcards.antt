-- Names with `*` and `?`, computed from the definition itself.
use Rattle.std.proofs.Common.{◌≡◌, true, false, refl}
use Rattle.std.specs.Prelude.{codes}
use Rattle.dp_files.specs.Wildcards.{is_wildcard, stands_for, matches}

stands-star : stands_for (codes "parts/*.conf") (codes "parts/b.conf") ≡ true
unfolding stands_for
stands-star = refl

-- a `*` may match no bytes, and never matches a `/`
stands-other_folder : stands_for (codes "*.conf") (codes "parts/b.conf") ≡ false
unfolding stands_for
stands-other_folder = refl

matches-again : matches (codes "*ab?b") (codes "abaabxb") ≡ true
matches-again = refl

matches-short : matches (codes "a?") (codes "a") ≡ false
matches-short = refl

-- only the last part has wildcards
wildcard-folder : is_wildcard (codes "a*/b.conf") ≡ false
wildcard-folder = refl
