-- A text escaped part by part.
use Rattle.std.proofs.Common.{◌≡◌, ℕ, List, [], ◌∷◌, ◌++◌, Some, None, refl, ap, ◌∙◌, sym, append_assoc}
use Rattle.dp_conf.specs.Cut.{cut_once}
use Rattle.dp_conf.specs.Escape.{escape_text}
use Rattle.dp_conf.proofs.EscapeLemmas.{escape_text-other}
use Rattle.dp_conf.proofs.TextLemmas.{Avoids, cut_once-is, cut_once-none}

plain : (text : List ℕ) → Avoids 59 text → escape_text text ≡ text
plain [] avoids = refl
plain (b ∷ text) avoids = escape_text-other b text avoids.0 ∙ ap (λ (rest : List ℕ). b ∷ rest) (plain text avoids.1)

part-escaped : (part rest : List ℕ) → Avoids 59 part → escape_text (part ++ 59 ∷ rest) ≡ part ++ (92 ∷ 59 ∷ escape_text rest)
part-escaped [] rest avoids = refl
part-escaped (b ∷ part) rest avoids = escape_text-other b (part ++ 59 ∷ rest) avoids.0 ∙ ap (λ (text : List ℕ). b ∷ text) (part-escaped part rest avoids.1)

-- the part before a `;` and the escaped `;`, and then the rest
pub escape_text-cut : (left part rest : List ℕ) → cut_once 59 left ≡ Some (part, rest) → (part ++ 92 ∷ 59 ∷ []) ++ escape_text rest ≡ escape_text left
escape_text-cut left part rest cut =
    let is = cut_once-is 59 left part rest cut in
    append_assoc part (92 ∷ 59 ∷ []) (escape_text rest) ∙ sym (ap escape_text is.whole ∙ part-escaped part rest is.avoids)

-- a text without a `;` is unchanged
pub escape_text-uncut : (left : List ℕ) → cut_once 59 left ≡ None → left ≡ escape_text left
escape_text-uncut left cut = sym (plain left (cut_once-none 59 left cut))
