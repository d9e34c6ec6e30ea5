-- A text escaped part by part.
use Rattle.std.proofs.Common.{◌≡◌, ℕ, List, [], ◌∷◌, ◌++◌, Some, None, refl, ap, ◌∙◌, sym, append_assoc}
use Rattle.dp_conf.specs.Cut.{cut_once}
use Rattle.dp_conf.specs.Escape.{escape_text}
use Rattle.dp_conf.proofs.EscapeLemmas.{escape_text-other}
use Rattle.dp_conf.proofs.TextLemmas.{Avoids, cut_once-is, cut_once-none}

-- a text without a `;` is unchanged
escape_text-plain : (text : List ℕ) → Avoids 59 text → escape_text text ≡ text
escape_text-plain [] avoids = refl
escape_text-plain (b ∷ text) avoids = escape_text-other b text avoids.0 ∙ ap (λ (rest : List ℕ). b ∷ rest) (escape_text-plain text avoids.1)

escape_text-part : (part rest : List ℕ) → Avoids 59 part → escape_text (part ++ 59 ∷ rest) ≡ part ++ (92 ∷ 59 ∷ escape_text rest)
escape_text-part [] rest avoids = refl
escape_text-part (b ∷ part) rest avoids = escape_text-other b (part ++ 59 ∷ rest) avoids.0 ∙ ap (λ (text : List ℕ). b ∷ text) (escape_text-part part rest avoids.1)

-- one more part, with the `;` after it
pub escape_text-more : (start out now left part rest whole : List ℕ) → out ++ escape_text left ≡ start ++ escape_text whole → now ≡ out ++ (part ++ 92 ∷ 59 ∷ []) → cut_once 59 left ≡ Some (part, rest) → now ++ escape_text rest ≡ start ++ escape_text whole
escape_text-more start out now left part rest whole so_far more cut =
    let is = cut_once-is 59 left part rest cut in
    ap (λ (text : List ℕ). text ++ escape_text rest) more
    ∙ (append_assoc out (part ++ 92 ∷ 59 ∷ []) (escape_text rest)
    ∙ (ap (λ (text : List ℕ). out ++ text) (append_assoc part (92 ∷ 59 ∷ []) (escape_text rest) ∙ sym (ap escape_text is.whole ∙ escape_text-part part rest is.avoids))
    ∙ so_far))

-- the last part
pub escape_text-last : (start out now left whole : List ℕ) → out ++ escape_text left ≡ start ++ escape_text whole → now ≡ out ++ left → cut_once 59 left ≡ None → now ≡ start ++ escape_text whole
escape_text-last start out now left whole so_far more cut =
    more ∙ (ap (λ (text : List ℕ). out ++ text) (sym (escape_text-plain left (cut_once-none 59 left cut))) ∙ so_far)
