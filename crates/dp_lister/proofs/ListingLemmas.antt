-- The lines of the first few things and of one more.
use Rattle.std.proofs.Common.{◌≡◌, ℕ, ◌+◌, ◌<◌, List, [], ◌∷◌, ◌++◌, length, take, map, get_or, ap, ◌∙◌, sym, append_assoc}
use Rattle.std.proofs.lemmas.Grind.{flat_map-append}
use Rattle.std.proofs.lemmas.List.{append-nil, map-append, take_more}
use Rattle.dp_lister.specs.Listing.{line_text, text_of}

-- a text with one more line after it
text_of-push : (lines : List (List ℕ)) (line : List ℕ) → text_of (lines ++ line ∷ []) ≡ text_of lines ++ line_text line
text_of-push lines line = flat_map-append line_text lines (line ∷ []) ∙ ap (λ (rest : List ℕ). text_of lines ++ rest) (append-nil (line_text line))

-- the lines of one more thing after the first few
pub text_of-more : {X : Type 0} (f : X → List ℕ) (xs : List X) (i : ℕ) (x : X) (start so_far now : List ℕ) → i < length xs → x ≡ get_or xs i x → so_far ≡ start ++ text_of (map f (take i xs)) → now ≡ so_far ++ line_text (f x) → now ≡ start ++ text_of (map f (take (i + 1) xs))
text_of-more {X} f xs i x start so_far now within here before e =
    let first = text_of (map f (take i xs)) in
    let more : text_of (map f (take (i + 1) xs)) ≡ first ++ line_text (f x) =
    ap (λ (ys : List X). text_of (map f ys)) (take_more xs i x within ∙ ap (λ (y : X). take i xs ++ y ∷ []) (sym here))
    ∙ (ap text_of (map-append f (take i xs) (x ∷ [])) ∙ text_of-push (map f (take i xs)) (f x)) in
    e ∙ (ap (λ (text : List ℕ). text ++ line_text (f x)) before ∙ (append_assoc start first (line_text (f x)) ∙ ap (λ (text : List ℕ). start ++ text) (sym more)))
