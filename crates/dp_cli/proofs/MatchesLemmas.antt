-- The commands that clap found among words.
use Rattle.std.proofs.Common.{◌≡◌, List, ℕ, Option, Some, None, option_map, ap, ◌∙◌}
use Rattle.clap.specs.Walk.{Row}

-- a command that was found has a name and words
pub both_are : {B : Type 0} (name_of : B → List ℕ) (words_of : B → List Row) (found : Option B) (name : List ℕ) (words : List Row)
    → Some name ≡ option_map name_of found → Some words ≡ option_map (λ (p : List ℕ × List Row). p.1) (option_map {U = List ℕ × List Row} (λ b. (name_of b, words_of b)) found)
    → option_map {U = List ℕ × List Row} (λ b. (name_of b, words_of b)) found ≡ Some (name, words)
both_are name_of words_of None name words e f = absurd cc
both_are name_of words_of (Some b) name words e f =
    let a : name_of b ≡ name = cc in
    let r : words_of b ≡ words = cc in
    ap (λ n. Some (n, words_of b)) a ∙ ap (λ ws. Some (name, ws)) r
