-- Texts that are added one after another.
use Rattle.std.proofs.Common.{◌≡◌, ℕ, List, ◌++◌, append_assoc, ap, ◌∙◌}

-- one more part after a text with parts
one_more : (text parts part : List ℕ) {before after : List ℕ} → before ≡ text ++ parts → after ≡ before ++ part
    → after ≡ text ++ (parts ++ part)
one_more text parts part is more = more ∙ (ap (λ (x : List ℕ). x ++ part) is ∙ append_assoc text parts part)

-- four parts after a text
pub four_parts : (text a b c d : List ℕ) {one two three four : List ℕ} → one ≡ text ++ a → two ≡ one ++ b → three ≡ two ++ c
    → four ≡ three ++ d → four ≡ text ++ (((a ++ b) ++ c) ++ d)
four_parts text a b c d first second third fourth =
    one_more text ((a ++ b) ++ c) d (one_more text (a ++ b) c (one_more text a b first second) third) fourth
