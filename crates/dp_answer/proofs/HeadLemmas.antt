-- The text before an answer, part by part.
use Rattle.std.proofs.Common.{◌≡◌, ℕ, List, ◌++◌, ap, ◌∙◌, append_assoc}

-- two parts, one after another
two-additions : (old p q first second : List ℕ) → first ≡ old ++ p → second ≡ first ++ q → second ≡ old ++ (p ++ q)
two-additions old p q first second one two = two ∙ (ap (λ (t : List ℕ). t ++ q) one ∙ append_assoc old p q)

-- and six
pub six-additions : (old p q r s t u first second third fourth fifth sixth : List ℕ) → first ≡ old ++ p → second ≡ first ++ q → third ≡ second ++ r → fourth ≡ third ++ s
    → fifth ≡ fourth ++ t → sixth ≡ fifth ++ u → sixth ≡ old ++ (p ++ (q ++ (r ++ (s ++ (t ++ u)))))
six-additions old p q r s t u first second third fourth fifth sixth one two three four five six =
    let last = two-additions fourth t u fifth sixth five six in
    let late = two-additions third s (t ++ u) fourth sixth four last in
    let later = two-additions second r (s ++ (t ++ u)) third sixth three late in
    let middle = two-additions first q (r ++ (s ++ (t ++ u))) second sixth two later in
    two-additions old p (q ++ (r ++ (s ++ (t ++ u)))) first sixth one middle
