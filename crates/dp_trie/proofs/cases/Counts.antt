-- The number of nodes that are entered, computed from the definitions themselves.
use Rattle.std.proofs.Common.{◌≡◌, ℕ, false, List, [], ◌∷◌, ◌++◌, None, refl}
use Rattle.std.specs.Prelude.{codes}
use Rattle.dp_pattern.specs.Name.{Meaning, Plain, Pattern}
use Rattle.dp_pattern.specs.Order.{name_cmp}
use Rattle.dp_pattern.specs.declared.tail.Tail.TheVariants.{End, Dot, Bang}
use Rattle.dp_trie.specs.Asked.{wants}
use Rattle.dp_trie.specs.Entered.{entered_count, entered_first, nodes_added}
use Rattle.dp_trie.specs.Known.{Known, KeptContext}
use Rattle.dp_trie.specs.declared.entry_question.EntryQuestion.TheVariants.{Priority}

-- an entry with this name and priority
abbrev known_entry : Meaning → ℕ → Known
known_entry name priority = record { name = name; priority = priority; label = None; id = record { context = 0; entry = 0 } }

-- the number of nodes that are entered for a text and a priority, among entries in their order
abbrev count : List Known → List ℕ → ℕ → ℕ
count entries digits priority = entered_count false (wants (Priority priority)) digits entries

abbrev one : List ℕ
one = codes "1"

abbrev any : List ℕ
any = codes "0123456789"

-- `_1X` with priority 1 and `_1.` with priority 2, which share one `1`: four nodes
abbrev two_patterns : List Known
two_patterns = known_entry (Pattern (one ∷ any ∷ []) End) 1 ∷ known_entry (Pattern (one ∷ []) Dot) 2 ∷ []

nodes-first : nodes_added (Plain []) (Pattern (one ∷ any ∷ []) End) ≡ (one ∷ []) ∷ (one ∷ any ∷ []) ∷ (one ∷ any ∷ []) ∷ []
unfolding name_cmp
nodes-first = refl

nodes-second : nodes_added (Pattern (one ∷ any ∷ []) End) (Pattern (one ∷ []) Dot) ≡ (one ∷ []) ∷ []
unfolding name_cmp
nodes-second = refl

-- the two classes and the end that answers
count-first : count two_patterns (codes "15") 1 ≡ 3
unfolding name_cmp
count-first = refl

-- the end of `_1X` is entered too, and then that of `_1.`
count-second : count two_patterns (codes "15") 2 ≡ 4
unfolding name_cmp
count-second = refl

-- what is entered if nothing answers; an end is entered even if digits are left
count-none : count two_patterns (codes "155") 1 ≡ 4
unfolding name_cmp
count-none = refl

-- the digits end after the first class, so only the end of `_1.` is below it
count-short : count two_patterns (codes "1") 1 ≡ 2
unfolding name_cmp
count-short = refl

-- no class takes the first digit, or there is none
count-other : count two_patterns (codes "2") 1 ≡ 0
unfolding name_cmp
count-other = refl

count-empty : count two_patterns [] 1 ≡ 0
unfolding name_cmp
count-empty = refl

-- `_X` with two priorities has one end, for both of them
abbrev two_priorities : List Known
two_priorities = known_entry (Pattern (any ∷ []) End) 1 ∷ known_entry (Pattern (any ∷ []) End) 2 ∷ []

count-priority_1 : count two_priorities (codes "5") 1 ≡ 2
unfolding name_cmp
count-priority_1 = refl

count-priority_2 : count two_priorities (codes "5") 2 ≡ 2
unfolding name_cmp
count-priority_2 = refl

count-priority_3 : count two_priorities (codes "5") 3 ≡ 2
unfolding name_cmp
count-priority_3 = refl

-- `_.` and `_!` are ends without a class, which are entered for every text; a plain name is not a node, and after one that answers nothing
-- is entered
abbrev ends : List Known
ends = known_entry (Plain (codes "12")) 1 ∷ known_entry (Pattern [] Dot) 1 ∷ known_entry (Pattern [] Bang) 2 ∷ []

count-plain : count ends (codes "12") 1 ≡ 0
unfolding name_cmp
count-plain = refl

count-end : count ends (codes "13") 1 ≡ 1
unfolding name_cmp
count-end = refl

count-both_ends : count ends [] 2 ≡ 2
unfolding name_cmp
count-both_ends = refl

-- ---- several contexts

abbrev kept_contexts : List KeptContext
kept_contexts =
    (record { entries = known_entry (Pattern (any ∷ []) End) 4 ∷ []; size = 2 })
    ∷ (record { entries = two_patterns ++ known_entry (Pattern (any ∷ []) End) 2 ∷ []; size = 6 }) ∷ []

-- the first context answers
first-answers : entered_first kept_contexts false (wants (Priority 4)) (codes "5") (0 ∷ 1 ∷ []) ≡ 2
unfolding name_cmp
first-answers = refl

-- the second context does, after the two nodes of the first; a number without a context adds none
second-answers : entered_first kept_contexts false (wants (Priority 2)) (codes "5") (0 ∷ 9 ∷ 1 ∷ []) ≡ 4
unfolding name_cmp
second-answers = refl

-- none does: two nodes, and `1`, the end of `_1.`, `X` and its end
none-answers : entered_first kept_contexts false (wants (Priority 7)) (codes "1") (0 ∷ 1 ∷ []) ≡ 6
unfolding name_cmp
none-answers = refl
