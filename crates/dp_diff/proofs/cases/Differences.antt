-- Differences, computed from the definitions themselves.
use Rattle.std.proofs.Common.{◌≡◌, ℕ, List, [], ◌∷◌, ◌++◌, Some, None, refl}
use Rattle.std.specs.Prelude.{codes, decimal}
use Rattle.dp_lookup.specs.SearchOrder.{visit}
use Rattle.dp_pattern.specs.Name.{Meaning, Plain, Pattern}
use Rattle.dp_pattern.specs.Spelling.{spelling}
use Rattle.dp_pattern.specs.declared.tail.Tail.TheVariants.{End}
use Rattle.dp_plan.specs.Contexts.{PlanContext}
use Rattle.dp_plan.specs.Plan.{PlanOf}
use Rattle.dp_plan.specs.declared.entry.Entry.{Entry}
use Rattle.dp_diff.specs.Answering.{answering}
use Rattle.dp_diff.specs.Differences.{Difference, differences}
use Rattle.dp_diff.specs.Printing.{entry_line}

abbrev plan_of : List PlanContext → PlanOf
plan_of contexts = record { globals = []; contexts = contexts }

-- a context with this name, these entries and these includes
abbrev context_of : List ℕ → List Entry → List (List ℕ) → PlanContext
context_of name entries includes = record { name = name; entries = entries; includes = includes }

-- an entry with this name, priority, application and arguments
abbrev entry_of : Meaning → ℕ → List ℕ → List ℕ → Entry
entry_of name priority application arguments =
    record { name = name; priority = priority; label = None; application = application; arguments = arguments }

-- an entry that plays a sound
abbrev plays : List ℕ → ℕ → List ℕ → Entry
plays exten priority sound = entry_of (Plain exten) priority (codes "Playback") sound

-- a dialplan with one context
abbrev office : List Entry → PlanOf
office entries = plan_of (context_of (codes "a") entries [] ∷ [])

abbrev hello : Entry
hello = plays (codes "1") 1 (codes "hello")

-- an entry that answers in a context only before the change, only after it, or before another
abbrev missing : List ℕ → Entry → Difference
missing context entry = record { context = context; before = Some entry; after = None }

abbrev new : List ℕ → Entry → Difference
new context entry = record { context = context; before = None; after = Some entry }

abbrev other : List ℕ → Entry → Entry → Difference
other context entry after = record { context = context; before = Some entry; after = Some after }

-- nothing, from nothing
nothing : differences (plan_of []) (plan_of []) ≡ []
unfolding differences
nothing = refl

-- an entry is added, and an entry is missing
entry-added : differences (office []) (office (hello ∷ [])) ≡ new (codes "a") hello ∷ []
unfolding differences answering visit spelling
entry-added = refl

entry-missing : differences (office (hello ∷ [])) (office []) ≡ missing (codes "a") hello ∷ []
unfolding differences answering visit spelling
entry-missing = refl

-- other arguments, and another application
abbrev bye : Entry
bye = plays (codes "1") 1 (codes "bye")

arguments-changed : differences (office (hello ∷ [])) (office (bye ∷ [])) ≡ other (codes "a") hello bye ∷ []
unfolding differences answering visit spelling
arguments-changed = refl

abbrev background : Entry
background = entry_of (Plain (codes "1")) 1 (codes "Background") (codes "hello")

application-changed : differences (office (hello ∷ [])) (office (background ∷ [])) ≡ other (codes "a") hello background ∷ []
unfolding differences answering visit spelling
application-changed = refl

-- the case of an application makes no difference, that of arguments does
application-in_another_case : differences (office (hello ∷ [])) (office (entry_of (Plain (codes "1")) 1 (codes "PLAYback") (codes "hello") ∷ [])) ≡ []
unfolding differences answering visit spelling
application-in_another_case = refl

abbrev capital : Entry
capital = plays (codes "1") 1 (codes "Hello")

arguments-in_another_case : differences (office (hello ∷ [])) (office (capital ∷ [])) ≡ other (codes "a") hello capital ∷ []
unfolding differences answering visit spelling
arguments-in_another_case = refl

-- a label makes no difference
label-added : differences (office (hello ∷ [])) (office ((record hello { label = Some (codes "top") }) ∷ [])) ≡ []
unfolding differences answering visit spelling
label-added = refl

-- a pattern that matches one text is not the plain name
abbrev pattern : Entry
pattern = entry_of (Pattern (codes "1" ∷ []) End) 1 (codes "Playback") (codes "hello")

pattern-in_place_of_a_name : differences (office (hello ∷ [])) (office (pattern ∷ [])) ≡ missing (codes "a") hello ∷ new (codes "a") pattern ∷ []
unfolding differences answering visit spelling
pattern-in_place_of_a_name = refl

-- `a` includes `b`, which has entries of its own
abbrev second : Entry
second = plays (codes "1") 2 (codes "more")

abbrev with_include : List (List ℕ) → PlanOf
with_include includes = plan_of (
    context_of (codes "a") (hello ∷ []) includes
    ∷ context_of (codes "b") (plays (codes "1") 1 (codes "other") ∷ second ∷ []) [] ∷ [])

-- an include that is added brings the entry whose place is free; the other one is hidden
include-added : differences (with_include []) (with_include (codes "b" ∷ [])) ≡ new (codes "a") second ∷ []
unfolding differences answering visit spelling
include-added = refl

include-missing : differences (with_include (codes "b" ∷ [])) (with_include []) ≡ missing (codes "a") second ∷ []
unfolding differences answering visit spelling
include-missing = refl

-- `a` includes `b` and `c` in this order
abbrev in_order : List (List ℕ) → PlanOf
in_order includes = plan_of (
    context_of (codes "a") [] includes
    ∷ context_of (codes "b") (hello ∷ []) []
    ∷ context_of (codes "c") (bye ∷ []) [] ∷ [])

-- the first include answers
includes-in_another_order : differences (in_order (codes "b" ∷ codes "c" ∷ [])) (in_order (codes "c" ∷ codes "b" ∷ [])) ≡ other (codes "a") hello bye ∷ []
unfolding differences answering visit spelling
includes-in_another_order = refl

-- contexts of the dialplan before the change come first, then the new ones; entries that answered come before those that are new
abbrev two : List ℕ → Entry
two sound = plays (codes "2") 1 sound

abbrev three : Entry
three = plays (codes "3") 1 (codes "three")

contexts-in_order : differences
    (plan_of (context_of (codes "a") (hello ∷ []) [] ∷ context_of (codes "b") (hello ∷ two (codes "two") ∷ []) [] ∷ []))
    (plan_of (context_of (codes "c") (hello ∷ []) [] ∷ context_of (codes "b") (three ∷ two (codes "zwei") ∷ hello ∷ []) [] ∷ []))
    ≡ missing (codes "a") hello ∷ other (codes "b") (two (codes "two")) (two (codes "zwei")) ∷ new (codes "b") three ∷ new (codes "c") hello ∷ []
unfolding differences answering visit spelling
contexts-in_order = refl

-- the line of an entry
line : entry_line (codes "- ") (codes "a") hello ≡ codes "- a,1," ++ decimal 1 ++ codes " " ++ codes "Playback(hello)" ++ codes "\n"
unfolding spelling
line = refl
