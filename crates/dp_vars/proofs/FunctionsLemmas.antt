-- Each of the five functions has one name.
use Rattle.std.proofs.Common.{◌≡◌, ℕ, Bool, true, false, cond, List, Option, Some, None, refl, sym, ap, ◌∙◌, codes}
use Rattle.std.specs.Cmp.Lexicographic.{bytes_decides}
use Rattle.dp_conf.specs.Words.{same_text}
use Rattle.dp_vars.specs.Values.{function_name, function_of}
use Rattle.dp_vars.specs.declared.value.Function.{Function}
use Rattle.dp_vars.specs.declared.value.Function.TheVariants.{Global, Local, Len, CallerId, QueueWaitingCount}

-- the function with the name of a function is this function
pub named-itself : (function : Function) → function_of (function_name function) ≡ Some function
named-itself Global = refl
named-itself Local = refl
named-itself Len = refl
named-itself CallerId = refl
named-itself QueueWaitingCount = refl

-- the name is that of this function, or of a later one
named-here : (name : List ℕ) (this function : Function) (others : Option Function) (same : Bool) → (same ≡ true → name ≡ function_name this)
    → (others ≡ Some function → function_name function ≡ name) → cond same (Some this) others ≡ Some function → function_name function ≡ name
named-here name this function others true here there is = let one : this ≡ function = cc in ap function_name (sym one) ∙ sym (here refl)
named-here name this function others false here there is = there is

-- the function with a name has this name
pub name-of : (name : List ℕ) (function : Function) → function_of name ≡ Some function → function_name function ≡ name
name-of name function =
    named-here name Global function _ (same_text name (codes "GLOBAL")) (bytes_decides name (codes "GLOBAL")).0
    (named-here name Local function _ (same_text name (codes "LOCAL")) (bytes_decides name (codes "LOCAL")).0
    (named-here name Len function _ (same_text name (codes "LEN")) (bytes_decides name (codes "LEN")).0
    (named-here name CallerId function _ (same_text name (codes "CALLERID")) (bytes_decides name (codes "CALLERID")).0
    (named-here name QueueWaitingCount function None (same_text name (codes "QUEUE_WAITING_COUNT")) (bytes_decides name (codes "QUEUE_WAITING_COUNT")).0
    (λ none. cc)))))
