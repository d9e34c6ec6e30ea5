-- The names of the functions that the wide table has besides the five of every dialplan.
use Rattle.std.proofs.Common.{◌≡◌, ℕ, Bool, true, false, ◌||◌, List, [], ◌∷◌, ◌++◌, None, refl, sym, subst, codes}
use Rattle.std.specs.Cmp.Lexicographic as texts
use Rattle.std.specs.List.{AllByRecursion, list_any}
use Rattle.dp_conf.specs.Words.{same_text}
use Rattle.dp_wide.specs.Functions.{wide_function_of}

-- the functions of fields, those that are not followed, those of a text, and those of what a text can see
abbrev pub field_names : List (List ℕ)
field_names = codes "CUT" ∷ codes "FIELDQTY" ∷ []

abbrev pub foreign_names : List (List ℕ)
foreign_names = codes "REGEX" ∷ codes "INC" ∷ codes "DEC" ∷ codes "SHIFT" ∷ codes "POP" ∷ codes "EVAL" ∷ codes "HASH" ∷ []

abbrev pub text_names : List (List ℕ)
text_names = codes "IF" ∷ codes "FILTER" ∷ codes "TOUPPER" ∷ codes "TOLOWER" ∷ codes "ISNULL" ∷ codes "EXISTS" ∷ []

abbrev pub sight_names : List (List ℕ)
sight_names = codes "DB_EXISTS" ∷ codes "DB_DELETE" ∷ codes "QUEUE_EXISTS" ∷ codes "QUEUE_MEMBER_COUNT" ∷ []

-- all of them
abbrev pub further_names : List (List ℕ)
further_names = field_names ++ (foreign_names ++ (text_names ++ sight_names))

-- what holds of each of some words holds of a name that is one of them
pub at-word : (P : List ℕ → Type 0) (words : List (List ℕ)) → AllByRecursion P words → (name : List ℕ) → list_any (same_text name) words ≡ true → P name
at-word P [] all name found = absurd cc
at-word P (word ∷ words) all name found = by (same_text name word) refl (at-word P words all.1 name) found
  where
    by : (here : Bool) → same_text name word ≡ here → (list_any (same_text name) words ≡ true → P name) → (here || list_any (same_text name) words) ≡ true → P name
    by true is later any = subst P (sym (texts.same_text name word (sym is))) all.0
    by false is later any = later any

-- any other name is a name of cells
pub no-further : (name : List ℕ) → AllByRecursion (λ word. same_text name word ≡ false) further_names → wide_function_of name ≡ None
no-further name none = rw (none.0, none.1.0, none.1.1.0, none.1.1.1.0, none.1.1.1.1.0, none.1.1.1.1.1.0, none.1.1.1.1.1.1.0, none.1.1.1.1.1.1.1.0, none.1.1.1.1.1.1.1.1.0, none.1.1.1.1.1.1.1.1.1.0, none.1.1.1.1.1.1.1.1.1.1.0, none.1.1.1.1.1.1.1.1.1.1.1.0, none.1.1.1.1.1.1.1.1.1.1.1.1.0, none.1.1.1.1.1.1.1.1.1.1.1.1.1.0, none.1.1.1.1.1.1.1.1.1.1.1.1.1.1.0, none.1.1.1.1.1.1.1.1.1.1.1.1.1.1.1.0, none.1.1.1.1.1.1.1.1.1.1.1.1.1.1.1.1.0, none.1.1.1.1.1.1.1.1.1.1.1.1.1.1.1.1.1.0, none.1.1.1.1.1.1.1.1.1.1.1.1.1.1.1.1.1.1.0) refl
