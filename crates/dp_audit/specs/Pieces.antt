-- The pieces of arguments of applications that a table lacks: how they read their arguments is unknown, so each piece may name a label.
use Rattle.std.specs.Prelude.{◌≡◌, ℕ, Bool, true, not, ◌&&◌, ◌||◌, ◌==◌, List, [], ◌∷◌, ◌++◌, map}
use Rattle.std.specs.List.{list_any, slice_split}
use Rattle.dp_conf.specs.Blanks.{trim}
use Rattle.dp_conf.specs.Words.{same_text}
use Rattle.dp_plan.specs.Plan.{PlanOf}
use Rattle.dp_plan.specs.declared.entry.Entry.{Entry}

-- whether applications cut their arguments at a byte: `,`, `?`, `:`, `(`, `)` or `^`
abbrev pub cuts : ℕ → Bool
cuts byte = byte == 44 || byte == 63 || byte == 58 || byte == 40 || byte == 41 || byte == 94

-- the pieces between such bytes, each without blanks at its ends
abbrev pub pieces : List ℕ → List (List ℕ)
pieces text = map trim (slice_split cuts text)

-- the first of a list of texts
abbrev pub first_of : List (List ℕ) → List ℕ
first_of [] = []
first_of (text ∷ texts) = text

-- the first piece of a text
abbrev pub first_piece : List ℕ → List ℕ
first_piece text = first_of (pieces text)

-- whether the table lacks the application of the entry, and the text is a piece of its arguments
abbrev pub holds : (List ℕ → Bool) → List ℕ → Entry → Bool
holds known text entry = not (known entry.application) && list_any (same_text text) (pieces entry.arguments)

-- whether the dialplan has such an entry
abbrev pub is_held : (List ℕ → Bool) → PlanOf → List ℕ → Bool
is_held known plan text = list_any (λ context. list_any (holds known text) context.entries) plan.contexts

-- whether a text may come before or after a piece in arguments: it is empty, or a byte that cuts them ends or begins it
abbrev pub ends_cut : List ℕ → Bool
ends_cut [] = true
ends_cut (b ∷ []) = cuts b
ends_cut (b ∷ c ∷ bs) = ends_cut (c ∷ bs)

abbrev pub begins_cut : List ℕ → Bool
begins_cut [] = true
begins_cut (b ∷ bs) = cuts b

-- the label is in the arguments between two such bytes, or between one of them and an end
pub record StandsBetween (label arguments : List ℕ) : Type 0 where
  pub before : List ℕ
  pub after : List ℕ
  pub whole : arguments ≡ before ++ (label ++ after)
  pub ends : ends_cut before ≡ true
  pub begins : begins_cut after ≡ true
