-- The kinds of an audit's findings, named by the words that are printed for them, and which of them are reported.
use Rattle.std.specs.Prelude.{ℕ, Bool, true, false, not, ◌==◌, List, [], ◌∷◌, codes}
use Rattle.std.specs.List.{list_all, list_any, slice_split}
use Rattle.dp_conf.specs.Blanks.{trim}
use Rattle.dp_conf.specs.Words.{same_word}
use Rattle.dp_wide_runs.specs.declared.kinds.KindChoice.{KindChoice}
use Rattle.dp_wide_runs.specs.declared.kinds.KindChoice.TheVariants as kinds
use Rattle.dp_wide_runs.specs.declared.kinds.AuditChoice.{AuditChoice}

-- the kinds of an audit over the applications of this program, in the order in which they are reported for an entry
unfoldable pub plain_kinds : List (List ℕ)
plain_kinds =
    codes "Cycle" ∷ codes "NoApplication" ∷ codes "NoTarget" ∷ codes "Gap" ∷ codes "NoFirst" ∷ codes "Hidden" ∷ codes "Unset"
    ∷ codes "Unused" ∷ []

-- the kinds of an audit over the wide table
unfoldable pub wide_kinds : List (List ℕ)
wide_kinds =
    codes "Cycle" ∷ codes "NoApplication" ∷ codes "NoTarget" ∷ codes "Gap" ∷ codes "NoFirst" ∷ codes "Hidden" ∷ codes "Unset"
    ∷ codes "Unused" ∷ codes "FallsThrough" ∷ codes "Loop" ∷ codes "NoFunction" ∷ []

-- whether a word is one of some kinds, in any case
abbrev pub is_among : List (List ℕ) → List ℕ → Bool
is_among kinds word = list_any (same_word word) kinds

-- whether a word is a kind of an audit, over the wide table or not
abbrev pub is_kind : Bool → List ℕ → Bool
is_kind false word = is_among plain_kinds word
is_kind true word = is_among wide_kinds word

abbrev pub is_comma : ℕ → Bool
is_comma byte = byte == 44

-- the words of a text, which commas separate
abbrev pub words_in : List ℕ → List (List ℕ)
words_in text = slice_split is_comma text

-- whether each word of a text is a kind; blanks at the ends of a word have no effect
abbrev pub are_kinds : Bool → List ℕ → Bool
are_kinds is_wide text = list_all (λ word. is_kind is_wide (trim word)) (words_in text)

-- whether a kind is one of the words of a text, in any case
abbrev pub has_kind : List ℕ → List ℕ → Bool
has_kind text kind = list_any (λ word. same_word kind (trim word)) (words_in text)

-- the kinds that are reported, with the texts that name them
pub data KindsTold : Type 0 where
  all : KindsTold
  only : List ℕ → KindsTold
  except : List ℕ → KindsTold

abbrev pub kinds_told : KindChoice → KindsTold
kinds_told kinds.All = all
kinds_told (kinds.Only text) = only text.now
kinds_told (kinds.Except text) = except text.now

-- whether a kind is reported
abbrev pub is_told : KindsTold → List ℕ → Bool
is_told all kind = true
is_told (only text) kind = has_kind text kind
is_told (except text) kind = not (has_kind text kind)

-- the choice of an audit: whether it uses the wide table, and which kinds it reports
pub record ChoiceOf : Type 0 where
  pub is_wide : Bool
  pub kinds : KindsTold

abbrev pub choice_of : AuditChoice → ChoiceOf
choice_of choice = record { is_wide = choice.is_wide; kinds = kinds_told choice.kinds }
