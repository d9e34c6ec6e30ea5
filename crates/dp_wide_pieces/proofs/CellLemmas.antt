-- The bytes of plain names and of cells.
use Rattle.std.proofs.Common.{◌≡◌, ℕ, Bool, true, false, ◌==◌, List, [], ◌∷◌, unwrap_or, refl, sym, ap, ◌∙◌, subst, codes, if◌then◌else◌}
use Rattle.std.specs.Cmp.Lexicographic as texts
use Rattle.std.specs.List.{list_any}
use Rattle.dp_conf.specs.Words.{same_text}
use Rattle.dp_vars.specs.Sights.{Sight}
use Rattle.dp_vars.specs.Unknown.{call_text}
use Rattle.dp_pieces.specs.Bytes.{Within}
use Rattle.dp_pieces.specs.Names.{IsWithin, Names, variable_pieces}
use Rattle.dp_pieces.specs.Pieces.{Fits, any_bytes_of, pieces_set}
use Rattle.dp_pieces.proofs.FitsLemmas.{any_bytes_of-part, fits-any_bytes_of, fits-set}
use Rattle.dp_pieces.proofs.TextLemmas.{all-variable}
use Rattle.dp_pieces.proofs.WithinLemmas.{either-right, within-more}
use Rattle.dp_wide.specs.CellValues.{cell_value}
use Rattle.dp_wide.specs.Cells.{cell_name, is_of_all}
use Rattle.dp_wide.specs.Functions.{is_channel_name, plain_value}

-- the name of a cell has a parenthesis, and so it is no word without one
has-parenthesis : (function argument : List ℕ) → list_any (λ b. b == 40) (call_text function argument) ≡ true
has-parenthesis [] argument = refl
has-parenthesis (b ∷ bs) argument = either-right (b == 40) (list_any (λ b. b == 40) (call_text bs argument)) (has-parenthesis bs argument)

other-word : (function argument word : List ℕ) → list_any (λ b. b == 40) word ≡ false → same_text (call_text function argument) word ≡ false
other-word function argument word none = by (same_text (call_text function argument) word) refl
  where
    by : (same : Bool) → same_text (call_text function argument) word ≡ same → same ≡ false
    by true is =
        let alike : call_text function argument ≡ word = texts.same_text (call_text function argument) word (sym is) in
        sym (has-parenthesis function argument) ∙ (ap (list_any (λ b. b == 40)) alike ∙ none)
    by false is = refl

module _ (names : Names) (sight : Sight) (seen : IsWithin names sight) where
  -- a name that is neither the channel's extension nor its context
  pub own-variable : (name : List ℕ) → same_text name (codes "EXTEN") ≡ false → same_text name (codes "CONTEXT") ≡ false
      → Within (names.bytes name) (sight.variable name)
  own-variable name no_exten no_context =
      let plain : variable_pieces names name ≡ any_bytes_of (names.bytes name) =
      (λ i. if no_exten i then names.exten else if no_context i then names.context else any_bytes_of (names.bytes name)) in
      within-more (pieces_set (any_bytes_of (names.bytes name))) (names.bytes name) (any_bytes_of-part (names.bytes name)) (sight.variable name)
      (fits-set (any_bytes_of (names.bytes name)) (sight.variable name) (subst (λ ps. Fits ps (sight.variable name)) plain (seen.variable name)))

  -- a cell
  pub within-cell : (function argument : List ℕ) → Within (names.bytes (cell_name function argument)) (cell_value sight function argument)
  within-cell function argument = by (is_of_all function)
    where
      by : (of_all : Bool) → Within (names.bytes (cell_name function argument))
          (if of_all then sight.global (cell_name function argument) else sight.variable (cell_name function argument))
      by true = seen.global (cell_name function argument)
      by false =
          own-variable (cell_name function argument) (other-word function argument (codes "EXTEN") refl) (other-word function argument (codes "CONTEXT") refl)

  pub all-cell : (function argument : List ℕ) → Within names.all (cell_value sight function argument)
  all-cell function argument =
      within-more (names.bytes (cell_name function argument)) names.all (seen.whole.bytes (cell_name function argument)) _ (within-cell function argument)

  -- a plain name
  held-pieces : (name : List ℕ) → name ≡ codes "CHANNEL" → Fits (variable_pieces names name) (unwrap_or (sight.held name) [])
  held-pieces name is =
      subst (λ n. Fits (variable_pieces names n) (unwrap_or (sight.held n) [])) (sym is)
      (fits-any_bytes_of (names.bytes (codes "CHANNEL")) (unwrap_or (sight.held (codes "CHANNEL")) []) (seen.held (codes "CHANNEL")))

  pub fits-plain : (name : List ℕ) → Fits (variable_pieces names name) (plain_value sight name)
  fits-plain name = by (is_channel_name name) refl
    where
      by : (channel : Bool) → is_channel_name name ≡ channel → Fits (variable_pieces names name) (if channel then unwrap_or (sight.held name) [] else sight.variable name)
      by true is = held-pieces name (texts.same_text name (codes "CHANNEL") (sym is))
      by false is = seen.variable name

  pub all-plain : (name : List ℕ) → Within names.all (plain_value sight name)
  all-plain name = by (is_channel_name name)
    where
      by : (channel : Bool) → Within names.all (if channel then unwrap_or (sight.held name) [] else sight.variable name)
      by true = within-more (names.bytes name) names.all (seen.whole.bytes name) (unwrap_or (sight.held name) []) (seen.held name)
      by false = all-variable names sight seen name
