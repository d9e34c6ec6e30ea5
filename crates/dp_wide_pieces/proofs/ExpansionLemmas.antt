-- An expanded text over the functions of the wide table fits its pieces.
use Rattle.std.proofs.Common.{◌≡◌, ℕ, Bool, true, false, ◌||◌, List, Option, Some, None, is_some, length, refl, sym, subst, codes, if◌then◌else◌}
use Rattle.dp_conf.specs.Cut.{before_last, cut_once}
use Rattle.dp_conf.specs.GroupsRead.{reading_of}
use Rattle.dp_conf.specs.Levels.{cut_outside}
use Rattle.dp_conf.specs.declared.groups.GroupKind.{GroupKind}
use Rattle.dp_conf.specs.declared.groups.GroupKind.TheVariants.{Braces, Brackets}
use Rattle.dp_expr.specs.AsteriskReading.{asterisk_reading}
use Rattle.dp_expr.specs.Expression.{expression_value}
use Rattle.dp_expr.specs.declared.reading.ExpressionReading.{ExpressionReading}
use Rattle.dp_expr.specs.declared.reading.ExpressionReading.TheVariants as readings
use Rattle.dp_vars.specs.Parts.{asked_of}
use Rattle.dp_vars.specs.Sights.{Sight}
use Rattle.dp_vars.specs.Values.{body_by_with, call_argument_with, expansion_with, function_of, group_value_with, head_by_with, head_value_with, value_read}
use Rattle.dp_vars.specs.declared.value.Function.{Function}
use Rattle.dp_vars.specs.declared.value.Function.TheVariants.{Global, Local, Len, CallerId, QueueWaitingCount}
use Rattle.dp_pieces.specs.Bytes.{Bytes, Within, either, numeric}
use Rattle.dp_pieces.specs.Names.{IsWithin, Names}
use Rattle.dp_pieces.specs.Pieces.{Fits, PieceOf, bytes_in, pieces_set, text_known}
use Rattle.dp_pieces.proofs.ExpressionLemmas.{within-expression}
use Rattle.dp_pieces.proofs.FitsLemmas.{fits-any_bytes_of, fits-part, fits-set, fits-text_known}
use Rattle.dp_pieces.proofs.NumeralLemmas.{within-decimal}
use Rattle.dp_pieces.proofs.TextLemmas.{fits-pieces_by}
use Rattle.dp_pieces.proofs.WithinLemmas.{part-right, within-own}
use Rattle.dp_wide.specs.Caller.{all_value, asks_all, asks_number, caller_value}
use Rattle.dp_wide.specs.CellValues.{cell_value}
use Rattle.dp_wide.specs.Cells.{cell_name}
use Rattle.dp_wide.specs.Functions.{around, five_value, other_value, value_by, wide_function_of, wide_functions, within}
use Rattle.dp_wide_pieces.specs.FunctionBytes.{function_bytes}
use Rattle.dp_wide_pieces.specs.WideTexts.{body_by, braces_by, called_set, caller_set, five_set, head_by, named_set, other_set, wide_group_pieces, wide_head_pieces, wide_text_pieces}
use Rattle.dp_wide_pieces.proofs.CellLemmas.{fits-plain, within-cell}
use Rattle.dp_wide_pieces.proofs.TableLemmas.{coarse-wide, within-braces}

module _ (names : Names) (sight : Sight) (seen : IsWithin names sight) where
  -- a computed function with a known argument
  computed : (name argument : List ℕ) → Within (function_bytes names (bytes_in argument)) (wide_functions.value sight name argument)
  computed name argument = (coarse-wide names sight seen).value (bytes_in argument) name argument (within-own argument)

  -- a name that is none of the five, as a cell or as a computed function
  within-other : (name argument : List ℕ) → function_of name ≡ None
      → Within (function_bytes names (bytes_in argument)) (other_value (within 7) sight (wide_function_of name) name argument)
      → Within (other_set names name argument) (other_value (within 7) sight (wide_function_of name) name argument)
  within-other name argument none value = by (wide_function_of name) refl value
    where
      by : (function : _) → wide_function_of name ≡ function
          → Within (function_bytes names (bytes_in argument)) (other_value (within 7) sight function name argument)
          → Within (other_set names name argument) (other_value (within 7) sight function name argument)
      by None is coarse =
          subst (λ test. Within (if test then function_bytes names (bytes_in argument) else names.bytes (cell_name name argument)) (cell_value sight name argument))
          (sym (λ i. is_some (none i) || is_some (is i))) (within-cell names sight seen name argument)
      by (Some function) is coarse =
          subst (λ test. Within (if test then function_bytes names (bytes_in argument) else names.bytes (cell_name name argument)) (other_value (within 7) sight (Some function) name argument))
          (sym (λ i. is_some (none i) || is_some (is i))) coarse

  within-caller : (argument : List ℕ) → Within (function_bytes names (bytes_in argument)) (caller_value sight argument) → Within (caller_set names argument) (caller_value sight argument)
  within-caller argument value = by (asks_number argument) (asks_all argument) value
    where
      by : (number all : Bool)
          → Within (function_bytes names (bytes_in argument)) (if number then sight.caller else (if all then all_value sight else cell_value sight (codes "CALLERID") argument))
          → Within (if number then names.caller else (if all then function_bytes names (bytes_in argument) else names.bytes (cell_name (codes "CALLERID") argument)))
          (if number then sight.caller else (if all then all_value sight else cell_value sight (codes "CALLERID") argument))
      by true all coarse = seen.caller
      by false true coarse = coarse
      by false false coarse = within-cell names sight seen (codes "CALLERID") argument

  within-five : (function : Function) (argument : List ℕ) → Within (function_bytes names (bytes_in argument)) (five_value sight function argument)
      → Within (five_set names function argument) (five_value sight function argument)
  within-five Global argument value = seen.global argument
  within-five Local argument value = seen.local argument
  within-five Len argument value = within-decimal (length argument)
  within-five CallerId argument value = within-caller argument value
  within-five QueueWaitingCount argument value = within-decimal (sight.waiting argument)

  -- a name with a known argument
  within-named : (name argument : List ℕ) → Within (named_set names (function_of name) name argument) (wide_functions.value sight name argument)
  unfolding within around
  within-named name argument = by (function_of name) refl (computed name argument)
    where
      by : (function : Option Function) → function_of name ≡ function
          → Within (function_bytes names (bytes_in argument)) (value_by (within 7) sight function name argument)
          → Within (named_set names function name argument) (value_by (within 7) sight function name argument)
      by None is value = within-other name argument is value
      by (Some function) is value = within-five function argument value

  within-called : (name : List ℕ) (argument : Option (List ℕ)) → Within (called_set names name argument) (call_argument_with wide_functions sight name argument)
  within-called name None = tt
  within-called name (Some argument) = within-named name argument

  -- a known text in braces
  fits-head : (head : List ℕ) → Fits (wide_head_pieces names head) (head_value_with wide_functions sight head)
  unfolding wide_head_pieces head_value_with
  fits-head head = by (cut_once 40 head)
    where
      by : (cut : Option (List ℕ × List ℕ)) → Fits (head_by names head cut) (head_by_with wide_functions sight head cut)
      by None = fits-plain names sight seen head
      by (Some cut) = fits-any_bytes_of (called_set names cut.0 (before_last 41 cut.1)) _ (within-called cut.0 (before_last 41 cut.1))

  fits-body : (body : List ℕ) (cut : Option (List ℕ × List ℕ)) → Fits (body_by names body cut) (body_by_with wide_functions sight body cut)
  fits-body body None = fits-head body
  fits-body body (Some cut) = fits-part (asked_of (Some cut.1)) (wide_head_pieces names cut.0) (head_value_with wide_functions sight cut.0) (fits-head cut.0)

  -- a text in braces
  fits-braces : (pieces : List PieceOf) (text : List ℕ) → Fits pieces text → (known : Option (List ℕ)) → ((body : List ℕ) → known ≡ Some body → text ≡ body)
      → Fits (braces_by names pieces known) (body_by_with wide_functions sight text (cut_outside 58 text))
  fits-braces pieces text fits None is = fits-any_bytes_of (function_bytes names (pieces_set pieces)) _ (within-braces names sight seen (pieces_set pieces) text (fits-set pieces text fits))
  fits-braces pieces text fits (Some body) is =
      subst (λ t. Fits (body_by names body (cut_outside 58 body)) (body_by_with wide_functions sight t (cut_outside 58 t))) (sym (is body refl)) (fits-body body (cut_outside 58 body))

  -- an expression, as the table reads it
  within-read : (set : Bytes) (reading : ExpressionReading) (value : List ℕ) → Within (either set numeric) value → Within (either set numeric) (value_read reading value)
  within-read set readings.Value value is = is
  within-read set readings.Zero value is = (part-right set numeric 48 refl, tt)
  within-read set readings.Unknown value is = is

  -- the value of a group whose expanded body fits pieces
  fits-group : (kind : GroupKind) (body : List PieceOf) (text : List ℕ) → Fits body text → Fits (wide_group_pieces names kind body) (group_value_with wide_functions sight kind text)
  unfolding group_value_with
  fits-group Braces body text fits = fits-braces body text fits (text_known body) (λ bytes from. fits-text_known body text bytes from fits)
  fits-group Brackets body text fits =
      fits-any_bytes_of (either (pieces_set body) numeric) _
      (within-read (pieces_set body) (asterisk_reading text) (expression_value text) (within-expression (pieces_set body) text (fits-set body text fits)))

-- an expanded text fits its pieces
pub fits-wide : (names : Names) (sight : Sight) (text : List ℕ) → IsWithin names sight → Fits (wide_text_pieces names text) (expansion_with wide_functions sight text)
fits-wide names sight text seen = fits-pieces_by (wide_group_pieces names) wide_functions sight (fits-group names sight seen) (reading_of text)

-- and has only their bytes
pub within-wide : (names : Names) (sight : Sight) (text : List ℕ) → IsWithin names sight → Within (pieces_set (wide_text_pieces names text)) (expansion_with wide_functions sight text)
within-wide names sight text seen = fits-set (wide_text_pieces names text) (expansion_with wide_functions sight text) (fits-wide names sight text seen)
