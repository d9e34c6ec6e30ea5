-- The value of a function has only bytes of values, those of its argument in either case, digits, and some marks.
use Rattle.std.proofs.Common.{◌≡◌, ℕ, zero, suc, Bool, true, false, not, List, ◌++◌, Option, Some, None, unwrap_or, is_some, length, refl, sym, subst, codes, if◌then◌else◌}
use Rattle.std.specs.Fmt.{decimal}
use Rattle.std.specs.List.{AllByRecursion, list_any}
use Rattle.dp_conf.proofs.TextLemmas.{each-append, none-any}
use Rattle.dp_conf.specs.Cut.{before_last, cut_once}
use Rattle.dp_conf.specs.Levels.{cut_outside}
use Rattle.dp_conf.specs.Words.{same_text}
use Rattle.dp_vars.specs.Functions.{FunctionTable}
use Rattle.dp_vars.specs.Parts.{asked_of}
use Rattle.dp_vars.specs.Sights.{Sight}
use Rattle.dp_vars.specs.Values.{body_by_with, call_argument_with, function_of, head_by_with, head_value_with, group_value_with}
use Rattle.dp_vars.specs.declared.value.Function.{Function}
use Rattle.dp_vars.specs.declared.value.Function.TheVariants.{Global, Local, Len, CallerId, QueueWaitingCount}
use Rattle.dp_pieces.specs.Bytes.{Bytes, IsPart, Within, digits, either}
use Rattle.dp_pieces.specs.Names.{IsWithin, Names}
use Rattle.dp_pieces.proofs.NumeralLemmas.{within-decimal}
use Rattle.dp_pieces.proofs.WithinLemmas.{part-left, part-right, within-append, within-more, within-part}
use Rattle.dp_wide.specs.Caller.{all_value, asks_all, asks_number, caller_text, caller_value}
use Rattle.dp_wide.specs.CellValues.{cell_value}
use Rattle.dp_wide.specs.Fields.{cut_value, first_argument, named_value, other_arguments, way_of}
use Rattle.dp_wide.specs.Functions.{around, five_value, other_value, plain_value, value_by, wide_function_of, wide_functions, within}
use Rattle.dp_wide.specs.SightFunctions.{flag, is_empty, key_value}
use Rattle.dp_wide_pieces.specs.FunctionBytes.{either_case, function_bytes, marks, other_case}
use Rattle.dp_wide_pieces.proofs.CaseLemmas.{within-lower, within-upper}
use Rattle.dp_wide_pieces.proofs.CellLemmas.{all-cell, all-plain}
use Rattle.dp_wide_pieces.proofs.CutLemmas.{AreWithin, IsWithinIfAny, within-before_last, within-cut_once, within-cut_outside, within-first_argument, within-if, within-other_arguments}
use Rattle.dp_wide_pieces.proofs.FieldLemmas.{has-way, within-cut, within-filter}
use Rattle.dp_wide_pieces.proofs.NameLemmas.{at-word, field_names, foreign_names, further_names, no-further, sight_names, text_names}

-- the bytes of values, of the argument in either case and as it is, the digits, and the marks are among those of a function
module _ (names : Names) (set : Bytes) where
  part-all : IsPart names.all (function_bytes names set)
  part-all = part-left names.all (either (either_case set) (either digits marks))

  part-case : IsPart (either_case set) (function_bytes names set)
  part-case byte is = part-right names.all (either (either_case set) (either digits marks)) byte (part-left (either_case set) (either digits marks) byte is)

  part-set : IsPart set (function_bytes names set)
  part-set byte is = part-case byte (part-left set (other_case set) byte is)

  part-written : IsPart (either digits marks) (function_bytes names set)
  part-written byte is = part-right names.all (either (either_case set) (either digits marks)) byte (part-right (either_case set) (either digits marks) byte is)

  part-digits : IsPart digits (function_bytes names set)
  part-digits byte is = part-written byte (part-left digits marks byte is)

  part-marks : IsPart marks (function_bytes names set)
  part-marks byte is = part-written byte (part-right digits marks byte is)

module _ (names : Names) (sight : Sight) (seen : IsWithin names sight) where
  -- the functions of a table have only these bytes, and a plain name has its value
  pub record IsCoarse (functions : FunctionTable) : Type 0 where
    pub value : (set : Bytes) (name argument : List ℕ) → Within set argument → Within (function_bytes names set) (functions.value sight name argument)
    pub variable : (name : List ℕ) → functions.variable sight name ≡ plain_value sight name

  module _ (set : Bytes) where
    -- the bytes of a function whose argument has bytes of the set
    abbrev own : Bytes
    own = function_bytes names set

    in-all : (text : List ℕ) → Within names.all text → Within own text
    in-all text is = within-more names.all own (part-all names set) text is

    in-digits : (text : List ℕ) → Within digits text → Within own text
    in-digits text is = within-more digits own (part-digits names set) text is

    in-set : (text : List ℕ) → Within set text → Within own text
    in-set text is = within-more set own (part-set names set) text is

    -- a number, and a flag
    own-decimal : (n : ℕ) → Within own (decimal n)
    own-decimal n = in-digits (decimal n) (within-decimal n)

    own-flag : (holds : Bool) → Within own (flag holds)
    own-flag true = in-digits (codes "1") (refl, tt)
    own-flag false = in-digits (codes "0") (refl, tt)

    -- the caller
    own-caller_text : (name number : List ℕ) → Within names.all name → Within names.all number → Within own (caller_text name number)
    own-caller_text name number is number_is = (
      part-marks names set 34 refl,
      within-append own ((name ++ codes "\" <") ++ number) (codes ">")
          (within-append own (name ++ codes "\" <") number
          (within-append own name (codes "\" <") (in-all name is) (part-marks names set 34 refl, (part-marks names set 32 refl, (part-marks names set 60 refl, tt))))
          (in-all number number_is)) (part-marks names set 62 refl, tt),
    )

    caller-all : Within names.all sight.caller
    caller-all = within-more names.caller names.all seen.whole.caller sight.caller seen.caller

    own-caller : (argument : List ℕ) → Within own (caller_value sight argument)
    own-caller argument = by (asks_number argument) (asks_all argument)
      where
        by : (number all : Bool) → Within own (if number then sight.caller else (if all then all_value sight else cell_value sight (codes "CALLERID") argument))
        by true all = in-all sight.caller caller-all
        by false true =
            own-caller_text (cell_value sight (codes "CALLERID") (codes "name")) sight.caller (all-cell names sight seen (codes "CALLERID") (codes "name")) caller-all
        by false false = in-all (cell_value sight (codes "CALLERID") argument) (all-cell names sight seen (codes "CALLERID") argument)

    -- the five functions of every dialplan
    own-five : (function : Function) (argument : List ℕ) → Within own (five_value sight function argument)
    own-five Global argument = in-all (sight.global argument) (within-more (names.bytes argument) names.all (seen.whole.bytes argument) (sight.global argument) (seen.global argument))
    own-five Local argument = in-all (sight.local argument) (within-more (names.bytes argument) names.all (seen.whole.bytes argument) (sight.local argument) (seen.local argument))
    own-five Len argument = own-decimal (length argument)
    own-five CallerId argument = own-caller argument
    own-five QueueWaitingCount argument = own-decimal (sight.waiting argument)

    -- a text in braces, by such functions
    module _ (functions : FunctionTable) (coarse : IsCoarse functions) where
      own-argument : (name : List ℕ) (argument : Option (List ℕ)) → IsWithinIfAny set argument → Within own (call_argument_with functions sight name argument)
      own-argument name None is = tt
      own-argument name (Some argument) is = coarse.value set name argument is

      own-head : (head : List ℕ) → Within set head → Within own (head_value_with functions sight head)
      unfolding head_value_with
      own-head head is = by (cut_once 40 head) (within-cut_once set 40 head is)
        where
          by : (cut : Option (List ℕ × List ℕ)) → AreWithin set cut → Within own (head_by_with functions sight head cut)
          by None parts = subst (Within own) (sym (coarse.variable head)) (in-all (plain_value sight head) (all-plain names sight seen head))
          by (Some cut) parts = own-argument cut.0 (before_last 41 cut.1) (within-before_last set 41 cut.1 parts.1)

      pub own-body : (body : List ℕ) → Within set body → Within own (body_by_with functions sight body (cut_outside 58 body))
      own-body body is = by (cut_outside 58 body) (within-cut_outside set 58 body is)
        where
          by : (cut : Option (List ℕ × List ℕ)) → AreWithin set cut → Within own (body_by_with functions sight body cut)
          by None parts = own-head body is
          by (Some cut) parts = within-part own (asked_of (Some cut.1)) (head_value_with functions sight cut.0) (own-head cut.0 parts.0)

      own-named : (name : List ℕ) → Within set name → Within own (named_value functions sight name)
      unfolding group_value_with
      own-named name is = own-body name is

      own-cut : (argument : List ℕ) → Within set argument → Within own (cut_value functions sight argument)
      own-cut argument is =
          let others = in-set (other_arguments argument) (within-other_arguments set argument is) in
          within-cut own (named_value functions sight (first_argument argument)) (way_of (other_arguments argument)).0 (way_of (other_arguments argument)).1
          (own-named (first_argument argument) (within-first_argument set argument is)) (has-way own (part-marks names set 44 refl) (part-marks names set 45 refl) (other_arguments argument) others)

      -- a name that is none of the five: each of the further functions, or a cell
      module _ (argument : List ℕ) (is : Within set argument) where
        IsOwn : List ℕ → Type 0
        IsOwn name = Within own (other_value functions sight (wide_function_of name) name argument)

        own-fields : AllByRecursion IsOwn field_names
        unfolding IsOwn
        own-fields = (own-cut argument is, (own-decimal _, tt))

        -- a function that is not followed is empty
        own-foreign : AllByRecursion IsOwn foreign_names
        unfolding IsOwn
        own-foreign = (tt, (tt, (tt, (tt, (tt, (tt, (tt, tt)))))))

        own-texts : AllByRecursion IsOwn text_names
        unfolding IsOwn
        own-texts =
            let upper = within-more (either_case set) own (part-case names set) _ (within-upper set argument is) in
            let lower = within-more (either_case set) own (part-case names set) _ (within-lower set argument is) in
            (in-set _ (within-if set argument is), (in-set _ (within-filter set argument is), (upper, (lower, (own-flag (is_empty argument), (own-flag (not (is_empty argument)), tt))))))

        own-sights : AllByRecursion IsOwn sight_names
        unfolding IsOwn
        own-sights =
            let key = in-all (key_value sight argument) (all-cell names sight seen (codes "DB") argument) in
            (own-flag (not (is_empty (key_value sight argument))), (key, (own-flag (is_some (sight.members argument)), (own-decimal (unwrap_or (sight.members argument) 0), tt))))

        own-each : AllByRecursion IsOwn further_names
        own-each =
            each-append IsOwn field_names (foreign_names ++ (text_names ++ sight_names)) own-fields
            (each-append IsOwn foreign_names (text_names ++ sight_names) own-foreign (each-append IsOwn text_names sight_names own-texts own-sights))

        own-other : (name : List ℕ) → Within own (other_value functions sight (wide_function_of name) name argument)
        unfolding IsOwn
        own-other name = by (list_any (same_text name) further_names) refl
          where
            by : (further : Bool) → list_any (same_text name) further_names ≡ further → Within own (other_value functions sight (wide_function_of name) name argument)
            by true found = at-word IsOwn further_names own-each name found
            by false none =
                subst (λ function. Within own (other_value functions sight function name argument)) (sym (no-further name (none-any (same_text name) further_names none)))
                (in-all (cell_value sight name argument) (all-cell names sight seen name argument))

      own-value : (function : Option Function) (name argument : List ℕ) → Within set argument → Within own (value_by functions sight function name argument)
      own-value None name argument is = own-other argument is name
      own-value (Some function) name argument is = own-five function argument

  coarse-around : (functions : FunctionTable) → IsCoarse functions → IsCoarse (around functions)
  unfolding around
  coarse-around functions coarse = record {
    value = λ set name argument is. own-value set functions coarse (function_of name) name argument is;
    variable = λ name. refl;
  }

  coarse-within : (n : ℕ) → IsCoarse (within n)
  unfolding within
  coarse-within zero = record { value = λ set name argument is. tt; variable = λ name. refl }
  coarse-within (suc n) = coarse-around (within n) (coarse-within n)

  -- the functions of the wide table
  pub coarse-wide : IsCoarse wide_functions
  coarse-wide = record { value = (coarse-within 8).value; variable = λ name. refl }

  -- a text in braces by the functions of the wide table
  pub within-braces : (set : Bytes) (body : List ℕ) → Within set body → Within (function_bytes names set) (body_by_with wide_functions sight body (cut_outside 58 body))
  within-braces set body is = own-body set wide_functions coarse-wide body is
