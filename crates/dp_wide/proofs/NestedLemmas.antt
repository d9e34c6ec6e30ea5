-- What is known with fewer nested calls allowed is known with more, with the same value.
use Rattle.std.proofs.Common.{◌≡◌, ℕ, zero, suc, ◌≤◌, Bool, true, false, List, [], ◌∷◌, Option, Some, None, refl, ap, sym, ◌∙◌, arith}
use Rattle.std.specs.Prelude.{is_none, if◌then◌else◌, decimal}
use Rattle.dp_conf.specs.Cut.{before_last, cut_once}
use Rattle.dp_conf.specs.Levels.{cut_outside}
use Rattle.dp_vars.specs.Functions.{FunctionTable}
use Rattle.dp_vars.specs.Parts.{asked_of, part}
use Rattle.dp_vars.specs.Sights.{Sight}
use Rattle.dp_vars.specs.Unknown.{any_text, call_text, unknown_body, unknown_call, unknown_calls, unknown_group, unknown_head}
use Rattle.dp_vars.specs.Values.{body_by_with, call_argument_with, function_of, group_value_with, head_by_with, head_value_with}
use Rattle.dp_vars.specs.declared.value.Function.{Function}
use Rattle.dp_wide.specs.Fields.{first_argument, knows_named, named_value, other_arguments, way_of}
use Rattle.dp_wide.specs.Functions.{around, knows_by, knows_name, knows_other, knows_wide, other_value, plain_value, value_by, wide_function_of, wide_value, within}
use Rattle.dp_wide.specs.NestedCalls.{KnowsNoMore}
use Rattle.dp_wide.specs.Texts.{cut_fields, delimiter_of, field_count}
use Rattle.dp_wide.specs.declared.functions.WideFunction.{WideFunction}
use Rattle.dp_wide.specs.declared.functions.WideFunction.TheVariants.{Cut, FieldQty, OfText, OfSight, Foreign}

-- a call in a text is never empty
call_text-some : (name argument : List ℕ) → call_text name argument ≡ [] → ⊥
call_text-some [] argument e = cc
call_text-some (b ∷ bs) argument e = cc

-- a call in which nothing is unknown is known
known_by : (known : Bool) (name argument : List ℕ) → (if known then [] else call_text name argument) ≡ [] → known ≡ true
known_by true name argument e = refl
known_by false name argument e = absurd (call_text-some name argument e)

-- without an unknown text it is empty
nothing_unknown : (text : List ℕ) → is_none (any_text text) ≡ true → text ≡ []
nothing_unknown [] e = refl
nothing_unknown (b ∷ bs) e = cc

module _ (less more : FunctionTable) (sight : Sight) (kept : KnowsNoMore less more)
    (names : (name : List ℕ) → more.knows_name sight name ≡ less.knows_name sight name)
    (values : (name : List ℕ) → more.variable sight name ≡ less.variable sight name) where
  -- a call that is known
  call_value-kept : (name argument : List ℕ) → unknown_call less sight name argument ≡ []
      → more.value sight name argument ≡ less.value sight name argument
  call_value-kept name argument e = kept.value sight name argument (known_by (less.knows sight name argument) name argument e)

  call-kept : (name argument : List ℕ) → unknown_call less sight name argument ≡ [] → unknown_call more sight name argument ≡ []
  call-kept name argument e =
      ap (λ known. if◌then◌else◌ {A = List ℕ} known [] (call_text name argument))
      (kept.knows sight name argument (known_by (less.knows sight name argument) name argument e))

  -- a call, given its argument, if that ends
  argument_value-kept : (name : List ℕ) (argument : Option (List ℕ))
      → call_argument_with (unknown_calls less sight) sight name argument ≡ []
      → call_argument_with more sight name argument ≡ call_argument_with less sight name argument
  argument_value-kept name None e = refl
  argument_value-kept name (Some argument) e = call_value-kept name argument e

  argument-kept : (name : List ℕ) (argument : Option (List ℕ))
      → call_argument_with (unknown_calls less sight) sight name argument ≡ []
      → call_argument_with (unknown_calls more sight) sight name argument ≡ []
  argument-kept name None e = refl
  argument-kept name (Some argument) e = call-kept name argument e

  -- a variable or a call
  head_by_value-kept : (head : List ℕ) (cut : Option (List ℕ × List ℕ))
      → head_by_with (unknown_calls less sight) sight head cut ≡ []
      → head_by_with more sight head cut ≡ head_by_with less sight head cut
  head_by_value-kept head None e = values head
  head_by_value-kept head (Some cut) e = argument_value-kept cut.0 (before_last 41 cut.1) e

  head_by-kept : (head : List ℕ) (cut : Option (List ℕ × List ℕ))
      → head_by_with (unknown_calls less sight) sight head cut ≡ []
      → head_by_with (unknown_calls more sight) sight head cut ≡ []
  head_by-kept head None e = ap (λ known. if◌then◌else◌ {A = List ℕ} known [] head) (names head) ∙ e
  head_by-kept head (Some cut) e = argument-kept cut.0 (before_last 41 cut.1) e

  head_value-kept : (head : List ℕ) → unknown_head less sight head ≡ [] → head_value_with more sight head ≡ head_value_with less sight head
  unfolding head_value_with
  head_value-kept head e = head_by_value-kept head (cut_once 40 head) e

  head-kept : (head : List ℕ) → unknown_head less sight head ≡ [] → unknown_head more sight head ≡ []
  unfolding head_value_with
  head-kept head e = head_by-kept head (cut_once 40 head) e

  -- a body that may request a part
  body_value-kept : (body : List ℕ) (cut : Option (List ℕ × List ℕ)) → unknown_body less sight body cut ≡ []
      → body_by_with more sight body cut ≡ body_by_with less sight body cut
  body_value-kept body None e = head_value-kept body e
  body_value-kept body (Some cut) e = ap (part (asked_of (Some cut.1))) (head_value-kept cut.0 e)

  body-kept : (body : List ℕ) (cut : Option (List ℕ × List ℕ)) → unknown_body less sight body cut ≡ [] → unknown_body more sight body cut ≡ []
  body-kept body None e = head-kept body e
  body-kept body (Some cut) e = head-kept cut.0 e

  -- a group, given its name
  named_value-kept : (name : List ℕ) → knows_named less sight name ≡ true → named_value more sight name ≡ named_value less sight name
  unfolding unknown_group group_value_with
  named_value-kept name e = body_value-kept name (cut_outside 58 name) (nothing_unknown (unknown_body less sight name (cut_outside 58 name)) e)

  named-kept : (name : List ℕ) → knows_named less sight name ≡ true → knows_named more sight name ≡ true
  unfolding unknown_group
  named-kept name e =
      ap (λ text. is_none (any_text text))
      (body-kept name (cut_outside 58 name) (nothing_unknown (unknown_body less sight name (cut_outside 58 name)) e))

  -- a function, given which it is
  wide_value-kept : (function : WideFunction) (argument : List ℕ) → knows_wide less sight function argument ≡ true
      → wide_value more sight function argument ≡ wide_value less sight function argument
  wide_value-kept Cut argument e =
      ap (λ value. cut_fields value (way_of (other_arguments argument)).0 (way_of (other_arguments argument)).1)
      (named_value-kept (first_argument argument) e)
  wide_value-kept FieldQty argument e =
      ap (λ value. decimal (field_count (delimiter_of (other_arguments argument)) value)) (named_value-kept (first_argument argument) e)
  wide_value-kept (OfText function) argument e = refl
  wide_value-kept (OfSight function) argument e = refl
  wide_value-kept Foreign argument e = refl

  wide-kept : (function : WideFunction) (argument : List ℕ) → knows_wide less sight function argument ≡ true
      → knows_wide more sight function argument ≡ true
  wide-kept Cut argument e = named-kept (first_argument argument) e
  wide-kept FieldQty argument e = named-kept (first_argument argument) e
  wide-kept (OfText function) argument e = e
  wide-kept (OfSight function) argument e = e
  wide-kept Foreign argument e = e

  -- a function or a cell
  other_value-kept : (function : Option WideFunction) (name argument : List ℕ) → knows_other less sight function name argument ≡ true
      → other_value more sight function name argument ≡ other_value less sight function name argument
  other_value-kept None name argument e = refl
  other_value-kept (Some function) name argument e = wide_value-kept function argument e

  other-kept : (function : Option WideFunction) (name argument : List ℕ) → knows_other less sight function name argument ≡ true
      → knows_other more sight function name argument ≡ true
  other-kept None name argument e = e
  other-kept (Some function) name argument e = wide-kept function argument e

  -- the same besides the five
  value_by-kept : (function : Option Function) (name argument : List ℕ) → knows_by less sight function name argument ≡ true
      → value_by more sight function name argument ≡ value_by less sight function name argument
  value_by-kept None name argument e = other_value-kept (wide_function_of name) name argument e
  value_by-kept (Some function) name argument e = refl

  by-kept : (function : Option Function) (name argument : List ℕ) → knows_by less sight function name argument ≡ true
      → knows_by more sight function name argument ≡ true
  by-kept None name argument e = other-kept (wide_function_of name) name argument e
  by-kept (Some function) name argument e = e

-- the functions around two tables, one of which knows no more than the other
around-kept : (less more : FunctionTable) → KnowsNoMore less more
    → ((sight : Sight) (name : List ℕ) → more.knows_name sight name ≡ less.knows_name sight name)
    → ((sight : Sight) (name : List ℕ) → more.variable sight name ≡ less.variable sight name) → KnowsNoMore (around less) (around more)
unfolding around
around-kept less more kept names values = record {
  knows = λ sight name argument e. by-kept less more sight kept (names sight) (values sight) (function_of name) name argument e;
  value = λ sight name argument e. value_by-kept less more sight kept (names sight) (values sight) (function_of name) name argument e;
}

-- plain names do not depend on calls
within-names : (calls : ℕ) (sight : Sight) (name : List ℕ) → (within calls).knows_name sight name ≡ knows_name sight name
unfolding within around
within-names zero sight name = refl
within-names (suc calls) sight name = refl

within-values : (calls : ℕ) (sight : Sight) (name : List ℕ) → (within calls).variable sight name ≡ plain_value sight name
unfolding within around
within-values zero sight name = refl
within-values (suc calls) sight name = refl

false_is_true : false ≡ true → ⊥
false_is_true e = cc

-- what is known with this number of nested calls allowed is known with more
pub within-kept : (fewer more : ℕ) → fewer ≤ more → KnowsNoMore (within fewer) (within more)
unfolding within
within-kept zero more e = record {
  knows = λ sight name argument known. absurd (false_is_true known);
  value = λ sight name argument known. absurd (false_is_true known);
}
within-kept (suc fewer) zero e = absurd (omega arith)
within-kept (suc fewer) (suc more) e =
    around-kept (within fewer) (within more) (within-kept fewer more (omega arith))
    (λ sight name. within-names more sight name ∙ sym (within-names fewer sight name))
    (λ sight name. within-values more sight name ∙ sym (within-values fewer sight name))
