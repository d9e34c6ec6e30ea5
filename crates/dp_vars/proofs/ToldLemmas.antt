-- The name of what is not known.
use Rattle.std.proofs.Common.{◌≡◌, ℕ, cond, List, [], Option, Some, None, refl}
use Rattle.dp_conf.specs.Cut.{before_last, cut_once}
use Rattle.dp_vars.specs.Functions.{FunctionTable}
use Rattle.dp_vars.specs.Heads.{unknown_seen}
use Rattle.dp_vars.specs.Sights.{Sight}
use Rattle.dp_vars.specs.Unknown.{unknown_body, unknown_calls, unknown_head}
use Rattle.dp_vars.specs.Values.{call_argument_with, head_by_with, head_value_with}
use Rattle.dp_vars.specs.declared.head.Head.{Head}
use Rattle.dp_vars.specs.declared.head.Head.TheVariants.{Name, Call, Other, Empty}
use Rattle.dp_vars.specs.steps.Told.{body_name, call_name, head_name, head_name_by, knows_body, knows_call, knows_head, knows_head_by, knows_seen, name_seen}

module _ (functions : FunctionTable) (sight : Sight) where
  told-call : (name : List ℕ) (argument : Option (List ℕ))
      → cond (knows_call functions sight name argument) [] (call_name name argument)
      ≡ call_argument_with (unknown_calls functions sight) sight name argument
  told-call name None = refl
  told-call name (Some argument) = refl

  told-head : (head : List ℕ) → cond (knows_head functions sight head) [] (head_name head) ≡ unknown_head functions sight head
  unfolding head_value_with head_name knows_head
  told-head head = by (cut_once 40 head)
    where
      by : (cut : Option (List ℕ × List ℕ)) → cond (knows_head_by functions sight head cut) [] (head_name_by head cut)
          ≡ head_by_with (unknown_calls functions sight) sight head cut
      by None = refl
      by (Some cut) = told-call cut.0 (before_last 41 cut.1)

  pub told-body : (body : List ℕ) (cut : Option (List ℕ × List ℕ))
      → cond (knows_body functions sight body cut) [] (body_name body cut) ≡ unknown_body functions sight body cut
  told-body body None = told-head body
  told-body body (Some cut) = told-head cut.0

  pub told-seen : (text : List ℕ) (head : Head)
      → cond (knows_seen functions sight text head) [] (name_seen text head) ≡ unknown_seen functions sight text head
  told-seen text (Name name) = refl
  told-seen text (Call function argument) = refl
  told-seen text (Other name argument) = refl
  told-seen text Empty = refl
