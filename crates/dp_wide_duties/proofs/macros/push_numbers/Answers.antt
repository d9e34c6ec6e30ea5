use Rattle.std.proofs.Common.{◌≡◌, ◌++◌, ◌∷◌, [], OnOk, codes, subst, ap, ◌∙◌, append_assoc}
use Rattle.dp_closed.specs.Shown.{shown_duties}
use Rattle.dp_pieces.specs.Bytes.{digits}
use Rattle.dp_reach.specs.Bounds.{Holds}
use Rattle.dp_wide_reach.specs.Subroutines.{count_duty}
use Rattle.dp_wide_duties.proofs.macros.push_numbers.Goals as goal

pub returns : goal.returns
returns c =
    subst (λ ds. OnOk c.push_digits-2.result (shown_duties c.push_digits-2.new.duties.items ≡ ds))
    (ap (λ ds. ds ++ count_duty ∷ []) c.in_ok-push_digits.ensures ∙ append_assoc (shown_duties c.args.duties.now.items) (Holds (codes "MACRO_PRIORITY") digits ∷ []) (count_duty ∷ []))
    c.push_digits-2.ensures
