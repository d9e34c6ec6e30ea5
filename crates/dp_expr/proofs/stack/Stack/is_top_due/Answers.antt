use Rattle.std.proofs.Common.{◌-◌, length, sym, ap, ◌∙◌}
use Rattle.std.specs.Prelude.{slice_get}
use Rattle.dp_expr.proofs.FramesLemmas.{is_top_due-some, is_top_due-none}
use Rattle.dp_expr.proofs.stack.Stack.is_top_due.Goals as goal

pub returns-in-Some : goal.returns-in-Some
returns-in-Some c =
    c.is_due.ensures
    ∙ sym (is_top_due-some c.args.level c.args.self.now.frames.items c.in-Some.frame.now
    (ap (λ l. slice_get l (length l - 1)) (sym c.as_slice.ensures) ∙ sym c.in-Some.ensures.value))

pub returns-in-None : goal.returns-in-None
returns-in-None c =
    sym (is_top_due-none c.args.level c.args.self.now.frames.items
    (ap (λ l. slice_get l (length l - 1)) (sym c.as_slice.ensures) ∙ sym c.in-None.ensures.value))
