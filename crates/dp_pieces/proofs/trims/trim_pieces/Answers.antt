use Rattle.std.proofs.Common.{◌≡◌, ap, sym, ◌∙◌}
use Rattle.std.proofs.lemmas.Option.{MatchOption-at_none, MatchOption-at_some}
use Rattle.std.proofs.lemmas.Result.{IfOk-weaker}
use Rattle.dp_pieces.specs.Shown.{shown_all}
use Rattle.dp_pieces.specs.Trimmed.{without_end_blanks, trimmed_end}
use Rattle.dp_pieces.specs.steps.Softened.{start_by}
use Rattle.dp_pieces.proofs.SoftLemmas.{start-kept}
use Rattle.dp_pieces.proofs.trims.trim_pieces.Goals as goal

pub returns-in-Some : goal.returns-in-Some
returns-in-Some c =
    IfOk-weaker c.trimmed_end.result (λ kept. shown_all kept.items ≡ trimmed_end (shown_all c.deref.result.now)) (λ kept. shown_all kept.items ≡ without_end_blanks (shown_all c.args.pieces.now))
    (λ kept is. is ∙ ap trimmed_end (ap shown_all c.deref.ensures.value ∙ (sym (MatchOption-at_some _ _ c.in-Some.start c.in-Some.is c.in_ok-loose.ensures)
    ∙ (ap start_by c.skip_blanks-left.ensures ∙ start-kept (shown_all c.args.pieces.now))))) c.trimmed_end.ensures

pub returns-in-None : goal.returns-in-None
returns-in-None c =
    IfOk-weaker c.trimmed_end-in-None.result (λ kept. shown_all kept.items ≡ trimmed_end (shown_all c.skip_blanks-left.result.now)) (λ kept. shown_all kept.items ≡ without_end_blanks (shown_all c.args.pieces.now))
    (λ kept is. is ∙ ap trimmed_end (sym (MatchOption-at_none _ _ c.in-None.is c.in_ok-loose.ensures) ∙ (ap start_by c.skip_blanks-left.ensures ∙ start-kept (shown_all c.args.pieces.now))))
    c.trimmed_end-in-None.ensures
