use Rattle.std.proofs.Common.{ap, sym, subst, ◌∙◌, ◌∷◌, List, ℕ, arith}
use Rattle.dp_expr.specs.Tokens.{tokens_of}
use Rattle.dp_expr.specs.steps.Seen.{token_seen, cut_seen, IsStart}
use Rattle.dp_expr.proofs.TokensLemmas.{tokens_of-cut, tokens_of-empty}
use Rattle.dp_expr.proofs.token.next_token.Goals as goal

pub returns-in_err-first : goal.returns-in_err-first
returns-in_err-first c =
    rw c.from_residual.ensures (sym c.skip_blanks-text.ensures.same ∙ tokens_of-empty _ c.in_err-first.ensures.cases)

pub returns : goal.returns
returns c =
    let cases = c.in_ok-first.ensures.cases.0 in
    let cut = tokens_of-cut c.in_ok-first.first.now c.in_ok-first.rest.now (cut_seen c.cut_at-cut.result) c.cut_at-cut.ensures.cut (subst IsStart cases c.skip_blanks-text.ensures.start) in
    record {
      tokens = sym c.skip_blanks-text.ensures.same ∙ ap tokens_of cases ∙ cut
          ∙ ap (λ (l : List ℕ). token_seen c.cut_at-cut.result.token ∷ tokens_of l) (sym c.split_at.ensures.back);
      shorter = omega (arith, c.in_ok-first.ensures.cases.1, c.split_at.ensures.back_len, c.skip_blanks-text.ensures.within);
    }
