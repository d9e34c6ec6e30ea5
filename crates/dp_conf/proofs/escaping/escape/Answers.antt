use Rattle.std.proofs.Common.{ℕ, List, ◌++◌, ap, ◌∙◌}
use Rattle.dp_conf.specs.Escape.{escape_text}
use Rattle.dp_conf.specs.Lines.{content_of}
use Rattle.dp_conf.proofs.EscapeLemmas.{content_of-escape_text}
use Rattle.dp_conf.proofs.escaping.escape.Goals as goal

pub returns-clause-content : goal.returns-clause-content
returns-clause-content c =
    ap content_of (c.in_ok-push_escaped.ensures ∙ ap (λ (line : List ℕ). line ++ escape_text c.args.text.now) c.new-line.ensures.items) ∙ content_of-escape_text c.args.text.now
