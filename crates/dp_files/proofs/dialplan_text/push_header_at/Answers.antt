use Rattle.std.proofs.Common.{◌++◌, append-nil, ap, sym, ◌∙◌}
use Rattle.std.proofs.lemmas.Option.{slice_get_past}
use Rattle.dp_files.specs.DialplanText as spec
use Rattle.dp_files.proofs.dialplan_text.push_header_at.Goals as goal

-- there is no line
pub returns-in-None : goal.returns-in-None
returns-in-None c =
    sym (append-nil c.args.made.now.items)
    ∙ ap (λ line. c.args.made.now.items ++ spec.header_at c.args.source line)
    (sym (slice_get_past c.args.lines.now c.args.source c.in-None.ensures.lookup.3))
