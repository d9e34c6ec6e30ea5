use Rattle.std.proofs.Common.{◌++◌, List, ap, sym, ◌∙◌}
use Rattle.std.proofs.lemmas.List.{append-nil}
use Rattle.dp_notices.specs.Loading.{loading_now, loaded_lines}
use Rattle.dp_notices.specs.MacroEnds.{made_ends}
use Rattle.dp_notices.specs.declared.macro_ends.AddedLine.{AddedLine}
use Rattle.dp_notices.proofs.LoadingLemmas.{faultless_ends}
use Rattle.dp_notices.proofs.preparation.load_without_ends.Goals as goal

-- no line is added
pub returns : goal.returns
returns c =
    c.in_ok-loaded.ensures
    ∙ sym (ap loaded_lines (faultless_ends c.args.lines.items (loading_now c.args.loading.now) c.show_faults_decide_loading.ensures.first c.show_faults_decide_loading.ensures.text c.requires.loads c.args.loading.now.ends.items c.requires.ends
    ∙ (ap (λ (ends : List AddedLine). c.args.lines.items ++ made_ends c.args.lines.items ends) c.requires.none ∙ append-nil c.args.lines.items)))
