use Rattle.std.proofs.Common.{[], sym, ap, ◌∙◌, arith}
use Rattle.dp_conf.specs.Answers.{with_front, all_of}
use Rattle.dp_conf.specs.Lines.{parts_of}
use Rattle.dp_conf.proofs.AnswersLemmas.{with_front-nil}
use Rattle.dp_commands.specs.Script.{script_by}
use Rattle.dp_commands.proofs.ScriptLemmas.{readings_from, each_after-reading_by}
use Rattle.dp_commands.proofs.reading.read_script_by.Goals as goal

pub loop-rest-init : goal.loop-rest-init
unfolding script_by
loop-rest-init g c =
    let stands_for = g.R.ReadLine.stands_for c.args.reader.now in
    let readings = readings_from stands_for 0 (parts_of c.args.text.now) in
    record {
      counted = omega arith;
      whole =
          ap (λ lines. with_front lines (all_of readings)) c.new-lines.ensures.items
          ∙ (with_front-nil (all_of readings) ∙ ap all_of (sym (each_after-reading_by stands_for [] (parts_of c.args.text.now))));
    }
