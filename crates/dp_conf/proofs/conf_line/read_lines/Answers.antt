use Rattle.std.proofs.Common.{map, ap}
use Rattle.dp_conf.specs.Lines.{lines_of}
use Rattle.dp_conf.specs.Owned.{line_of}
use Rattle.dp_conf.proofs.TakingLemmas.{all_taken-kept}
use Rattle.dp_conf.proofs.conf_line.read_lines.Goals as goal

pub returns : goal.returns
returns c =
    let taken = (c.in_ok-take_lines.ensures {u = tt}).taken in
    let none = ap (map line_of) c.new.ensures.items in
    rw c.read.view_is (all_taken-kept (lines_of c.args.text.now) (map line_of c.new.result.items) c.take_lines.new.taker none taken)
