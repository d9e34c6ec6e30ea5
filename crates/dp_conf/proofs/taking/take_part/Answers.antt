use Rattle.std.proofs.Common.{◌≡◌, length, arith}
use Rattle.std.proofs.lemmas.Grind.{common_steps}
use Rattle.dp_conf.proofs.TakingLemmas.{part_taken-empty}
use Rattle.dp_conf.proofs.taking.take_part.Goals as goal

pub returns-then-is_empty : goal.returns-then-is_empty
returns-then-is_empty g c =
    let none : length c.args.part.now ≡ 0 = grind (arith, common_steps) in
    record {
      kept = tt;
      taken = part_taken-empty g.T.TakeLine.after_line c.args.in_section c.args.line c.args.taker.now c.args.part.now none;
    }
