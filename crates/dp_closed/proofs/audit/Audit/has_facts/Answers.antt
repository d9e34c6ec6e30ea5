use Rattle.std.proofs.Common.{refl}
use Rattle.dp_pieces.specs.Sets.{set_by}
use Rattle.dp_pieces.specs.Tables.{names_in}
use Rattle.dp_closed.proofs.ClosedLemmas.{part-by}
use Rattle.dp_closed.proofs.audit.Audit.has_facts.Goals as goal

pub returns : goal.returns
returns c = λ yes. record {
  caller = part-by (set_by c.args.self.outside.now.caller) (set_by c.caller.result.now) (set_by c.args.self.outside.now.caller) (names_in c.args.self.wide.names.now).caller
      refl c.caller.ensures (c.is_part.ensures.part c.if-not-is_part.false);
  facts = c.has_everywhere.ensures yes;
  stated = part-by (set_by c.args.self.outside.now.facts) (set_by c.caller-2.result.now) (set_by c.args.self.outside.now.facts) (names_in c.args.self.wide.names.now).caller
      refl c.caller-2.ensures (c.is_part-2.ensures.part c.if-not-is_part-2.false);
}
