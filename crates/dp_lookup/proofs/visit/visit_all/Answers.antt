use Rattle.std.proofs.Common.{◌∙◌, sym, arith}
use Rattle.dp_lookup.proofs.FillingLemmas.{filling-empty, filling-fewer, past_unknown}
use Rattle.dp_lookup.proofs.visit.visit_all.Goals as goal

pub enter-requires-clause-filling : goal.enter-requires-clause-filling
enter-requires-clause-filling c = filling-empty c.args.plan.now c.args.order.now.items c.args.marks.now c.clear.new.self.items c.requires.empty c.clear.ensures.items c.requires.unmarked

pub loop-name-preserved : goal.loop-name-preserved
loop-name-preserved c = record {
  visited =
      past_unknown c.args.plan.now c.loop-name.order.items _ _ c.in-Some.name.now c.in-Some.ensures.next (sym c.number_of.ensures ∙ c.in_default-number_of.is)
      ∙ c.loop-name.invariant.visited;
  filling =
      let short = c.in-Some.ensures.short in
      filling-fewer c.args.plan.now c.loop-name.order.items c.loop-name.marks c.loop-name.frames.items c.next_include.new.frames.items c.loop-name.invariant.filling (omega (arith, short, c.loop-name.frames.ok, c.next_include.new.frames.ok));
  order = c.loop-name.invariant.order;
  frames = c.in-Some.ensures.frames ∙ c.loop-name.invariant.frames;
}
