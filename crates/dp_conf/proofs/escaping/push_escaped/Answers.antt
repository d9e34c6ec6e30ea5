use Rattle.dp_conf.proofs.EscapeParts.{escape_text-more, escape_text-last}
use Rattle.dp_conf.proofs.escaping.push_escaped.Goals as goal

pub loop-part-preserved : goal.loop-part-preserved
loop-part-preserved c =
    escape_text-more c.args.out.now.items c.loop-part.out.items c.push_part.new.out.items c.loop-part.left.now c.in-Some.part.now c.in-Some.rest.now c.args.text.now
    c.loop-part.invariant c.in_ok-push_part.ensures c.in-Some.ensures

pub returns : goal.returns
returns c =
    escape_text-last c.args.out.now.items c.loop-part.out.items c.extend_from_slice.new.self.items c.loop-part.left.now c.args.text.now
    c.loop-part.invariant c.in_ok-extend_from_slice.ensures.items c.in_default.ensures
