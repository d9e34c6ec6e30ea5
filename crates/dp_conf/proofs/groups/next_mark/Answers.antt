use Rattle.dp_conf.proofs.GroupsLemmas.{marked_end, marked_byte, marked_opening}
use Rattle.dp_conf.proofs.groups.next_mark.Goals as goal

pub returns-then-is_end-clause-marked : goal.returns-then-is_end-clause-marked
returns-then-is_end-clause-marked c =
    marked_end c.args.innermost c.args.text.now c.in_ok-byte.byte.now c.in_ok-byte.after.now c.in_ok-byte.ensures.cases.0 c.if-is_end.ensures

pub returns-in-None-clause-marked : goal.returns-in-None-clause-marked
returns-in-None-clause-marked c =
    marked_byte c.args.innermost c.args.text.now c.in_ok-byte.byte.now c.in_ok-byte.after.now c.in_ok-byte.ensures.cases.0
    c.if-is_end.ensures c.in-None.ensures.kind

pub returns-in-Some-clause-marked : goal.returns-in-Some-clause-marked
returns-in-Some-clause-marked c =
    marked_opening c.args.innermost c.args.text.now c.in_ok-byte.byte.now c.in_ok-byte.after.now c.in_ok-byte.ensures.cases.0
    c.in-Some.kind _ c.if-is_end.ensures c.in-Some.ensures.kind c.split_at.ensures.back
