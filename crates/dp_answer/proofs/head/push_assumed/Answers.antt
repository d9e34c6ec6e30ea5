use Rattle.dp_answer.proofs.HeadLemmas.{six-additions}
use Rattle.dp_answer.proofs.head.push_assumed.Goals as goal

pub returns : goal.returns
returns c = six-additions c.args.out.now.items _ _ _ _ _ _ _ _ _ _ _ _
    c.in_ok-push_bytes.ensures c.in_ok-push_bytes-2.ensures c.in_ok-push_facts.ensures c.in_ok-extend_from_slice.ensures.items c.in_ok-push_entrances.ensures c.in_ok-extend_from_slice-2.ensures.items
