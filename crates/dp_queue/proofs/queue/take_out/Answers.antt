use Rattle.std.proofs.Common.{◌==◌, sym, ◌∙◌}
use Rattle.dp_queue.proofs.ChangeLemmas.{remove-at_position, without-no_position, OnSome-some}
use Rattle.dp_queue.proofs.queue.take_out.Goals as goal

pub returns-in-Some : goal.returns-in-Some
returns-in-Some c =
    OnSome-some _ (c.remove-channel.ensures.variant.1 c.in-Some.ensures.within) c.remove-channel.ensures.items
    ∙ remove-at_position (λ d. d == c.args.channel) c.args.waiting.now.items c.in-Some.place c.in-Some.ensures.place

pub returns-in_default : goal.returns-in_default
returns-in_default c = sym (without-no_position (λ d. d == c.args.channel) c.args.waiting.now.items c.in_default.ensures.place)
