use Rattle.std.proofs.Common.{rules, ◌≡◌, List, Bool, max, subst}
use Rattle.dp_machine.specs.World.{World}
use Rattle.dp_machine.specs.declared.event.Event.{Event}
use Rattle.dp_commands.specs.Run.{run_of_texts}
use Rattle.dp_commands.specs.Threads.{Shares, shared_events}
use Rattle.dp_commands.proofs.ThreadsLemmas.{shares-concluded}
use Rattle.dp_commands.proofs.threads.run_threads.Goals as goal

-- the history is settled, with its line written or not
pub returns-clause-shares : goal.returns-clause-shares
returns-clause-shares g c =
    let old = g.W.WriteTold.contents c.args.writer.now in
    let new = g.W.WriteTold.contents c.conclude.new.writer in
    let r = run_of_texts c.args.texts in
    let opened = c.in_ok-opened.opened in
    let begun : World × List Event × Bool = (opened.machine, shared_events opened.given.events.items, opened.given.is_refused) in
    let count : c.max-threads.result ≡ max 1 c.args.sharing.threads = search rules in
    subst (λ n. Shares n old new r c.conclude.result) count
    (shares-concluded c.max-threads.result old new r begun c.in_ok-history.history c.conclude.result c.in_ok-opened.ensures.begun
    c.in_ok-history.ensures.dealt c.conclude.ensures.ok c.conclude.ensures.history c.conclude.ensures.status c.conclude.ensures.err)
