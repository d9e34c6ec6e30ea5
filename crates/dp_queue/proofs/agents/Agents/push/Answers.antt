use Rattle.std.proofs.Common.{◌≡◌, false, List, ◌++◌, ◌∷◌, [], ap, ◌∙◌, sym, if◌then◌else◌, length, nat_lt}
use Rattle.std.specs.Result.{is_ok}
use Rattle.dp_queue.specs.Agents.{agent_number}
use Rattle.dp_queue.specs.Members.{with_agent}
use Rattle.dp_queue.specs.declared.agent.Agent.{Agent}
use Rattle.dp_queue.specs.declared.agent.AgentState.TheVariants.{Idle}
use Rattle.dp_queue.proofs.NameLemmas.{numbered-push}
use Rattle.dp_queue.proofs.agents.Agents.push.Goals as goal

-- the list after the push that cannot fail
more : (c : goal.After-unwrap) → c.push.new.self.items ≡ c.self.inside.list.items ++ record { name = c.args.name.now; state = Idle } ∷ []
more c =
    let pushed : Agent = record { name = c.in_ok-text.text; state = Idle } in
    c.push.ensures.items ∙ ap (λ r. if is_ok r then c.reserve.new.self.items ++ pushed ∷ [] else c.reserve.new.self.items) c.unwrap.ensures
    ∙ ap (λ (agents : List Agent). agents ++ pushed ∷ []) c.reserve.ensures.items
    ∙ (λ i. c.self.inside.list.items ++ record { name = c.in_ok-text.ensures i; state = Idle } ∷ [])

absent : (c : goal.After-unwrap) → nat_lt (agent_number c.self.inside.list.items c.args.name.now) (length c.self.inside.list.items) ≡ false
absent c = ap (λ (agents : List Agent). nat_lt (agent_number agents c.args.name.now) (length agents)) c.self.view_is ∙ c.requires

-- the number of the new agent
number_is : (c : goal.After-unwrap) → c.len-number.result ≡ length c.self.inside.list.items
number_is c = c.len-number.ensures ∙ c.reserve.new.self.ok.0 ∙ ap length c.reserve.ensures.items

pub invariant_of-self-2 : goal.invariant_of-self-2
invariant_of-self-2 c =
    numbered-push c.self.inside.numbers c.insert.new.self c.in_ok-key.key c.len-number.result c.in_ok-insert.ensures.updates c.args.name.now
    c.self.inside.list.items c.push.new.self.items Idle (absent c) c.in_ok-key.ensures.items (number_is c) (more c) c.self.invariant

pub returns-clause-ok : goal.returns-clause-ok
returns-clause-ok c =
    let agents = c.self.inside.list.items in
    let agent : Agent = record { name = c.args.name.now; state = Idle } in
    more c ∙ sym (ap (λ b. if b then agents else agents ++ agent ∷ []) (absent c)) ∙ ap (λ (known : List Agent). with_agent known c.args.name.now) c.self.view_is
