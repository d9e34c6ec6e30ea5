use Rattle.std.proofs.Common.{◌≡◌, ℕ, true, false, ap, ◌∙◌, sym, length}
use Rattle.std.proofs.lemmas.Option.{none-some, same_Some}
use Rattle.std.specs.Option.{unwrap_or}
use Rattle.dp_queue.specs.Agents.{state_at, talks_with}
use Rattle.dp_queue.proofs.FoundLemmas.{position-talks, position-silent}
use Rattle.dp_queue.proofs.answering.talker.Goals as goal

pub returns-in-None : goal.returns-in-None
returns-in-None c =
    ap (λ o. unwrap_or o (length c.args.agents.now))
    (sym (position-silent c.args.agents.now c.args.channel (λ b talks. none-some b (c.in-None.ensures ∙ c.requires b c.args.channel talks))))

pub returns-then-talks_with : goal.returns-then-talks_with
returns-then-talks_with c =
    let talks : talks_with c.args.channel (state_at c.args.agents.now c.in-Some.agent) ≡ true =
    ap (talks_with c.args.channel) (sym c.state_at.ensures) ∙ sym c.talks_with.ensures ∙ c.if-talks_with.true in
    ap (λ o. unwrap_or o (length c.args.agents.now))
    (sym (position-talks c.args.agents.now c.args.channel c.in-Some.agent talks
    (λ b also. same_Some b c.in-Some.agent (sym (c.requires b c.args.channel also) ∙ sym c.in-Some.ensures))))

pub returns-else-talks_with : goal.returns-else-talks_with
returns-else-talks_with c =
    ap (λ o. unwrap_or o (length c.args.agents.now)) (sym (position-silent c.args.agents.now c.args.channel nobody))
  where
    nobody : (b : ℕ) → talks_with c.args.channel (state_at c.args.agents.now b) ≡ true → ⊥
    nobody b talks =
        let is : b ≡ c.in-Some.agent = same_Some b c.in-Some.agent (sym (c.requires b c.args.channel talks) ∙ sym c.in-Some.ensures) in
        let loud : talks_with c.args.channel (state_at c.args.agents.now c.in-Some.agent) ≡ true =
        ap (λ n. talks_with c.args.channel (state_at c.args.agents.now n)) (sym is) ∙ talks in
        let silent : talks_with c.args.channel (state_at c.args.agents.now c.in-Some.agent) ≡ false =
        ap (talks_with c.args.channel) (sym c.state_at.ensures) ∙ sym c.talks_with.ensures ∙ c.if-talks_with.false in
        cc
