use Rattle.std.proofs.Common.{◌≡◌, ◌≢◌, ◌≤◌, Bool, true, false, ◌∷◌, List, length, sym, ap, ◌∙◌, subst, if◌then◌else◌, arith}
use Rattle.std.specs.List.{filter}
use Rattle.dp_queue.specs.Choices.{is_candidate}
use Rattle.dp_queue.specs.Good.{StandOnce}
use Rattle.dp_queue.specs.Offers.{all_ringing}
use Rattle.dp_queue.specs.declared.agent.Agent.{Agent}
use Rattle.dp_queue.specs.declared.member.Member.{Member}
use Rattle.dp_queue.proofs.MemberLemmas.{pairs-tail}
use Rattle.dp_queue.proofs.OfferLemmas.{first_rung, ringing-first, count-first}
use Rattle.dp_queue.proofs.offer.ring_candidates.Goals as goal

at_most_one : (b : Bool) → (if b then 1 else 0) ≤ 1
at_most_one true = omega arith
at_most_one false = omega arith

pub loop-member-preserved : goal.loop-member-preserved
loop-member-preserved c =
    let asked = c.args.asked in
    let before : List Agent = c.loop-member.agents in
    let after : List Agent = c.ring_candidate-count.new.agents in
    let m : Member = c.in-Some.member.now in
    let rest : List Member = c.in-Some.rest.now in
    let is : c.loop-member.left.now ≡ m ∷ rest = c.in-Some.ensures.cases.0 in
    let once : StandOnce (m ∷ rest) = subst StandOnce is c.loop-member.invariant.once in
    let rung : after ≡ first_rung asked.queue asked.channel asked.penalty before m = c.ring_candidate-count.ensures.agents in
    record {
      rung = ap (λ (xs : List Agent). all_ringing asked.queue asked.channel (filter (is_candidate xs asked.penalty) rest) xs) rung
          ∙ ringing-first asked.queue asked.channel asked.penalty before m rest once
          ∙ ap (λ (xs : List Member). all_ringing asked.queue asked.channel (filter (is_candidate before asked.penalty) xs) before) (sym is)
          ∙ c.loop-member.invariant.rung;
      counted =
          let same : length (filter (is_candidate after asked.penalty) rest) ≡ length (filter (is_candidate (first_rung asked.queue asked.channel asked.penalty before m) asked.penalty) rest) =
          ap (λ (xs : List Agent). length (filter (is_candidate xs asked.penalty) rest)) rung in
          let all : length (filter (is_candidate before asked.penalty) (c.loop-member.left.now)) ≡ length (filter (is_candidate before asked.penalty) (m ∷ rest)) =
          ap (λ (xs : List Member). length (filter (is_candidate before asked.penalty) xs)) is in
          omega (arith, same, all, count-first asked.queue asked.channel asked.penalty before m rest once, c.loop-member.invariant.counted, c.ring_candidate-count.ensures.count);
      once = pairs-tail (λ (member : Member) (other : Member). member.agent ≢ other.agent) m rest once;
      bound = omega (arith, ap length is, at_most_one (is_candidate before asked.penalty m), c.loop-member.invariant.bound, c.ring_candidate-count.ensures.count);
    }
