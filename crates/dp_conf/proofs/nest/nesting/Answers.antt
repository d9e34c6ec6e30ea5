use Rattle.std.proofs.Common.{◌≡◌, false, eqb, ap, ◌∙◌, sym, arith, rules, tests}
use Rattle.std.specs.List.{list_any}
use Rattle.dp_conf.specs.Groups.{depth_of}
use Rattle.dp_conf.specs.GroupsRead.{levels, nesting_of}
use Rattle.dp_conf.specs.steps.Nest.{kinds_of}
use Rattle.dp_conf.proofs.GroupsLemmas.{one_reading}
use Rattle.dp_conf.proofs.NestLemmas.{nesting_to_come, come-mark, come-over, come-text, come-above, nesting_of-length}
use Rattle.dp_conf.proofs.PlainNest.{nesting_of-plain}
use Rattle.dp_conf.proofs.nest.nesting.Goals as goal

pub returns-then-not-contains-clause-exact : goal.returns-then-not-contains-clause-exact
returns-then-not-contains-clause-exact c =
    let none : list_any (λ b. eqb b 36) c.args.text.now ≡ false = search (rules, tests) in
    sym (nesting_of-plain c.args.text.now none)

pub returns-then-not-contains-clause-reading : goal.returns-then-not-contains-clause-reading
unfolding nesting_of
returns-then-not-contains-clause-reading c reading reads =
    let none : list_any (λ b. eqb b 36) c.args.text.now ≡ false = search (rules, tests) in
    sym (nesting_of-plain c.args.text.now none) ∙ ap depth_of (sym ((one_reading c.args.text.now reading).0 reads))

pub loop-mark-init : goal.loop-mark-init
loop-mark-init c =
    ap (λ nest. nesting_to_come nest.waiting nest.deepest (levels c.args.text.now (kinds_of nest.waiting) 0)) c.new-nest.ensures ∙ come-text c.args.text.now

pub take-requires : goal.take-requires
take-requires c =
    omega (
      arith,
      c.loop-mark.invariant,
      nesting_of-length c.args.text.now,
      come-above c.loop-mark.nest.waiting c.loop-mark.nest.deepest (levels c.loop-mark.rest.now (kinds_of c.loop-mark.nest.waiting) 0),
    )

pub loop-mark-preserved : goal.loop-mark-preserved
loop-mark-preserved c =
    ap (λ nest. nesting_to_come nest.waiting nest.deepest (levels c.in-Some.after.now (kinds_of nest.waiting) 0)) c.in_ok-take.ensures.ok
    ∙ come-mark c.in-Some.mark c.loop-mark.nest (levels c.in-Some.after.now)
    ∙ ap (nesting_to_come c.loop-mark.nest.waiting c.loop-mark.nest.deepest)
    (sym (c.in-Some.ensures.marked (kinds_of c.loop-mark.nest.waiting) (sym c.innermost.ensures)))
    ∙ c.loop-mark.invariant

pub returns-clause-exact : goal.returns-clause-exact
returns-clause-exact c =
    c.finish.ensures ∙ sym (come-over c.loop-mark.nest.waiting c.loop-mark.nest.deepest)
    ∙ ap (λ rest. nesting_to_come c.loop-mark.nest.waiting c.loop-mark.nest.deepest (levels rest (kinds_of c.loop-mark.nest.waiting) 0)) (sym c.in_default.ensures.marked)
    ∙ c.loop-mark.invariant

pub returns-clause-reading : goal.returns-clause-reading
unfolding nesting_of
returns-clause-reading c reading reads =
    c.finish.ensures ∙ sym (come-over c.loop-mark.nest.waiting c.loop-mark.nest.deepest)
    ∙ ap (λ rest. nesting_to_come c.loop-mark.nest.waiting c.loop-mark.nest.deepest (levels rest (kinds_of c.loop-mark.nest.waiting) 0)) (sym c.in_default.ensures.marked)
    ∙ c.loop-mark.invariant ∙ ap depth_of (sym ((one_reading c.args.text.now reading).0 reads))
