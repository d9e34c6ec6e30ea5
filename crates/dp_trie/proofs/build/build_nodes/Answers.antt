use Rattle.std.proofs.Common.{◌≡◌, List, [], rules, sym, subst, refl, ◌∙◌, map}
use Rattle.std.proofs.lemmas.Option.{slice_get_read}
use Rattle.dp_pattern.specs.Name.{Meaning}
use Rattle.dp_trie.specs.steps.Ranked.{known_now, IsGroup}
use Rattle.dp_trie.specs.declared.node.Node.{Node}
use Rattle.dp_trie.proofs.BuildLemmas.{IsBuilt, built-start, built-push}
use Rattle.dp_trie.proofs.EnteredLemmas.{IsCounted, counted-start, counted-push, stand-once}
use Rattle.dp_trie.proofs.build.build_nodes.Goals as goal

pub loop-first-init : goal.loop-first-init
loop-first-init c =
    let none : c.new-nodes.result.items ≡ [] = search rules in
    record {
      built = subst (λ (nodes : List Node). IsBuilt c.args.ranked.now nodes [] 0) (sym none) (built-start c.args.ranked.now);
      counted = subst (λ (nodes : List Node). IsCounted c.args.ranked.now nodes [] 0) (sym none) (counted-start c.args.ranked.now c.requires);
    }

pub loop-first-preserved : goal.loop-first-preserved
loop-first-preserved c =
    let found = c.in-Some.ensures.lookup.3 in
    let here = slice_get_read c.args.ranked.now _ c.loop-first.from c.in-Some.first.now refl found.0 (found.1 c.in-Some.first.now) in
    let name = c.pattern_of-tail.ensures ∙ c.name_of-name.ensures in
    let is_group =
    subst (λ (m : Meaning). IsGroup (map known_now c.args.ranked.now) c.loop-first.from c.group_end-until.result m) (sym name) c.group_end-until.ensures.group in
    record {
      built =
          built-push c.args.ranked.now c.loop-first.nodes.items c.push_pattern.new.nodes.items c.loop-first.above.now c.pattern_of-tail.result.0.now c.pattern_of-tail.result.1 c.loop-first.from c.group_end-until.result c.loop-first.invariant.built
          is_group (c.in_ok-push_pattern.ensures.pushes);
      counted =
          counted-push c.args.ranked.now c.loop-first.nodes.items c.push_pattern.new.nodes.items c.loop-first.above.now c.pattern_of-tail.result.0.now c.pattern_of-tail.result.1 c.loop-first.from c.group_end-until.result c.in-Some.first.now
          c.loop-first.invariant.built c.loop-first.invariant.counted is_group here (sym name)
          (λ next there same. c.group_end-until.ensures.apart next there (same ∙ name)) (c.in_ok-push_pattern.ensures.added);
    }

pub returns-clause-once : goal.returns-clause-once
returns-clause-once c = stand-once c.args.ranked.now c.loop-first.nodes.items c.loop-first.above.now c.loop-first.from c.loop-first.invariant.built c.loop-first.invariant.counted
