use Rattle.std.proofs.Common.{◌≡◌, List, [], ◌∷◌, ◌++◌, append-nil, append_assoc, refl, ap, sym, ◌∙◌, length, arith}
use Rattle.std.specs.List.{flat_map}
use Rattle.std.specs.Vec.Iter.{into_iter_items}
use Rattle.dp_wide_runs.specs.Kinds.{choice_of}
use Rattle.dp_wide_runs.specs.WideFindings.{finding_if}
use Rattle.dp_wide_runs.proofs.audit_findings.push_findings.Goals as goal

none_left : {X : Type 0} (xs : List X) → length xs ≡ 0 → xs ≡ []
none_left [] is = refl
none_left (x ∷ xs) is = absurd (omega arith)

pub loop-finding-init : goal.loop-finding-init
loop-finding-init c =
    let told = finding_if (choice_of c.args.choice) c.args.scene.now in
    record {
      left = ap (λ findings. c.args.list.now.items ++ flat_map told findings) c.into_iter-finding-iterator.ensures.into_iter_gives.0;
      many = omega (
        arith,
        c.into_iter-finding-iterator.ensures.into_iter_gives.1,
        ap length c.into_iter-finding-iterator.ensures.into_iter_gives.0,
        c.args.findings.ok,
      );
    }

pub loop-finding-preserved : goal.loop-finding-preserved
loop-finding-preserved c =
    let at = c.loop-finding in
    let told = finding_if (choice_of c.args.choice) c.args.scene.now in
    let steps : into_iter_items at.finding-iterator ≡ c.in-Some.finding ∷ into_iter_items c.next.new.self = c.in-Some.ensures.steps.0 in
    record {
      left =
          ap (λ (findings : List _). findings ++ flat_map told (into_iter_items c.next.new.self)) c.in_ok-push_finding.ensures
          ∙ (append_assoc at.list.items (told c.in-Some.finding) (flat_map told (into_iter_items c.next.new.self))
          ∙ (ap (λ findings. at.list.items ++ flat_map told findings) (sym steps) ∙ at.invariant.left));
      many = omega (arith, at.invariant.many, c.in-Some.ensures.steps.1, ap length steps);
    }

pub returns : goal.returns
returns c =
    let at = c.loop-finding in
    let told = finding_if (choice_of c.args.choice) c.args.scene.now in
    let none : into_iter_items at.finding-iterator ≡ [] =
    none_left (into_iter_items at.finding-iterator) (sym at.invariant.many ∙ c.in-None.ensures.steps.0) in
    sym (append-nil at.list.items) ∙ (ap (λ findings. at.list.items ++ flat_map told findings) (sym none) ∙ at.invariant.left)
