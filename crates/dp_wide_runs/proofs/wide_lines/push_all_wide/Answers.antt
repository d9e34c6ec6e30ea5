use Rattle.std.proofs.Common.{◌≡◌, List, [], ◌∷◌, ◌++◌, append-nil, append_assoc, refl, ap, sym, ◌∙◌, length, arith}
use Rattle.std.specs.List.{flat_map}
use Rattle.std.specs.Vec.Iter.{into_iter_items}
use Rattle.dp_wide_runs.specs.Lines.{wide_lines_of}
use Rattle.dp_wide_runs.proofs.wide_lines.push_all_wide.Goals as goal

none_left : {X : Type 0} (xs : List X) → length xs ≡ 0 → xs ≡ []
none_left [] is = refl
none_left (x ∷ xs) is = absurd (omega arith)

pub loop-line-init : goal.loop-line-init
loop-line-init c = record {
  left = ap (λ lines. c.args.lines.now.items ++ flat_map wide_lines_of lines) c.into_iter-line-iterator.ensures.into_iter_gives.0;
  many = omega (
    arith,
    c.into_iter-line-iterator.ensures.into_iter_gives.1,
    ap length c.into_iter-line-iterator.ensures.into_iter_gives.0,
    c.args.plain.ok,
  );
}

pub loop-line-preserved : goal.loop-line-preserved
loop-line-preserved c =
    let at = c.loop-line in
    let steps : into_iter_items at.line-iterator ≡ c.in-Some.line ∷ into_iter_items c.next.new.self = c.in-Some.ensures.steps.0 in
    record {
      left =
          ap (λ (lines : List _). lines ++ flat_map wide_lines_of (into_iter_items c.next.new.self)) c.in_ok-push_wide.ensures
          ∙ (append_assoc at.lines.items (wide_lines_of c.in-Some.line) (flat_map wide_lines_of (into_iter_items c.next.new.self))
          ∙ (ap (λ lines. at.lines.items ++ flat_map wide_lines_of lines) (sym steps) ∙ at.invariant.left));
      many = omega (arith, at.invariant.many, c.in-Some.ensures.steps.1, ap length steps);
    }

pub returns : goal.returns
returns c =
    let at = c.loop-line in
    let none : into_iter_items at.line-iterator ≡ [] =
    none_left (into_iter_items at.line-iterator) (sym at.invariant.many ∙ c.in-None.ensures.steps.0) in
    sym (append-nil at.lines.items) ∙ (ap (λ lines. at.lines.items ++ flat_map wide_lines_of lines) (sym none) ∙ at.invariant.left)
