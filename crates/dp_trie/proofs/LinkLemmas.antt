-- The ends of nodes: where a jump from end to end of deeper nodes leads.
use Rattle.std.proofs.Common.{◌≡◌, ℕ, ◌+◌, ◌-◌, ◌<◌, ◌≤◌, Bool, true, false, cond, List, [], ◌∷◌, length, drop, set, Some, None, inl, inr, arith, refl, sym, ap, subst, ◌∙◌, get_or-set_other, get_or-set_same, length-set}
use Rattle.std.specs.Prelude.{slice_get, slice_index, nat_lt}
use Rattle.std.proofs.lemmas.Bool.{ltb-true, lt-ltb, le-ltb, cases_eq}
use Rattle.std.proofs.lemmas.Option.{slice_get_within}
use Rattle.dp_trie.specs.Tree.{nodes_past, IsEnd, IsEndOf, AreLinkedFrom, HaveEnds}
use Rattle.dp_trie.specs.declared.node.Node.{Node}
use Rattle.dp_trie.proofs.TreeLemmas.{drop-get, drop-end}

-- what skips deeper nodes skips those that they skip
skip-nodes_past : (depth deeper : ℕ) (nodes : List Node) → depth ≤ deeper → nodes_past depth (nodes_past deeper nodes) ≡ nodes_past depth nodes
skip-nodes_past depth deeper [] few = refl
skip-nodes_past depth deeper (node ∷ nodes) few = by (nat_lt deeper node.depth) refl (skip-nodes_past depth deeper nodes few)
  where
    by : (b : Bool) → nat_lt deeper node.depth ≡ b → nodes_past depth (nodes_past deeper nodes) ≡ nodes_past depth nodes → nodes_past depth (cond b (nodes_past deeper nodes) (node ∷ nodes)) ≡ nodes_past depth (node ∷ nodes)
    by true e rest =
        let below = ltb-true deeper node.depth e in
        rest ∙ ap (λ b. cond b (nodes_past depth nodes) (node ∷ nodes)) (sym (lt-ltb depth node.depth (omega (arith, below, few))))
    by false e rest = refl

skip-deeper : (depth : ℕ) (node : Node) (nodes : List Node) → depth < node.depth → nodes_past depth (node ∷ nodes) ≡ nodes_past depth nodes
skip-deeper depth node nodes below = ap (λ b. cond b (nodes_past depth nodes) (node ∷ nodes)) (lt-ltb depth node.depth below)

skip-higher : (depth : ℕ) (node : Node) (nodes : List Node) → node.depth ≤ depth → nodes_past depth (node ∷ nodes) ≡ node ∷ nodes
skip-higher depth node nodes above = ap (λ b. cond b (nodes_past depth nodes) (node ∷ nodes)) (le-ltb depth node.depth above)

-- a jump over a deeper node skips no more
pub end-jump : (nodes : List Node) (depth place end : ℕ) (node : Node) → slice_get nodes end ≡ Some node → depth < node.depth → IsEnd nodes end node.depth place → nodes_past depth (drop place nodes) ≡ nodes_past depth (drop end nodes)
end-jump nodes depth place end node here below is_end =
    ap (nodes_past depth) is_end.after
    ∙ (skip-nodes_past depth node.depth (drop (end + 1) nodes) (omega (arith, below))
    ∙ (sym (skip-deeper depth node (drop (end + 1) nodes) below)
    ∙ ap (nodes_past depth) (sym (drop-get nodes end node here))))

-- a node that is no deeper is the end
pub end-found : (nodes : List Node) (depth place end : ℕ) (node : Node) → place < end → slice_get nodes end ≡ Some node → node.depth ≤ depth → nodes_past depth (drop end nodes) ≡ nodes_past depth (drop (place + 1) nodes) → IsEnd nodes place depth end
end-found nodes depth place end node later here above same = record {
  later = later;
  within = (let inside = slice_get_within nodes end node here in omega (arith, inside));
  after = drop-get nodes end node here ∙ (sym (skip-higher depth node (drop (end + 1) nodes) above) ∙ (ap (nodes_past depth) (sym (drop-get nodes end node here)) ∙ same));
}

-- and so is the end of all nodes
pub end-last : (nodes : List Node) (depth place end : ℕ) → place < end → end ≤ length nodes → slice_get nodes end ≡ None → nodes_past depth (drop end nodes) ≡ nodes_past depth (drop (place + 1) nodes) → IsEnd nodes place depth end
end-last nodes depth place end later within none same = record {
  later = later;
  within = within;
  after = drop-end nodes end none ∙ (ap (nodes_past depth) (sym (drop-end nodes end none)) ∙ same);
}

-- an end is that of the node's depth
pub end_by : (nodes : List Node) (place end depth : ℕ) (node : Node) → slice_get nodes place ≡ Some node → node.depth ≡ depth → IsEnd nodes place depth end → IsEndOf nodes place end
end_by nodes place end depth node here same is_end other there =
    let one : node ≡ other = (let both : Some node ≡ Some other = sym here ∙ there in cc) in
    subst (λ (n : Node). IsEnd nodes place n.depth end) one (subst (λ d. IsEnd nodes place d end) (sym same) is_end)

-- one more end
pub linked-set : (nodes : List Node) (ends : List ℕ) (place end : ℕ) → place < length ends → AreLinkedFrom (place + 1) nodes ends → IsEndOf nodes place end → AreLinkedFrom place nodes (set ends place end)
linked-set nodes ends place end within linked is_end = record {
  count = length-set ends place end ∙ linked.count;
  each = each;
}
  where
    each : (k : ℕ) → place ≤ k → IsEndOf nodes k (slice_index (set ends place end) k)
    each k few = elim (cases_eq k place) [
      | inl same ↦ subst (λ j. IsEndOf nodes j (slice_index (set ends place end) j)) (sym same) (subst (IsEndOf nodes place) (sym (get_or-set_same ends place end 0 within)) is_end)
      | inr other ↦ subst (IsEndOf nodes k) (sym (get_or-set_other ends place k end 0 other)) (linked.each k (omega (arith, few, other)))
    ]

pub linked-start : (nodes : List Node) (ends : List ℕ) → length ends ≡ length nodes → AreLinkedFrom (length nodes) nodes ends
linked-start nodes ends count = record {
  count = count;
  each = λ k few node here. (let inside = slice_get_within nodes k node here in absurd (omega (arith, inside, few)));
}

pub linked-end : (nodes : List Node) (ends : List ℕ) (place : ℕ) → place ≤ 0 → AreLinkedFrom place nodes ends → HaveEnds nodes ends
linked-end nodes ends place none linked = record { count = linked.count; each = λ k. linked.each k (omega (arith, none)) }

-- the last of the first nodes, and those after it
pub linked-before : (nodes : List Node) (ends : List ℕ) (place : ℕ) → 0 < place → AreLinkedFrom place nodes ends → AreLinkedFrom (place - 1 + 1) nodes ends
linked-before nodes ends place some linked = subst (λ p. AreLinkedFrom p nodes ends) (let e : place ≡ place - 1 + 1 = omega (arith, some) in e) linked
