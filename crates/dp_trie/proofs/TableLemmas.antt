-- What is kept of a context whose entries are in order.
use Rattle.std.proofs.Common.{◌≡◌, ℕ, ◌≤◌, List, [], ◌++◌, length, map, take, drop, arith, sym, ap, subst, ◌∙◌}
use Rattle.std.specs.Prelude.{sum_by}
use Rattle.std.proofs.lemmas.List.{length-map, map-append, take-append-drop}
use Rattle.std.proofs.lemmas.List.Sums.{sum_by-append}
use Rattle.dp_trie.specs.Known.{Known, most_added, most_nodes}
use Rattle.dp_trie.specs.Names.{known_plain, ArePlainRanges}
use Rattle.dp_trie.specs.steps.Ranked.{known_now, hold_of, known_cmp, AreInOrder}
use Rattle.dp_trie.specs.Tree.{known_from, HaveEnds, IsRooted, AreRanges, IsTree}
use Rattle.dp_trie.specs.declared.node.HeldEntry.{HeldEntry}
use Rattle.dp_trie.specs.declared.node.Node.{Node}
use Rattle.dp_trie.specs.declared.plain.PlainName.{PlainName}
use Rattle.dp_trie.specs.declared.ranked.Ranked.{Ranked}
use Rattle.dp_trie.proofs.RisingLemmas.{sorted-left, sorted-right, tree-rise}

-- ordered entries are in order up to a place and after it
pub order-parts : (n : ℕ) (ranked first rest : List Ranked) → first ≡ take n ranked → rest ≡ drop n ranked → AreInOrder (map known_now ranked) → AreInOrder (map known_now first) × AreInOrder (map known_now rest)
order-parts n ranked first rest front back order =
    let whole : map known_now ranked ≡ map known_now (take n ranked) ++ map known_now (drop n ranked) =
    ap (map known_now) (sym (take-append-drop n ranked)) ∙ map-append known_now (take n ranked) (drop n ranked) in
    let parts = subst AreInOrder whole order in (
      subst (λ l. AreInOrder (map known_now l)) (sym front) (sorted-left known_cmp (map known_now (take n ranked)) (map known_now (drop n ranked)) parts),
      subst (λ l. AreInOrder (map known_now l)) (sym back) (sorted-right known_cmp (map known_now (take n ranked)) (map known_now (drop n ranked)) parts),
    )

-- the entries up to a place and those after it are all entries
pub whole-known : (n : ℕ) (ranked first rest : List Ranked) → first ≡ take n ranked → rest ≡ drop n ranked → map known_now first ++ map known_now rest ≡ map known_now ranked
whole-known n ranked first rest front back =
    sym (map-append known_now first rest) ∙ ap (map known_now) (ap (λ l. l ++ rest) front ∙ (ap (λ l. take n ranked ++ l) back ∙ take-append-drop n ranked))

held_count : (ranked : List Ranked) (held : List HeldEntry) → held ≡ map hold_of (map known_now ranked) → length held ≡ length ranked
held_count ranked held same = ap length same ∙ (length-map (map known_now ranked) hold_of ∙ length-map ranked known_now)

module _ (first : List Ranked) (plain : List HeldEntry) (names : List PlainName) (same : plain ≡ map hold_of (map known_now first)) (known : known_plain (map hold_of (map known_now first)) names ≡ map known_now first) where
  pub names-known : known_plain plain names ≡ map known_now first
  names-known = ap (λ h. known_plain h names) same ∙ known

  pub names-order : AreInOrder (map known_now first) → AreInOrder (known_plain plain names)
  names-order order = subst AreInOrder (sym names-known) order

  pub names-ranges : ArePlainRanges (length first) names → ArePlainRanges (length plain) names
  names-ranges ranges = subst (λ n. ArePlainRanges n names) (sym (held_count first plain same)) ranges

module _ (rest : List Ranked) (held : List HeldEntry) (nodes : List Node) (same : held ≡ map hold_of (map known_now rest)) (known : known_from (map hold_of (map known_now rest)) [] nodes ≡ map known_now rest) where
  pub tree-known : known_from held [] nodes ≡ map known_now rest
  tree-known = ap (λ h. known_from h [] nodes) same ∙ known

  pub is-tree : (ends : List ℕ) → AreInOrder (map known_now rest) → HaveEnds nodes ends → IsRooted 0 nodes → AreRanges (length rest) nodes → IsTree held nodes ends
  is-tree ends order linked rooted ranges = record {
    linked = linked;
    rooted = rooted;
    ranges = subst (λ n. AreRanges n nodes) (sym (held_count rest held same)) ranges;
    rise = tree-rise held nodes [] (subst AreInOrder (sym tree-known) order);
  }

  pub tree-size : (before : List Known) → length nodes ≤ sum_by (λ (k : Known). most_added k.name) (map known_now rest) → length nodes ≤ most_nodes (before ++ known_from held [] nodes)
  tree-size before few =
      let all = sum_by-append (λ (k : Known). most_added k.name) before (known_from held [] nodes) in
      let same_sum = ap (sum_by (λ (k : Known). most_added k.name)) tree-known in
      omega (arith, all, same_sum, few)
