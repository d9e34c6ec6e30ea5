use Rattle.std.proofs.Common.{◌≡◌, ◌∙◌, refl, sym, ap, rules}
use Rattle.std.specs.Prelude.{Some, None, nat_lt}
use Rattle.std.specs.Option.{option_map}
use Rattle.std.proofs.lemmas.List.Sorted.{IsPartitionPoint-from_clause}
use Rattle.std.proofs.lemmas.Option.{slice_get_read, slice_get_past, same_Some}
use Rattle.dp_trie.specs.Asked.{hit_held}
use Rattle.dp_trie.specs.declared.node.HeldEntry.{HeldEntry}
use Rattle.dp_trie.proofs.RisingLemmas.{found-at, found-none, priorities-parted}
use Rattle.dp_trie.proofs.entry_question.search_priority.Goals as goal

pub returns-in-Some : goal.returns-in-Some
returns-in-Some c =
    let found = c.in-Some.ensures.lookup.3 in
    let here = slice_get_read c.args.held.now _ c.partition_point-place.result c.in-Some.one.now refl found.0 (found.1 c.in-Some.one.now) in
    ap (option_map hit_held) (sym (found-at c.args.held.now c.partition_point-place.result c.in-Some.one.now c.args.priority c.requires here c.if-one-priority.true))

pub returns-in_default : goal.returns-in_default
returns-in_default c =
    let found = c.in-Some.ensures.lookup.3 in
    let here = slice_get_read c.args.held.now _ c.partition_point-place.result c.in-Some.one.now refl found.0 (found.1 c.in-Some.one.now) in
    let point = IsPartitionPoint-from_clause (λ (h : HeldEntry). nat_lt h.priority c.args.priority) _ _ c.partition_point-place.ensures.partitioned (priorities-parted c.args.held.now c.args.priority c.requires) (λ a r q k. search rules) in
    ap (option_map hit_held) (sym (found-none c.args.held.now c.partition_point-place.result c.args.priority c.requires point
    (λ one there same. c.if-one-priority.false (ap (λ (h : HeldEntry). h.priority) (same_Some c.in-Some.one.now one (sym here ∙ there)) ∙ same))))

pub returns-in_default-2 : goal.returns-in_default-2
returns-in_default-2 c =
    let ended = c.in_default.in-None-own.ensures.3 in
    let point = IsPartitionPoint-from_clause (λ (h : HeldEntry). nat_lt h.priority c.args.priority) _ _ c.partition_point-place.ensures.partitioned (priorities-parted c.args.held.now c.args.priority c.requires) (λ a r q k. search rules) in
    ap (option_map hit_held) (sym (found-none c.args.held.now c.partition_point-place.result c.args.priority c.requires point
    (λ one there same. let nothing : None ≡ Some one = sym (slice_get_past c.args.held.now c.partition_point-place.result ended) ∙ there in absurd cc)))
