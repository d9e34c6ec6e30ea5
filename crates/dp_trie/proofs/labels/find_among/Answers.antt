use Rattle.std.proofs.Common.{◌≡◌, ◌∙◌, Some, None, false, sym, refl, ap}
use Rattle.std.specs.Prelude.{slice_get, find}
use Rattle.std.specs.Option.{option_map}
use Rattle.std.proofs.lemmas.Option.{slice_get_read, slice_get_past, same_Some}
use Rattle.dp_pattern.specs.Dashes.{without_dashes}
use Rattle.dp_trie.specs.steps.Labels.{is_matched}
use Rattle.dp_trie.specs.declared.labels.Holder.{Holder}
use Rattle.dp_trie.proofs.LabelLemmas.{none-below, none-plain}
use Rattle.dp_trie.proofs.PointLemmas.{find-here, find-past}
use Rattle.dp_trie.proofs.labels.find_among.Goals as goal
use Rattle.dp_trie.proofs.labels.find_among.Goals.{in_default-via-in-Some+else-matches, in_default-via-in_default}

pub returns-in-Some : goal.returns-in-Some
returns-in-Some c =
    let digits = without_dashes c.args.digits.now.text.now in
    let found = c.in-Some.ensures.lookup.3 in
    let here = slice_get_read c.args.holders.now _ c.count_below.result c.in-Some.holder.now refl found.0 (found.1 c.in-Some.holder.now) in
    let matched = ap (is_matched digits) (sym c.name.ensures) ∙ (sym c.matches.ensures ∙ c.if-matches.true) in
    ap (option_map (λ (r : Holder). r.priority))
    (sym (find-here (λ (r : Holder). is_matched digits r.name) c.args.holders.now c.count_below.result c.in-Some.holder.now (none-below digits c.args.holders.now c.count_below.result c.count_below.ensures.below) here matched))

pub returns-in_default : goal.returns-in_default
returns-in_default c =
    let digits = without_dashes c.args.digits.now.text.now in
    let holders = c.args.holders.now in
    let p = c.count_below.result in
    let other : (holder : Holder) → slice_get holders p ≡ Some holder → is_matched digits holder.name ≡ false = λ holder there. elim c.in_default.branch [
      | in_default-via-in-Some+else-matches w ↦
          let found = w.in-Some.ensures.lookup.3 in
          let here = slice_get_read holders _ p w.in-Some.holder.now refl found.0 (found.1 w.in-Some.holder.now) in
          ap (λ (r : Holder). is_matched digits r.name) (same_Some holder w.in-Some.holder.now (sym there ∙ here))
          ∙ (ap (is_matched digits) (sym w.name.ensures) ∙ (sym w.matches.ensures ∙ w.if-matches.false))
      | in_default-via-in_default w ↦
          let nothing : None ≡ Some holder = sym (slice_get_past holders p w.in_default.in-None-ensures.3) ∙ there in
          absurd cc
    ] in
    c.first_matched.ensures
    ∙ ap (option_map (λ (r : Holder). r.priority))
    (ap (find (λ (r : Holder). is_matched digits r.name)) c.split_at.ensures.back
    ∙ sym (find-past (λ (r : Holder). is_matched digits r.name) holders c.count_below-in_default.result
    (none-plain digits holders p c.count_below.ensures.below c.requires c.count_below.ensures.above c.count_below-in_default.result c.count_below-in_default.ensures.below other)))
