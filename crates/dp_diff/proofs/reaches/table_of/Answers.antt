use Rattle.std.proofs.Common.{◌∙◌, ℕ, List, ap, nat_eq}
use Rattle.std.specs.List.{list_any}
use Rattle.dp_diff.proofs.ReachLemmas.{among_table}
use Rattle.dp_diff.proofs.reaches.table_of.Goals as goal

pub returns : goal.returns
returns c = λ i. record {
  plan = c.args.reach.plan.now;
  has_entry = λ number. (ap (λ (numbers : List ℕ). list_any (nat_eq number) numbers) c.in_ok-numbers.ensures ∙ among_table number c.args.reach.entries.now) i;
}
