-- Entries as places: two are equal if their names have one meaning and their priorities are equal.
use Rattle.std.specs.Cmp.{IsEquivalence, and_equiv, on_equiv, nat_eq_equiv}
use Rattle.std.specs.Cmp.Lexicographic.{nat_list_eq_equiv}
use Rattle.dp_pattern.specs.Spelling.{spelling}
use Rattle.dp_plan.specs.Ranking.{shares_place}
use Rattle.dp_plan.specs.declared.entry.Entry.{Entry}

-- equal places are an equivalence
pub shares_place_equiv : IsEquivalence shares_place
shares_place_equiv =
    and_equiv (on_equiv (λ (e : Entry). spelling e.name) nat_list_eq_equiv) (on_equiv (λ (e : Entry). e.priority) nat_eq_equiv)
