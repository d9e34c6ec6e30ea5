use Rattle.std.proofs.Common.{refl, sym, subst, ◌∙◌}
use Rattle.std.specs.Prelude.{◌↔◌, IsTrue}
use Rattle.dp_pattern.specs.GoesOn.{GoesOn}
use Rattle.dp_pattern.specs.Matches.{Matches}
use Rattle.dp_pattern.specs.Name.{Meaning, IsName}
use Rattle.dp_lookup.proofs.QuestionsLemmas.{asks-priority, asks-label, asks-more}
use Rattle.dp_lookup.proofs.look_up.is_asked.Goals as goal

pub returns-then-get-priority : goal.returns-then-get-priority
returns-then-get-priority c =
    asks-priority c.args.question c.in-Priority.priority c.args.text.now c.args.entry.now c.matches.result c.in-Priority.is
    (sym c.get.ensures.number ∙ c.if-get-priority.true)
    (subst (λ (name : Meaning). IsTrue c.matches.result ↔ Matches name c.args.text.now) c.name.ensures c.matches.ensures)

pub returns-then-has_label : goal.returns-then-has_label
returns-then-has_label c =
    asks-label c.args.question c.in-Label.label c.args.text.now c.args.entry.now c.matches-then-has_label.result c.in-Label.is
    (c.if-has_label.ensures.0 refl)
    (subst (λ (name : Meaning). IsTrue c.matches-then-has_label.result ↔ Matches name c.args.text.now) c.name-then-has_label.ensures c.matches-then-has_label.ensures)

pub returns-then-get-eq1 : goal.returns-then-get-eq1
returns-then-get-eq1 c =
    asks-more c.args.question c.args.text.now c.args.entry.now c.could_match_more.result c.in-More.is
    (sym c.get-in-More.ensures.number ∙ c.if-get-eq1.true)
    (subst IsName c.name-then-get-eq1.ensures c.could_match_more.ensures.named)
    (subst (λ (name : Meaning). IsTrue c.could_match_more.result ↔ GoesOn name c.args.text.now) c.name-then-get-eq1.ensures c.could_match_more.ensures.more)
