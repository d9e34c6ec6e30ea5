use Rattle.std.proofs.Common.{◌≡◌, ℕ, List, subst, sym, rules}
use Rattle.dp_conf.specs.Words.{same_text}
use Rattle.dp_pattern.specs.Name.{Meaning}
use Rattle.dp_plan.specs.Extensions.{extension_of}
use Rattle.dp_plan.specs.steps.Reader.{with_priority}
use Rattle.dp_plan.specs.steps.Table.{IsFirstAt, Table, HasNumber}
use Rattle.dp_plan.proofs.TableLemmas.{number_after_written}
use Rattle.dp_plan.proofs.lines.Lines.add_entry.Goals as goal

pub returns-clause-opened : goal.returns-clause-opened
returns-clause-opened c =
    let context = c.args.context.now in
    let entry = c.args.read.entry in
    let number = c.in_ok-number.number in
    let table = c.args.self.now.reader in
    let named : c.in_ok-name.name ≡ entry.name = search rules in
    let after : Table = with_priority table context.name entry.name entry.priority in
    let has : HasNumber after (extension_of context.name entry.name) number =
    number_after_written table context.name entry.name number entry.priority c.in_ok-number.ensures.number in
    record {
      place = subst (λ (names : List (List ℕ)). IsFirstAt (same_text context.name) names context.place) (sym c.add_entry.ensures.names) c.requires.opened.place;
      last =
          subst (λ (t : Table). HasNumber t (extension_of context.name c.in_ok-name.name) number) (sym c.in_ok-number.ensures.written)
          (subst (λ (n : Meaning). HasNumber after (extension_of context.name n) number) (sym named) has);
    }
