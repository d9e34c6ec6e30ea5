use Rattle.std.proofs.Common.{◌≡◌, false, eqb, length, sym, ◌∙◌, rules, tests}
use Rattle.dp_files.proofs.SimpleLemmas.{no_caller, simple_name}
use Rattle.dp_files.proofs.extension.is_spelled.Goals as goal

pub returns-then-not-is_empty-clause-extension : goal.returns-then-not-is_empty-clause-extension
returns-then-not-is_empty-clause-extension c simple =
    let some : eqb (length c.args.name.now) 0 ≡ false = search (rules, tests) in
    simple_name c.args.name.now some (sym c.has_simple_bytes.ensures ∙ simple)

pub returns-then-not-is_empty-clause-caller : goal.returns-then-not-is_empty-clause-caller
returns-then-not-is_empty-clause-caller c simple = no_caller c.args.name.now (sym c.has_simple_bytes.ensures ∙ simple)
