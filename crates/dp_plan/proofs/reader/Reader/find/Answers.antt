use Rattle.std.proofs.Common.{◌≡◌, Some, rules}
use Rattle.std.specs.List.{position}
use Rattle.std.specs.Map.{keys_of}
use Rattle.dp_plan.specs.Extensions.{extension_of, same_extension}
use Rattle.dp_plan.proofs.TableLemmas.{priority_found, stands_found}
use Rattle.dp_plan.proofs.reader.Reader.find.Goals as goal

pub returns-in-Some-clause-number : goal.returns-in-Some-clause-number
returns-in-Some-clause-number c =
    let asked = extension_of c.args.context.now c.args.name.now in
    let found : position (same_extension asked) (keys_of c.args.self.now) ≡ Some c.in_ok-number-in-Some.number = search rules in
    stands_found (same_extension asked) (keys_of c.args.self.now) c.in_ok-number-in-Some.number asked found

pub returns-in-Some-clause-last : goal.returns-in-Some-clause-last
returns-in-Some-clause-last c =
    priority_found c.args.self.now (extension_of c.args.context.now c.args.name.now) c.in_ok-number-in-Some.number (returns-in-Some-clause-number c)
