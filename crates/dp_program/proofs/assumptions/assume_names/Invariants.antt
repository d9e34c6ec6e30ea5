use Rattle.std.proofs.Common.{◌≡◌, drop, map}
use Rattle.std.specs.List.{fold}
use Rattle.dp_notices.specs.Printing.{with_assumed}
use Rattle.dp_program.proofs.assumptions.assume_names.Given as goal

abbrev pub invariant-loop-name : goal.invariant-loop-name
invariant-loop-name l =
    fold with_assumed l.assumed (map (λ name. name.now) (drop l.name-index l.names)) ≡ fold with_assumed l.fn.assumed (map (λ name. name.now) l.names)
