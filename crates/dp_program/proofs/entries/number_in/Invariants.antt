use Rattle.std.proofs.Common.{◌≡◌, ◌++◌, drop, map}
use Rattle.std.specs.Option.{option_to_list}
use Rattle.dp_program.specs.Entries.{numbers_in}
use Rattle.dp_program.proofs.entries.number_in.Given as goal

abbrev pub invariant-loop-number : goal.invariant-loop-number
invariant-loop-number l =
    numbers_in (map (λ entry. (entry.0, entry.1.now)) l.entries) l.name
    ≡ option_to_list l.found ++ numbers_in (map (λ entry. (entry.0, entry.1.now)) (drop l.number-index l.entries)) l.name
