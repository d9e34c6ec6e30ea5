use Rattle.std.proofs.Common.{◌≡◌, false, eqb, rules, tests}
use Rattle.std.specs.List.{list_any}
use Rattle.dp_files.specs.Comments.{rest_of_line}
use Rattle.dp_files.proofs.CommentsLemmas.{content_of-plain, stands-plain}
use Rattle.dp_files.proofs.comments.is_plain.Goals as goal

pub returns-clause-stands : goal.returns-clause-stands
unfolding rest_of_line
returns-clause-stands c line plain =
    let none : list_any (λ b. eqb b 59) c.args.part.now ≡ false = search (rules, tests) in
    stands-plain line 10 c.args.part.now none

pub returns-clause-content : goal.returns-clause-content
returns-clause-content c plain =
    let none : list_any (λ b. eqb b 59) c.args.part.now ≡ false = search (rules, tests) in
    content_of-plain c.args.part.now none
