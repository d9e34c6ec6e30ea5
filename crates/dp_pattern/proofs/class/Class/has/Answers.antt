use Rattle.std.proofs.Common.{◌≡◌, ◌∙◌, sym, ap, arith}
use Rattle.dp_pattern.specs.Name.{is_one_of}
use Rattle.dp_pattern.specs.Classes.{has_member}
use Rattle.dp_pattern.proofs.ClassLemmas.{is_one_of-class_by}
use Rattle.std.proofs.lemmas.Bool.Decides.{Decides-at}
use Rattle.dp_pattern.proofs.WalkLemmas.{member}
use Rattle.dp_pattern.proofs.class.Class.has.Goals as goal

-- the test of a byte gives the same as its members
tested : (c : goal.After-has) → c.has.result ≡ is_one_of c.args.self.now c.args.byte
tested c =
    c.has.ensures
    ∙ sym (is_one_of-class_by (has_member c.self.inside.members) c.args.byte (omega arith))
    ∙ ap (λ class. is_one_of class c.args.byte) c.self.view_is

pub returns-clause-value : goal.returns-clause-value
returns-clause-value c = tested c

pub returns-clause-member : goal.returns-clause-member
returns-clause-member c = Decides-at _ _ (tested c) (member c.args.self.now c.args.byte)
