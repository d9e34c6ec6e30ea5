use Rattle.std.proofs.Common.{◌≡◌, OnOk, rules, sym, subst}
use Rattle.dp_vars.specs.Pieces.{past, with_head}
use Rattle.dp_vars.specs.Sights.{sight_of}
use Rattle.dp_vars.specs.declared.head.Head.TheVariants as heads
use Rattle.dp_vars.proofs.expanding.Expanding.write.Goals as goal

pub returns-in-Call : goal.returns-in-Call
returns-in-Call g c =
    subst (λ piece. OnOk c.write_head-in-Call.result (c.write_head-in-Call.new.self
    ≡ past g.F.Functions.table (sight_of g.C.Counts.count c.args.scope.now) c.args.text.now c.args.self.now piece)) (sym c.in-Call.is) c.write_head-in-Call.ensures

pub returns-in-Other : goal.returns-in-Other
returns-in-Other g c =
    let call : c.deref.result.now ≡ c.in-Other.call.value = search rules in
    subst (λ piece. OnOk c.write_head-in-Other.result (c.write_head-in-Other.new.self
    ≡ past g.F.Functions.table (sight_of g.C.Counts.count c.args.scope.now) c.args.text.now c.args.self.now piece)) (sym c.in-Other.is)
    (subst (λ it. OnOk c.write_head-in-Other.result (c.write_head-in-Other.new.self
    ≡ with_head g.F.Functions.table (sight_of g.C.Counts.count c.args.scope.now) c.args.text.now c.args.self.now (heads.Other it.name it.argument))) call
    c.write_head-in-Other.ensures)
