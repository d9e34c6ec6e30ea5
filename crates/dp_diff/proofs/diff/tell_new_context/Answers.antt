use Rattle.std.proofs.Common.{◌∙◌, List, ap, subst, sym}
use Rattle.dp_plan.specs.Lookup.{number_of}
use Rattle.dp_diff.specs.Differences.{Difference, differences_in}
use Rattle.dp_diff.specs.steps.Telling.{Tells, new_in, writer_of}
use Rattle.dp_diff.proofs.ContextsLemmas.{new_in-known, new_in-unknown}
use Rattle.dp_diff.proofs.TellingLemmas.{told_nothing}
use Rattle.dp_diff.proofs.diff.tell_new_context.Goals as goal

-- the dialplan has the context
pub returns-in-Some-clause-tells : goal.returns-in-Some-clause-tells
returns-in-Some-clause-tells g c =
    let differences_of = differences_in c.args.change.now.0 c.args.change.now.1 in
    told_nothing (writer_of (g.W.WriteTold.contents c.args.writer.now) (g.W.WriteTold.has_failed c.args.writer.now)) c.args.sheet.now
    (new_in differences_of c.args.before.now c.args.context.now.name)
    (new_in-known differences_of c.args.before.now c.args.context.now.name c.in-Some.field-0
    (ap (number_of c.args.before.now) (sym c.name.ensures) ∙ (sym c.number_of.ensures ∙ c.in-Some.is)))

-- the dialplan does not have it
pub returns-in-None-clause-tells : goal.returns-in-None-clause-tells
returns-in-None-clause-tells g c =
    let contents = g.W.WriteTold.contents in
    let failed = g.W.WriteTold.has_failed in
    let differences_of = differences_in c.args.change.now.0 c.args.change.now.1 in
    let P : List Difference → Type 0 = λ ds. Tells (writer_of (contents c.args.writer.now) (failed c.args.writer.now)) c.args.sheet.now
    (writer_of (contents c.tell.new.writer) (failed c.tell.new.writer)) c.tell.new.sheet ds c.tell.result in
    subst P (ap differences_of c.name-in-None.ensures ∙ sym (new_in-unknown differences_of c.args.before.now c.args.context.now.name
    (ap (number_of c.args.before.now) (sym c.name.ensures) ∙ (sym c.number_of.ensures ∙ c.in-None.is)))) c.tell.ensures.tells
