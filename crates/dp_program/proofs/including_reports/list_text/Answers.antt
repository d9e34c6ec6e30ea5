use Rattle.std.proofs.Common.{ℕ, List, Result, sym, subst}
use Rattle.dp_commands.specs.Report.{list_of}
use Rattle.dp_program.specs.Dialplans.{text_now, with_text}
use Rattle.dp_program.specs.Files.{ByteSource}
use Rattle.dp_program.specs.Serves.{ReportsOn}
use Rattle.dp_program.specs.declared.fault_places.Faulted.{Faulted}
use Rattle.dp_program.proofs.including_reports.list_text.Goals as goal

-- the files are those in which the dialplan has this text
pub returns-clause-serves : goal.returns-clause-serves
returns-clause-serves g c =
    let old = g.W.WriteTold.contents c.args.output.now in
    let new = g.W.WriteTold.contents c.serve_list.new.output in
    let path = c.args.file.now in
    let made = with_text (g.F.ReadFiles.source_at c.args.files.now) path (text_now c.args.plan.now).text in (
      subst (λ (answered : Result ℕ Faulted). ReportsOn path (made path) list_of old new answered) (sym c.without_hint.ensures.same)
          (subst (λ (made : List ℕ → ByteSource). ReportsOn path (made path) list_of old new c.serve_list.result) c.made_files-made.ensures c.serve_list.ensures.serves),
      c.without_hint.ensures.nothing,
    )
