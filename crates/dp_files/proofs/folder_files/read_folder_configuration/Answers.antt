use Rattle.dp_files.specs.FolderFiles.{MayTell}
use Rattle.dp_files.proofs.FolderFilesLemmas.{may_know-weaker}
use Rattle.dp_files.proofs.folder_files.read_folder_configuration.Goals as goal

-- what is known at the end, which may be reported at the beginning
pub returns : goal.returns
returns g c =
    let source = c.read_configuration-read.new.source in (
      source.2,
      may_know-weaker (MayTell (g.P.Paths.may_be source.0) (g.P.Paths.may_list source.0) source.1)
          (MayTell (g.P.Paths.may_be c.args.paths.now) (g.P.Paths.may_list c.args.paths.now) c.args.first.now)
          source.2
          (λ told may. rw (← c.new-source.ensures.paths, ← c.new-source.ensures.first) (c.read_configuration-read.ensures.same told may))
          c.show_known.ensures,
      λ has agrees. rw (← c.as_bytes.ensures.value) (c.read_configuration-read.ensures.read has agrees),
    )
